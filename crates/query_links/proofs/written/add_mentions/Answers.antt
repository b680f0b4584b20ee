use Rattle.std.proofs.Common.{arith, refl, ap, ◌∙◌, [], ◌∷◌, ◌++◌}
use Rattle.std.specs.Prelude.{map}
use Rattle.struql_ast.specs.Reading.{term_of}
use Rattle.query_links.specs.Mentions.{mention_under, mention_of}
use Rattle.query_links.proofs.Lists.{gathered_more, gathered_all}
use Rattle.query_links.proofs.Named.{each_under, mention_pushed, chains_pushed}
use Rattle.query_links.proofs.written.add_mentions.Goals as goal

pub loop-term-preserved : goal.loop-term-preserved
loop-term-preserved c = record {
  written =
      gathered_more (λ t. mention_under c.args.chain.now.conditions (term_of t.now) ∷ []) (map mention_of c.args.found.now.items) (map mention_of c.loop-term.found.items) (map mention_of c.push.new.self.items)
      (mention_under c.args.chain.now.conditions (term_of c.term-item.result.now) ∷ []) c.args.terms.now c.loop-term.term-index c.term-item.result (omega arith) c.term-item.is c.loop-term.invariant.written
      (mention_pushed c.loop-term.found.items c.push.new.self.items _ c.in_ok-push.ensures.items) refl;
  chains = λ version had is. chains_pushed version c.loop-term.found.items c.push.new.self.items _ c.in_ok-push.ensures.items (c.loop-term.invariant.chains version had is) is;
}

pub returns-clause-written : goal.returns-clause-written
returns-clause-written c =
    gathered_all (λ t. mention_under c.args.chain.now.conditions (term_of t.now) ∷ []) (map mention_of c.args.found.now.items) (map mention_of c.loop-term.found.items) c.args.terms.now c.loop-term.term-index (omega arith) c.loop-term.invariant.written
    ∙ ap (λ l. map mention_of c.args.found.now.items ++ l) (each_under c.args.chain.now.conditions c.args.terms.now)
