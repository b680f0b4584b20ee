use Rattle.std.proofs.Common.{subst}
use Rattle.std.specs.Prelude.{◌↔◌, IsTrue}
use Rattle.std.proofs.lemmas.List.Elements.{Contains-append_right}
use Rattle.struql_ast.specs.Reading.{target_of}
use Rattle.site_spec.specs.Site.{IsNamed, SomeOf, target_terms}
use Rattle.site_lookups.proofs.Some.{either_is}
use Rattle.struql_ast.specs.Reading.{link_of}
use Rattle.site_lookups.proofs.Counts.{link_first, link_both}
use Rattle.site_lookups.proofs.named.link_named.Goals as goal

pub target_named-requires-2-clause-declared : goal.target_named-requires-2-clause-declared
target_named-requires-2-clause-declared g c = λ t h. c.requires.declared t (Contains-append_right (target_terms (target_of c.args.link.now.source)) (target_terms (target_of c.args.link.now.target)) t h)

pub returns-clause-answer : goal.returns-clause-answer
returns-clause-answer g c =
    either_is (IsNamed (g.A.Asker.graph c.args.asker.now) c.args.chain.now c.args.term.now) (target_terms (target_of c.args.link.now.source)) (target_terms (target_of c.args.link.now.target))
    c.in_ok-target_named.field-0 c.in_ok-found.found c.if-branch.false c.in_ok-target_named.ensures.answer
    (subst (λ G. IsTrue c.in_ok-found.found ↔ SomeOf (IsNamed G c.args.chain.now c.args.term.now) (target_terms (target_of c.args.link.now.target))) c.in_ok-target_named.ensures.graph c.in_ok-found.ensures.answer)

pub returns-in_err-target_named-clause-counted : goal.returns-in_err-target_named-clause-counted
returns-in_err-target_named-clause-counted g c =
    link_first c.args.term.now (link_of c.args.link.now) (g.A.Asker.count c.args.asker.now) (g.A.Asker.count c.target_named.new.asker) c.in_err-target_named.ensures.counted

pub returns-then-branch-clause-counted : goal.returns-then-branch-clause-counted
returns-then-branch-clause-counted g c =
    link_first c.args.term.now (link_of c.args.link.now) (g.A.Asker.count c.args.asker.now) (g.A.Asker.count c.target_named.new.asker) c.in_ok-target_named.ensures.counted

pub returns-in_err-found-clause-counted : goal.returns-in_err-found-clause-counted
returns-in_err-found-clause-counted g c =
    link_both c.args.term.now (link_of c.args.link.now) (g.A.Asker.count c.args.asker.now) (g.A.Asker.count c.target_named.new.asker) (g.A.Asker.count c.target_named-2.new.asker) c.in_ok-target_named.ensures.counted c.in_err-found.ensures.counted

pub returns-clause-counted : goal.returns-clause-counted
returns-clause-counted g c =
    link_both c.args.term.now (link_of c.args.link.now) (g.A.Asker.count c.args.asker.now) (g.A.Asker.count c.target_named.new.asker) (g.A.Asker.count c.target_named-2.new.asker) c.in_ok-target_named.ensures.counted c.in_ok-found.ensures.counted
