use Rattle.std.proofs.Common.{◌∙◌, subst}
use Rattle.std.specs.Prelude.{◌↔◌, IsTrue}
use Rattle.struql_ast.specs.declared.SkolemTerm.{SkolemTerm as Written}
use Rattle.struql_ast.specs.Reading.{term_of}
use Rattle.site_spec.specs.Site.{IsNamed}
use Rattle.site_lookups.proofs.Some.{none_nil, test_true, test_false, test_end}
use Rattle.site_lookups.specs.Counts.{HasFunction}
use Rattle.std.proofs.Common.{◌+◌, refl}
use Rattle.weight_spec.proofs.Handing.{hands_next, hands_all, hands_begin}
use Rattle.site_lookups.proofs.named.any_named.Goals as goal

pub returns-then-branch-clause-answer : goal.returns-then-branch-clause-answer
returns-then-branch-clause-answer g c =
    test_true (λ (w : Written). IsNamed (g.A.Asker.graph c.args.asker.now) c.args.chain.now c.args.term.now (term_of w)) c.args.terms.now c.in_ok-is_named.field-0 c.loop-written.written-index c.written-item.result c.if-branch.true
    (subst (λ G. IsTrue c.in_ok-is_named.field-0 ↔ IsNamed G c.args.chain.now c.args.term.now (term_of c.written-item.result)) c.loop-written.invariant.graph c.in_ok-is_named.ensures.answer)
    c.loop-written-test.true c.written-item.is

pub loop-written-preserved : goal.loop-written-preserved
loop-written-preserved g c = record {
  graph = c.in_ok-is_named.ensures.graph ∙ c.loop-written.invariant.graph;
  none =
      test_false (λ (w : Written). IsNamed (g.A.Asker.graph c.args.asker.now) c.args.chain.now c.args.term.now (term_of w)) c.args.terms.now c.in_ok-is_named.field-0 c.loop-written.written-index c.written-item.result c.if-branch.false
      (subst (λ G. IsTrue c.in_ok-is_named.field-0 ↔ IsNamed G c.args.chain.now c.args.term.now (term_of c.written-item.result)) c.loop-written.invariant.graph c.in_ok-is_named.ensures.answer)
      c.loop-written-test.true c.written-item.is c.loop-written.invariant.none;
  counted = hands_next c.args.terms.now (HasFunction c.args.term.now) c.loop-written.written-index c.written-item.result (g.A.Asker.count c.args.asker.now) (g.A.Asker.count c.loop-written.asker) (g.A.Asker.count c.is_named.new.asker) c.loop-written-test.true c.written-item.is c.loop-written.invariant.counted c.in_ok-is_named.ensures.counted;
}

pub returns-clause-answer : goal.returns-clause-answer
returns-clause-answer g c = test_end (λ (w : Written). IsNamed (g.A.Asker.graph c.args.asker.now) c.args.chain.now c.args.term.now (term_of w)) c.args.terms.now c.loop-written.written-index c.loop-written-test.false c.loop-written.invariant.none

pub returns-in_err-is_named-clause-counted : goal.returns-in_err-is_named-clause-counted
returns-in_err-is_named-clause-counted g c =
    hands_all c.args.terms.now (HasFunction c.args.term.now) (c.loop-written.written-index + 1) (g.A.Asker.count c.args.asker.now) (g.A.Asker.count c.is_named.new.asker) (hands_next c.args.terms.now (HasFunction c.args.term.now) c.loop-written.written-index c.written-item.result (g.A.Asker.count c.args.asker.now) (g.A.Asker.count c.loop-written.asker) (g.A.Asker.count c.is_named.new.asker) c.loop-written-test.true c.written-item.is c.loop-written.invariant.counted c.in_err-is_named.ensures.counted)

pub returns-then-branch-clause-counted : goal.returns-then-branch-clause-counted
returns-then-branch-clause-counted g c =
    hands_all c.args.terms.now (HasFunction c.args.term.now) (c.loop-written.written-index + 1) (g.A.Asker.count c.args.asker.now) (g.A.Asker.count c.is_named.new.asker) (hands_next c.args.terms.now (HasFunction c.args.term.now) c.loop-written.written-index c.written-item.result (g.A.Asker.count c.args.asker.now) (g.A.Asker.count c.loop-written.asker) (g.A.Asker.count c.is_named.new.asker) c.loop-written-test.true c.written-item.is c.loop-written.invariant.counted c.in_ok-is_named.ensures.counted)

pub returns-clause-counted : goal.returns-clause-counted
returns-clause-counted g c =
    hands_all c.args.terms.now (HasFunction c.args.term.now) c.loop-written.written-index (g.A.Asker.count c.args.asker.now) (g.A.Asker.count c.loop-written.asker) c.loop-written.invariant.counted

pub loop-written-init : goal.loop-written-init
loop-written-init g c = record { graph = refl; counted = hands_begin c.args.terms.now (HasFunction c.args.term.now) (g.A.Asker.count c.args.asker.now); none = none_nil (λ (w : Written). IsNamed (g.A.Asker.graph c.args.asker.now) c.args.chain.now c.args.term.now (term_of w)) }
