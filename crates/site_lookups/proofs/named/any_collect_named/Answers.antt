use Rattle.std.proofs.Common.{◌∙◌, subst}
use Rattle.std.specs.Prelude.{◌↔◌, IsTrue}
use Rattle.struql_ast.specs.declared.Collect.{Collect as Written}
use Rattle.struql_ast.specs.Reading.{collect_of}
use Rattle.site_spec.specs.Site.{SomeOf, IsNamed, target_terms}
use Rattle.site_lookups.proofs.Some.{none_nil, test_true, test_false, test_end, item_in}
use Rattle.site_lookups.specs.Counts.{IsTermOf}
use Rattle.std.proofs.Common.{◌+◌, refl}
use Rattle.weight_spec.proofs.Handing.{hands_next, hands_all, hands_begin}
use Rattle.site_lookups.proofs.named.any_collect_named.Goals as goal

pub target_named-requires-clause-declared : goal.target_named-requires-clause-declared
target_named-requires-clause-declared g c = λ t h. c.requires.declared c.collect-item.result t (item_in _ _ _ c.loop-collect-test.true c.collect-item.is) h

pub returns-then-branch-clause-answer : goal.returns-then-branch-clause-answer
returns-then-branch-clause-answer g c =
    test_true (λ (w : Written). SomeOf (IsNamed (g.A.Asker.graph c.args.asker.now) c.args.chain.now c.args.term.now) (target_terms (collect_of w).target)) c.args.collects.now c.in_ok-target_named.field-0 c.loop-collect.collect-index c.collect-item.result c.if-branch.true
    (subst (λ G. IsTrue c.in_ok-target_named.field-0 ↔ SomeOf (IsNamed G c.args.chain.now c.args.term.now) (target_terms (collect_of c.collect-item.result).target)) c.loop-collect.invariant.graph c.in_ok-target_named.ensures.answer)
    c.loop-collect-test.true c.collect-item.is

pub loop-collect-preserved : goal.loop-collect-preserved
loop-collect-preserved g c = record {
  graph = c.in_ok-target_named.ensures.graph ∙ c.loop-collect.invariant.graph;
  none =
      test_false (λ (w : Written). SomeOf (IsNamed (g.A.Asker.graph c.args.asker.now) c.args.chain.now c.args.term.now) (target_terms (collect_of w).target)) c.args.collects.now c.in_ok-target_named.field-0 c.loop-collect.collect-index c.collect-item.result c.if-branch.false
      (subst (λ G. IsTrue c.in_ok-target_named.field-0 ↔ SomeOf (IsNamed G c.args.chain.now c.args.term.now) (target_terms (collect_of c.collect-item.result).target)) c.loop-collect.invariant.graph c.in_ok-target_named.ensures.answer)
      c.loop-collect-test.true c.collect-item.is c.loop-collect.invariant.none;
  counted = hands_next c.args.collects.now (λ k. IsTermOf c.args.term.now (collect_of k).target) c.loop-collect.collect-index c.collect-item.result (g.A.Asker.count c.args.asker.now) (g.A.Asker.count c.loop-collect.asker) (g.A.Asker.count c.target_named.new.asker) c.loop-collect-test.true c.collect-item.is c.loop-collect.invariant.counted c.in_ok-target_named.ensures.counted;
}

pub returns-clause-answer : goal.returns-clause-answer
returns-clause-answer g c = test_end (λ (w : Written). SomeOf (IsNamed (g.A.Asker.graph c.args.asker.now) c.args.chain.now c.args.term.now) (target_terms (collect_of w).target)) c.args.collects.now c.loop-collect.collect-index c.loop-collect-test.false c.loop-collect.invariant.none

pub returns-in_err-target_named-clause-counted : goal.returns-in_err-target_named-clause-counted
returns-in_err-target_named-clause-counted g c =
    hands_all c.args.collects.now (λ k. IsTermOf c.args.term.now (collect_of k).target) (c.loop-collect.collect-index + 1) (g.A.Asker.count c.args.asker.now) (g.A.Asker.count c.target_named.new.asker) (hands_next c.args.collects.now (λ k. IsTermOf c.args.term.now (collect_of k).target) c.loop-collect.collect-index c.collect-item.result (g.A.Asker.count c.args.asker.now) (g.A.Asker.count c.loop-collect.asker) (g.A.Asker.count c.target_named.new.asker) c.loop-collect-test.true c.collect-item.is c.loop-collect.invariant.counted c.in_err-target_named.ensures.counted)

pub returns-then-branch-clause-counted : goal.returns-then-branch-clause-counted
returns-then-branch-clause-counted g c =
    hands_all c.args.collects.now (λ k. IsTermOf c.args.term.now (collect_of k).target) (c.loop-collect.collect-index + 1) (g.A.Asker.count c.args.asker.now) (g.A.Asker.count c.target_named.new.asker) (hands_next c.args.collects.now (λ k. IsTermOf c.args.term.now (collect_of k).target) c.loop-collect.collect-index c.collect-item.result (g.A.Asker.count c.args.asker.now) (g.A.Asker.count c.loop-collect.asker) (g.A.Asker.count c.target_named.new.asker) c.loop-collect-test.true c.collect-item.is c.loop-collect.invariant.counted c.in_ok-target_named.ensures.counted)

pub returns-clause-counted : goal.returns-clause-counted
returns-clause-counted g c =
    hands_all c.args.collects.now (λ k. IsTermOf c.args.term.now (collect_of k).target) c.loop-collect.collect-index (g.A.Asker.count c.args.asker.now) (g.A.Asker.count c.loop-collect.asker) c.loop-collect.invariant.counted

pub loop-collect-init : goal.loop-collect-init
loop-collect-init g c = record { graph = refl; counted = hands_begin c.args.collects.now (λ k. IsTermOf c.args.term.now (collect_of k).target) (g.A.Asker.count c.args.asker.now); none = none_nil (λ (w : Written). SomeOf (IsNamed (g.A.Asker.graph c.args.asker.now) c.args.chain.now c.args.term.now) (target_terms (collect_of w).target)) }
