use Rattle.std.proofs.Common.{◌∙◌, subst}
use Rattle.std.specs.Prelude.{◌↔◌, IsTrue}
use Rattle.struql_ast.specs.declared.Link.{Link as Written}
use Rattle.struql_ast.specs.Reading.{link_of}
use Rattle.site_spec.specs.Site.{SomeOf, IsNamed, ends_of}
use Rattle.site_lookups.proofs.Some.{none_nil, test_true, test_false, test_end, item_in}
use Rattle.site_lookups.specs.Counts.{IsEndOf}
use Rattle.std.proofs.Common.{◌+◌, refl}
use Rattle.weight_spec.proofs.Handing.{hands_next, hands_all, hands_begin}
use Rattle.site_lookups.proofs.named.any_link_named.Goals as goal

pub link_named-requires-clause-declared : goal.link_named-requires-clause-declared
link_named-requires-clause-declared g c = λ t h. c.requires.declared c.link-item.result t (item_in _ _ _ c.loop-link-test.true c.link-item.is) h

pub returns-then-branch-clause-answer : goal.returns-then-branch-clause-answer
returns-then-branch-clause-answer g c =
    test_true (λ (w : Written). SomeOf (IsNamed (g.A.Asker.graph c.args.asker.now) c.args.chain.now c.args.term.now) (ends_of (link_of w))) c.args.links.now c.in_ok-link_named.field-0 c.loop-link.link-index c.link-item.result c.if-branch.true
    (subst (λ G. IsTrue c.in_ok-link_named.field-0 ↔ SomeOf (IsNamed G c.args.chain.now c.args.term.now) (ends_of (link_of c.link-item.result))) c.loop-link.invariant.graph c.in_ok-link_named.ensures.answer)
    c.loop-link-test.true c.link-item.is

pub loop-link-preserved : goal.loop-link-preserved
loop-link-preserved g c = record {
  graph = c.in_ok-link_named.ensures.graph ∙ c.loop-link.invariant.graph;
  none =
      test_false (λ (w : Written). SomeOf (IsNamed (g.A.Asker.graph c.args.asker.now) c.args.chain.now c.args.term.now) (ends_of (link_of w))) c.args.links.now c.in_ok-link_named.field-0 c.loop-link.link-index c.link-item.result c.if-branch.false
      (subst (λ G. IsTrue c.in_ok-link_named.field-0 ↔ SomeOf (IsNamed G c.args.chain.now c.args.term.now) (ends_of (link_of c.link-item.result))) c.loop-link.invariant.graph c.in_ok-link_named.ensures.answer)
      c.loop-link-test.true c.link-item.is c.loop-link.invariant.none;
  counted = hands_next c.args.links.now (λ k. IsEndOf c.args.term.now (link_of k)) c.loop-link.link-index c.link-item.result (g.A.Asker.count c.args.asker.now) (g.A.Asker.count c.loop-link.asker) (g.A.Asker.count c.link_named.new.asker) c.loop-link-test.true c.link-item.is c.loop-link.invariant.counted c.in_ok-link_named.ensures.counted;
}

pub returns-clause-answer : goal.returns-clause-answer
returns-clause-answer g c = test_end (λ (w : Written). SomeOf (IsNamed (g.A.Asker.graph c.args.asker.now) c.args.chain.now c.args.term.now) (ends_of (link_of w))) c.args.links.now c.loop-link.link-index c.loop-link-test.false c.loop-link.invariant.none

pub returns-in_err-link_named-clause-counted : goal.returns-in_err-link_named-clause-counted
returns-in_err-link_named-clause-counted g c =
    hands_all c.args.links.now (λ k. IsEndOf c.args.term.now (link_of k)) (c.loop-link.link-index + 1) (g.A.Asker.count c.args.asker.now) (g.A.Asker.count c.link_named.new.asker) (hands_next c.args.links.now (λ k. IsEndOf c.args.term.now (link_of k)) c.loop-link.link-index c.link-item.result (g.A.Asker.count c.args.asker.now) (g.A.Asker.count c.loop-link.asker) (g.A.Asker.count c.link_named.new.asker) c.loop-link-test.true c.link-item.is c.loop-link.invariant.counted c.in_err-link_named.ensures.counted)

pub returns-then-branch-clause-counted : goal.returns-then-branch-clause-counted
returns-then-branch-clause-counted g c =
    hands_all c.args.links.now (λ k. IsEndOf c.args.term.now (link_of k)) (c.loop-link.link-index + 1) (g.A.Asker.count c.args.asker.now) (g.A.Asker.count c.link_named.new.asker) (hands_next c.args.links.now (λ k. IsEndOf c.args.term.now (link_of k)) c.loop-link.link-index c.link-item.result (g.A.Asker.count c.args.asker.now) (g.A.Asker.count c.loop-link.asker) (g.A.Asker.count c.link_named.new.asker) c.loop-link-test.true c.link-item.is c.loop-link.invariant.counted c.in_ok-link_named.ensures.counted)

pub returns-clause-counted : goal.returns-clause-counted
returns-clause-counted g c =
    hands_all c.args.links.now (λ k. IsEndOf c.args.term.now (link_of k)) c.loop-link.link-index (g.A.Asker.count c.args.asker.now) (g.A.Asker.count c.loop-link.asker) c.loop-link.invariant.counted

pub loop-link-init : goal.loop-link-init
loop-link-init g c = record { graph = refl; counted = hands_begin c.args.links.now (λ k. IsEndOf c.args.term.now (link_of k)) (g.A.Asker.count c.args.asker.now); none = none_nil (λ (w : Written). SomeOf (IsNamed (g.A.Asker.graph c.args.asker.now) c.args.chain.now c.args.term.now) (ends_of (link_of w))) }
