use Rattle.std.proofs.Common.{◌∙◌, subst, refl}
use Rattle.std.specs.Prelude.{◌↔◌, IsTrue, List, true, false, Contains}
use Rattle.query_spec.specs.Query.{Body, Chain}
use Rattle.site_spec.specs.Site.{IsNamed, SomeOf, terms_of}
use Rattle.query_blocks.specs.declared.QueryBlock.{QueryBlock}
use Rattle.query_blocks.specs.Blocks.{body_of}
use Rattle.query_blocks.specs.Blocks.{scope_of}
use Rattle.site_lookups.proofs.Some.{none_nil, test_true, test_false, test_end, item_in}
use Rattle.site_lookups.proofs.Blocks.{bodies_iff}
use Rattle.std.proofs.Common.{◌+◌}
use Rattle.weight_spec.specs.Charges.{IsNamedAt}
use Rattle.weight_spec.specs.CountsAtMost.{CountsAtMost, IsAt}
use Rattle.site_lookups.proofs.Counts.{site_causes}
use Rattle.weight_spec.proofs.Handing.{hands_next, hands_all, hands_begin}
use Rattle.site_lookups.proofs.named.in_site.Goals as goal

pub block_named-requires : goal.block_named-requires
block_named-requires g c = record { scoped = (c.args.scopes.now.version, c.requires.scoped c.block-item.result (subst (λ (bs : List QueryBlock). Contains bs c.block-item.result) c.as_slice-blocks.ensures.value (item_in _ _ _ c.loop-block-test.true c.block-item.is))) }

pub returns-then-branch-clause-answer : goal.returns-then-branch-clause-answer
returns-then-branch-clause-answer g c =
    bodies_iff (λ (k : Chain) (b : Body). SomeOf (IsNamed (g.A.Asker.graph c.args.asker.now) k c.args.term.now) (terms_of b)) (scope_of c.args.scopes.now) c.args.scopes.now.blocks.items true c.requires.scoped refl
    (subst (λ (bs : List QueryBlock). IsTrue true ↔ SomeOf (λ (b : QueryBlock). SomeOf (IsNamed (g.A.Asker.graph c.args.asker.now) b.chain c.args.term.now) (terms_of (body_of b))) bs) c.as_slice-blocks.ensures.value (test_true (λ (b : QueryBlock). SomeOf (IsNamed (g.A.Asker.graph c.args.asker.now) b.chain c.args.term.now) (terms_of (body_of b))) c.as_slice-blocks.result.now c.in_ok-block_named.field-0 c.loop-block.block-index c.block-item.result c.if-branch.true (subst (λ G. IsTrue c.in_ok-block_named.field-0 ↔ SomeOf (IsNamed G c.block-item.result.chain c.args.term.now) (terms_of (body_of c.block-item.result))) c.loop-block.invariant.graph c.in_ok-block_named.ensures.answer) c.loop-block-test.true c.block-item.is))

pub loop-block-preserved : goal.loop-block-preserved
loop-block-preserved g c = record {
  graph = c.in_ok-block_named.ensures.graph ∙ c.loop-block.invariant.graph;
  none = test_false (λ (b : QueryBlock). SomeOf (IsNamed (g.A.Asker.graph c.args.asker.now) b.chain c.args.term.now) (terms_of (body_of b))) c.as_slice-blocks.result.now c.in_ok-block_named.field-0 c.loop-block.block-index c.block-item.result c.if-branch.false (subst (λ G. IsTrue c.in_ok-block_named.field-0 ↔ SomeOf (IsNamed G c.block-item.result.chain c.args.term.now) (terms_of (body_of c.block-item.result))) c.loop-block.invariant.graph c.in_ok-block_named.ensures.answer) c.loop-block-test.true c.block-item.is c.loop-block.invariant.none;
  counted = hands_next c.as_slice-blocks.result.now (λ (b : QueryBlock). IsNamedAt (body_of b) c.args.term.now) c.loop-block.block-index c.block-item.result (g.A.Asker.count c.args.asker.now) (g.A.Asker.count c.loop-block.asker) (g.A.Asker.count c.block_named.new.asker) c.loop-block-test.true c.block-item.is c.loop-block.invariant.counted c.in_ok-block_named.ensures.counted;
}

pub returns-clause-answer : goal.returns-clause-answer
returns-clause-answer g c =
    bodies_iff (λ (k : Chain) (b : Body). SomeOf (IsNamed (g.A.Asker.graph c.args.asker.now) k c.args.term.now) (terms_of b)) (scope_of c.args.scopes.now) c.args.scopes.now.blocks.items false c.requires.scoped refl
    (subst (λ (bs : List QueryBlock). IsTrue false ↔ SomeOf (λ (b : QueryBlock). SomeOf (IsNamed (g.A.Asker.graph c.args.asker.now) b.chain c.args.term.now) (terms_of (body_of b))) bs) c.as_slice-blocks.ensures.value (test_end (λ (b : QueryBlock). SomeOf (IsNamed (g.A.Asker.graph c.args.asker.now) b.chain c.args.term.now) (terms_of (body_of b))) c.as_slice-blocks.result.now c.loop-block.block-index c.loop-block-test.false c.loop-block.invariant.none))

pub returns-in_err-block_named-clause-counted : goal.returns-in_err-block_named-clause-counted
returns-in_err-block_named-clause-counted g c =
    λ f. site_causes (g.A.Asker.graph c.args.asker.now) (scope_of c.args.scopes.now) c.args.scopes.now.blocks.items f refl c.args.term.now (g.A.Asker.count c.args.asker.now) (g.A.Asker.count c.block_named.new.asker) (subst (λ (bs : List QueryBlock). CountsAtMost (IsAt bs (λ (b : QueryBlock). IsNamedAt (body_of b) c.args.term.now)) (g.A.Asker.count c.args.asker.now) (g.A.Asker.count c.block_named.new.asker)) c.as_slice-blocks.ensures.value (hands_all c.as_slice-blocks.result.now (λ (b : QueryBlock). IsNamedAt (body_of b) c.args.term.now) (c.loop-block.block-index + 1) (g.A.Asker.count c.args.asker.now) (g.A.Asker.count c.block_named.new.asker) (hands_next c.as_slice-blocks.result.now (λ (b : QueryBlock). IsNamedAt (body_of b) c.args.term.now) c.loop-block.block-index c.block-item.result (g.A.Asker.count c.args.asker.now) (g.A.Asker.count c.loop-block.asker) (g.A.Asker.count c.block_named.new.asker) c.loop-block-test.true c.block-item.is c.loop-block.invariant.counted c.in_err-block_named.ensures.counted)))

pub returns-then-branch-clause-counted : goal.returns-then-branch-clause-counted
returns-then-branch-clause-counted g c =
    λ f. site_causes (g.A.Asker.graph c.args.asker.now) (scope_of c.args.scopes.now) c.args.scopes.now.blocks.items f refl c.args.term.now (g.A.Asker.count c.args.asker.now) (g.A.Asker.count c.block_named.new.asker) (subst (λ (bs : List QueryBlock). CountsAtMost (IsAt bs (λ (b : QueryBlock). IsNamedAt (body_of b) c.args.term.now)) (g.A.Asker.count c.args.asker.now) (g.A.Asker.count c.block_named.new.asker)) c.as_slice-blocks.ensures.value (hands_all c.as_slice-blocks.result.now (λ (b : QueryBlock). IsNamedAt (body_of b) c.args.term.now) (c.loop-block.block-index + 1) (g.A.Asker.count c.args.asker.now) (g.A.Asker.count c.block_named.new.asker) (hands_next c.as_slice-blocks.result.now (λ (b : QueryBlock). IsNamedAt (body_of b) c.args.term.now) c.loop-block.block-index c.block-item.result (g.A.Asker.count c.args.asker.now) (g.A.Asker.count c.loop-block.asker) (g.A.Asker.count c.block_named.new.asker) c.loop-block-test.true c.block-item.is c.loop-block.invariant.counted c.in_ok-block_named.ensures.counted)))

pub returns-clause-counted : goal.returns-clause-counted
returns-clause-counted g c =
    λ f. site_causes (g.A.Asker.graph c.args.asker.now) (scope_of c.args.scopes.now) c.args.scopes.now.blocks.items f refl c.args.term.now (g.A.Asker.count c.args.asker.now) (g.A.Asker.count c.loop-block.asker) (subst (λ (bs : List QueryBlock). CountsAtMost (IsAt bs (λ (b : QueryBlock). IsNamedAt (body_of b) c.args.term.now)) (g.A.Asker.count c.args.asker.now) (g.A.Asker.count c.loop-block.asker)) c.as_slice-blocks.ensures.value (hands_all c.as_slice-blocks.result.now (λ (b : QueryBlock). IsNamedAt (body_of b) c.args.term.now) (c.loop-block.block-index) (g.A.Asker.count c.args.asker.now) (g.A.Asker.count c.loop-block.asker) (c.loop-block.invariant.counted)))

pub loop-block-init : goal.loop-block-init
loop-block-init g c = record { graph = refl; counted = hands_begin c.as_slice-blocks.result.now (λ (b : QueryBlock). IsNamedAt (body_of b) c.args.term.now) (g.A.Asker.count c.args.asker.now); none = none_nil (λ (b : QueryBlock). SomeOf (IsNamed (g.A.Asker.graph c.args.asker.now) b.chain c.args.term.now) (terms_of (body_of b))) }
