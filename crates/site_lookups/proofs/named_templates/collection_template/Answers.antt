use Rattle.std.proofs.Common.{◌∙◌, sym, subst}
use Rattle.std.specs.Prelude.{◌↔◌, IsTrue}
use Rattle.graph_spec.specs.DataGraph.{IsWellFormed, HasMember}
use Rattle.tmpl.specs.declared.NamedTemplate.{NamedTemplate}
use Rattle.site_lookups.proofs.Some.{test_false}
use Rattle.site_lookups.proofs.Firsts.{first_at, first_end}
use Rattle.site_lookups.proofs.Some.{none_nil}
use Rattle.site_lookups.proofs.Counts.{below_next, below_all}
use Rattle.weight_spec.proofs.Handing.{hands_none}
use Rattle.std.proofs.Common.{◌+◌, ◌<◌, length, arith, refl}
use Rattle.site_lookups.proofs.named_templates.collection_template.Goals as goal

pub is_member-requires : goal.is_member-requires
is_member-requires g c = subst IsWellFormed (sym c.loop-named.invariant.graph) c.requires

pub returns-then-branch-clause-answer : goal.returns-then-branch-clause-answer
returns-then-branch-clause-answer g c =
    first_at (λ name. HasMember (g.A.Asker.graph c.args.asker.now) name c.args.node.now) c.args.names.now c.loop-named.named-index c.named-item.result c.loop-named-test.true c.named-item.is c.loop-named.invariant.none
    ((subst (λ G. IsTrue c.in_ok-is_member.field-0 ↔ HasMember G c.named-item.result.name c.args.node.now) c.loop-named.invariant.graph c.in_ok-is_member.ensures.answer).0 c.if-branch.true)

pub loop-named-preserved : goal.loop-named-preserved
loop-named-preserved g c = record {
  graph = c.in_ok-is_member.ensures.graph ∙ c.loop-named.invariant.graph;
  none =
      test_false (λ (n : NamedTemplate). HasMember (g.A.Asker.graph c.args.asker.now) n.name c.args.node.now) c.args.names.now c.in_ok-is_member.field-0 c.loop-named.named-index c.named-item.result c.if-branch.false
      (subst (λ G. IsTrue c.in_ok-is_member.field-0 ↔ HasMember G c.named-item.result.name c.args.node.now) c.loop-named.invariant.graph c.in_ok-is_member.ensures.answer)
      c.loop-named-test.true c.named-item.is c.loop-named.invariant.none;
  counted = below_next c.loop-named.named-index (length c.args.names.now) (g.A.Asker.count c.args.asker.now) (g.A.Asker.count c.loop-named.asker) (g.A.Asker.count c.is_member.new.asker) c.loop-named-test.true c.loop-named.invariant.counted c.in_ok-is_member.ensures.counted;
}

pub returns-clause-answer : goal.returns-clause-answer
returns-clause-answer g c = first_end (λ name. HasMember (g.A.Asker.graph c.args.asker.now) name c.args.node.now) c.args.names.now c.loop-named.named-index c.loop-named-test.false c.loop-named.invariant.none

pub returns-in_err-is_member-clause-counted : goal.returns-in_err-is_member-clause-counted
returns-in_err-is_member-clause-counted g c =
    below_all (c.loop-named.named-index + 1) (length c.args.names.now) (g.A.Asker.count c.args.asker.now) (g.A.Asker.count c.is_member.new.asker) (omega arith) (below_next c.loop-named.named-index (length c.args.names.now) (g.A.Asker.count c.args.asker.now) (g.A.Asker.count c.loop-named.asker) (g.A.Asker.count c.is_member.new.asker) c.loop-named-test.true c.loop-named.invariant.counted c.in_err-is_member.ensures.counted)

pub returns-then-branch-clause-counted : goal.returns-then-branch-clause-counted
returns-then-branch-clause-counted g c =
    below_all (c.loop-named.named-index + 1) (length c.args.names.now) (g.A.Asker.count c.args.asker.now) (g.A.Asker.count c.is_member.new.asker) (omega arith) (below_next c.loop-named.named-index (length c.args.names.now) (g.A.Asker.count c.args.asker.now) (g.A.Asker.count c.loop-named.asker) (g.A.Asker.count c.is_member.new.asker) c.loop-named-test.true c.loop-named.invariant.counted c.in_ok-is_member.ensures.counted)

pub returns-clause-counted : goal.returns-clause-counted
returns-clause-counted g c =
    below_all c.loop-named.named-index (length c.args.names.now) (g.A.Asker.count c.args.asker.now) (g.A.Asker.count c.loop-named.asker) (omega arith) c.loop-named.invariant.counted

pub loop-named-init : goal.loop-named-init
loop-named-init g c = record { graph = refl; counted = hands_none (λ k. k < 0) (g.A.Asker.count c.args.asker.now); none = none_nil (λ (n : NamedTemplate). HasMember (g.A.Asker.graph c.args.asker.now) n.name c.args.node.now) }
