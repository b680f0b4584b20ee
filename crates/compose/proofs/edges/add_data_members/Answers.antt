use Rattle.std.proofs.Common.{◌≡◌}
use Rattle.std.proofs.lemmas.Result.{err_from_is_err_and}
use Rattle.graph_spec.specs.declared.Member.{Member}
use Rattle.graph_spec.specs.Statement.{Statement}
use Rattle.compose.specs.Stated.{data_member}
use Rattle.compose.proofs.Adding.{each_nil, each_next, each_cut, each_end}
use Rattle.compose.proofs.edges.add_data_members.Goals as goal

pub loop-member-init : goal.loop-member-init
loop-member-init c = each_nil (λ (z : Member) (s : Statement). data_member z ≡ s) c.args.builder.now

pub returns-in_err-add_data_member : goal.returns-in_err-add_data_member
returns-in_err-add_data_member c =
    let p = err_from_is_err_and c.from_residual.result c.from_residual.ensures.1 in
    rw (p.1, p.2)
    (each_cut (λ (z : Member) (s : Statement). data_member z ≡ s) c.args.members.now c.loop-member.member-index
    c.member-item.result c.args.builder.now c.loop-member.builder c.add_data_member.new.builder
    c.add_data_member.new.builder
    c.in_err-add_data_member.field-0.0 c.loop-member-test.true c.member-item.is c.loop-member.invariant
    c.in_err-add_data_member.ensures)

pub loop-member-preserved : goal.loop-member-preserved
loop-member-preserved c =
    each_next (λ (z : Member) (s : Statement). data_member z ≡ s) c.args.members.now c.loop-member.member-index
    c.member-item.result c.args.builder.now c.loop-member.builder c.add_data_member.new.builder
    c.loop-member-test.true c.member-item.is c.loop-member.invariant c.in_ok-add_data_member.ensures

pub returns : goal.returns
returns c = each_end (λ (z : Member) (s : Statement). data_member z ≡ s) c.args.members.now c.loop-member.member-index
    c.args.builder.now c.loop-member.builder c.loop-member-test.false c.loop-member.invariant
