use Rattle.std.proofs.Common.{[], ◌∷◌, Err, refl}
use Rattle.std.proofs.lemmas.Result.{err_from_is_err_and}
use Rattle.graph_spec.specs.declared.Member.{Member}
use Rattle.graph_order.specs.Adding.{stated_member}
use Rattle.graph_order.proofs.Growth.{each_next, each_cut, each_end, singles_cut, singles_end, puts_one}
use Rattle.graph_order.proofs.adding.add_members.Goals as goal

pub loop-member-init : goal.loop-member-init
loop-member-init c = refl

pub returns-in_err-add_member : goal.returns-in_err-add_member
returns-in_err-add_member c =
    let p = err_from_is_err_and c.from_residual.result c.from_residual.ensures.1 in
    rw (p.1, p.2)
    (singles_cut (λ (x : Member). stated_member x) c.args.members.now c.args.builder.now c.add_member.new.self c.in_err-add_member.field-0.0
    (each_cut (λ (x : Member). stated_member x ∷ []) c.args.members.now c.loop-member.member-index c.member-item.result
    c.args.builder.now c.loop-member.builder c.add_member.new.self c.add_member.new.self c.in_err-add_member.field-0.0
    c.loop-member-test.true c.member-item.is c.loop-member.invariant
    (puts_one (stated_member c.member-item.result) c.loop-member.builder c.add_member.new.self (Err c.in_err-add_member.field-0.0) c.in_err-add_member.ensures)))

pub loop-member-preserved : goal.loop-member-preserved
loop-member-preserved c =
    each_next (λ (x : Member). stated_member x ∷ []) c.args.members.now c.loop-member.member-index c.member-item.result
    c.args.builder.now c.loop-member.builder c.add_member.new.self
    c.loop-member-test.true c.member-item.is c.loop-member.invariant c.in_ok-add_member.ensures.0

pub returns : goal.returns
returns c = singles_end (λ (x : Member). stated_member x) c.args.members.now c.args.builder.now c.loop-member.builder
    (each_end (λ (x : Member). stated_member x ∷ []) c.args.members.now c.loop-member.member-index
    c.args.builder.now c.loop-member.builder c.loop-member-test.false c.loop-member.invariant)
