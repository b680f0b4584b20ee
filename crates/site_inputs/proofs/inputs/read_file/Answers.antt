use Rattle.std.proofs.Common.{refl, inr, arith, ◌+◌}
use Rattle.std.proofs.lemmas.Result.{err_from_is_err_and}
use Rattle.std.specs.Prelude.{Ok, Err}
use Rattle.site_inputs.specs.declared.fault.Fault.TheVariants.{NoMemory}
use Rattle.sd_value.specs.declared.Str.{Str}
use Rattle.site_inputs.proofs.ReadLemmas.{was_read, read_failed, refused_is_read, unread_ends}
use Rattle.site_inputs.proofs.Runs.{start_within, start_past, refused_ends}
use Rattle.site_inputs.proofs.inputs.read_file.Goals as goal

pub returns-then-len-limit-clause-ends : goal.returns-then-len-limit-clause-ends
returns-then-len-limit-clause-ends g c = λ map told.
    refused_ends c.args.limit map _ _ c.refused.ensures (start_past (map c.args.path.now) c.args.limit (c.args.limit + 1) _ (c.in-Ok.ensures.bytes map told) (omega (arith, c.len.ensures)))

pub returns-in_ok-of-in-Ok-clause-ends : goal.returns-in_ok-of-in-Ok-clause-ends
returns-in_ok-of-in-Ok-clause-ends g c = λ map told.
    start_within (map c.args.path.now) c.args.limit (c.args.limit + 1) _ _ refl (c.in-Ok.ensures.bytes map told) (omega (arith, c.len.ensures)) c.in_ok-of-in-Ok.ensures

pub returns-then-len-limit-clause-traced : goal.returns-then-len-limit-clause-traced
returns-then-len-limit-clause-traced g c =
    was_read c.args.path.now c.in-Ok.bytes.items (c.args.limit + 1) _ _ _ (Err c.refused.result) _ c.in-Ok.ensures.traced c.in-Ok.ensures.bound c.in-Ok.ensures.bytes
    (refused_is_read Str c.refused.result _ c.refused.ensures)
    (λ map start. refused_ends c.args.limit map _ _ c.refused.ensures (start_past (map c.args.path.now) c.args.limit (c.args.limit + 1) _ start (omega (arith, c.len.ensures))))

pub returns-in_err-of-in-Ok-clause-traced : goal.returns-in_err-of-in-Ok-clause-traced
returns-in_err-of-in-Ok-clause-traced g c =
    let p = err_from_is_err_and c.from_residual.result c.from_residual.ensures.1 in
    rw (p.1, p.2)
    (was_read c.args.path.now c.in-Ok.bytes.items (c.args.limit + 1) _ _ _ (Err NoMemory) _ c.in-Ok.ensures.traced c.in-Ok.ensures.bound c.in-Ok.ensures.bytes tt (λ map start. tt))

pub returns-in_ok-of-in-Ok-clause-traced : goal.returns-in_ok-of-in-Ok-clause-traced
returns-in_ok-of-in-Ok-clause-traced g c =
    was_read c.args.path.now c.in-Ok.bytes.items (c.args.limit + 1) _ _ _ (Ok c.in_ok-of-in-Ok.field-0) _ c.in-Ok.ensures.traced c.in-Ok.ensures.bound c.in-Ok.ensures.bytes tt
    (λ map start. start_within (map c.args.path.now) c.args.limit (c.args.limit + 1) _ _ refl start (omega (arith, c.len.ensures)) c.in_ok-of-in-Ok.ensures)

pub returns-in-Err-Failed-clause-traced : goal.returns-in-Err-Failed-clause-traced
returns-in-Err-Failed-clause-traced g c =
    read_failed _ c.args.path.now _ _ _ c.unread.result _ c.in-Err-Failed.ensures.traced c.unread.ensures (λ map. unread_ends c.args.limit map c.args.path.now c.unread.result c.unread.ensures)

pub returns-in-Err-NoMemory-clause-traced : goal.returns-in-Err-NoMemory-clause-traced
returns-in-Err-NoMemory-clause-traced g c =
    read_failed _ c.args.path.now _ _ _ NoMemory _ c.in-Err-NoMemory.ensures.traced (inr refl) (λ map. tt)
