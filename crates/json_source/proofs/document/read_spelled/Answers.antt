use Rattle.std.proofs.Common.{◌∙◌, refl, inl, inr}
use Rattle.std.proofs.lemmas.Result.{err_from_is_err_and}
use Rattle.json_source.specs.Document.{spelled_value}
use Rattle.json_source.proofs.Documents.{no_value, spelled_is}
use Rattle.json_source.proofs.document.read_spelled.Goals as goal

pub returns-in_default-clause-fault : goal.returns-in_default-clause-fault
returns-in_default-clause-fault c = inr (refl, no_value spelled_value c.args.bytes.now (λ h. absurd (c.in_default.ensures.cases.0 h)))

pub returns-in_err-value-clause-fault : goal.returns-in_err-value-clause-fault
returns-in_err-value-clause-fault c =
    let p = err_from_is_err_and c.from_residual-in_err-value.result c.from_residual-in_err-value.ensures.1 in
    let (good, text, same) = rw c.in-Some.is at c.in_ok-spelled.ensures in
    let t = c.in-Ok.ensures.cases in
    let is = spelled_is c.args.bytes.now c.in-Some.spelled.items t.1 text (rw t.0 at good) (rw t.0 at same) in
    rw (p.1, p.2) (elim c.in_err-value.ensures.fault [
      | inl memory ↦ inl memory
      | inr none ↦ inr (none.0, is ∙ (rw c.as_slice.ensures.value at none.1))
    ])

pub returns-clause-value : goal.returns-clause-value
returns-clause-value c =
    let (good, text, same) = rw c.in-Some.is at c.in_ok-spelled.ensures in
    let t = c.in-Ok.ensures.cases in
    spelled_is c.args.bytes.now c.in-Some.spelled.items t.1 text (rw t.0 at good) (rw t.0 at same)
    ∙ (rw c.as_slice.ensures.value at c.in_ok-value.ensures.value)
