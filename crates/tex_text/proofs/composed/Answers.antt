use Rattle.std.proofs.Common.{◌∙◌, sym, ap}
use Rattle.std.specs.Prelude.{chars, encode_utf8_all}
use Rattle.unicode_normalization.specs.Forms.{nfc}
use Rattle.tex_text.proofs.Normal.{composed_is, not_composed}
use Rattle.tex_text.proofs.composed.Goals as goal

pub returns-in-Ok : goal.returns-in-Ok
returns-in-Ok c =
    let t = c.in-Ok.ensures.cases in
    let same = t.0 ∙ c.as_slice.ensures.value in
    c.in_ok-normal.ensures ∙ c.as_bytes.ensures.value ∙ c.in_ok-whole.ensures ∙ ap (λ x. encode_utf8_all (nfc (chars x))) same
    ∙ sym (composed_is c.args.bytes.items (rw c.as_slice.ensures.value at t.1))

pub returns : goal.returns
returns c =
    c.in_ok-other.ensures
    ∙ sym (not_composed c.args.bytes.items (λ h. c.in_default.ensures.cases.0 (rw (sym c.as_slice.ensures.value) at h)))
