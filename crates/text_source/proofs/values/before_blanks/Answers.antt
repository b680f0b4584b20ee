use Rattle.std.proofs.Common.{◌∙◌, sym, ap}
use Rattle.text_source.specs.Values.{before_blanks}
use Rattle.text_source.proofs.Blanks.{blank_last, shown_last}
use Rattle.text_source.proofs.values.before_blanks.Goals as goal

pub returns-then-not-is_blank : goal.returns-then-not-is_blank
returns-then-not-is_blank c =
    let split = c.in-Some.ensures.cases.0 in
    split ∙ sym (shown_last c.in-Some.earlier.now c.in-Some.b.now (sym c.if-not-is_blank.ensures)) ∙ sym (ap before_blanks split) ∙ sym c.bytes.invariant

pub bytes-preserved : goal.bytes-preserved
bytes-preserved c =
    let split = c.in-Some.ensures.cases.0 in
    c.bytes.invariant ∙ ap before_blanks split ∙ blank_last c.in-Some.earlier.now c.in-Some.b.now (sym c.if-not-is_blank.ensures)
