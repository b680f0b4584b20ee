use Rattle.std.proofs.Common.{◌∙◌, ◌+◌, ◌-◌, ◌≡◌, sym, ap, arith, length, take}
use Rattle.text_source.specs.Values.{trimmed}
use Rattle.text_source.specs.Front.{before_colon, field}
use Rattle.text_source.proofs.Colons.{lengths, label_is, no_label, some_label}
use Rattle.text_source.proofs.front.field_of.Goals as goal

pub overflow_sub-label : goal.overflow_sub-label
overflow_sub-label c = omega (arith, lengths c.args.line.now c.in-Some.rest.now (sym c.in-Some.ensures))

pub slice_bounds-label-count : goal.slice_bounds-label-count
slice_bounds-label-count c = omega (arith, lengths c.args.line.now c.in-Some.rest.now (sym c.in-Some.ensures))

pub returns-then-is_empty : goal.returns-then-is_empty
returns-then-is_empty c =
    let line = c.args.line.now in
    let rest = c.in-Some.rest.now in
    let label = label_is line rest (sym c.in-Some.ensures) in
    sym (no_label line rest (sym c.in-Some.ensures) (rw (← label) at (sym c.if-is_empty.ensures)))

pub returns : goal.returns
returns c =
    let line = c.args.line.now in
    let rest = c.in-Some.rest.now in
    let label = label_is line rest (sym c.in-Some.ensures) in
    rw (c.trimmed.ensures, c.trimmed-2.ensures, ← label)
    (sym (some_label line rest (sym c.in-Some.ensures) (rw (← label) at (sym c.if-is_empty.ensures))))
