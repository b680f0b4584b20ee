use Rattle.std.proofs.Common.{◌∙◌, ◌+◌, ◌-◌, ◌≡◌, sym, ap, arith, length, take}
use Rattle.text_source.specs.Cuts.{before_feed}
use Rattle.text_source.proofs.Cuts.{cut_none, cut_some, lengths, front_is}
use Rattle.text_source.proofs.lines.cut.Goals as goal

pub overflow_sub-front : goal.overflow_sub-front
overflow_sub-front c = omega (arith, lengths c.args.text.now c.in-Some.rest.now (sym c.in-Some.ensures))

pub slice_bounds-front-count : goal.slice_bounds-front-count
slice_bounds-front-count c = omega (arith, lengths c.args.text.now c.in-Some.rest.now (sym c.in-Some.ensures))

pub returns-in-None-clause-cuts : goal.returns-in-None-clause-cuts
returns-in-None-clause-cuts c = λ size. cut_none size c.args.text.now (sym c.in-None.ensures)

pub returns-in-Some-clause-cuts : goal.returns-in-Some-clause-cuts
returns-in-Some-clause-cuts c =
    let text = c.args.text.now in
    let rest = c.in-Some.rest.now in
    let n = lengths text rest (sym c.in-Some.ensures) in
    let count : length (before_feed text) ≡ length text - length rest - 1 = omega (arith, n) in
    let front : before_feed text ≡ take (length text - length rest - 1) text = front_is text ∙ ap (λ k. take k text) count in
    λ size. rw (c.without_return.ensures, ← front) (cut_some size text rest (sym c.in-Some.ensures))

pub returns-in-Some-clause-shorter : goal.returns-in-Some-clause-shorter
returns-in-Some-clause-shorter c = omega (arith, lengths c.args.text.now c.in-Some.rest.now (sym c.in-Some.ensures))
