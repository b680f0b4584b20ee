use Rattle.std.proofs.Common.{◌≡◌, true, false, sym, ◌∙◌}
use Rattle.std.specs.Prelude.{nat_eq, ◌&&◌}
use Rattle.bibtex_spec.specs.Values.{begins_and}
use Rattle.bibtex_source.proofs.Tidied.{split_at_and, split_goes_on, split_ends, both, no_depth, none_left}
use Rattle.bibtex_source.proofs.values.tidy_parts.Goals as goal

pub bytes-preserved-then-splits : goal.bytes-preserved-then-splits
bytes-preserved-then-splits c =
    let is : (nat_eq c.bytes.depth 0 && begins_and c.bytes.rest.now) ≡ true = sym c.splits.ensures.is ∙ c.if-splits.true in
    let tests = both (nat_eq c.bytes.depth 0) (begins_and c.bytes.rest.now) is in
    rw (c.in_ok-push.ensures.items, c.new-part-then-splits.ensures.items)
    (split_at_and c.bytes.parts.items c.bytes.part.items c.bytes.rest.now c.split_at.result.1.now c.args.text.now c.in_ok-tidy.field-0 c.bytes.depth
    (no_depth c.bytes.depth tests.0) tests.1 c.split_at.ensures.back (rw c.as_slice.ensures.value at c.in_ok-tidy.ensures) c.bytes.invariant)

pub bytes-preserved : goal.bytes-preserved
bytes-preserved c =
    let other : (nat_eq c.bytes.depth 0 && begins_and c.bytes.rest.now) ≡ false = sym c.splits.ensures.is ∙ c.if-splits.false in
    rw c.in_ok-push-2.ensures.items
    (split_goes_on c.bytes.parts.items c.bytes.part.items c.bytes.rest.now c.in-Some.later.now c.args.text.now c.bytes.depth c.depth_behind-depth.result c.in-Some.b.now
    c.in-Some.ensures.cases.0 other c.depth_behind-depth.ensures c.bytes.invariant)

pub returns : goal.returns
returns c =
    c.in_ok-push-3.ensures.items
    ∙ split_ends c.bytes.parts.items c.bytes.part.items c.bytes.rest.now c.args.text.now c.in_ok-tidy-2.field-0 c.bytes.depth
    (none_left c.bytes.rest.now c.in_default.ensures.cases) (rw c.as_slice-2.ensures.value at c.in_ok-tidy-2.ensures) c.bytes.invariant
