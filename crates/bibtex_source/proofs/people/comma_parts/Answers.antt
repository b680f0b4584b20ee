use Rattle.std.proofs.Common.{◌≡◌, true, false, sym, ◌∙◌}
use Rattle.std.specs.Prelude.{nat_eq, ◌&&◌}
use Rattle.bibtex_source.proofs.Commas.{cut_at_comma, cut_goes_on, cut_ends}
use Rattle.bibtex_source.proofs.people.comma_parts.Goals as goal

pub bytes-preserved-in_ok-push : goal.bytes-preserved-in_ok-push
bytes-preserved-in_ok-push c =
    let is : (nat_eq c.bytes.depth 0 && nat_eq c.in-Some.b.now 44) ≡ true = sym c.splits.ensures ∙ c.if-splits.true in
    rw (c.in_ok-push.ensures.items, c.new-part-then-splits.ensures.items)
    (cut_at_comma c.bytes.parts.items c.bytes.part.items c.bytes.rest.now c.in-Some.later.now c.args.name.now c.in_ok-of.field-0 c.bytes.depth c.in-Some.b.now
    c.in-Some.ensures.cases.0 is c.in_ok-of.ensures c.bytes.invariant)

pub bytes-preserved : goal.bytes-preserved
bytes-preserved c =
    let other : (nat_eq c.bytes.depth 0 && nat_eq c.in-Some.b.now 44) ≡ false = sym c.splits.ensures ∙ c.if-splits.false in
    rw c.in_ok-push-2.ensures.items
    (cut_goes_on c.bytes.parts.items c.bytes.part.items c.bytes.rest.now c.in-Some.later.now c.args.name.now c.bytes.depth c.depth_behind-depth.result c.in-Some.b.now
    c.in-Some.ensures.cases.0 other c.depth_behind-depth.ensures c.bytes.invariant)

pub returns : goal.returns
returns c =
    c.in_ok-push-3.ensures.items
    ∙ cut_ends c.bytes.parts.items c.bytes.part.items c.bytes.rest.now c.args.name.now c.in_ok-of-2.field-0 c.bytes.depth c.in_default.ensures.cases c.in_ok-of-2.ensures c.bytes.invariant
