use Rattle.std.proofs.Common.{[], ◌∷◌, map, sym, ◌∙◌}
use Rattle.std.proofs.lemmas.List.{map-append}
use Rattle.std.proofs.lemmas.Result.{err_from_is_err_and}
use Rattle.template_reader.specs.Template.{single}
use Rattle.template_reader.proofs.BodyLoop.{body_gives, block_past, block_by_room, list_ends, list_smaller, list_goes_on, list_done}
use Rattle.template_reader.proofs.body.+body.Goals as goal

pub block_at-returns-then-depth-eq0 : goal.block_at-returns-then-depth-eq0
block_at-returns-then-depth-eq0 t c = block_past c.args.depth c.args.scope.now c.args.items.now c.if-depth-eq0.true

pub block_at-returns-else-depth-eq0 : goal.block_at-returns-else-depth-eq0
block_at-returns-else-depth-eq0 t c = rw (block_by_room c.args.depth c.args.scope.now c.args.items.now c.if-depth-eq0.false) c.tag_at.ensures

pub parts_at-returns-in_err-part : goal.parts_at-returns-in_err-part
parts_at-returns-in_err-part t c =
    let p = err_from_is_err_and c.from_residual.result c.from_residual.ensures.1 in
    rw (p.1, p.2) (list_ends c.args.depth c.args.scope.now c.in_err-part.field-0.0 (map single c.list.parts.items) c.list.rest.now _ (sym c.has_part.ensures ∙ c.list-test.true) c.in_err-part.ensures c.list.invariant)

pub parts_at-list-smaller : goal.parts_at-list-smaller
parts_at-list-smaller t c = list_smaller c.args.depth c.args.scope.now c.list.rest.now (single c.in_ok-part.part) c.in_ok-part.after.now (sym c.has_part.ensures ∙ c.list-test.true) c.in_ok-part.ensures

pub parts_at-list-preserved : goal.parts_at-list-preserved
parts_at-list-preserved t c =
    rw (c.in_ok-push.ensures.items, map-append single c.list.parts.items (c.in_ok-part.part ∷ []))
    (list_goes_on c.args.depth c.args.scope.now (map single c.list.parts.items) c.list.rest.now (single c.in_ok-part.part) c.in_ok-part.after.now _ (sym c.has_part.ensures ∙ c.list-test.true) c.in_ok-part.ensures c.list.invariant)

pub parts_at-returns : goal.parts_at-returns
parts_at-returns t c = list_done c.args.depth c.args.scope.now (map single c.list.parts.items) c.list.rest.now _ (sym c.has_part.ensures ∙ c.list-test.false) c.list.invariant

pub body_at-returns : goal.body_at-returns
body_at-returns t c = body_gives c.args.depth c.args.scope.now c.args.items.now c.parts_at.result c.parts_at.ensures
