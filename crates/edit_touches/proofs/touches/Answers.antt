use Rattle.std.proofs.Common.{◌≡◌, ◌∙◌, refl, sym, ap, subst, List, ℕ}
use Rattle.std.specs.List.{list_any}
use Rattle.query_blocks.specs.Blocks.{scope_of}
use Rattle.site_spec.specs.Site.{SomeOf}
use Rattle.edit_spec.specs.Footprint.{by_label}
use Rattle.edit_touches.specs.Tests.{is_of_label, is_of_collection}
use Rattle.edit_touches.specs.Parts.{footprint_of, TouchesBlock}
use Rattle.edit_touches.proofs.Decides.{Says}
use Rattle.edit_touches.proofs.Blocks.{labels_say, last_says}
use Rattle.edit_touches.proofs.touches.Goals as goal

pub returns-then-some_label : goal.returns-then-some_label
returns-then-some_label c =
    let is : c.some_label.result ≡ list_any (is_of_label c.args.edit.now) c.args.parts.now.labels.items =
    c.some_label.ensures ∙ ap (list_any (is_of_label c.args.edit.now)) c.as_slice-2.ensures.value in (
      λ t. by_label ((labels_say c.args.edit.now c.args.parts.now.labels.items).0 (sym is ∙ c.if-some_label.true)),
      λ h.
          refl,
    )

pub returns : goal.returns
returns c =
    let e = c.args.edit.now in
    let q = scope_of c.args.scopes.now in
    last_says e q (footprint_of c.args.parts.now) c.some_block.result c.some_label.result c.some_collection.result
    c.if-parts.false
    (subst (λ (l : List ℕ). Says c.some_block.result (SomeOf (TouchesBlock e q) l)) c.as_slice.ensures.value
    c.some_block.ensures)
    c.if-some_block.false
    (c.some_label.ensures ∙ ap (list_any (is_of_label e)) c.as_slice-2.ensures.value)
    c.if-some_label.false
    (c.some_collection.ensures ∙ ap (list_any (is_of_collection e)) c.as_slice-3.ensures.value)
