use Rattle.std.proofs.Common.{◌≡◌, ◌∙◌, sym}
use Rattle.std.proofs.lemmas.List.{drop_all}
use Rattle.page_text.specs.Places.{fragments_at}
use Rattle.page_text.proofs.Progress.{fragments_get, next_step}
use Rattle.page_text.proofs.writing.next.Goals as goal

pub returns-then-place-fragments-clause-part : goal.returns-then-place-fragments-clause-part
returns-then-place-fragments-clause-part c =
    let e : fragments_at c.args.drafts.now c.args.place.number ≡ c.fragments-fragments.result.now = fragments_get c.args.drafts.now c.args.place.number c.index-drafts-place.result c.requires c.index-drafts-place.is ∙ sym c.fragments-fragments.ensures in
    rw e (next_step c.fragments-fragments.result.now c.args.place.at c.index-fragments-place.result c.if-place-fragments.true c.index-fragments-place.is)

pub returns-else-place-fragments-clause-part : goal.returns-else-place-fragments-clause-part
returns-else-place-fragments-clause-part c =
    let e : fragments_at c.args.drafts.now c.args.place.number ≡ c.fragments-fragments.result.now = fragments_get c.args.drafts.now c.args.place.number c.index-drafts-place.result c.requires c.index-drafts-place.is ∙ sym c.fragments-fragments.ensures in
    rw e (drop_all c.args.place.at c.fragments-fragments.result.now c.if-place-fragments.false)
