use Rattle.std.proofs.Common.{ap, ◌∙◌, Some}
use Rattle.std.proofs.lemmas.Option.{slice_get-get_or}
use Rattle.bindings.proofs.Steps.{choice_for}
use Rattle.bindings.proofs.search.choose_planned.Goals as goal

pub free_slot-requires : goal.free_slot-requires
free_slot-requires g c = c.requires.in_range _ _ (slice_get-get_or _ _ c.index-search-at.result c.requires.within ∙ ap Some c.in-Holds.is)

pub offer_literal-requires-clause-in_range : goal.offer_literal-requires-clause-in_range
offer_literal-requires-clause-in_range g c = c.requires.in_range _ _ (slice_get-get_or _ _ c.index-search-at.result c.requires.within ∙ ap Some c.in-Holds.is)

pub returns-clause-choice : goal.returns-clause-choice
returns-clause-choice g c =
    choice_for (g.S.Store.graph c.args.search.now.store.now) c.args.search.now.version _ _ _ _ _ _ _ _ _
    (slice_get-get_or _ _ c.index-search-at.result c.requires.within ∙ ap Some c.in-Holds.is) c.in_ok-offer.ensures.offer c.next_goal-next.ensures

pub offer_literal-requires-clause-there : goal.offer_literal-requires-clause-there
offer_literal-requires-clause-there g c = slice_get-get_or _ _ c.index-search-at.result c.requires.within ∙ ap Some c.in-Holds.is
