-- The items of a file of templates, by evaluation.
use Rattle.std.proofs.Common.{◌≡◌, ℕ, zero, suc, List, ◌∷◌, refl, sym, Option, Some, None}
use Rattle.template_items.specs.declared.item.Front.{Front}
use Rattle.template_items.specs.declared.item.Front.TheVariants.{Passes, Finds, Ends}
use Rattle.template_items.specs.declared.item.Item.{Item}
use Rattle.template_items.specs.declared.item.State.{State}
use Rattle.template_items.specs.Scanning.{front, last_items, Scans, passes, finds, ends}

-- scans on from a state
abbrev Next : Type 0
Next = State → Option (List Item)

unfoldable pub with_item : Item → Option (List Item) → Option (List Item)
with_item item None = None
with_item item (Some items) = Some (item ∷ items)

unfoldable pub by_front : Next → Front → Option (List Item)
by_front next (Passes s) = next s
by_front next (Finds item s) = with_item item (next s)
by_front next (Ends last) = Some (last_items last)

-- the items from a state on, where so many steps scan all of them
unfoldable pub scanned : List ℕ → ℕ → Next
scanned bytes zero s = None
scanned bytes (suc steps) s = by_front (scanned bytes steps) (front bytes s)

module _ (bytes : List ℕ) where
  abbrev IsSound : Next → Type 0
  IsSound next = (s : State) (items : List Item) → next s ≡ Some items → Scans bytes s items

  item_sound : (next : Next) (s t : State) (item : Item) (items : List Item) → IsSound next
      → front bytes s ≡ Finds item t
      → (o : Option (List Item)) → next t ≡ o → with_item item o ≡ Some items → Scans bytes s items
  unfolding with_item
  item_sound next s t item items sound is None e f = absurd cc
  item_sound next s t item items sound is (Some more) e f =
      let whole : item ∷ more ≡ items = cc in
      finds item t more is (sym whole) (sound t more e)

  front_sound : (next : Next) (s : State) (items : List Item) → IsSound next → (f : Front) → front bytes s ≡ f
      → by_front next f ≡ Some items → Scans bytes s items
  unfolding by_front
  front_sound next s items sound (Passes t) is e = passes t is (sound t items e)
  front_sound next s items sound (Finds item t) is e = item_sound next s t item items sound is (next t) refl e
  front_sound next s items sound (Ends last) is e = let whole : last_items last ≡ items = cc in ends last is (sym whole)

  pub scanned_sound : (steps : ℕ) → IsSound (scanned bytes steps)
  unfolding scanned
  scanned_sound zero s items e = absurd cc
  scanned_sound (suc steps) s items e =
      front_sound (scanned bytes steps) s items (scanned_sound steps) (front bytes s) refl e
