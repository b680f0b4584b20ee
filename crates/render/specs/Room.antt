-- What a page has room for, of the bytes and the embedded values of items.
use Rattle.std.specs.Prelude.{◌≡◌, ◌⊎◌, ℕ, suc, ◌+◌, ◌<◌, ◌≤◌, List, [], ◌∷◌, ◌++◌}
use Rattle.sd_value.specs.declared.Value.{Value}
use Rattle.page_spec.specs.declared.TheConstants.{PAGE_LIMIT}
use Rattle.page_spec.specs.Pieces.{Item, byte, embed, items_of}
use Rattle.render.specs.declared.expansion.Expansion.{Expansion}

-- the values that are to be embedded
abbrev pub embeds : List Item → List Value
embeds [] = []
embeds (byte b ∷ ps) = embeds ps
embeds (embed v ∷ ps) = v ∷ embeds ps

-- the number of bytes
abbrev pub own_length : List Item → ℕ
own_length [] = 0
own_length (byte b ∷ ps) = suc (own_length ps)
own_length (embed v ∷ ps) = own_length ps

-- of the items, which are beside n bytes of a page, all are kept, and `size` counts all these bytes, or more bytes are
-- there than a page may have, and what is kept embeds the same values
abbrev pub Fits : ℕ → List Item → ℕ → List Item → Type 0
Fits n ps size kept =
    ((size ≤ PAGE_LIMIT) × (size ≡ n + own_length ps) × (kept ≡ ps))
    ⊎ ((PAGE_LIMIT < size) × (PAGE_LIMIT < n + own_length ps) × (embeds kept ≡ embeds ps))

-- the items are put after those that were there
abbrev pub Adds : Expansion → Expansion → List Item → Type 0
Adds old new ps =
    (n : ℕ) (qs : List Item) → Fits n qs old.size (items_of old.pieces.items)
    → Fits n (qs ++ ps) new.size (items_of new.pieces.items)
