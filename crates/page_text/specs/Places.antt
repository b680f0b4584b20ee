-- What is still to be written.
use Rattle.std.specs.Prelude.{ℕ, zero, suc, ◌+◌, List, [], ◌∷◌, ◌++◌, drop, flat_map}
use Rattle.page_text.specs.declared.draft.Draft.{Draft}
use Rattle.page_text.specs.declared.draft.Fragment.{Fragment}
use Rattle.page_text.specs.declared.draft.Fragment.TheVariants.{Stretch, Whole}
use Rattle.page_text.specs.declared.writing.Cursor.{Cursor}
use Rattle.page_text.specs.Texts.{fragment_text, fragments_of}

abbrev pub fragments_at : List Draft → ℕ → List Fragment
fragments_at [] i = []
fragments_at (d ∷ ds) zero = fragments_of d
fragments_at (d ∷ ds) (suc i) = fragments_at ds i

-- the bytes that are after a place of a text
abbrev pub after : List (List ℕ) → List Draft → Cursor → List ℕ
after ts ds p = flat_map (fragment_text ts) (drop p.at (fragments_at ds p.number))

-- those after the places of a stack, whose last one is next
abbrev pub after_all : List (List ℕ) → List Draft → List Cursor → List ℕ
after_all ts ds [] = []
after_all ts ds (p ∷ ps) = after_all ts ds ps ++ after ts ds p

-- how many steps it takes to write the parts, where c reports it of a whole text
abbrev pub steps : (ℕ → ℕ) → List Fragment → ℕ
steps c [] = 0
steps c (Stretch t ∷ fs) = 1 + steps c fs
steps c (Whole k ∷ fs) = 1 + c k + steps c fs

-- how many steps it takes to write a text, with no more than h texts one within another
abbrev pub steps_of : List Draft → ℕ → ℕ → ℕ
steps_of ds zero k = 0
steps_of ds (suc h) k = 1 + steps (steps_of ds h) (fragments_at ds k)

abbrev pub steps_after : List Draft → Cursor → ℕ
steps_after ds p = 1 + steps (steps_of ds p.number) (drop p.at (fragments_at ds p.number))

abbrev pub steps_after_all : List Draft → List Cursor → ℕ
steps_after_all ds [] = 0
steps_after_all ds (p ∷ ps) = steps_after ds p + steps_after_all ds ps
