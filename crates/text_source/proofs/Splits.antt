-- Where the front matter of a text ends.
use Rattle.std.specs.Prelude.{◌≡◌, ◌-◌, ◌&&◌, ℕ, Bool, true, false, List, [], ◌∷◌, length, codes, Option, Some, None}
use Rattle.std.proofs.Common.{refl, inl, inr}
use Rattle.std.proofs.lemmas.Bool.{cases_Bool}
use Rattle.std.specs.List.{list_any}
use Rattle.std.specs.Str.{bytes_eq}
use Rattle.text_source.specs.Lines.{line, lines_of, joined, is_fence, has_front}
use Rattle.text_source.specs.Cuts.{lines_left, Cuts, Closes, Splits, plain}
use Rattle.text_source.proofs.Cuts.{joined_is}

no_front : (size : ℕ) (text : List ℕ) → has_front (lines_of size text) ≡ false → Splits size text None text
no_front size text h = (rw h refl, rw h (joined_is size text))

pub no_fence : (size : ℕ) (text first : List ℕ) (next : Option (List ℕ)) → Cuts size text first next → bytes_eq first (codes "---") ≡ false → Splits size text None text
no_fence size text first next cut h = no_front size text (rw (cut, h) refl)

nothing_later : (b : Bool) → (b && false) ≡ false
nothing_later true = refl
nothing_later false = refl

pub no_next : (size : ℕ) (text first : List ℕ) → Cuts size text first None → Splits size text None text
no_next size text first cut = no_front size text (rw cut (nothing_later (bytes_eq first (codes "---"))))

pub not_closed : (size : ℕ) (text first next : List ℕ) → Cuts size text first (Some next) → Closes size next None → Splits size text None text
not_closed size text first next cut closes = no_front size text (rw (cut, closes) (nothing_later (bytes_eq first (codes "---"))))

-- what follows the closing fence, if anything does
abbrev pub own_of : Option (List ℕ) → List ℕ
own_of None = []
own_of (Some own) = own

joined_left : (size : ℕ) (own : Option (List ℕ)) → joined (lines_left size own) ≡ plain (own_of own)
joined_left size None = refl
joined_left size (Some own) = joined_is size own

pub closed : (size : ℕ) (text first next : List ℕ) (own : Option (List ℕ)) → Cuts size text first (Some next) → bytes_eq first (codes "---") ≡ true → Closes size next (Some own) → Splits size text (Some next) (own_of own)
closed size text first next own cut h closes = (
  rw (cut, h, closes.0) refl,
  rw (cut, h, closes.0, closes.1) (joined_left size own),
)
