-- The numbered links are those of the query, each with its number.
use Rattle.std.proofs.Common.{ℕ, suc, List, [], ◌∷◌, ap, sym, subst, inl, inr}
use Rattle.std.specs.Prelude.{Contains}
use Rattle.sd_value.specs.Members.{Contains-nil, Contains-cons_cases, Contains-here, Contains-there}
use Rattle.constraint_spec.specs.Placed.{PlacedLink, IsNumbered}
use Rattle.constraint_recheck.proofs.Single.{HasNumber, to_number, from_number}
use Rattle.constraint_recheck.specs.Search.{Numbered, numbered_from}

numbered_to : (links : List PlacedLink) (first : ℕ) (n : Numbered) → Contains (numbered_from first links) n → HasNumber links first n.number n.link
numbered_to [] first n m = absurd (Contains-nil n m)
numbered_to (k ∷ links) first n m =
    elim (Contains-cons_cases (record { number = first; link = k }) (numbered_from (suc first) links) n m) [
      | inl e ↦ inl (ap (λ (z : Numbered). z.number) (sym e), ap (λ (z : Numbered). z.link) e)
      | inr back ↦ inr (numbered_to links (suc first) n back)
    ]

numbered_at : (links : List PlacedLink) (first number : ℕ) (k : PlacedLink) → HasNumber links first number k → Contains (numbered_from first links) (record { number = number; link = k })
numbered_at [] first number k h = absurd h
numbered_at (l ∷ links) first number k (inl h) =
    subst (Contains (numbered_from first (l ∷ links))) (λ i. record { number = sym h.0 i; link = h.1 i }) (Contains-here (record { number = first; link = l }) (numbered_from (suc first) links))
numbered_at (l ∷ links) first number k (inr h) =
    Contains-there (record { number = first; link = l }) (numbered_from (suc first) links) (record { number = number; link = k }) (numbered_at links (suc first) number k h)

pub is_numbered : (links : List PlacedLink) (n : Numbered) → Contains (numbered_from 1 links) n → IsNumbered links n.number n.link
is_numbered links n m = from_number links n.number n.link (numbered_to links 1 n m)

pub has_numbered : (links : List PlacedLink) (number : ℕ) (k : PlacedLink) → IsNumbered links number k → Contains (numbered_from 1 links) (record { number = number; link = k })
has_numbered links number k h = numbered_at links 1 number k (to_number links number k h)
