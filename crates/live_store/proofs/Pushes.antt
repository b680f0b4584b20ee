-- Loops that push what an item has, of those items that are wanted.
use Rattle.std.specs.Prelude.{◌≡◌, ◌<◌, ◌≤◌, ◌+◌, ℕ, List, [], ◌∷◌, ◌++◌, length, take, Contains}
use Rattle.std.proofs.Common.{sym, subst, inl, inr, get_or}
use Rattle.std.proofs.lemmas.Grind.{take_at_read}
use Rattle.std.proofs.lemmas.List.{take_all}
use Rattle.std.proofs.lemmas.List.Elements.{Contains-push_cases, Contains-append_left, Contains-append_right}
use Rattle.sd_value.specs.Members.{Contains-nil, Contains-here}
use Rattle.live_store.specs.Shift.{Pushed}

module _ {X Y : Type 0} (f : X → Y) (K : X → Type 0) where
  pub pushed_none : (old : List Y) → Pushed f K [] old old
  pushed_none old = record {
    kept = λ y m. m;
    found = λ x m k. absurd (Contains-nil x m);
    only = λ y m. inl m;
  }

  -- ---- item after item

  pub pushed_step : (xs : List X) (i : ℕ) (x : X) (old mid new : List Y) → Pushed f K (take i xs) old mid
      → i < length xs → x ≡ get_or xs i x → Pushed f K (x ∷ []) mid new → Pushed f K (take (i + 1) xs) old new
  pushed_step xs i x old mid new so lt is one =
      let more : take (i + 1) xs ≡ take i xs ++ x ∷ [] = rw ((take_at_read xs i x lt).1, ← is) in
      subst (λ ys. Pushed f K ys old new) (sym more) (record {
        kept = λ y m. one.kept y (so.kept y m);
        found = λ z m kz. elim (Contains-push_cases (take i xs) x z m) [
          | inl front ↦ one.kept (f z) (so.found z front kz)
          | inr e ↦ one.found z (subst (Contains (x ∷ [])) e (Contains-here x [])) kz
        ];
        only = λ y m. elim (one.only y m) [
          | inl before ↦ elim (so.only y before) [
            | inl o ↦ inl o
            | inr (z, c, kz, e) ↦ inr (z, Contains-append_left (take i xs) (x ∷ []) z c, kz, e)
          ]
          | inr (z, c, kz, e) ↦ inr (z, Contains-append_right (take i xs) (x ∷ []) z c, kz, e)
        ];
      })

  pub pushed_all : (xs : List X) (i : ℕ) (old new : List Y) → Pushed f K (take i xs) old new → length xs ≤ i
      → Pushed f K xs old new
  pushed_all xs i old new so done = subst (λ ys. Pushed f K ys old new) (take_all i xs done) so
