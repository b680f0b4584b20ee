-- The first item of a list that has a property, item by item.
use Rattle.std.proofs.Common.{◌≡◌, ◌∙◌, ℕ, zero, suc, ◌+◌, ◌<◌, Bool, true, false, cond, sym, ap, arith, add-one, List, [], ◌∷◌, length, drop, get_or, Option, Some}
use Rattle.std.specs.Prelude.{find}

-- an item without the property is passed over
pub find_next : {A : Type 0} (p : A → Bool) (xs : List A) (i : ℕ) (x : A) → i < length xs → x ≡ get_or xs i x → p x ≡ false → find p (drop i xs) ≡ find p (drop (i + 1) xs)
find_next p [] i x within is fails = absurd (omega arith)
find_next p (y ∷ ys) zero x within is fails = ap (λ b. cond b (Some y) (find p ys)) (ap p (sym is) ∙ fails)
find_next p (y ∷ ys) (suc i) x within is fails = rw add-one (find_next p ys i x (omega arith) is fails ∙ ap (λ n. find p (drop n ys)) (add-one i))
