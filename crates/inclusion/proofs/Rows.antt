-- Rows of a table, one place after another.
use Rattle.std.proofs.Common.{◌≡◌, ℕ, ◌+◌, ◌<◌, List, [], ◌∷◌, ◌++◌, sym, ap, subst, ◌∙◌, length, get_or, take}
use Rattle.std.specs.List.{AllZip}
use Rattle.std.specs.Prelude.{Bool}
use Rattle.std.specs.Bool.{Decides}
use Rattle.std.specs.Global.{Vec}
use Rattle.std.proofs.lemmas.List.{take_more, map-append}
use Rattle.rpe.specs.declared.Rpe.{Rpe}
use Rattle.rpe.specs.Reading.{regex_of}
use Rattle.constraint_spec.specs.Entailed.{IsIncluded}
use Rattle.inclusion.specs.Answers.{IsRow, bits_of}

-- one item more at the end of both lists
pub zip_pushed : {A B : Type 0} (R : A → B → Type 0) (xs : List A) (ys : List B) (x : A) (y : B) → AllZip R xs ys → R x y → AllZip R (xs ++ x ∷ []) (ys ++ y ∷ [])
zip_pushed R [] [] x y h r = (r, tt)
zip_pushed R [] (z ∷ ys) x y h r = absurd h
zip_pushed R (z ∷ xs) [] x y h r = absurd h
zip_pushed R (z ∷ xs) (w ∷ ys) x y h r = (h.0, zip_pushed R xs ys x y h.1 r)

-- a loop's step
pub zip_more : {A B : Type 0} (R : A → B → Type 0) (xs : List A) (ys : List B) (i : ℕ) (x : A) (y : B) → i < length xs → x ≡ get_or xs i x → AllZip R (take i xs) ys → R x y → AllZip R (take (i + 1) xs) (ys ++ y ∷ [])
zip_more R xs ys i x y lt is h r =
    subst (λ l. AllZip R l (ys ++ y ∷ [])) (sym (take_more xs i x lt ∙ ap (λ z. take i xs ++ z ∷ []) (sym is))) (zip_pushed R (take i xs) ys x y h r)

pub row_more : (all : List Rpe) (one : Rpe) (row new : List Bool) (i : ℕ) (x : Rpe) (bit : Bool) → i < length all → x ≡ get_or all i x → new ≡ row ++ bit ∷ [] → IsRow (take i all) one row → Decides bit (IsIncluded (regex_of one) (regex_of x)) → IsRow (take (i + 1) all) one new
row_more all one row new i x bit lt is e h d =
    subst (IsRow (take (i + 1) all) one) (sym e) (zip_more (λ other b. Decides b (IsIncluded (regex_of one) (regex_of other))) all row i x bit lt is h d)

pub rows_more : (all : List Rpe) (rows new : List (Vec Bool)) (i : ℕ) (x : Rpe) (row : Vec Bool) → i < length all → x ≡ get_or all i x → new ≡ rows ++ row ∷ [] → AllZip (IsRow all) (take i all) (bits_of rows) → IsRow all x row.items → AllZip (IsRow all) (take (i + 1) all) (bits_of new)
rows_more all rows new i x row lt is e h r =
    subst (AllZip (IsRow all) (take (i + 1) all)) (sym (ap bits_of e ∙ map-append (λ (r : Vec Bool). r.items) rows (row ∷ [])))
    (zip_more (IsRow all) all (bits_of rows) i x row.items lt is h r)
