-- How deep names are among one variable more.
use Rattle.std.proofs.Common.{◌≡◌, ℕ, zero, suc, ◌+◌, ◌<◌, List, [], ◌∷◌, length, take, get_or, refl, ap, sym, ◌∙◌, subst, arith, add-one}
use Rattle.std.specs.Prelude.{Bool, true, false, if◌then◌else◌}
use Rattle.std.specs.List.{list_any}
use Rattle.sd_value.specs.Names.{Name}
use Rattle.query_spec.specs.declared.Variable.{Variable}
use Rattle.query_spec.specs.Mentions.{same_name}
use Rattle.constraint_recheck.specs.Search.{deeper, depth}

behind : (b here : Bool) (i d : ℕ) → deeper (if b then suc i else d) here ≡ (if b then suc (suc i) else deeper d here)
behind true here i d = refl
behind false here i d = refl

depth_more : (vs : List Variable) (i : ℕ) (v : Variable) (xs : List Name) → i < length vs → v ≡ get_or vs i v
    → depth (take (suc i) vs) xs ≡ (if list_any (same_name v.name) xs then suc i else depth (take i vs) xs)
depth_more [] i v xs lt at = absurd (omega arith)
depth_more (w ∷ vs) zero v xs lt at =
    subst (λ (z : Variable). deeper 0 (list_any (same_name w.name) xs) ≡ (if list_any (same_name z.name) xs then 1 else 0)) (sym at) refl
depth_more (w ∷ vs) (suc i) v xs lt at =
    ap (λ d. deeper d (list_any (same_name w.name) xs)) (depth_more vs i v xs (omega arith) at)
    ∙ behind (list_any (same_name v.name) xs) (list_any (same_name w.name) xs) i (depth (take i vs) xs)

-- the variable is one of the names, or it is not
pub depth_with : (vs : List Variable) (i : ℕ) (v : Variable) (xs : List Name) → i < length vs → v ≡ get_or vs i v
    → list_any (same_name v.name) xs ≡ true → depth (take (i + 1) vs) xs ≡ i + 1
depth_with vs i v xs lt at e = rw add-one (depth_more vs i v xs lt at ∙ ap (λ b. if b then suc i else depth (take i vs) xs) e)

pub depth_without : (vs : List Variable) (i : ℕ) (v : Variable) (xs : List Name) → i < length vs → v ≡ get_or vs i v
    → list_any (same_name v.name) xs ≡ false → depth (take (i + 1) vs) xs ≡ depth (take i vs) xs
depth_without vs i v xs lt at e = rw add-one (depth_more vs i v xs lt at ∙ ap (λ b. if b then suc i else depth (take i vs) xs) e)
