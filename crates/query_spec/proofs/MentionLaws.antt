-- The first mentions of names: the same names, each once.
use Rattle.std.proofs.Common.{◌≡◌, ◌≤◌, List, [], ◌∷◌, ◌++◌, length, arith, refl, sym, ap, ◌∙◌, subst, length-append, append_assoc}
use Rattle.std.specs.Prelude.{Bool, true, false, not, ◌||◌, filter}
use Rattle.std.specs.List.{list_any}
use Rattle.std.proofs.lemmas.List.{append-nil}
use Rattle.std.proofs.lemmas.List.Elements.{filter-append}
use Rattle.sd_value.specs.OrderLaws.{same_bytes, bytes_same}
use Rattle.graph_spec.specs.DataGraph.{Name}
use Rattle.query_spec.specs.Mentions.{same_name, first_mentions}

pub same_is : (x y : Name) → same_name x y ≡ true → x ≡ y
same_is x y e = same_bytes x y e

pub same_itself : (x : Name) → same_name x x ≡ true
same_itself x = bytes_same x

pub by_test : (b : Bool) (P : Type 0) → (b ≡ true → P) → (b ≡ false → P) → P
by_test true P t f = t refl
by_test false P t f = f refl

pub same_turned : (x y : Name) → same_name x y ≡ same_name y x
same_turned x y =
    by_test (same_name x y) (same_name x y ≡ same_name y x)
    (λ e. let s = same_is x y e in subst (λ z. same_name x z ≡ same_name z x) s refl)
    (λ e. by_test (same_name y x) (same_name x y ≡ same_name y x) (λ f. let s = same_is y x f in subst (λ z. same_name z y ≡ same_name y z) s refl) (λ f. e ∙ sym f))

or_false : (a b : Bool) → (a || b) ≡ false → (a ≡ false) × (b ≡ false)
or_false true b e = absurd cc
or_false false b e = (refl, e)

any_apart : (x y : Name) (zs : List Name) → same_name x y ≡ false → list_any (same_name x) (filter (λ z. not (same_name y z)) zs) ≡ list_any (same_name x) zs
any_apart x y [] e = refl
any_apart x y (z ∷ zs) e =
    by_test (same_name y z) (list_any (same_name x) (filter (λ w. not (same_name y w)) (z ∷ zs)) ≡ list_any (same_name x) (z ∷ zs))
    (λ t. let s = same_is y z t in let n : same_name x z ≡ false = subst (λ w. same_name x w ≡ false) s e in rw (t, n) (any_apart x y zs e))
    (λ f. rw f (ap (λ b. same_name x z || b) (any_apart x y zs e)))

-- each name that stands in the list stands among the first mentions, and no other
pub any_first : (x : Name) (xs : List Name) → list_any (same_name x) (first_mentions xs) ≡ list_any (same_name x) xs
any_first x [] = refl
any_first x (y ∷ ys) =
    by_test (same_name x y) (list_any (same_name x) (first_mentions (y ∷ ys)) ≡ list_any (same_name x) (y ∷ ys))
    (λ t. rw t refl)
    (λ f. rw f (any_apart x y (first_mentions ys) f ∙ any_first x ys))

pub first_new : (xs : List Name) (x : Name) → list_any (same_name x) xs ≡ false → first_mentions (xs ++ x ∷ []) ≡ first_mentions xs ++ x ∷ []
first_new [] x e = refl
first_new (y ∷ ys) x e =
    let apart = or_false (same_name x y) (list_any (same_name x) ys) e in
    let turned : same_name y x ≡ false = same_turned y x ∙ apart.0 in
    rw (first_new ys x apart.1, filter-append (λ z. not (same_name y z)) (first_mentions ys) (x ∷ []), turned) refl

pub first_known : (xs : List Name) (x : Name) → list_any (same_name x) xs ≡ true → first_mentions (xs ++ x ∷ []) ≡ first_mentions xs
first_known [] x e = absurd cc
first_known (y ∷ ys) x e =
    by_test (list_any (same_name x) ys) (first_mentions ((y ∷ ys) ++ x ∷ []) ≡ first_mentions (y ∷ ys))
    (λ t. rw (first_known ys x t) refl)
    (λ f.
    let b : same_name x y ≡ true = by_test (same_name x y) (same_name x y ≡ true) (λ t. t) (λ n. absurd (let z : (false || list_any (same_name x) ys) ≡ true = subst (λ v. (v || list_any (same_name x) ys) ≡ true) n e in cc)) in
    let turned : same_name y x ≡ true = same_turned y x ∙ b in
    rw (first_new ys x f, filter-append (λ z. not (same_name y z)) (first_mentions ys) (x ∷ []), turned) (ap (λ l. y ∷ l) (append-nil _)))

grows_by_one : (xs : List Name) (x : Name) → length (first_mentions xs) ≤ length (first_mentions (xs ++ x ∷ []))
grows_by_one xs x =
    by_test (list_any (same_name x) xs) (length (first_mentions xs) ≤ length (first_mentions (xs ++ x ∷ [])))
    (λ t. rw (first_known xs x t) (omega arith))
    (λ f. rw (first_new xs x f) (omega (arith, length-append (first_mentions xs) (x ∷ []))))

pub first_grows : (xs ys : List Name) → length (first_mentions xs) ≤ length (first_mentions (xs ++ ys))
first_grows xs [] = rw (append-nil xs) (omega arith)
first_grows xs (y ∷ ys) = let one = grows_by_one xs y in let rest = first_grows (xs ++ y ∷ []) ys in
    let e : (xs ++ y ∷ []) ++ ys ≡ xs ++ y ∷ ys = append_assoc xs (y ∷ []) ys in
    let more : length (first_mentions (xs ++ y ∷ [])) ≤ length (first_mentions (xs ++ y ∷ ys)) = subst (λ l. length (first_mentions (xs ++ y ∷ [])) ≤ length (first_mentions l)) e rest in
    omega (arith, one, more)
