-- What a table answers is right.
use Rattle.std.proofs.Common.{◌≡◌, ℕ, ◌<◌, List, [], ◌∷◌, ◌++◌, refl, sym, ap, subst, ◌∙◌, inl, inr, length, arith, lit≤}
use Rattle.std.specs.Prelude.{Bool, true, false, cond, ◌&&◌, map, Contains, slice_get, unwrap_or, Option, Some, None, MatchOption, nat_lt}
use Rattle.std.specs.Bool.{Decides}
use Rattle.std.specs.List.{AllZip, position_or_len}
use Rattle.std.specs.Option.{IsSomeAnd}
use Rattle.std.proofs.lemmas.List.Elements.{All-nil}
use Rattle.std.proofs.lemmas.List.Sums.{passes_at_first, fails_before_first}
use Rattle.std.proofs.lemmas.Option.{slice_get_cases}
use Rattle.std.proofs.lemmas.Slice.Zip.{AllZip-left}
use Rattle.std.proofs.lemmas.Bool.Decides.{nat_tests}
use Rattle.sd_value.specs.Members.{Contains-map}
use Rattle.rpe.specs.declared.Rpe.{Rpe}
use Rattle.rpe.specs.Regex.{Label, Word, Regex, label, any, empty, seq, alt, star}
use Rattle.rpe.specs.Language.{InLanguage}
use Rattle.rpe.specs.Reading.{regex_of}
use Rattle.constraint_spec.specs.Entailed.{IsIncluded}
use Rattle.query_parts.specs.Same.{same_regex}
use Rattle.query_parts.proofs.Bools.{never, always, as_well, both, either}
use Rattle.query_parts.proofs.Same.{name_decides, regex_decides}
use Rattle.query_spec.specs.Mentions.{same_name}
use Rattle.inclusion.specs.Answers.{IsRow, number_of, bit_in, bit_at, has_empty}

-- ---- looking up

some_value : {Y : Type 0} (P : Y → Type 0) (o : Option Y) → IsSomeAnd o P → (y : Y) × (o ≡ Some y) × P y
some_value P None h = absurd h
some_value P (Some y) h = (y, refl, h)

abbrev Tells : Regex → Rpe → Bool
Tells r e = same_regex (regex_of e) r

record Found {Y : Type 0} (R : Rpe → Y → Type 0) (all : List Rpe) (ys : List Y) (r : Regex) : Type 0 where
  place : ℕ
  item : Rpe
  value : Y
  numbered : number_of all r ≡ Some place
  got : slice_get ys place ≡ Some value
  same : regex_of item ≡ r
  holds : R item value

false_is_not_true : false ≡ true → ⊥
false_is_not_true e = cc

numbered_within : (all : List Rpe) (r : Regex) → position_or_len (Tells r) all < length all → number_of all r ≡ Some (position_or_len (Tells r) all)
numbered_within all r lt =
    let i = position_or_len (Tells r) all in
    let yes : nat_lt i (length all) ≡ true = grind (arith, nat_tests) in
    ap (λ b. cond b (Some i) None) yes

-- an expression that the list has is found
found : {Y : Type 0} (R : Rpe → Y → Type 0) (all : List Rpe) (ys : List Y) → AllZip R all ys → (r : Regex) → Contains (map regex_of all) r → Found R all ys r
found R all ys zip r has =
    let i = position_or_len (Tells r) all in
    elim ((slice_get_cases all i).1) [
      | inl w ↦
          let (x, lt, got, read) = w in
          let passes : Tells r x ≡ true = ap (Tells r) (sym read) ∙ passes_at_first (Tells r) all x lt in
          let v = some_value (R x) (slice_get ys i) (beside x got) in
          record { place = i; item = x; value = v.0; numbered = numbered_within all r lt; got = v.1; same = (regex_decides (regex_of x) r).0 passes; holds = v.2 }
      | inr w ↦
          let (e, is, m) = Contains-map regex_of all r has in
          let (k, kl, at) = m in
          absurd (false_is_not_true (sym (fails_before_first (Tells r) all k e (omega (arith, w.0, kl))) ∙ (ap (Tells r) at ∙ (regex_decides (regex_of e) r).1 is)))
    ]
  where
    beside : (x : Rpe) → slice_get all (position_or_len (Tells r) all) ≡ Some x → IsSomeAnd (slice_get ys (position_or_len (Tells r) all)) (R x)
    beside x got =
        subst (λ o. MatchOption o (Unit {0}) (λ z. IsSomeAnd (slice_get ys (position_or_len (Tells r) all)) (R z))) got
        (AllZip-left R all ys zip (position_or_len (Tells r) all))

bit_is : (rows : List (List Bool)) (i j : ℕ) (row : List Bool) (y : Bool) → slice_get rows i ≡ Some row → slice_get row j ≡ Some y → bit_at rows (Some i) (Some j) ≡ y
bit_is rows i j row y e g = ap (λ o. bit_in o j) e ∙ ap (λ o. unwrap_or o false) g

pub included_right : (all : List Rpe) (rows : List (List Bool)) → AllZip (IsRow all) all rows → (a b : Regex) → Contains (map regex_of all) a → Contains (map regex_of all) b → Decides (bit_at rows (number_of all a) (number_of all b)) (IsIncluded a b)
included_right all rows zip a b ha hb =
    let f = found (IsRow all) all rows zip a ha in
    let R : Rpe → Bool → Type 0 = λ other bit. Decides bit (IsIncluded (regex_of f.item) (regex_of other)) in
    let g = found R all f.value f.holds b hb in
    let whole : bit_at rows (number_of all a) (number_of all b) ≡ g.value =
    (λ t. bit_at rows (f.numbered t) (g.numbered t)) ∙ bit_is rows f.place g.place f.value g.value f.got g.got in
    let right : Decides g.value (IsIncluded a b) =
    subst (λ z. Decides g.value (IsIncluded a z)) g.same (subst (λ z. Decides g.value (IsIncluded z (regex_of g.item))) f.same g.holds) in
    subst (λ t. Decides t (IsIncluded a b)) (sym whole) right

-- two labels
pub labels_right : (l m : Label) → Decides (same_name l m) (IsIncluded (label l) (label m))
labels_right l m =
    as_well (same_name l m)
    (λ e. inl record { small_a = lit≤ tt; small_b = lit≤ tt; words = λ word h. h ∙ ap (λ k. k ∷ []) e })
    (elim [
      | inl h ↦ let e : l ∷ [] ≡ m ∷ [] = h.words (l ∷ []) refl in (let f : l ≡ m = cc in f)
      | inr h ↦ let e = h.same in (let f : l ≡ m = cc in f)
    ])
    (name_decides l m)

pub labels_are : (a b : Regex) (l m : Label) (r : Bool) → a ≡ label l → b ≡ label m → r ≡ same_name l m → Decides r (IsIncluded a b)
labels_are a b l m r p q e =
    subst (λ t. Decides t (IsIncluded a b)) (sym e) (subst (λ z. Decides (same_name l m) (IsIncluded a z)) (sym q) (subst (λ z. Decides (same_name l m) (IsIncluded z (label m))) (sym p) (labels_right l m)))

-- ---- empty words

parts_empty : (xs ys : Word) → [] ≡ xs ++ ys → (xs ≡ []) × (ys ≡ [])
parts_empty [] ys e = (refl, sym e)
parts_empty (x ∷ xs) ys e = let f : ⊥ = cc in absurd f

pub empty_right : (r : Regex) → Decides (has_empty r) (InLanguage r [])
empty_right (label l) = never (λ e. cc)
empty_right any = never (λ h. let e = h.1 in cc)
empty_right empty = always refl
empty_right (seq a b) =
    as_well (has_empty a && has_empty b) (λ h. ([], [], h.0, h.1, refl))
    (λ h. let (front, back, p, q, e) = h in let n = parts_empty front back e in (subst (InLanguage a) n.0 p, subst (InLanguage b) n.1 q))
    (both (has_empty a) (has_empty b) (empty_right a) (empty_right b))
empty_right (alt a b) = either (has_empty a) (has_empty b) (empty_right a) (empty_right b)
empty_right (star a) = always ([], All-nil (λ part. part ≡ [] → ⊥), All-nil (InLanguage a), refl)
