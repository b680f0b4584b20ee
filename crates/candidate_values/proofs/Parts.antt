-- Lists of exactly the things with a property, and parts of lists.
use Rattle.std.proofs.Common.{◌≡◌, List, [], ◌∷◌, ◌++◌, length, map, arith, refl, ap, sym, ◌∙◌, inl, inr, subst, append_assoc}
use Rattle.std.specs.Prelude.{Contains, Bool, true, false, IsTrue, if◌then◌else◌, ◌↔◌}
use Rattle.std.specs.declared.cmp.Ordering.{Ordering}
use Rattle.sd_value.specs.Ascending.{ListsExactly}
use Rattle.sd_value.specs.Members.{Contains-nil, Contains-cons_cases, Contains-here, Contains-there}
use Rattle.std.proofs.lemmas.List.Elements.{Contains-append_left, Contains-push_cases, Contains-push}
use Rattle.candidate_values.specs.Offers.{IsListOf, IsPartOf}

pub list_of : {X : Type 0} (R : X → X → Ordering) (P : X → Type 0) (xs : List X) → ListsExactly R P xs → IsListOf P xs
list_of R P xs h = record { sound = h.sound; complete = h.complete }

pub Contains-map : {X Y : Type 0} (f : X → Y) (xs : List X) (x : X) → Contains xs x → Contains (map f xs) (f x)
Contains-map f [] x h = absurd (Contains-nil x h)
Contains-map f (y ∷ xs) x h = elim (Contains-cons_cases y xs x h) [
  | inl e ↦ subst (λ z. Contains (f y ∷ map f xs) z) (ap f e) (Contains-here (f y) (map f xs))
  | inr c ↦ Contains-there (f y) (map f xs) (f x) (Contains-map f xs x c)
]

pub from_map : {X Y : Type 0} (f : X → Y) (xs : List X) (y : Y) → Contains (map f xs) y → (x : X) × Contains xs x × (f x ≡ y)
from_map f [] y h = absurd (Contains-nil y h)
from_map f (x ∷ xs) y h = elim (Contains-cons_cases (f x) (map f xs) y h) [
  | inl e ↦ (x, Contains-here x xs, e)
  | inr c ↦ (let r = from_map f xs y c in (r.0, Contains-there x xs r.0 r.1, r.2))
]

pub part-nil : {X : Type 0} (P : X → Type 0) → IsPartOf P [] []
part-nil P = record { of_all = λ x h. h; sound = λ x h. absurd (Contains-nil x h); complete = λ x h p. h }

-- one more element of the whole list is seen, and kept
pub part-keep : {X : Type 0} (P : X → Type 0) (xs ys : List X) (x : X) → P x → IsPartOf P xs ys → IsPartOf P (x ∷ xs) (ys ++ x ∷ [])
part-keep P xs ys x p h = record {
  of_all = λ z c. elim (Contains-push_cases ys x z c) [ inl k ↦ Contains-there x xs z (h.of_all z k) | inr e ↦ subst (λ w. Contains (x ∷ xs) w) e (Contains-here x xs) ];
  sound = λ z c. elim (Contains-push_cases ys x z c) [ inl k ↦ h.sound z k | inr e ↦ subst P e p ];
  complete = λ z c q. elim (Contains-cons_cases x xs z c) [ inl e ↦ subst (λ w. Contains (ys ++ x ∷ []) w) e (Contains-push ys x) | inr k ↦ Contains-append_left ys (x ∷ []) z (h.complete z k q) ];
}

-- or it is left out
pub part-skip : {X : Type 0} (P : X → Type 0) (xs ys : List X) (x : X) → (P x → ⊥) → IsPartOf P xs ys → IsPartOf P (x ∷ xs) ys
part-skip P xs ys x n h = record {
  of_all = λ z c. Contains-there x xs z (h.of_all z c);
  sound = h.sound;
  complete = λ z c q. elim (Contains-cons_cases x xs z c) [ inl e ↦ absurd (n (subst P (sym e) q)) | inr k ↦ h.complete z k q ];
}

-- while a list is gone through from its end: what is left, and the part of what was seen
pub record IsSifted {X : Type 0} (P : X → Type 0) (all left kept : List X) : Type 0 where
  pub seen : List X
  pub cut : all ≡ left ++ seen
  pub part : IsPartOf P seen kept

append-nil : {X : Type 0} (xs : List X) → xs ++ [] ≡ xs
append-nil [] = refl
append-nil (x ∷ xs) = ap (λ ys. x ∷ ys) (append-nil xs)

nil_of : {X : Type 0} (xs : List X) → length xs ≡ 0 → xs ≡ []
nil_of [] e = refl
nil_of (x ∷ xs) e = absurd (omega arith)

pub sifted-init : {X : Type 0} (P : X → Type 0) (all : List X) → IsSifted P all all []
sifted-init P all = record { seen = []; cut = sym (append-nil all); part = part-nil P }

cut_more : {X : Type 0} (all left left2 seen : List X) (x : X) → all ≡ left ++ seen → left ≡ left2 ++ x ∷ [] → all ≡ left2 ++ x ∷ seen
cut_more all left left2 seen x cut pop = cut ∙ (ap (λ xs. xs ++ seen) pop ∙ append_assoc left2 (x ∷ []) seen)

pub sifted-keep : {X : Type 0} (P : X → Type 0) (all left left2 kept : List X) (x : X) → IsSifted P all left kept → left ≡ left2 ++ x ∷ [] → P x → IsSifted P all left2 (kept ++ x ∷ [])
sifted-keep P all left left2 kept x h pop p = record { seen = x ∷ h.seen; cut = cut_more all left left2 h.seen x h.cut pop; part = part-keep P h.seen kept x p h.part }

pub sifted-skip : {X : Type 0} (P : X → Type 0) (all left left2 kept : List X) (x : X) → IsSifted P all left kept → left ≡ left2 ++ x ∷ [] → (P x → ⊥) → IsSifted P all left2 kept
sifted-skip P all left left2 kept x h pop n = record { seen = x ∷ h.seen; cut = cut_more all left left2 h.seen x h.cut pop; part = part-skip P h.seen kept x n h.part }

pub sifted-end : {X : Type 0} (P : X → Type 0) (all left kept : List X) → IsSifted P all left kept → length left ≡ 0 → IsPartOf P all kept
sifted-end P all left kept h e = let same : all ≡ h.seen = h.cut ∙ ap (λ xs. xs ++ h.seen) (nil_of left e) in subst (λ xs. IsPartOf P xs kept) (sym same) h.part

-- a step of the sifting, by the answer of a test
pub sifted-step : {X : Type 0} (P : X → Type 0) (all left left2 kept kept2 : List X) (x : X) (good : Bool) → IsSifted P all left kept → left ≡ left2 ++ x ∷ [] → (IsTrue good ↔ P x) → kept2 ≡ (if good then kept ++ x ∷ [] else kept) → IsSifted P all left2 kept2
sifted-step P all left left2 kept kept2 x true h pop says e = subst (λ ks. IsSifted P all left2 ks) (sym e) (sifted-keep P all left left2 kept x h pop (says.0 refl))
sifted-step P all left left2 kept kept2 x false h pop says e = subst (λ ks. IsSifted P all left2 ks) (sym e) (sifted-skip P all left left2 kept x h pop (λ p. let t = says.1 p in cc))
