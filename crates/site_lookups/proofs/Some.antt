-- Whether one of the items has P.
use Rattle.std.proofs.Common.{◌≡◌, ◌⊎◌, ℕ, ◌+◌, ◌<◌, ◌≤◌, List, [], ◌∷◌, ◌++◌, length, get_or, take, map, inl, inr, ⊎_elim, sym, ap, ◌∙◌, refl, subst}
use Rattle.std.specs.Prelude.{Contains, Bool, true, false, IsTrue, ◌↔◌}
use Rattle.std.specs.List.{flat_map}
use Rattle.std.proofs.lemmas.List.{take_more, take_all}
use Rattle.std.proofs.lemmas.List.Elements.{Contains-append_left, Contains-append_right, Contains-append_cases, Contains-push_cases}
use Rattle.sd_value.specs.Members.{Contains-nil, Contains-cons_cases, Contains-here, Contains-there}
use Rattle.site_spec.specs.Site.{SomeOf}

pub record NoneOf {X : Type 0} (P : X → Type 0) (xs : List X) : Type 0 where
  pub never : (x : X) → Contains xs x → P x → ⊥

pub none_nil : {X : Type 0} (P : X → Type 0) → NoneOf P []
none_nil P = record { never = λ x h. absurd (Contains-nil x h) }

pub none_more : {X : Type 0} (P : X → Type 0) (xs : List X) (i : ℕ) (x : X) → i < length xs → x ≡ get_or xs i x → NoneOf P (take i xs) → (P x → ⊥) → NoneOf P (take (i + 1) xs)
none_more P xs i x l is n no_x =
    subst (NoneOf P) (sym (take_more xs i x l ∙ ap (λ z. take i xs ++ z ∷ []) (sym is)))
    record { never = λ z h p. ⊎_elim (λ k. n.never z k p) (λ k. no_x (subst P (sym k) p)) (Contains-push_cases (take i xs) x z h) }

pub none_some : {X : Type 0} (P : X → Type 0) (xs : List X) → NoneOf P xs → SomeOf P xs → ⊥
none_some P xs n s = n.never s.item s.within s.holds

pub none_all : {X : Type 0} (P : X → Type 0) (xs : List X) (i : ℕ) → length xs ≤ i → NoneOf P (take i xs) → SomeOf P xs → ⊥
none_all P xs i l n s = none_some P xs (subst (NoneOf P) (take_all i xs l) n) s

pub item_in : {X : Type 0} (xs : List X) (i : ℕ) (x : X) → i < length xs → x ≡ get_or xs i x → Contains xs x
item_in xs i x l is = (i, l, sym is)

pub true_is : (P : Type 0) → P → IsTrue true ↔ P
true_is P p = (λ _. p, λ _. refl)

pub false_is : (P : Type 0) → (P → ⊥) → IsTrue false ↔ P
false_is P n = (λ h. cc, λ p. absurd (n p))

pub some_from : {X : Type 0} (P : X → Type 0) (xs : List X) (x : X) → Contains xs x → P x → SomeOf P xs
some_from P xs x h p = record { item = x; within = h; holds = p }

pub some_left : {X : Type 0} (P : X → Type 0) (xs ys : List X) → SomeOf P xs → SomeOf P (xs ++ ys)
some_left P xs ys s = record { item = s.item; within = Contains-append_left xs ys s.item s.within; holds = s.holds }

pub some_right : {X : Type 0} (P : X → Type 0) (xs ys : List X) → SomeOf P ys → SomeOf P (xs ++ ys)
some_right P xs ys s = record { item = s.item; within = Contains-append_right xs ys s.item s.within; holds = s.holds }

pub some_either : {X : Type 0} (P : X → Type 0) (xs ys : List X) → SomeOf P (xs ++ ys) → SomeOf P xs ⊎ SomeOf P ys
some_either P xs ys s = ⊎_elim (λ k. inl (some_from P xs s.item k s.holds)) (λ k. inr (some_from P ys s.item k s.holds)) (Contains-append_cases xs ys s.item s.within)

pub some_tail : {X : Type 0} (P : X → Type 0) (x : X) (xs : List X) → SomeOf P xs → SomeOf P (x ∷ xs)
some_tail P x xs s = record { item = s.item; within = Contains-there x xs s.item s.within; holds = s.holds }

pub some_cons : {X : Type 0} (P : X → Type 0) (x : X) (xs : List X) → SomeOf P (x ∷ xs) → P x ⊎ SomeOf P xs
some_cons P x xs s = ⊎_elim (λ e. inl (subst P (sym e) s.holds)) (λ k. inr (some_from P xs s.item k s.holds)) (Contains-cons_cases x xs s.item s.within)

pub map_to : {X Y : Type 0} (P : Y → Type 0) (f : X → Y) (xs : List X) → SomeOf P (map f xs) → SomeOf (λ x. P (f x)) xs
map_to P f [] s = absurd (Contains-nil s.item s.within)
map_to P f (x ∷ xs) s = ⊎_elim (λ p. some_from (λ x. P (f x)) (x ∷ xs) x (Contains-here x xs) p) (λ k. some_tail (λ x. P (f x)) x xs (map_to P f xs k)) (some_cons P (f x) (map f xs) s)

pub map_from : {X Y : Type 0} (P : Y → Type 0) (f : X → Y) (xs : List X) → SomeOf (λ x. P (f x)) xs → SomeOf P (map f xs)
map_from P f [] s = absurd (Contains-nil s.item s.within)
map_from P f (x ∷ xs) s = ⊎_elim (λ p. some_from P (f x ∷ map f xs) (f x) (Contains-here (f x) (map f xs)) p) (λ k. some_tail P (f x) (map f xs) (map_from P f xs k)) (some_cons (λ x. P (f x)) x xs s)

pub flat_to : {X Y : Type 0} (P : Y → Type 0) (f : X → List Y) (xs : List X) → SomeOf P (flat_map f xs) → SomeOf (λ x. SomeOf P (f x)) xs
flat_to P f [] s = absurd (Contains-nil s.item s.within)
flat_to P f (x ∷ xs) s = ⊎_elim (λ p. some_from (λ x. SomeOf P (f x)) (x ∷ xs) x (Contains-here x xs) p) (λ k. some_tail (λ x. SomeOf P (f x)) x xs (flat_to P f xs k)) (some_either P (f x) (flat_map f xs) s)

pub flat_from : {X Y : Type 0} (P : Y → Type 0) (f : X → List Y) (xs : List X) → SomeOf (λ x. SomeOf P (f x)) xs → SomeOf P (flat_map f xs)
flat_from P f [] s = absurd (Contains-nil s.item s.within)
flat_from P f (x ∷ xs) s = ⊎_elim (λ p. some_left P (f x) (flat_map f xs) p) (λ k. some_right P (f x) (flat_map f xs) (flat_from P f xs k)) (some_cons (λ x. SomeOf P (f x)) x xs s)

-- the test after the first i items
pub test_true : {X : Type 0} (P : X → Type 0) (xs : List X) (b : Bool) (i : ℕ) (x : X) → b ≡ true → IsTrue b ↔ P x → i < length xs → x ≡ get_or xs i x → IsTrue true ↔ SomeOf P xs
test_true P xs b i x e h l is = true_is (SomeOf P xs) (some_from P xs x (item_in xs i x l is) (h.0 e))

pub test_false : {X : Type 0} (P : X → Type 0) (xs : List X) (b : Bool) (i : ℕ) (x : X) → b ≡ false → IsTrue b ↔ P x → i < length xs → x ≡ get_or xs i x → NoneOf P (take i xs) → NoneOf P (take (i + 1) xs)
test_false P xs b i x e h l is n = none_more P xs i x l is n (λ p. let yes = h.1 p in cc)

pub test_end : {X : Type 0} (P : X → Type 0) (xs : List X) (i : ℕ) → length xs ≤ i → NoneOf P (take i xs) → IsTrue false ↔ SomeOf P xs
test_end P xs i l n = false_is (SomeOf P xs) (none_all P xs i l n)

-- where the first list has none
pub either_is : {X : Type 0} (P : X → Type 0) (xs ys : List X) (a b : Bool) → a ≡ false → IsTrue a ↔ SomeOf P xs → IsTrue b ↔ SomeOf P ys → IsTrue b ↔ SomeOf P (xs ++ ys)
either_is P xs ys a b e h k =
    (λ t. some_right P xs ys (k.0 t), λ s. ⊎_elim (λ l. let yes = h.1 l in cc) (λ r. k.1 r) (some_either P xs ys s))
