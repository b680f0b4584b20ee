-- Tests that decide: joined, and over lists.
use Rattle.std.proofs.Common.{◌≡◌, ◌⊎◌, List, [], ◌∷◌, refl, sym, subst, inl, inr}
use Rattle.std.specs.Prelude.{Bool, true, false, not, ◌&&◌, ◌||◌, Contains, All}
use Rattle.std.specs.Bool.{Decides}
use Rattle.std.specs.List.{list_any, list_all}
use Rattle.std.proofs.lemmas.List.Elements.{All-nil, All-cons, All-head, All-tail}
use Rattle.sd_value.specs.Members.{Contains-nil, Contains-cons_cases, Contains-here, Contains-there}

pub never : {P : Type 0} → (P → ⊥) → Decides false P
never n = (λ t. absurd cc, λ p. absurd (n p))

pub always : {P : Type 0} → P → Decides true P
always p = (λ t. p, λ q. refl)

pub as_well : {P Q : Type 0} (b : Bool) → (P → Q) → (Q → P) → Decides b P → Decides b Q
as_well b to from d = (λ t. to (d.0 t), λ q. d.1 (from q))

and_to : (a b : Bool) → (a && b) ≡ true → (a ≡ true) × (b ≡ true)
and_to true b e = (refl, e)
and_to false b e = absurd cc

and_from : (a b : Bool) → a ≡ true → b ≡ true → (a && b) ≡ true
and_from true b e f = f
and_from false b e f = e

or_to : (a b : Bool) → (a || b) ≡ true → (a ≡ true) ⊎ (b ≡ true)
or_to true b e = inl refl
or_to false b e = inr e

or_from : (a b : Bool) → (a ≡ true) ⊎ (b ≡ true) → (a || b) ≡ true
or_from true b h = refl
or_from false b (inl e) = absurd cc
or_from false b (inr e) = e

not_to : (a : Bool) → not a ≡ true → a ≡ true → ⊥
not_to true e f = cc
not_to false e f = cc

not_from : (a : Bool) → (a ≡ true → ⊥) → not a ≡ true
not_from true n = absurd (n refl)
not_from false n = refl

pub both : {P Q : Type 0} (a b : Bool) → Decides a P → Decides b Q → Decides (a && b) (P × Q)
both a b d e = (λ t. let h = and_to a b t in (d.0 h.0, e.0 h.1), λ p. and_from a b (d.1 p.0) (e.1 p.1))

pub either : {P Q : Type 0} (a b : Bool) → Decides a P → Decides b Q → Decides (a || b) (P ⊎ Q)
either a b d e = (
  λ t. elim (or_to a b t) [ inl h ↦ inl (d.0 h) | inr h ↦ inr (e.0 h) ],
  elim [ inl p ↦ or_from a b (inl (d.1 p)) | inr q ↦ or_from a b (inr (e.1 q)) ],
)

pub denied : {P : Type 0} (a : Bool) → Decides a P → Decides (not a) (P → ⊥)
denied a d = (λ t p. not_to a t (d.1 p), λ n. not_from a (λ t. n (d.0 t)))

pub some_in : {X : Type 0} (f : X → Bool) (P : X → Type 0) (xs : List X) → ((x : X) → Contains xs x → Decides (f x) (P x)) → Decides (list_any f xs) ((x : X) × Contains xs x × P x)
some_in f P [] d = never (λ h. Contains-nil h.0 h.1)
some_in f P (x ∷ xs) d =
    as_well (f x || list_any f xs)
    (elim [ inl p ↦ (x, Contains-here x xs, p) | inr h ↦ (h.0, Contains-there x xs h.0 h.1, h.2) ])
    (λ h. elim (Contains-cons_cases x xs h.0 h.1) [ inl e ↦ inl (subst P (sym e) h.2) | inr rest ↦ inr (h.0, rest, h.2) ])
    (either (f x) (list_any f xs) (d x (Contains-here x xs)) (some_in f P xs (λ y m. d y (Contains-there x xs y m))))

pub every_in : {X : Type 0} (f : X → Bool) (P : X → Type 0) (xs : List X) → ((x : X) → Contains xs x → Decides (f x) (P x)) → Decides (list_all f xs) (All P xs)
every_in f P [] d = always (All-nil P)
every_in f P (x ∷ xs) d =
    as_well (f x && list_all f xs)
    (λ h. All-cons P x xs h.0 h.1)
    (λ h. (All-head P x xs h, All-tail P x xs h))
    (both (f x) (list_all f xs) (d x (Contains-here x xs)) (every_in f P xs (λ y m. d y (Contains-there x xs y m))))

pub some : {X : Type 0} (f : X → Bool) (P : X → Type 0) → ((x : X) → Decides (f x) (P x)) → (xs : List X) → Decides (list_any f xs) ((x : X) × Contains xs x × P x)
some f P d xs = some_in f P xs (λ x m. d x)

pub every : {X : Type 0} (f : X → Bool) (P : X → Type 0) → ((x : X) → Decides (f x) (P x)) → (xs : List X) → Decides (list_all f xs) (All P xs)
every f P d xs = every_in f P xs (λ x m. d x)
