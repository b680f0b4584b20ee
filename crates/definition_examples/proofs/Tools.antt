-- Short names for the parts of small examples.
use Rattle.std.specs.Prelude.{◌≡◌, ℕ, List, [], ◌∷◌, All, ⊤}
use Rattle.std.specs.List.Sorted.{IsStrictlySortedBy}
use Rattle.std.proofs.Common.{subst, inl, inr}
use Rattle.std.proofs.lemmas.List.Elements.{All-nil, All-cons, All-head, All-tail}
use Rattle.std.specs.declared.cmp.Ordering.{Ordering}
use Rattle.sd_value.specs.Members.{IsOneOf, IsOneOf-from_Contains, Contains-from_IsOneOf}
use Rattle.sd_value.specs.Ascending.{ListsExactly}
use Rattle.sd_value.specs.declared.Value.{Value}
use Rattle.graph_spec.specs.DataGraph.{DataGraph, Name, HasEdge}
use Rattle.graph_spec.specs.Walk.{Walk}
use Rattle.query_spec.specs.Mentions.{same_name}
use Rattle.std.specs.Prelude.{false, ◌≢◌}
use Rattle.std.specs.Ordering.{is_eq}
use Rattle.std.proofs.lemmas.Cmp.{tied_itself}
use Rattle.sd_value.specs.Order.{bytes_cmp}
use Rattle.sd_value.specs.OrderLaws.{bytes_cmp-total}
use Rattle.std.proofs.Common.{sym, ap, ◌∙◌}
use mathlib.Core.Bool.{true≢false}

-- each element of a list that is written out has the property
abbrev pub Each : {X : Type 0} → (X → Type 0) → List X → Type 0
Each P [] = ⊤
Each P (x ∷ xs) = P x × Each P xs

pub each-at : {X : Type 0} (P : X → Type 0) (xs : List X) → Each P xs → (x : X) → IsOneOf xs x → P x
each-at P [] h x m = absurd m
each-at P (y ∷ ys) h x (inl e) = subst P e h.0
each-at P (y ∷ ys) h x (inr m) = each-at P ys h.1 x m

pub listed : {X : Type 0} (R : X → X → Ordering) (P : X → Type 0) (xs : List X)
    → IsStrictlySortedBy R xs → Each P xs → ((x : X) → P x → IsOneOf xs x) → ListsExactly R P xs
listed R P xs up all only = record {
  ascending = up;
  sound = λ x m. each-at P xs all x (IsOneOf-from_Contains xs x m);
  complete = λ x p. Contains-from_IsOneOf xs x (only x p);
}

pub all : {X : Type 0} (P : X → Type 0) (xs : List X) → Each P xs → All P xs
all P [] h = All-nil P
all P (x ∷ xs) h = All-cons P x xs h.0 (all P xs h.1)

pub each : {X : Type 0} (P : X → Type 0) (xs : List X) → All P xs → Each P xs
each P [] h = tt
each P (x ∷ xs) h = (All-head P x xs h, each P xs (All-tail P x xs h))

-- two names that are written out, and whose test computes to `false`
pub names_differ : (x y : Name) → same_name x y ≡ false → x ≢ y
names_differ x y unlike e = true≢false (sym (ap is_eq (tied_itself bytes_cmp-total x)) ∙ ap (λ z. is_eq (bytes_cmp x z)) e ∙ unlike)

pub HasEdge-at : (G : DataGraph) {u u' v v' : Value} {l l' : Name} → u ≡ u' → l ≡ l' → v ≡ v' → HasEdge G u l v → HasEdge G u' l' v'
HasEdge-at G {u} {u'} {v} {v'} {l} {l'} e f g h = subst (λ z. HasEdge G z l' v') e (subst (λ z. HasEdge G u z v') f (subst (λ z. HasEdge G u l z) g h))

pub Walk-at : (G : DataGraph) {u u' v v' : Value} {w w' : List (List ℕ)} → u ≡ u' → w ≡ w' → v ≡ v' → Walk G u w v → Walk G u' w' v'
Walk-at G {u} {u'} {v} {v'} {w} {w'} e f g h = subst (λ z. Walk G z w' v') e (subst (λ z. Walk G u z v') f (subst (λ z. Walk G u w z) g h))
