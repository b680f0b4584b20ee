-- The cycle that P() runs into is named by Q(), the first page that comes again.
use Rattle.std.specs.Prelude.{◌≡◌, [], ◌∷◌, None, Contains}
use Rattle.std.specs.List.Sorted.{IsStrictlySortedBy}
use Rattle.std.proofs.Common.{refl, sym, ap, subst, inl, inr, lit<, ◌∙◌}
use Rattle.sd_value.specs.declared.Value.{Value}
use Rattle.sd_value.specs.declared.Value.TheVariants.{Data, Page}
use Rattle.sd_value.specs.Members.{IsOneOf, IsOneOf-from_Contains}
use Rattle.sd_value.specs.Ascending.{ListsExactly}
use Rattle.graph_spec.specs.DataGraph.{Name}
use Rattle.page_spec.specs.declared.Keyed.{Keyed}
use Rattle.page_spec.specs.declared.Outcome.TheVariants.{Cyclic}
use Rattle.page_spec.specs.Site.{InRange, HasPlaces, row_cmp}
use Rattle.page_spec.specs.Pieces.{embed, HasTemplate, Pieces}
use Rattle.page_spec.specs.Page.{Embeds, nowhere, on, Loops, FirstLooping, again, later, IsCyclicAt, IsOutcome}
use Rattle.page_spec.proofs.Texts.{cyclic_unique}
use Rattle.definition_examples.proofs.Tools.{listed, names_differ}
use Rattle.definition_examples.specs.Cycle.{p, q, r, e, term, page, edges, site, ends, templates}

abbrev function_of : Value → Name
function_of (Page t) = t.function
function_of (Data d) = []

Only : Value → Value → Type 0
Only n m = (v : Value) → site.edge n e v → v ≡ m

from_p : Only (page p) (page q)
unfolding Only
from_p v h =
    elim (IsOneOf-from_Contains edges (page p, v) h.1) [
      | inl k ↦ ap (λ (z : Value × Value). z.1) (sym k)
      | inr (inl k) ↦ absurd (names_differ q p refl (ap (λ (z : Value × Value). function_of z.0) k))
      | inr (inr (inl k)) ↦ absurd (names_differ r p refl (ap (λ (z : Value × Value). function_of z.0) k))
      | inr (inr (inr k)) ↦ absurd k
    ]

from_q : Only (page q) (page r)
unfolding Only
from_q v h =
    elim (IsOneOf-from_Contains edges (page q, v) h.1) [
      | inl k ↦ absurd (names_differ p q refl (ap (λ (z : Value × Value). function_of z.0) k))
      | inr (inl k) ↦ ap (λ (z : Value × Value). z.1) (sym k)
      | inr (inr (inl k)) ↦ absurd (names_differ r q refl (ap (λ (z : Value × Value). function_of z.0) k))
      | inr (inr (inr k)) ↦ absurd k
    ]

from_r : Only (page r) (page q)
unfolding Only
from_r v h =
    elim (IsOneOf-from_Contains edges (page r, v) h.1) [
      | inl k ↦ absurd (names_differ p r refl (ap (λ (z : Value × Value). function_of z.0) k))
      | inr (inl k) ↦ absurd (names_differ q r refl (ap (λ (z : Value × Value). function_of z.0) k))
      | inr (inr (inl k)) ↦ ap (λ (z : Value × Value). z.1) (sym k)
      | inr (inr (inr k)) ↦ absurd k
    ]

abbrev Fits : Value → Keyed → Type 0
Fits n z = InRange site record { here = n; loops = [] } ends z.value × HasPlaces site [] z.value z.places

abbrev keyed : Value → Keyed
keyed m = record { places = []; value = m }

is_row : (y z : Keyed) → y.places ≡ z.places → y.value ≡ z.value → y ≡ z
is_row y z h g = λ i. record { places = h i; value = g i }

only_row : (n m : Value) → Only n m → (z : Keyed) → Fits n z → IsOneOf (keyed m ∷ []) z
unfolding Only
only_row n m one z ((u, starts, (v, step, is)), key) =
    let at : site.edge n e v = subst (λ w. site.edge w e v) (sym starts) step in
    inl (is_row (keyed m) z (sym key) (sym (one v at) ∙ is))

one_row : (n m : Value) → site.edge n e m → Only n m → ListsExactly row_cmp (Fits n) (keyed m ∷ [])
unfolding IsStrictlySortedBy
one_row n m step one = listed row_cmp (Fits n) (keyed m ∷ []) (tt, tt) (((n, refl, (m, step, refl)), refl), tt) (only_row n m one)

one_piece : (n m : Value) → HasTemplate site templates n 0 → HasTemplate site templates m 0 → site.edge n e m → Only n m → Pieces site templates n (embed m ∷ [])
one_piece n m has has' step one =
    (0, has, (m ∷ [], embed m ∷ [], [], (keyed m ∷ [], one_row n m step one, refl), inl (0, has', refl), refl, refl))

has_p : HasTemplate site templates (page p) 0
has_p = inl (refl, refl)

has_q : HasTemplate site templates (page q) 0
has_q = inr (names_differ p q refl, inl (refl, refl))

has_r : HasTemplate site templates (page r) 0
has_r = inr (names_differ p r refl, inr (names_differ q r refl, inl (refl, refl)))

of_p : Pieces site templates (page p) (embed (page q) ∷ [])
of_p = one_piece (page p) (page q) has_p has_q (refl, (0, lit< tt, refl)) from_p

of_q : Pieces site templates (page q) (embed (page r) ∷ [])
of_q = one_piece (page q) (page r) has_q has_r (refl, (1, lit< tt, refl)) from_q

of_r : Pieces site templates (page r) (embed (page q) ∷ [])
of_r = one_piece (page r) (page q) has_r has_q (refl, (2, lit< tt, refl)) from_r

p_embeds : Embeds site templates (page p) (page q)
p_embeds = (embed (page q) ∷ [], of_p, (0, lit< tt, refl))

q_embeds : Embeds site templates (page q) (page r)
q_embeds = (embed (page r) ∷ [], of_q, (0, lit< tt, refl))

r_embeds : Embeds site templates (page r) (page q)
r_embeds = (embed (page q) ∷ [], of_r, (0, lit< tt, refl))

loops_p : Loops site templates (page p)
loops_p = (page q, page r, on p_embeds nowhere, q_embeds, on r_embeds nowhere)

loops_q : Loops site templates (page q)
loops_q = (page q, page r, nowhere, q_embeds, on r_embeds nowhere)

loops_r : Loops site templates (page r)
loops_r = (page r, page q, nowhere, r_embeds, on q_embeds nowhere)

after_p : FirstLooping site templates (page p) (page q)
after_p = (embed (page q) ∷ [], of_p, inl (loops_q, refl))

after_q : FirstLooping site templates (page q) (page r)
after_q = (embed (page r) ∷ [], of_q, inl (loops_r, refl))

after_r : FirstLooping site templates (page r) (page q)
after_r = (embed (page q) ∷ [], of_r, inl (loops_q, refl))

unseen_q : Contains (page p ∷ []) (page q) → ⊥
unseen_q h = elim (IsOneOf-from_Contains (page p ∷ []) (page q) h) [ inl k ↦ names_differ p q refl (ap function_of k) | inr none ↦ none ]

unseen_r : Contains (page q ∷ page p ∷ []) (page r) → ⊥
unseen_r h =
    elim (IsOneOf-from_Contains (page q ∷ page p ∷ []) (page r) h) [
      | inl k ↦ names_differ q r refl (ap function_of k)
      | inr (inl k) ↦ names_differ p r refl (ap function_of k)
      | inr (inr none) ↦ none
    ]

named_by_q : IsCyclicAt site templates (page p) (page q)
named_by_q = later (IsOneOf-from_Contains [] (page p)) after_p (later unseen_q after_q (later unseen_r after_r (again (1, lit< tt, refl))))

pub cyclic_at_q : IsOutcome site templates (term p) (Cyclic (page q))
cyclic_at_q = (((0, lit< tt, refl), (0, has_p)), loops_p, named_by_q)

pub not_at_p : IsOutcome site templates (term p) (Cyclic (page p)) → ⊥
not_at_p h = names_differ q p refl (ap function_of (cyclic_unique site templates (page p) (page q) (page p) named_by_q h.2))
