-- A value without a key stands after those that have one; how many values there are, and the first of them.
use Rattle.std.specs.Prelude.{◌≡◌, ◌⊎◌, Bool, true, false, List, [], ◌∷◌, Some, None, codes}
use Rattle.std.specs.Fmt.{digits}
use Rattle.std.specs.List.Sorted.{IsStrictlySortedBy}
use Rattle.std.specs.declared.cmp.Ordering.TheVariants.{Less, Greater}
use Rattle.std.proofs.Common.{refl, sym, ap, subst, inl, inr, lit<, ◌∙◌}
use Rattle.sd_value.specs.declared.Datum.TheVariants.{Node}
use Rattle.sd_value.specs.declared.Value.{Value}
use Rattle.sd_value.specs.declared.Value.TheVariants.{Data, Page}
use Rattle.sd_value.specs.Order.{value_cmp, datum_cmp}
use Rattle.sd_value.specs.OrderLaws.{value_cmp-total}
use Rattle.std.proofs.lemmas.Cmp.{tied_itself}
use Rattle.sd_value.specs.Members.{IsOneOf, IsOneOf-from_Contains}
use Rattle.sd_value.specs.Ascending.{ListsExactly}
use Rattle.graph_spec.specs.declared.Edge.{Edge}
use Rattle.graph_spec.specs.DataGraph.{Name, node, HasEdge}
use Rattle.page_spec.specs.declared.Keyed.{Keyed}
use Rattle.page_spec.specs.declared.Place.TheVariants.{Last}
use Rattle.tmpl.specs.declared.SortKey.{SortKey}
use Rattle.page_spec.specs.Site.{InRange, HasKey, HasPlaces, place, row_cmp, Arranged}
use Rattle.page_spec.specs.Pieces.{bytes, Expands}
use Rattle.page_spec.proofs.Unique.{places_unique}
use Rattle.tmpl.specs.Body.{done, count}
use Rattle.definition_examples.specs.Tools.{edge}
use Rattle.definition_examples.proofs.Tools.{listed, names_differ}
use Rattle.definition_examples.specs.Bibliography.{int}
use Rattle.definition_examples.specs.Keys.{a, b, c, e, k, graph, site, at_a, ends, ascending, descending, downwards, up_to, no_templates}

edges_are : (u : Value) (l : Name) (v : Value) → HasEdge graph u l v
    → ((u ≡ node a) × (l ≡ e) × (v ≡ node b)) ⊎ (((u ≡ node a) × (l ≡ e) × (v ≡ node c)) ⊎ ((u ≡ node c) × (l ≡ k) × (v ≡ int 5)))
edges_are (Data (Node n)) l v h =
    elim (IsOneOf-from_Contains graph.edges (edge n l v) h) [
      | inl h ↦ inl (ap (λ (z : Edge). node z.from) (sym h), ap (λ (z : Edge). z.label) (sym h), ap (λ (z : Edge). z.to) (sym h))
      | inr (inl h) ↦ inr (inl (ap (λ (z : Edge). node z.from) (sym h), ap (λ (z : Edge). z.label) (sym h), ap (λ (z : Edge). z.to) (sym h)))
      | inr (inr (inl h)) ↦ inr (inr (ap (λ (z : Edge). node z.from) (sym h), ap (λ (z : Edge). z.label) (sym h), ap (λ (z : Edge). z.to) (sym h)))
      | inr (inr (inr h)) ↦ absurd h
    ]
edges_are (Data d) l v h = absurd h
edges_are (Page t) l v h = absurd h

by_k : (u v : Value) → HasEdge graph u k v → (u ≡ node c) × (v ≡ int 5)
by_k u v h =
    elim (edges_are u k v h) [
      | inl h ↦ absurd (names_differ k e refl h.1)
      | inr (inl h) ↦ absurd (names_differ k e refl h.1)
      | inr (inr h) ↦ (h.0, h.2)
    ]

abbrev name_of : Value → Name
name_of (Data (Node n)) = n
name_of v = []

b_has_none : HasKey site (Some (k ∷ [])) (node b) None
b_has_none u h = names_differ b c refl (ap name_of ((by_k (node b) h.0 h.1).0))

c_has_5 : HasKey site (Some (k ∷ [])) (node c) (Some (int 5))
c_has_5 = (
  (int 5, (2, lit< tt, refl), refl),
  λ u h above. let is : u ≡ int 5 = sym h.2 ∙ (by_k (node c) h.0 h.1).1 in
      let same = tied_itself value_cmp-total (int 5) in
      let order : value_cmp (int 5) (int 5) ≡ Greater = subst (λ z. value_cmp (int 5) z ≡ Greater) is above in
      cc,
)

-- KEY=k, and with DESCEND
abbrev key : Bool → SortKey
key d = record { word = k ∷ []; fold = false; descend = d }

b_places : (d : Bool) → HasPlaces site (key d ∷ []) (node b) (Last ∷ [])
b_places d = (None, [], b_has_none, refl, refl)

c_places : (d : Bool) → HasPlaces site (key d ∷ []) (node c) (place d (int 5) ∷ [])
c_places d = (Some (int 5), [], c_has_5, refl, refl)

abbrev Fits : Bool → Keyed → Type 0
Fits d r = InRange site at_a ends r.value × HasPlaces site (key d ∷ []) r.value r.places

abbrev with_key : Bool → Keyed
with_key d = record { places = place d (int 5) ∷ []; value = node c }

abbrev without : Keyed
without = record { places = Last ∷ []; value = node b }

abbrev rows : Bool → List Keyed
rows d = with_key d ∷ without ∷ []

is_row : (r s : Keyed) → r.places ≡ s.places → r.value ≡ s.value → r ≡ s
is_row r s h g = λ i. record { places = h i; value = g i }

only : (d : Bool) (r : Keyed) → Fits d r → IsOneOf (rows d) r
only d r ((u, starts, (m, step, is)), at) =
    elim (edges_are u e m step) [
      | inl h ↦ let value : r.value ≡ node b = sym is ∙ h.2 in
          inr (inl (is_row without r (sym (places_unique site (key d ∷ []) (node b) r.places (Last ∷ []) (subst (λ z. HasPlaces site (key d ∷ []) z r.places) value at) (b_places d))) (sym value)))
      | inr (inl h) ↦ let value : r.value ≡ node c = sym is ∙ h.2 in
          inl (is_row (with_key d) r (sym (places_unique site (key d ∷ []) (node c) r.places (place d (int 5) ∷ []) (subst (λ z. HasPlaces site (key d ∷ []) z r.places) value at) (c_places d))) (sym value))
      | inr (inr h) ↦ absurd (names_differ e k refl h.1)
    ]

below : (d : Bool) → row_cmp (with_key d) without ≡ Less
below false = refl
below true = refl

rows_are : (d : Bool) → ListsExactly row_cmp (Fits d) (rows d)
unfolding IsStrictlySortedBy
rows_are d =
    listed row_cmp (Fits d) (rows d) ((below d, tt), (tt, tt))
    (((node a, refl, (node c, (1, lit< tt, refl), refl)), c_places d), (((node a, refl, (node b, (0, lit< tt, refl), refl)), b_places d), tt)) (only d)

pub last_ascending : Arranged site at_a ends ascending (node c ∷ node b ∷ [])
last_ascending = (rows false, rows_are false, refl)

pub first_descending : Arranged site at_a ends descending (node b ∷ node c ∷ [])
first_descending = (rows false, rows_are false, refl)

pub last_downwards : Arranged site at_a ends downwards (node c ∷ node b ∷ [])
last_downwards = (rows true, rows_are true, refl)

pub first_alone : Arranged site at_a ends (up_to 1) (node c ∷ [])
first_alone = (rows false, rows_are false, refl)

pub limit_past_all : Arranged site at_a ends (up_to 3) (node c ∷ node b ∷ [])
limit_past_all = (rows false, rows_are false, refl)

abbrev values : List Value
values = node b ∷ node c ∷ []

only_value : (v : Value) → InRange site at_a ends v → IsOneOf values v
only_value v (u, starts, (m, step, is)) =
    elim (edges_are u e m step) [
      | inl h ↦ inl (sym h.2 ∙ is)
      | inr (inl h) ↦ inr (inl (sym h.2 ∙ is))
      | inr (inr h) ↦ absurd (names_differ e k refl h.1)
    ]

values_are : ListsExactly value_cmp (InRange site at_a ends) values
unfolding IsStrictlySortedBy value_cmp datum_cmp
values_are =
    listed value_cmp (InRange site at_a ends) values ((refl, tt), (tt, tt))
    ((node a, refl, (node b, (0, lit< tt, refl), refl)), ((node a, refl, (node c, (1, lit< tt, refl), refl)), tt)) only_value

pub two_of_them : Expands site no_templates at_a (count ends done) (bytes (codes "2"))
unfolding digits
two_of_them = (values, [], values_are, refl, refl)
