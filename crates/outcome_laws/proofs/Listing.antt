-- What of a site can be listed, and so the values of each expression of a template.
use Rattle.std.proofs.Common.{◌≡◌, ℕ, Bool, true, false, List, [], ◌∷◌, ◌++◌, map, inl, inr, refl, ap, subst}
use Rattle.std.specs.Prelude.{Contains, Option, Some, None, reverse, if◌then◌else◌}
use Rattle.std.specs.declared.cmp.Ordering.{Ordering}
use Rattle.std.specs.declared.cmp.Ordering.TheVariants.{Greater}
use Rattle.std.specs.Cmp.{IsTotalOrder}
use Rattle.std.specs.FinMap.{IsAntisymmetric}
use Rattle.std.specs.List.Sorted.{IsStrictlySortedBy}
use Rattle.std.proofs.lemmas.Cmp.{tied_itself}
use Rattle.std.proofs.lemmas.List.{reverse-reverse}
use Rattle.std.proofs.lemmas.List.Sorted.{Contains-permutation, IsPermutation-reverse}
use Rattle.sd_value.specs.Names.{Name, Label, Word}
use Rattle.sd_value.specs.Order.{bytes_cmp, value_cmp}
use Rattle.sd_value.specs.OrderLaws.{bytes_cmp-total, bytes_cmp-exact, value_cmp-total, value_cmp-exact}
use Rattle.sd_value.specs.Ascending.{ListsExactly}
use Rattle.sd_value.specs.AscendingLaws.{head_below}
use Rattle.sd_value.specs.Members.{Contains-nil, Contains-cons_cases, Contains-here, Contains-map}
use Rattle.sd_value.specs.declared.Value.{Value}
use Rattle.sd_graph.specs.Gathered.{insert_all}
use Rattle.sd_graph.proofs.Gathering.{all_inserted-ascends, all_inserted-cases, all_inserted-here}
use Rattle.tmpl.specs.declared.Expr.{Expr}
use Rattle.tmpl.specs.declared.Order.{Order}
use Rattle.tmpl.specs.declared.WordRoot.{WordRoot}
use Rattle.tmpl.specs.declared.WordRoot.TheVariants.{Here, Loop, Collection}
use Rattle.page_spec.specs.declared.Bound.{Bound}
use Rattle.page_spec.specs.declared.Keyed.{Keyed}
use Rattle.page_spec.specs.declared.Place.{Place}
use Rattle.key_spec.specs.Keys.{folded_text, folded_cmp}
use Rattle.key_spec.specs.KeyLaws.{folded_total, folded_exact}
use Rattle.tmpl.specs.declared.SortKey.{SortKey}
use Rattle.page_spec.specs.KeyLaws.{row_cmp_total, row_same}
use Rattle.page_spec.specs.Site.{Site, IsBound, Env, row_cmp, Reaches, Starts, InRange, IsLeast, HasKey, Arranged}
use Rattle.page_spec.specs.Site.{values_of_rows, limited, places, HasPlaces}
use Rattle.page_spec.proofs.Unique.{places_unique, limited_in}
use Rattle.site_graphs.proofs.Decide.{Dec, yes, no, dec_not, dec_same, dec_nat}
use Rattle.site_graphs.proofs.Lists.{AllOf, all_none, all_one, all_as, all_either, all_from}
use Rattle.site_graphs.proofs.Sites.{Joint, Named}

-- a site whose terms, edges and collected values are those of lists, and whose members are decided
pub record IsListed (site : Site) : Type 0 where
  pub terms : AllOf site.has
  pub edges : AllOf (λ (j : Joint). site.edge j.from j.label j.to)
  pub collected : AllOf (λ (m : Named). site.collected m.collection m.value)
  pub member : (c n : Name) → Dec (site.member c n)

pub same_name : (a b : Name) → Dec (a ≡ b)
same_name = dec_same bytes_cmp bytes_cmp-total bytes_cmp-exact

pub same_value : (a b : Value) → Dec (a ≡ b)
same_value = dec_same value_cmp value_cmp-total value_cmp-exact

-- all that has P where D holds, and else nothing
all_if : {X : Type 0} (D : Type 0) (P : X → Type 0) → Dec D → AllOf P → AllOf (λ x. D × P x)
all_if D P (yes d) all = all_as P (λ x. D × P x) (λ x p. (d, p)) (λ x h. h.1) all
all_if D P (no n) all = all_none (λ x. D × P x) (λ x h. n h.0)

-- ---- the ascending list of all that has P

module _ {X : Type 0} (R : X → X → Ordering) (total : IsTotalOrder R) (exact : IsAntisymmetric R) where
  nothing_ascends : IsStrictlySortedBy R []
  unfolding IsStrictlySortedBy
  nothing_ascends = tt

  in_order : (P : X → Type 0) → AllOf P → (xs : List X) × ListsExactly R P xs
  in_order P all = (
    insert_all R [] all.items,
    record {
      ascending = all_inserted-ascends total exact [] all.items nothing_ascends;
      sound = λ x h. elim (all_inserted-cases R [] all.items x h)
          [ inl none ↦ absurd (Contains-nil x none) | inr h ↦ all.sound x h ];
      complete = λ x p. all_inserted-here total exact [] all.items x (all.complete x p);
    },
  )

-- a list of things, and the least of these where there are any
module _ {X : Type 0} (R : X → X → Ordering) (total : IsTotalOrder R) where
  abbrev IsLeastOf : (X → Type 0) → Option X → Type 0
  IsLeastOf P None = (u : X) → P u → ⊥
  IsLeastOf P (Some k) = P k × ((u : X) → P u → R k u ≡ Greater → ⊥)

  least : (P : X → Type 0) (xs : List X) → ListsExactly R P xs → (k : Option X) × IsLeastOf P k
  least P [] l = (None, λ u p. Contains-nil u (l.complete u p))
  least P (x ∷ xs) l = (
    Some x,
    (
      l.sound x (Contains-here x xs),
      λ u p over. elim (Contains-cons_cases x xs u (l.complete u p)) [
        | inl same ↦
            let tied = tied_itself total x in
            let at : R x x ≡ R x u = ap (R x) same in
            cc
        | inr later ↦ let below = head_below total x xs l.ascending u later in cc
      ],
    ),
  )

turned_back : {X : Type 0} (descend : Bool) (xs : List X) (x : X) → Contains (if descend then reverse xs else xs) x
    → Contains xs x
turned_back true xs x h =
    subst (λ l. Contains l x) (reverse-reverse xs)
    (Contains-permutation (reverse xs) (reverse (reverse xs)) x (IsPermutation-reverse (reverse xs)) h)
turned_back false xs x h = h

module _ (site : Site) (listed : IsListed site) where
  -- ---- where edges and words lead

  all_ends : (u : Value) (l : Label) → AllOf (site.edge u l)
  all_ends u l =
      all_as
      (λ (v : Value). (j : Joint) × site.edge j.from j.label j.to × ((j.from ≡ u) × ((j.label ≡ l) × (j.to ≡ v))))
      (site.edge u l)
      (λ v h. subst (site.edge u l) h.2.1.1
      (subst (λ (x : Label). site.edge u x h.0.to) h.2.1.0
      (subst (λ (x : Value). site.edge x h.0.label h.0.to) h.2.0 h.1)))
      (λ v h. (record { from = u; label = l; to = v }, h, (refl, (refl, refl))))
      (all_from (λ (j : Joint). site.edge j.from j.label j.to)
      (λ (j : Joint) (v : Value). (j.from ≡ u) × ((j.label ≡ l) × (j.to ≡ v)))
      listed.edges
      (λ j. all_if (j.from ≡ u) (λ (v : Value). (j.label ≡ l) × (j.to ≡ v)) (same_value j.from u)
      (all_if (j.label ≡ l) (λ (v : Value). j.to ≡ v) (same_name j.label l)
      (all_one j.to (λ (v : Value). j.to ≡ v) refl (λ v e. e)))))

  all_reached : (u : Value) (word : Word) → AllOf (Reaches site u word)
  all_reached u [] = all_one u (λ (v : Value). u ≡ v) refl (λ v e. e)
  all_reached u (l ∷ word) =
      all_from (site.edge u l) (λ (m v : Value). Reaches site m word v) (all_ends u l) (λ m. all_reached m word)

  -- ---- the values of an expression

  all_collected_in : (c : Name) → AllOf (site.collected c)
  all_collected_in c =
      all_as (λ (v : Value). (m : Named) × site.collected m.collection m.value × ((m.collection ≡ c) × (m.value ≡ v)))
      (site.collected c)
      (λ v h. subst (site.collected c) h.2.1 (subst (λ (x : Name). site.collected x h.0.value) h.2.0 h.1))
      (λ v h. (record { collection = c; value = v }, h, (refl, refl)))
      (all_from (λ (m : Named). site.collected m.collection m.value)
      (λ (m : Named) (v : Value). (m.collection ≡ c) × (m.value ≡ v))
      listed.collected
      (λ m. all_if (m.collection ≡ c) (λ (v : Value). m.value ≡ v) (same_name m.collection c)
      (all_one m.value (λ (v : Value). m.value ≡ v) refl (λ v e. e))))

  all_bound : (bs : List Bound) (k : ℕ) → AllOf (IsBound bs k)
  all_bound [] k = all_none (λ (v : Value). ⊥) (λ v h. h)
  all_bound (b ∷ bs) k =
      all_either (λ (v : Value). (b.number ≡ k) × (b.value ≡ v)) (λ (v : Value). (b.number ≡ k → ⊥) × IsBound bs k v)
      (all_if (b.number ≡ k) (λ (v : Value). b.value ≡ v) (dec_nat b.number k)
      (all_one b.value (λ (v : Value). b.value ≡ v) refl (λ v e. e)))
      (all_if (b.number ≡ k → ⊥) (IsBound bs k) (dec_not (dec_nat b.number k)) (all_bound bs k))

  all_starts : (e : Env) (r : WordRoot) → AllOf (Starts site e r)
  all_starts e Here = all_one e.here (λ (v : Value). e.here ≡ v) refl (λ v h. h)
  all_starts e (Loop k) = all_bound e.loops k
  all_starts e (Collection c) = all_collected_in c

  pub all_in_range : (e : Env) (x : Expr) → AllOf (InRange site e x)
  all_in_range e x =
      all_from (Starts site e x.root) (λ (u v : Value). Reaches site u x.word v) (all_starts e x.root)
      (λ u. all_reached u x.word)

  pub values_of : (e : Env) (x : Expr) → (vs : List Value) × ListsExactly value_cmp (InRange site e x) vs
  values_of e x = in_order value_cmp value_cmp-total value_cmp-exact (InRange site e x) (all_in_range e x)

  -- ---- keys, and the values in their order

  -- the least value that a word reaches
  least_of : (fold : Bool) (word : Word) (v : Value)
      → (k : Option Value) × IsLeast site (folded_cmp folded_text fold) word v k
  least_of fold word v = by found.0 found.1
    where
      found : (k : Option Value) × IsLeastOf (folded_cmp folded_text fold) (folded_total folded_text fold) (Reaches site v word) k
      found =
          let total = folded_total folded_text fold in
          let l = in_order (folded_cmp folded_text fold) total (folded_exact folded_text fold) (Reaches site v word) (all_reached v word) in
          least (folded_cmp folded_text fold) total (Reaches site v word) l.0 l.1

      by : (k : Option Value) → IsLeastOf (folded_cmp folded_text fold) (folded_total folded_text fold) (Reaches site v word) k
          → (k : Option Value) × IsLeast site (folded_cmp folded_text fold) word v k
      by None h = (None, h)
      by (Some k) h = (Some k, h)

  pub key_of : (word : Option Word) (v : Value) → (k : Option Value) × HasKey site word v k
  key_of None v = (None, refl)
  key_of (Some word) v = least_of false word v

  places_of : (keys : List SortKey) (v : Value) → (ps : List Place) × HasPlaces site keys v ps
  places_of [] v = ([], refl)
  places_of (key ∷ keys) v =
      let one = least_of key.fold key.word v in
      let rest = places_of keys v in
      (places key one.0 ++ rest.0, (one.0, rest.0, one.1, rest.1, refl))

  module _ (e : Env) (x : Expr) (o : Order) where
    keyed : Value → Keyed
    keyed v = record { places = (places_of o.keys v).0; value = v }

    abbrev IsRow : Keyed → Type 0
    IsRow r = InRange site e x r.value × HasPlaces site o.keys r.value r.places

    all_rows : AllOf IsRow
    unfolding keyed
    all_rows =
        all_as (λ (r : Keyed). (v : Value) × InRange site e x v × (keyed v ≡ r))
        IsRow
        (λ r h. subst IsRow h.2 (h.1, (places_of o.keys h.0).1))
        (λ r h. (
          r.value,
          h.0,
          (λ i. record {
            places = places_unique site o.keys r.value (places_of o.keys r.value).0 r.places (places_of o.keys r.value).1 h.1 i;
            value = r.value;
          }),
        ))
        (all_from (InRange site e x) (λ (v : Value) (r : Keyed). keyed v ≡ r) (all_in_range e x)
        (λ v. all_one (keyed v) (λ (r : Keyed). keyed v ≡ r) refl (λ r h. h)))

    -- the expression's values in this order up to its limit, each of which is one of them
    pub arranged : (vs : List Value) × Arranged site e x o vs × ((v : Value) → Contains vs v → InRange site e x v)
    arranged =
        let l = in_order row_cmp row_cmp_total row_same IsRow all_rows in (
          limited o.limit (values_of_rows o l.0),
          (l.0, l.1, refl),
          λ v h.
              let turned = limited_in o.limit (values_of_rows o l.0) v h in
              let r = Contains-map (λ (r : Keyed). r.value) l.0 v
              (turned_back o.descend (map (λ (r : Keyed). r.value) l.0) v turned) in
              subst (InRange site e x) r.1 (l.1.sound r.0 r.2).0,
        )
