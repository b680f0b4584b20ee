-- What an ORDER adds, and that the graph with it is a data graph.
use Rattle.std.proofs.Common.{◌≡◌, ℕ, ◌+◌, ◌*◌, ◌≤◌, List, [], ◌∷◌, length, arith, refl, ap, sym, subst, inl, inr}
use Rattle.std.specs.Prelude.{◌⊎◌, ◌↔◌, ℤ, Bool, true, false, ◌&&◌, filter, Option, Some, None, Contains}
use Rattle.std.specs.List.{flat_map}
use Rattle.std.proofs.lemmas.List.{length-append}
use Rattle.std.proofs.lemmas.List.Elements.{Contains-append_cases}
use Rattle.std.specs.declared.cmp.Ordering.{Ordering}
use Rattle.std.specs.declared.cmp.Ordering.TheVariants.{Less, Equal, Greater}
use Rattle.std.specs.Ordering.{is_eq}
use Rattle.std.proofs.lemmas.Cmp.{tied_itself}
use Rattle.sd_value.specs.declared.Datum.TheVariants.{Int, Text, Url, File, Node}
use Rattle.sd_value.specs.declared.Value.{Value}
use Rattle.sd_value.specs.declared.Value.TheVariants.{Data, Page}
use Rattle.sd_value.specs.Names.{Label, Word}
use Rattle.sd_value.specs.Order.{bytes_cmp}
use Rattle.sd_value.specs.OrderLaws.{bytes_cmp-exact, bytes_cmp-total}
use Rattle.sd_value.specs.Members.{Contains-nil, Contains-cons_cases, Contains-here, Contains-there, Contains-map, Contains-mapped, Contains-flat_map, Contains-flat_mapped}
use Rattle.graph_spec.specs.declared.Edge.{Edge}
use Rattle.graph_spec.specs.declared.Member.{Member}
use Rattle.graph_spec.specs.Orders.{edge_cmp, edge_cmp-total, edge_cmp-exact}
use Rattle.graph_spec.specs.DataGraph.{DataGraph, Name, node, IsEnd, IsWellFormed, HasEdge}
use Rattle.graph_spec.specs.Walk.{Walk}
use Rattle.order_spec.specs.Order.{Place, position, next, previous, page, Order, same, ends, reached, order_cmp, nodes_in, in_order, edge_to, edges_at, first, edges_along, ordered, all_ordered}
use Rattle.sd_graph.proofs.Gathering.{length-all_inserted, all_inserted-there, all_inserted-cases, all_inserted-ascends}

-- ---- what is added

-- the edge starts at one of the nodes, and ends at one or at a number
pub record IsAmong (P : Name → Type 0) (e : Edge) : Type 0 where
  pub from : P e.from
  pub to : ((m : Name) × P m × (e.to ≡ node m)) ⊎ ((z : ℤ) × (e.to ≡ Data (Int z)))

module _ (P : Name → Type 0) where
  abbrev IfSome : Option Name → Type 0
  IfSome o = (m : Name) → o ≡ Some m → P m

  of_edge_to : (n : Name) (l : Label) (o : Option Name) → P n → IfSome o → (e : Edge) → Contains (edge_to n l o) e → IsAmong P e
  of_edge_to n l None p q e m = absurd (Contains-nil e m)
  of_edge_to n l (Some b) p q e m = elim (Contains-cons_cases (record { from = n; label = l; to = node b }) [] e m) [
    | inl is ↦ subst (IsAmong P) is (record { from = p; to = inl (b, q b refl, refl) })
    | inr none ↦ absurd (Contains-nil e none)
  ]

  of_number : (n : Name) (l : Label) (z : ℤ) → P n → (e : Edge) → Contains (record { from = n; label = l; to = Data (Int z) } ∷ []) e → IsAmong P e
  of_number n l z p e m = elim (Contains-cons_cases (record { from = n; label = l; to = Data (Int z) }) [] e m) [
    | inl is ↦ subst (IsAmong P) is (record { from = p; to = inr (z, refl) })
    | inr none ↦ absurd (Contains-nil e none)
  ]

  of_place : (p : Place) (i : ℕ) (before : Option Name) (n : Name) (after : Option Name) → P n → IfSome before → IfSome after
      → (e : Edge) → Contains (edges_at p i before n after) e → IsAmong P e
  of_place (position l) i before n after h b a e m = of_number n l _ h e m
  of_place (next l) i before n after h b a e m = of_edge_to n l after h a e m
  of_place (previous l) i before n after h b a e m = of_edge_to n l before h b e m
  of_place (page l k) i before n after h b a e m = of_number n l _ h e m

  first_has : (ns : List Name) → ((n : Name) → Contains ns n → P n) → IfSome (first ns)
  first_has [] all m e = cc
  first_has (n ∷ ns) all m e = all m (subst (Contains (n ∷ ns)) (some_is e) (Contains-here n ns))
    where
      some_is : {a b : Name} → Some a ≡ Some b → a ≡ b
      some_is e = cc

  pub of_all : (places : List Place) (i : ℕ) (before : Option Name) (ns : List Name) → IfSome before → ((n : Name) → Contains ns n → P n)
      → (e : Edge) → Contains (edges_along places i before ns) e → IsAmong P e
  of_all places i before [] b all e m = absurd (Contains-nil e m)
  of_all places i before (n ∷ ns) b all e m =
      elim (Contains-append_cases (flat_map (λ p. edges_at p i before n (first ns)) places) (edges_along places (i + 1) (Some n) ns) e m) [
        | inl here ↦ (let at = Contains-flat_map (λ p. edges_at p i before n (first ns)) places e here in
            of_place at.0 i before n (first ns) (all n (Contains-here n ns)) b (first_has ns (λ k c. all k (Contains-there n ns k c))) e at.2)
        | inr later ↦ of_all places (i + 1) (Some n) ns (λ k is. subst P (some_is is) (all n (Contains-here n ns))) (λ k c. all k (Contains-there n ns k c)) e later
      ]
    where
      some_is : {a b : Name} → Some a ≡ Some b → a ≡ b
      some_is e = cc

-- ---- how much is added

edge_to_one : (n : Name) (l : Label) (o : Option Name) → length (edge_to n l o) ≤ 1
edge_to_one n l None = omega arith
edge_to_one n l (Some m) = omega arith

place_one : (p : Place) (i : ℕ) (before : Option Name) (n : Name) (after : Option Name) → length (edges_at p i before n after) ≤ 1
place_one (position l) i before n after = omega arith
place_one (next l) i before n after = edge_to_one n l after
place_one (previous l) i before n after = edge_to_one n l before
place_one (page l k) i before n after = omega arith

places_most : (places : List Place) (i : ℕ) (before : Option Name) (n : Name) (after : Option Name) → length (flat_map (λ p. edges_at p i before n after) places) ≤ length places
places_most [] i before n after = omega arith
places_most (p ∷ ps) i before n after =
    let one = place_one p i before n after in
    let rest = places_most ps i before n after in
    rw (length-append (edges_at p i before n after) (flat_map (λ q. edges_at q i before n after) ps)) (omega (arith, one, rest))

pub along_most : (places : List Place) (i : ℕ) (before : Option Name) (ns : List Name) → length (edges_along places i before ns) ≤ length ns * length places
along_most places i before [] = omega arith
along_most places i before (n ∷ ns) =
    let here = places_most places i before n (first ns) in
    let rest = along_most places (i + 1) (Some n) ns in
    rw (length-append (flat_map (λ p. edges_at p i before n (first ns)) places) (edges_along places (i + 1) (Some n) ns))
    (let step : (1 + length ns) * length places ≡ length places + length ns * length places = omega arith in omega (arith, here, rest, step))

-- ---- the members

tie : (o : Ordering) → is_eq o ≡ true → o ≡ Equal
tie Less e = cc
tie Equal e = refl
tie Greater e = cc

pub same_is : (x y : Name) → same x y ≡ true → x ≡ y
same_is x y e = bytes_cmp-exact x y (tie (bytes_cmp x y) e)

pub same_itself : (x : Name) → same x x ≡ true
same_itself x = ap is_eq (tied_itself bytes_cmp-total x)

by_test : (b : Bool) (P : Type 0) → (b ≡ true → P) → (b ≡ false → P) → P
by_test true P t f = t refl
by_test false P t f = f refl

pub kept_from : {X : Type 0} (p : X → Bool) (xs : List X) (x : X) → Contains (filter p xs) x → Contains xs x × (p x ≡ true)
kept_from p [] x m = absurd (Contains-nil x m)
kept_from p (y ∷ ys) x m =
    by_test (p y) (Contains (y ∷ ys) x × (p x ≡ true))
    (λ t. elim (Contains-cons_cases y (filter p ys) x (rw t at m)) [
      | inl e ↦ (rw (← e) (Contains-here y ys), subst (λ z. p z ≡ true) e t)
      | inr r ↦ (let rest = kept_from p ys x r in (Contains-there y ys x rest.0, rest.1))
    ])
    (λ f. (let rest = kept_from p ys x (rw f at m) in (Contains-there y ys x rest.0, rest.1)))

pub kept_to : {X : Type 0} (p : X → Bool) (xs : List X) (x : X) → Contains xs x → p x ≡ true → Contains (filter p xs) x
kept_to p [] x m t = absurd (Contains-nil x m)
kept_to p (y ∷ ys) x m t =
    elim (Contains-cons_cases y ys x m) [
      | inl e ↦ let at : p y ≡ true = subst (λ z. p z ≡ true) (sym e) t in rw (at, ← e) (Contains-here y (filter p ys))
      | inr rest ↦ let there = kept_to p ys x rest t in
          by_test (p y) (Contains (filter p (y ∷ ys)) x) (λ h. rw h (Contains-there y (filter p ys) x there)) (λ h. rw h there)
    ]

module _ (f : Name → Name) (o : Order) (G : DataGraph) where
  listed_member : (n : Name) → Contains (in_order f G o) n → (m : Member) × Contains G.members m × (m.node ≡ n)
  listed_member n c =
      elim (all_inserted-cases (order_cmp f G o) [] (nodes_in G o.collection) n c) [
        | inl none ↦ absurd (Contains-nil n none)
        | inr h ↦ (let at = Contains-map (λ (m : Member). m.node) (filter (λ m. same m.collection o.collection) G.members) n h in
            (at.0, (kept_from (λ (m : Member). same m.collection o.collection) G.members at.0 at.2).0, at.1))
      ]

  -- ---- the graph

  pub edge_stays : (e : Edge) → Contains G.edges e → Contains (ordered f o G).edges e
  edge_stays e c = all_inserted-there edge_cmp G.edges (edges_along o.places 0 None (in_order f G o)) e c

  module _ (w : IsWellFormed G) where
    declared : (n : Name) → Contains (in_order f G o) n → Contains G.nodes n
    declared n c = let (m, within, is) = listed_member n c in subst (Contains G.nodes) is (w.members_are_nodes m within)

    added : (e : Edge) → Contains (edges_along o.places 0 None (in_order f G o)) e → IsAmong (Contains G.nodes) e
    added e c = of_all (Contains G.nodes) o.places 0 None (in_order f G o) (λ m is. cc) declared e c

    end_of : (v : Value) → ((m : Name) × Contains G.nodes m × (v ≡ node m)) ⊎ ((z : ℤ) × (v ≡ Data (Int z))) → IsEnd (ordered f o G) v
    end_of v (inl (m, c, is)) = subst (IsEnd (ordered f o G)) (sym is) c
    end_of v (inr (z, is)) = subst (IsEnd (ordered f o G)) (sym is) tt

    end_stays : (v : Value) → IsEnd G v → IsEnd (ordered f o G) v
    end_stays (Data (Node n)) c = c
    end_stays (Data (Int i)) c = tt
    end_stays (Data (Text t)) c = tt
    end_stays (Data (Url t)) c = tt
    end_stays (Data (File t)) c = tt
    end_stays (Page p) c = absurd c

    pub well_formed : IsWellFormed (ordered f o G)
    well_formed = record {
      nodes_ascend = w.nodes_ascend;
      edges_ascend = all_inserted-ascends edge_cmp-total edge_cmp-exact G.edges (edges_along o.places 0 None (in_order f G o)) w.edges_ascend;
      members_ascend = w.members_ascend;
      starts_are_nodes = λ e c. elim (all_inserted-cases edge_cmp G.edges (edges_along o.places 0 None (in_order f G o)) e c) [ inl old ↦ w.starts_are_nodes e old | inr new ↦ (added e new).from ];
      ends_are_data = λ e c. elim (all_inserted-cases edge_cmp G.edges (edges_along o.places 0 None (in_order f G o)) e c) [ inl old ↦ end_stays e.to (w.ends_are_data e old) | inr new ↦ end_of e.to (added e new).to ];
      members_are_nodes = w.members_are_nodes;
    }

  pub most : length (ordered f o G).edges ≤ length G.edges + length (in_order f G o) * length o.places
  most =
      let all = length-all_inserted edge_cmp G.edges (edges_along o.places 0 None (in_order f G o)) in
      let some = along_most o.places 0 None (in_order f G o) in
      omega (arith, all, some)

pub all_well_formed : (f : Name → Name) (os : List Order) (G : DataGraph) → IsWellFormed G → IsWellFormed (all_ordered f os G)
all_well_formed f [] G w = w
all_well_formed f (o ∷ os) G w = all_well_formed f os (ordered f o G) (well_formed f o G w)

-- ---- what a word reaches

both_true : (a b : Bool) → (a && b) ≡ true → (a ≡ true) × (b ≡ true)
both_true true true e = (refl, refl)
both_true true false e = cc
both_true false b e = cc

module _ (G : DataGraph) where
  end_told : (l : Label) (u v : Value) → Contains (ends G l u) v → HasEdge G u l v
  end_told l (Data (Node n)) v c =
      let at = Contains-map (λ (e : Edge). e.to) (filter (λ e. same e.from n && same e.label l) G.edges) v c in
      let kept = kept_from (λ (e : Edge). same e.from n && same e.label l) G.edges at.0 at.2 in
      let tests = both_true (same at.0.from n) (same at.0.label l) kept.1 in
      let a = same_is at.0.from n tests.0 in
      let b = same_is at.0.label l tests.1 in
      let is : at.0 ≡ record { from = n; label = l; to = v } = λ i. record { from = a i; label = b i; to = at.1 i } in
      subst (Contains G.edges) is kept.0
  end_told l (Data (Int i)) v c = absurd (Contains-nil v c)
  end_told l (Data (Text t)) v c = absurd (Contains-nil v c)
  end_told l (Data (Url t)) v c = absurd (Contains-nil v c)
  end_told l (Data (File t)) v c = absurd (Contains-nil v c)
  end_told l (Page p) v c = absurd (Contains-nil v c)

  end_listed : (l : Label) (u v : Value) → HasEdge G u l v → Contains (ends G l u) v
  end_listed l (Data (Node n)) v c =
      let tests : (same n n && same l l) ≡ true = rw (same_itself n, same_itself l) in
      Contains-mapped (λ (e : Edge). e.to) (filter (λ e. same e.from n && same e.label l) G.edges) (record { from = n; label = l; to = v })
      (kept_to (λ (e : Edge). same e.from n && same e.label l) G.edges (record { from = n; label = l; to = v }) c tests)
  end_listed l (Data (Int i)) v c = absurd c
  end_listed l (Data (Text t)) v c = absurd c
  end_listed l (Data (Url t)) v c = absurd c
  end_listed l (Data (File t)) v c = absurd c
  end_listed l (Page p) v c = absurd c

  -- exactly the values to which a walk spells the word
  pub reached_by : (w : Word) (u v : Value) → Contains (reached G w u) v ↔ Walk G u w v
  reached_by [] u v = (
    λ c. elim (Contains-cons_cases u [] v c) [ inl e ↦ e | inr none ↦ absurd (Contains-nil v none) ],
    λ e. subst (Contains (u ∷ [])) e (Contains-here u []),
  )
  reached_by (l ∷ w) u v = (
    λ c. (let (m, first, rest) = Contains-flat_map (reached G w) (ends G l u) v c in (m, end_told l u m first, (reached_by w m v).0 rest)),
    λ (m, step, walk). Contains-flat_mapped (reached G w) (ends G l u) m v (end_listed l u m step) ((reached_by w m v).1 walk),
  )
