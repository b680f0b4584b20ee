-- A search from its first steps to its end.
use Rattle.std.proofs.Common.{◌≡◌, ℕ, zero, suc, ◌<◌, List, [], ◌∷◌, ◌++◌, ◌⊎◌, ◌↔◌, inl, inr, IsSome, refl, sym, ap, subst, arith, length, length-append, Contains}
use Rattle.std.proofs.lemmas.List.Elements.{Contains-append_left, Contains-append_right}
use Rattle.std.specs.BTreeMap.{BTreeMap, get}
use Rattle.sd_value.specs.declared.Value.{Value}
use Rattle.sd_value.specs.Order.{value_cmp}
use Rattle.std.proofs.lemmas.Option.{slice_get_within}
use Rattle.sd_value.specs.declared.Value.TheVariants.{Data, Page}
use Rattle.sd_value.specs.declared.Datum.TheVariants.{Int, Text, Url, File, Node}
use Rattle.graph_spec.specs.declared.Edge.{Edge}
use Rattle.graph_spec.specs.DataGraph.{DataGraph, Name, HasEdge}
use Rattle.automaton.specs.PositionSet.{Has}
use Rattle.automaton.specs.Table.{Table}
use Rattle.walks.specs.declared.search.Task.{Task}
use Rattle.walks.specs.declared.search.Exploration.{Exploration}
use Rattle.walks.specs.declared.direction.Direction.{Direction}
use Rattle.walks.specs.declared.direction.Direction.TheVariants.{Onward, Backward}
use Rattle.walks.specs.Directions.{Leaves}
use Rattle.walks.specs.Search.{Visits, Waits, Reached, begins, goes_on, Explores, Leads, LeadsFirst, Searches, IsFollowed, Advances, below, pairs_at, led_to, pairs_of, all_pairs}
use Rattle.walks.proofs.Visits.{waits_parts, waits_left, waits_right}

-- ---- all pairs

below_has : (n p : ℕ) → p < n → Contains (below n) p
unfolding below
below_has zero p h = absurd (omega arith)
below_has (suc n) p h = elim (split p n h) [
  | inl e ↦ (zero, omega arith, sym e)
  | inr k ↦ let c = below_has n p k in (suc c.0, omega (arith, c.1), c.2)
]
  where
    split : (a b : ℕ) → a < suc b → (a ≡ b) ⊎ (a < b)
    split a b h = grind arith

pairs_at_has : (v : Value) (ps : List ℕ) (p : ℕ) → Contains ps p → Contains (pairs_at v ps) (v, p)
pairs_at_has v [] p (k, small, e) = absurd (omega arith)
pairs_at_has v (q ∷ ps) p (zero, small, e) = (zero, omega arith, ap (λ x. (v, x)) e)
pairs_at_has v (q ∷ ps) p (suc k, small, e) = let c = pairs_at_has v ps p (k, omega arith, e) in (suc c.0, omega (arith, c.1), c.2)

pairs_of_has : (d : Direction) (n : ℕ) (edges : List Edge) (e : Edge) (p : ℕ) → Contains edges e → p < n → Contains (pairs_of d n edges) (led_to d e, p)
pairs_of_has d n [] e p (k, small, same) h = absurd (omega arith)
pairs_of_has d n (b ∷ edges) e p (zero, small, same) h =
    Contains-append_left (pairs_at (led_to d b) (below n)) (pairs_of d n edges) (led_to d e, p)
    (subst (λ (x : Edge). Contains (pairs_at (led_to d b) (below n)) (led_to d x, p)) same (pairs_at_has (led_to d b) (below n) p (below_has n p h)))
pairs_of_has d n (b ∷ edges) e p (suc k, small, same) h =
    Contains-append_right (pairs_at (led_to d b) (below n)) (pairs_of d n edges) (led_to d e, p) (pairs_of_has d n edges e p (k, omega arith, same) h)

-- an edge starts at a node, and is one of the graph's
edge_of : (G : DataGraph) (u : Value) (l : Name) (v : Value) → HasEdge G u l v → (e : Edge) × Contains G.edges e × (u ≡ Data (Node e.from)) × (v ≡ e.to)
edge_of G (Data (Node n)) l v h = (record { from = n; label = l; to = v }, h, refl, refl)
edge_of G (Data (Int i)) l v h = absurd h
edge_of G (Data (Text s)) l v h = absurd h
edge_of G (Data (Url s)) l v h = absurd h
edge_of G (Data (File s)) l v h = absurd h
edge_of G (Page t) l v h = absurd h

leads_to_end : (G : DataGraph) (d : Direction) (n : ℕ) (u : Value) (l : Name) (v : Value) (p : ℕ) → Leaves G d u l v → p < n → Contains (pairs_of d n G.edges) (v, p)
leads_to_end G Onward n u l v p h small =
    let e = edge_of G u l v h in
    subst (λ (x : Value). Contains (pairs_of Onward n G.edges) (x, p)) (sym e.3) (pairs_of_has Onward n G.edges e.0 p e.1 small)
leads_to_end G Backward n u l v p h small =
    let e = edge_of G v l u h in
    subst (λ (x : Value). Contains (pairs_of Backward n G.edges) (x, p)) (sym e.2) (pairs_of_has Backward n G.edges e.0 p e.1 small)

module _ (G : DataGraph) (t : Table) (d : Direction) where
  pub leads_within : (task : Task) (v : Value) (q : ℕ) → Leads G t d task v q → Contains (all_pairs G t d) (v, q)
  leads_within task v q (l, a, n, r) = leads_to_end G d _ task.value l v q a (slice_get_within t.letters q r.0 r.1)

  pub search_begins : (u : Value) (seen seen1 : BTreeMap Value (List ℕ)) (tasks1 : List Task)
      → ((v : Value) (p : ℕ) → Visits seen v p → ⊥) → IsSome (get value_cmp seen u)
      → Explores (LeadsFirst G t d u) seen seen1 [] tasks1 → Searches G t d u seen1 tasks1
  search_begins u seen seen1 tasks1 none start explores = record {
    sound = λ v p h. elim ((explores.visited v p).0 h) [
      | inl k ↦ absurd (none v p k)
      | inr k ↦ begins k.0 k.1 k.2 k.3
    ];
    waiting = λ v p h. elim (explores.waits v p h) [ inl k ↦ absurd k | inr k ↦ (explores.visited v p).1 (inr k) ];
    begun = λ l v p e f r. (explores.visited v p).1 (inr (l, e, f, r));
    followed = λ v p h. elim ((explores.visited v p).0 h) [
      | inl k ↦ absurd (none v p k)
      | inr k ↦ elim (explores.fresh v p k) [ inl f ↦ absurd (none v p f) | inr f ↦ inl f ]
    ];
    start = explores.keys u start;
  }

  pub search_goes_on : (u : Value) (seen seen1 : BTreeMap Value (List ℕ)) (tasks0 tasks tasks1 : List Task) (task : Task)
      → tasks0 ≡ tasks ++ task ∷ []
      → Searches G t d u seen tasks0 → Explores (Leads G t d task) seen seen1 tasks tasks1 → Searches G t d u seen1 tasks1
  search_goes_on u seen seen1 tasks0 tasks tasks1 task popped searches explores = record {
    sound = λ v p h. elim ((explores.visited v p).0 h) [
      | inl k ↦ searches.sound v p k
      | inr k ↦ further v p k
    ];
    waiting = λ v p h. elim (explores.waits v p h) [
      | inl k ↦ (explores.visited v p).1 (inl (searches.waiting v p (subst (λ (x : List Task). Waits x v p) (sym popped) (waits_left tasks (task ∷ []) v p k))))
      | inr k ↦ (explores.visited v p).1 (inr k)
    ];
    begun = λ l v p e f r. (explores.visited v p).1 (inl (searches.begun l v p e f r));
    followed = λ v p h. elim ((explores.visited v p).0 h) [
      | inl k ↦ old v p k
      | inr k ↦ elim (explores.fresh v p k) [
        | inl f ↦ old v p f
        | inr f ↦ inl f
      ]
    ];
    start = explores.keys u searches.start;
  }
    where
      further : (v : Value) (q : ℕ) → Leads G t d task v q → Reached G t d u v q
      further v q (l, e, (p, f, n), r) =
          goes_on l (searches.sound task.value p (searches.waiting task.value p (subst (λ (x : List Task). Waits x task.value p) (sym popped) (waits_right tasks (task ∷ []) task.value p (inl (refl, f)))))) e n r

      now_followed : (v : Value) (p : ℕ) → task.value ≡ v → Has task.positions p → IsFollowed G t d seen1 v p
      now_followed v p same f l m q e n r =
          (explores.visited m q).1 (inr (l, subst (λ (x : Value). Leaves G d x l m) (sym same) e, (p, f, n), r))

      old : (v : Value) (p : ℕ) → Visits seen v p → Waits tasks1 v p ⊎ IsFollowed G t d seen1 v p
      old v p k = elim (searches.followed v p k) [
        | inl w ↦ elim (waits_parts tasks (task ∷ []) v p (subst (λ (x : List Task). Waits x v p) popped w)) [
          | inl f ↦ inl (explores.kept v p f)
          | inr f ↦ elim f [ inl here ↦ inr (now_followed v p here.0 here.1) | inr f ↦ absurd f ]
        ]
        | inr f ↦ inr (λ l m q e n r. (explores.visited m q).1 (inl (f l m q e n r)))
      ]

  -- ---- the search ends

  visits_all : (u : Value) (seen : BTreeMap Value (List ℕ)) → Searches G t d u seen [] → (v : Value) (p : ℕ) → Reached G t d u v p → Visits seen v p
  visits_all u seen searches v p (begins l e f r) = searches.begun l v p e f r
  visits_all u seen searches m q (goes_on {v = v} {p = p} l h e n r) =
      elim (searches.followed v p (visits_all u seen searches v p h)) [ inl w ↦ absurd w | inr f ↦ f l m q e n r ]

  pub search_ends : (u : Value) (seen : BTreeMap Value (List ℕ)) → Searches G t d u seen [] → (v : Value) (p : ℕ) → Visits seen v p ↔ Reached G t d u v p
  search_ends u seen searches v p = (searches.sound v p, visits_all u seen searches v p)

  -- ---- a task is followed

  pub advances : (x y : Exploration) (task : Task) (tasks : List Task) → x.tasks.items ≡ tasks ++ task ∷ []
      → Explores (Leads G t d task) x.seen y.seen tasks y.tasks.items → Advances G t d x y
  advances x y task tasks popped explores = record {
    goes_on = λ u under_way. search_goes_on u x.seen y.seen x.tasks.items tasks y.tasks.items task popped under_way explores;
    less = λ _. let room = explores.room (all_pairs G t d) (leads_within task) in omega (arith, room, ap length popped, length-append tasks (task ∷ []));
  }
