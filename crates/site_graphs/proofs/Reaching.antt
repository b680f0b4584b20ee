-- Whether a walk between two values spells a word of an expression: over a list of places that has them all, place after
-- place.
use Rattle.std.proofs.Common.{◌≡◌, ◌⊎◌, List, [], ◌∷◌, ◌++◌, map, inl, inr, ⊎_elim, refl, sym, ap, subst}
use Rattle.std.specs.Prelude.{Contains, All, ◌≢◌}
use Rattle.std.proofs.lemmas.List.Elements.{All-nil, All-cons, All-head, All-tail}
use Rattle.sd_value.specs.Names.{Name, Word}
use Rattle.sd_value.specs.Members.{Contains-nil, Contains-cons_cases, Contains-here, Contains-there, Contains-mapped}
use Rattle.sd_value.specs.Order.{value_cmp}
use Rattle.sd_value.specs.OrderLaws.{value_cmp-total, value_cmp-exact}
use Rattle.sd_value.specs.declared.Datum.TheVariants.{Int, Text, Url, File, Node}
use Rattle.sd_value.specs.declared.Value.{Value}
use Rattle.sd_value.specs.declared.Value.TheVariants.{Data, Page}
use Rattle.rpe.specs.Regex.{Regex, label, any, empty, seq, alt, star}
use Rattle.rpe.specs.Language.{InLanguage, concat}
use Rattle.graph_spec.specs.DataGraph.{DataGraph, HasEdge}
use Rattle.graph_spec.specs.Orders.{edge_cmp, edge_cmp-total, edge_cmp-exact}
use Rattle.graph_spec.specs.Walk.{Walk}
use Rattle.graph_spec.specs.declared.Edge.{Edge}
use Rattle.site_graphs.proofs.Decide.{Dec, no, dec_as, dec_both, dec_either, dec_some, dec_same, dec_in}

same_value : (u v : Value) → Dec (u ≡ v)
same_value = dec_same value_cmp value_cmp-total value_cmp-exact

-- ---- any number of steps

module _ (S : Value → Value → Type 0) where
  -- steps to each of these in turn
  abbrev Along : Value → List Value → Value → Type 0
  Along u [] v = u ≡ v
  Along u (m ∷ ms) v = S u m × Along m ms v

  -- no step, or steps with only these on the way
  abbrev By : List Value → Value → Value → Type 0
  By [] u v = (u ≡ v) ⊎ S u v
  By (x ∷ xs) u v = By xs u v ⊎ (By xs u x × By xs x v)

  dec_by : ((u v : Value) → Dec (S u v)) → (xs : List Value) (u v : Value) → Dec (By xs u v)
  dec_by dec [] u v = dec_either (same_value u v) (dec u v)
  dec_by dec (x ∷ xs) u v = dec_either (dec_by dec xs u v) (dec_both (dec_by dec xs u x) (dec_by dec xs x v))

  along_join : (u : Value) (ms : List Value) (m : Value) (ns : List Value) (v : Value) → Along u ms m → Along m ns v
      → Along u (ms ++ ns) v
  along_join u [] m ns v a b = subst (λ (y : Value). Along y ns v) (sym a) b
  along_join u (n ∷ ms) m ns v a b = (a.0, along_join n ms m ns v a.1 b)

  by_along : (xs : List Value) (u v : Value) → By xs u v → (ms : List Value) × Along u ms v
  by_along [] u v (inl e) = ([], e)
  by_along [] u v (inr s) = (v ∷ [], (s, refl))
  by_along (x ∷ xs) u v (inl h) = by_along xs u v h
  by_along (x ∷ xs) u v (inr h) =
      let a = by_along xs u x h.0 in
      let b = by_along xs x v h.1 in
      (a.0 ++ b.0, along_join u a.0 x b.0 v a.1 b.1)

  by_step : (xs : List Value) (u v : Value) → S u v → By xs u v
  by_step [] u v s = inr s
  by_step (x ∷ xs) u v s = inl (by_step xs u v s)

  by_none : (xs : List Value) (u v : Value) → u ≡ v → By xs u v
  by_none [] u v e = inl e
  by_none (x ∷ xs) u v e = inl (by_none xs u v e)

  through_first : (x : Value) (xs : List Value) (u v : Value) → By (x ∷ xs) u x → By (x ∷ xs) x v → By (x ∷ xs) u v
  through_first x xs u v a b = inr (⊎_elim (λ p. p) (λ p. p.0) a, ⊎_elim (λ p. p) (λ p. p.1) b)

  through : (xs : List Value) (m : Value) → Contains xs m → (u v : Value) → By xs u m → By xs m v → By xs u v
  through [] m h u v a b = absurd (Contains-nil m h)
  through (x ∷ xs) m h u v a b = by (λ k p q. through xs m k p q) (Contains-cons_cases x xs m h) a b
    where
      by : (Contains xs m → (p q : Value) → By xs p m → By xs m q → By xs p q) → (x ≡ m) ⊎ Contains xs m
          → By (x ∷ xs) u m → By (x ∷ xs) m v → By (x ∷ xs) u v
      by rest (inl e) a b = through_first x xs u v (subst (By (x ∷ xs) u) (sym e) a)
          (subst (λ (y : Value). By (x ∷ xs) y v) (sym e) b)
      by rest (inr k) (inl a) (inl b) = inl (rest k u v a b)
      by rest (inr k) (inl a) (inr b) = inr (rest k u x a b.0, b.1)
      by rest (inr k) (inr a) (inl b) = inr (a.0, rest k x v a.1 b)
      by rest (inr k) (inr a) (inr b) = inr (a.0, b.1)

  -- these places are all that a step from one of them leads to
  abbrev Closed : List Value → Type 0
  Closed xs = (u v : Value) → S u v → Contains xs u → Contains xs v

  along_by : (xs : List Value) → Closed xs → (u : Value) (ms : List Value) (v : Value) → Contains xs u → Along u ms v
      → By xs u v
  along_by xs closed u [] v at h = by_none xs u v h
  along_by xs closed u (m ∷ ms) v at h =
      let here = closed u m h.0 at in
      through xs m here u v (by_step xs u m h.0) (along_by xs closed m ms v here h.1)

  dec_along : ((u v : Value) → Dec (S u v)) → (xs : List Value) → Closed xs → (u : Value) → Contains xs u → (v : Value)
      → Dec ((ms : List Value) × Along u ms v)
  dec_along dec xs closed u at v = dec_as (by_along xs u v) (λ h. along_by xs closed u h.0 v at h.1) (dec_by dec xs u v)

-- ---- walks

module _ (G : DataGraph) where
  pub dec_edge : (u : Value) (l : Name) (v : Value) → Dec (HasEdge G u l v)
  dec_edge (Data (Node n)) l v = dec_in edge_cmp edge_cmp-total edge_cmp-exact G.edges
      (record { from = n; label = l; to = v })
  dec_edge (Data (Int i)) l v = no (λ h. h)
  dec_edge (Data (Text s)) l v = no (λ h. h)
  dec_edge (Data (Url s)) l v = no (λ h. h)
  dec_edge (Data (File s)) l v = no (λ h. h)
  dec_edge (Page p) l v = no (λ h. h)

  abbrev ends : List Value
  ends = map (λ (e : Edge). e.to) G.edges

  edge_in : (u : Value) (l : Name) (v : Value) → HasEdge G u l v → (e : Edge) × Contains G.edges e × (e.label ≡ l)
      × (e.to ≡ v)
  edge_in (Data (Node n)) l v h = (record { from = n; label = l; to = v }, h, refl, refl)
  edge_in (Data (Int i)) l v h = absurd h
  edge_in (Data (Text s)) l v h = absurd h
  edge_in (Data (Url s)) l v h = absurd h
  edge_in (Data (File s)) l v h = absurd h
  edge_in (Page p) l v h = absurd h

  edge_end : (u : Value) (l : Name) (v : Value) → HasEdge G u l v → Contains ends v
  edge_end u l v h =
      let e = edge_in u l v h in
      subst (Contains ends) e.3 (Contains-mapped (λ (x : Edge). x.to) G.edges e.0 e.1)

  walk_end : (u : Value) (word : Word) (v : Value) → Walk G u word v → Contains (u ∷ ends) v
  walk_end u [] v h = subst (Contains (u ∷ ends)) h (Contains-here u ends)
  walk_end u (l ∷ word) v h =
      Contains-there u ends v
      (⊎_elim (λ e. subst (Contains ends) e (edge_end u l h.0 h.1)) (λ k. k)
      (Contains-cons_cases h.0 ends v (walk_end h.0 word v h.2)))

  walk_join : (u : Value) (word : Word) (m : Value) (more : Word) (v : Value) → Walk G u word m → Walk G m more v
      → Walk G u (word ++ more) v
  walk_join u [] m more v a b = subst (λ (y : Value). Walk G y more v) (sym a) b
  walk_join u (l ∷ word) m more v a b = (a.0, a.1, walk_join a.0 word m more v a.2 b)

  walk_split : (u : Value) (word more : Word) (v : Value) → Walk G u (word ++ more) v
      → (m : Value) × Walk G u word m × Walk G m more v
  walk_split u [] more v h = (u, refl, h)
  walk_split u (l ∷ word) more v h =
      let rest = walk_split h.0 word more v h.2 in (rest.0, (h.0, h.1, rest.1), rest.2)

  -- a walk spells a word of the expression
  abbrev pub Reaches : Regex → Value → Value → Type 0
  Reaches r u v = (word : Word) × InLanguage r word × Walk G u word v

  one_edge : (u : Value) (l : Name) (v : Value) (word : Word) → word ≡ l ∷ [] → Walk G u word v → HasEdge G u l v
  one_edge u l v word e h =
      let w = subst (λ (x : Word). Walk G u x v) e h in subst (HasEdge G u l) w.2 w.1

  star_to : (r : Regex) (u : Value) (parts : List Word) (v : Value) → All (InLanguage r) parts → Walk G u (concat parts)
      v
      → (ms : List Value) × Along (Reaches r) u ms v
  star_to r u [] v all h = ([], h)
  star_to r u (p ∷ ps) v all h =
      let s = walk_split u p (concat ps) v h in
      let rest = star_to r s.0 ps v (All-tail (InLanguage r) p ps all) s.2 in
      (s.0 ∷ rest.0, ((p, All-head (InLanguage r) p ps all, s.1), rest.1))

  star_from : (r : Regex) (u : Value) (ms : List Value) (v : Value) → Along (Reaches r) u ms v → Reaches (star r) u v
  star_from r u [] v h = ([], ([], All-nil (λ (part : Word). part ≢ []), All-nil (InLanguage r), refl), h)
  star_from r u (m ∷ ms) v h = by h.0.0 h.0.1 h.0.2 (star_from r m ms v h.1)
    where
      by : (p : Word) → InLanguage r p → Walk G u p m → Reaches (star r) m v → Reaches (star r) u v
      by [] i w rest = subst (λ (y : Value). Reaches (star r) y v) (sym w) rest
      by (l ∷ p) i w rest = (
        (l ∷ p) ++ rest.0,
        (
          (l ∷ p) ∷ rest.1.0,
          All-cons (λ (part : Word). part ≢ []) (l ∷ p) rest.1.0 (λ e. cc) rest.1.1,
          All-cons (InLanguage r) (l ∷ p) rest.1.0 i rest.1.2,
          ap (λ (x : Word). (l ∷ p) ++ x) rest.1.3,
        ),
        walk_join u (l ∷ p) m rest.0 v w rest.2,
      )

  reaches_end : (r : Regex) (start : Value) (u v : Value) → Reaches r u v → Contains (start ∷ ends) u
      → Contains (start ∷ ends) v
  reaches_end r start u v h at =
      ⊎_elim (λ e. subst (Contains (start ∷ ends)) e at) (λ k. Contains-there start ends v k)
      (Contains-cons_cases u ends v (walk_end u h.0 v h.2))

  -- whether one does
  pub dec_reaches : (r : Regex) (u v : Value) → Dec (Reaches r u v)
  dec_reaches (label l) u v =
      dec_as (λ e. (l ∷ [], refl, (v, e, refl))) (λ h. one_edge u l v h.0 h.1 h.2) (dec_edge u l v)
  dec_reaches any u v =
      dec_as (λ s. (s.0.label ∷ [], (s.0.label, refl), (v, s.2, refl)))
      (λ h.
      let edge = one_edge u h.1.0 v h.0 h.1.1 h.2 in
      let e = edge_in u h.1.0 v edge in
      (e.0, e.1, subst (λ (l : Name). HasEdge G u l v) (sym e.2) edge))
      (dec_some (λ (e : Edge). HasEdge G u e.label v) (λ e. dec_edge u e.label v) G.edges)
  dec_reaches empty u v =
      dec_as (λ e. ([], refl, e)) (λ h. subst (λ (w : Word). Walk G u w v) h.1 h.2) (same_value u v)
  dec_reaches (seq r s) u v =
      dec_as
      (λ h. (
        h.2.0.0 ++ h.2.1.0,
        (h.2.0.0, h.2.1.0, h.2.0.1, h.2.1.1, refl),
        walk_join u h.2.0.0 h.0 h.2.1.0 v h.2.0.2
            h.2.1.2,
      ))
      (λ h.
      let parts = walk_split u h.1.0 h.1.1 v (subst (λ (w : Word). Walk G u w v) h.1.4 h.2) in
      (parts.0, walk_end u h.1.0 parts.0 parts.1, ((h.1.0, h.1.2, parts.1), (h.1.1, h.1.3, parts.2))))
      (dec_some (λ m. Reaches r u m × Reaches s m v) (λ m. dec_both (dec_reaches r u m) (dec_reaches s m v)) (u ∷ ends))
  dec_reaches (alt r s) u v =
      dec_as
      (λ h. ⊎_elim (λ p. (p.0, inl p.1, p.2)) (λ p. (p.0, inr p.1, p.2)) h)
      (λ h. ⊎_elim (λ i. inl (h.0, i, h.2)) (λ i. inr (h.0, i, h.2)) h.1)
      (dec_either (dec_reaches r u v) (dec_reaches s u v))
  dec_reaches (star r) u v =
      dec_as
      (λ h. star_from r u h.0 v h.1)
      (λ h. star_to r u h.1.0 v h.1.2 (subst (λ (w : Word). Walk G u w v) h.1.3 h.2))
      (dec_along (Reaches r) (dec_reaches r) (u ∷ ends) (reaches_end r u) u (Contains-here u ends) v)
