-- What a search reaches is what walks join.
use Rattle.std.proofs.Common.{◌≡◌, ℕ, true, [], ◌∷◌, ◌⊎◌, ◌↔◌, inl, inr, refl, sym, subst}
use Rattle.sd_value.specs.declared.Value.{Value}
use Rattle.rpe.specs.Regex.{Word}
use Rattle.graph_spec.specs.DataGraph.{DataGraph, Name}
use Rattle.graph_spec.specs.Walk.{Walk}
use Rattle.automaton.specs.PositionSet.{Has}
use Rattle.automaton.specs.Positions.{ReadsIn}
use Rattle.automaton.specs.Table.{Table}
use Rattle.automaton.proofs.Words.{Completes, takes_exactly}
use Rattle.walks.specs.declared.direction.Direction.{Direction}
use Rattle.walks.specs.declared.direction.Direction.TheVariants.{Onward, Backward}
use Rattle.walks.specs.Joins.{Joins}
use Rattle.walks.specs.Directions.{Leaves, Opens, Closes, IsNext, JoinsBy}
use Rattle.walks.specs.Search.{Reached, begins, goes_on}

-- a position that reads the last label of a walk from u to v on this way, or the empty walk
abbrev pub Meets : DataGraph → Table → Direction → Value → Value → Type 0
Meets G t d u v = ((q : ℕ) × Reached G t d u v q × Closes t d q) ⊎ ((t.has_empty ≡ true) × (u ≡ v))

-- ---- onward

module _ (G : DataGraph) (t : Table) where
  reaches_last : (u m v : Value) (p : ℕ) (w : Word) → Reached G t Onward u m p → Completes t p w → Walk G m w v
      → (q : ℕ) × Reached G t Onward u v q × Has t.last q
  reaches_last u m v p [] h last same = (p, subst (λ (x : Value). Reached G t Onward u x p) same h, last)
  reaches_last u m v p (l ∷ w) h (q, n, r, c) (k, e, walk) = reaches_last u k v q w (goes_on l h e n r) c walk

  joins_reaches : (u v : Value) → Joins G t u v → Meets G t Onward u v
  joins_reaches u v ([], h, walk) = inr (h, walk)
  joins_reaches u v (l ∷ w, h, (m, e, walk)) =
      let k = (takes_exactly t (l ∷ w)).0 h in
      inl (reaches_last u m v k.0 w (begins l e k.1 k.2) k.3 walk)

  walks_from : (u v x : Value) (p : ℕ) (w : Word) → Reached G t Onward u v p → Completes t p w → Walk G v w x → Joins G t u x
  walks_from u v x p w (begins l e f r) c walk = (l ∷ w, (takes_exactly t (l ∷ w)).1 (p, f, r, c), (v, e, walk))
  walks_from u m x q w (goes_on {v = v} {p = p} l h e n r) c walk = walks_from u v x p (l ∷ w) h (q, n, r, c) (m, e, walk)

  reaches_joins : (u v : Value) → Meets G t Onward u v → Joins G t u v
  reaches_joins u v (inl (q, h, last)) = walks_from u v v q [] h last refl
  reaches_joins u v (inr (h, same)) = ([], h, same)

-- ---- the same walks the other way

module _ (G : DataGraph) (t : Table) (d e : Direction)
    (leaves : (u : Value) (l : Name) (v : Value) → Leaves G d u l v → Leaves G e v l u)
    (opens : (p : ℕ) → Closes t d p → Opens t e p) (closes : (p : ℕ) → Opens t d p → Closes t e p)
    (next : (p q : ℕ) → IsNext t d p q → IsNext t e q p) where
  -- what leads back to a reached value goes on to where its walk began
  turn : (u x v : Value) (q : ℕ) → Reached G t d u v q → ((w : Value) (l : Name) → Leaves G d w l v → ReadsIn t.letters q l → Reached G t e x w q)
      → (p : ℕ) × Reached G t e x u p × Closes t e p
  turn u x v q (begins l a f reads) go = (q, go u l a reads, closes q f)
  turn u x m q (goes_on {v = w} {p = p} l h a n reads) go =
      turn u x w p h (λ y k b earlier. goes_on k (go w l a reads) (leaves y k w b) (next p q n) earlier)

  turned : (u v : Value) (q : ℕ) → Reached G t d u v q → Closes t d q → (p : ℕ) × Reached G t e v u p × Closes t e p
  turned u v q h end = turn u v v q h (λ w l a reads. begins l (leaves w l v a) (opens q end) reads)

  meets_turned : (u v : Value) → Meets G t d u v → Meets G t e v u
  meets_turned u v (inl (q, h, end)) = inl (turned u v q h end)
  meets_turned u v (inr (h, is)) = inr (h, sym is)

-- ---- on either way

module _ (G : DataGraph) (t : Table) where
  pub meets_joins : (d : Direction) (u v : Value) → Meets G t d u v ↔ JoinsBy G t d u v
  meets_joins Onward u v = (reaches_joins G t u v, joins_reaches G t u v)
  meets_joins Backward u v = (
    λ h. reaches_joins G t v u (meets_turned G t Backward Onward (λ x l y a. a) (λ p h. h) (λ p h. h) (λ p q n. n) u v h),
    λ j. meets_turned G t Onward Backward (λ x l y a. a) (λ p h. h) (λ p h. h) (λ p q n. n) v u (joins_reaches G t v u j),
  )
