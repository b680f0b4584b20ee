-- The rows of conditions, one more at a time.
use Rattle.std.proofs.Common.{arith, ◌≡◌, ℕ, ◌+◌, ◌*◌, ◌<◌, List, [], ◌∷◌, ◌++◌, sym, ap, ◌∙◌, length, get_or, take, mul_assoc, append_assoc, append-nil}
use Rattle.std.specs.Prelude.{max, map}
use Rattle.std.proofs.lemmas.List.{take_more, map-append}
use Rattle.graph_spec.specs.DataGraph.{DataGraph}
use Rattle.query_spec.specs.Query.{Condition}
use Rattle.counterexample_spec.specs.Trial.{ways, rows_after}

module _ (G : DataGraph) where
  pushed : (before cs : List Condition) (c : Condition) → rows_after G before (cs ++ c ∷ []) ≡ rows_after G before cs * max (ways G (before ++ cs) c) 1
  pushed before [] c = (let e = ap (λ l. max (ways G l c) 1) (append-nil before) in omega (arith, e))
  pushed before (d ∷ cs) c =
      ap (λ p. max (ways G before d) 1 * p) (pushed (before ++ d ∷ []) cs c)
      ∙ sym (mul_assoc (max (ways G before d) 1) (rows_after G (before ++ d ∷ []) cs) (max (ways G ((before ++ d ∷ []) ++ cs) c) 1))
      ∙ ap (λ l. max (ways G before d) 1 * rows_after G (before ++ d ∷ []) cs * max (ways G l c) 1) (append_assoc before (d ∷ []) cs)

  pub rows_more : {X : Type 0} (g : X → Condition) (xs : List X) (i : ℕ) (x : X) → i < length xs → x ≡ get_or xs i x
      → rows_after G [] (map g (take (i + 1) xs)) ≡ rows_after G [] (map g (take i xs)) * max (ways G (map g (take i xs)) (g x)) 1
  rows_more g xs i x lt is =
      ap (λ l. rows_after G [] (map g l)) (take_more xs i x lt ∙ ap (λ z. take i xs ++ z ∷ []) (sym is))
      ∙ ap (rows_after G []) (map-append g (take i xs) (x ∷ [])) ∙ pushed [] (map g (take i xs)) (g x)
