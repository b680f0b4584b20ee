-- Graphs to which more and more is added.
use Rattle.std.proofs.Common.{◌≡◌, ℕ, suc, ◌+◌, ◌<◌, ◌≤◌, List, [], ◌∷◌, ◌++◌, sym, ap, ◌∙◌, length, get_or, take, drop, drop-cons, append_assoc, append-nil, arith}
use Rattle.std.specs.Prelude.{Bool, map, Err}
use Rattle.std.proofs.lemmas.List.{take_more, take_all, take-append-drop, length-take-le, length-map, map-append}
use Rattle.graph_spec.specs.Statement.{Statement}
use Rattle.sd_graph.specs.Statement.{Building}
use Rattle.sd_graph.specs.declared.GraphRefusal.{GraphRefusal}
use Rattle.query_spec.specs.Query.{Condition as PlainCondition}
use Rattle.query_spec.specs.Holds.{Assignment}
use Rattle.struql_ast.specs.declared.Condition.{Condition}
use Rattle.struql_ast.specs.Reading.{condition_of}
use Rattle.counterexample_spec.specs.Values.{Copy}
use Rattle.counterexample_spec.specs.Frozen.{asked, all_asked}
use Rattle.refute_site.specs.Adding.{building_all, AddsAll}
use Rattle.refute_site.proofs.Adding.{part_added, part_stopped}

module _ (s : Assignment) (copy : Copy) (repeats : Bool) where
  appended : (k : ℕ) (cs ds : List PlainCondition) → all_asked s copy repeats k (cs ++ ds) ≡ all_asked s copy repeats k cs ++ all_asked s copy repeats (k + length cs) ds
  appended k [] ds =
      let here : k ≡ k + 0 = omega arith in
      ap (λ n. all_asked s copy repeats n ds) here
  appended k (c ∷ cs) ds =
      let here : suc k + length cs ≡ k + suc (length cs) = omega arith in
      ap (λ z. asked s copy repeats k c ++ z) (appended (suc k) cs ds)
      ∙ sym (append_assoc (asked s copy repeats k c) (all_asked s copy repeats (suc k) cs) (all_asked s copy repeats (suc k + length cs) ds))
      ∙ ap (λ n. (asked s copy repeats k c ++ all_asked s copy repeats (suc k) cs) ++ all_asked s copy repeats n ds) here

  -- a loop over the conditions
  module _ (xs : List Condition) (i : ℕ) (x : Condition) (lt : i < length xs) (is : x ≡ get_or xs i x) where
    counted : i ≡ 0 + length (map condition_of (take i xs))
    counted =
        let m = length-map (take i xs) condition_of in
        let n = length-take-le i xs (omega (arith, lt)) in
        omega (arith, m, n)

    split : all_asked s copy repeats 0 (map condition_of xs)
        ≡ all_asked s copy repeats 0 (map condition_of (take i xs)) ++ (asked s copy repeats i (condition_of x) ++ all_asked s copy repeats (suc i) (map condition_of (drop (suc i) xs)))
    split =
        ap (λ (l : List Condition). all_asked s copy repeats 0 (map condition_of l)) (sym (take-append-drop i xs))
        ∙ ap (all_asked s copy repeats 0) (map-append condition_of (take i xs) (drop i xs))
        ∙ appended 0 (map condition_of (take i xs)) (map condition_of (drop i xs))
        ∙ ap (λ n. all_asked s copy repeats 0 (map condition_of (take i xs)) ++ all_asked s copy repeats n (map condition_of (drop i xs))) (sym counted)
        ∙ ap (λ (l : List Condition). all_asked s copy repeats 0 (map condition_of (take i xs)) ++ all_asked s copy repeats i (map condition_of l)) (drop-cons xs i x lt ∙ ap (λ (z : Condition). z ∷ drop (suc i) xs) (sym is))

    more : all_asked s copy repeats 0 (map condition_of (take i xs)) ++ asked s copy repeats i (condition_of x) ≡ all_asked s copy repeats 0 (map condition_of (take (i + 1) xs))
    more =
        ap (λ z. all_asked s copy repeats 0 (map condition_of (take i xs)) ++ z) (sym (append-nil (asked s copy repeats i (condition_of x))))
        ∙ ap (λ n. all_asked s copy repeats 0 (map condition_of (take i xs)) ++ all_asked s copy repeats n (condition_of x ∷ [])) counted
        ∙ sym (appended 0 (map condition_of (take i xs)) (condition_of x ∷ []))
        ∙ ap (all_asked s copy repeats 0) (sym (map-append condition_of (take i xs) (x ∷ [])))
        ∙ ap (λ (l : List Condition). all_asked s copy repeats 0 (map condition_of l)) (sym (take_more xs i x lt ∙ ap (λ (z : Condition). take i xs ++ z ∷ []) (sym is)))

    pub condition_added : (b c d : Building) → c ≡ building_all (all_asked s copy repeats 0 (map condition_of (take i xs))) b → d ≡ building_all (asked s copy repeats i (condition_of x)) c → d ≡ building_all (all_asked s copy repeats 0 (map condition_of (take (i + 1) xs))) b
    condition_added b c d first here =
        part_added (all_asked s copy repeats 0 (map condition_of (take i xs))) (asked s copy repeats i (condition_of x)) b c d first here ∙ ap (λ (l : List Statement). building_all l b) more

    pub condition_stopped : (b c d : Building) (e : GraphRefusal) → c ≡ building_all (all_asked s copy repeats 0 (map condition_of (take i xs))) b → AddsAll (asked s copy repeats i (condition_of x)) c d (Err e) → AddsAll (all_asked s copy repeats 0 (map condition_of xs)) b d (Err e)
    condition_stopped b c d e first here =
        part_stopped (all_asked s copy repeats 0 (map condition_of xs)) (all_asked s copy repeats 0 (map condition_of (take i xs))) (asked s copy repeats i (condition_of x)) (all_asked s copy repeats (suc i) (map condition_of (drop (suc i) xs))) b c d e split first here

  pub conditions_added : (xs : List Condition) (i : ℕ) (b c : Building) → length xs ≤ i → c ≡ building_all (all_asked s copy repeats 0 (map condition_of (take i xs))) b → c ≡ building_all (all_asked s copy repeats 0 (map condition_of xs)) b
  conditions_added xs i b c le h = h ∙ ap (λ (l : List Condition). building_all (all_asked s copy repeats 0 (map condition_of l)) b) (take_all i xs le)
