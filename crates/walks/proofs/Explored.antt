-- Several visits, one after the other.
use Rattle.std.proofs.Common.{ℕ, List, [], ◌∷◌, ◌++◌, ◌⊎◌, ◌↔◌, inl, inr, sym, ap, subst, arith, Contains}
use Rattle.std.proofs.lemmas.List.Elements.{Contains-push, Contains-append_left, Contains-push_cases}
use Rattle.std.specs.BTreeMap.{BTreeMap}
use Rattle.sd_value.specs.declared.Value.{Value}
use Rattle.automaton.specs.PositionSet.{Has}
use Rattle.automaton.specs.Positions.{ReadsIn}
use Rattle.automaton.specs.Table.{Table}
use Rattle.walks.specs.declared.search.Task.{Task}
use Rattle.graph_spec.specs.declared.Step.{Step}
use Rattle.walks.specs.Search.{Visits, Waits, Explores, At, Ahead}

nothing_new : (New : Value → ℕ → Type 0) (seen : BTreeMap Value (List ℕ)) (tasks : List Task) → ((v : Value) (p : ℕ) → New v p → ⊥) → Explores New seen seen tasks tasks
nothing_new New seen tasks none = record {
  visited = λ v p. (λ h. inl h, λ h. elim h [ inl k ↦ k | inr k ↦ absurd (none v p k) ]);
  waits = λ v p h. inl h;
  kept = λ v p h. h;
  fresh = λ v p k. absurd (none v p k);
  keys = λ v h. h;
  room = λ pairs within. omega arith;
}

module _ (One Other Both : Value → ℕ → Type 0) (seen seen1 seen2 : BTreeMap Value (List ℕ)) (tasks tasks1 tasks2 : List Task)
    (parts : (v : Value) (p : ℕ) → Both v p ↔ (One v p ⊎ Other v p)) where
  pub in_turn : Explores One seen seen1 tasks tasks1 → Explores Other seen1 seen2 tasks1 tasks2 → Explores Both seen seen2 tasks tasks2
  in_turn one other = record {
    visited = λ v p. (
      λ h. elim ((other.visited v p).0 h) [
        | inl k ↦ elim ((one.visited v p).0 k) [ inl g ↦ inl g | inr g ↦ inr ((parts v p).1 (inl g)) ]
        | inr k ↦ inr ((parts v p).1 (inr k))
      ],
      λ h. elim h [
        | inl k ↦ (other.visited v p).1 (inl ((one.visited v p).1 (inl k)))
        | inr k ↦ elim ((parts v p).0 k) [
          | inl g ↦ (other.visited v p).1 (inl ((one.visited v p).1 (inr g)))
          | inr g ↦ (other.visited v p).1 (inr g)
        ]
      ],
    );
    waits = λ v p h. elim (other.waits v p h) [
      | inl k ↦ elim (one.waits v p k) [ inl g ↦ inl g | inr g ↦ inr ((parts v p).1 (inl g)) ]
      | inr k ↦ inr ((parts v p).1 (inr k))
    ];
    kept = λ v p h. other.kept v p (one.kept v p h);
    fresh = λ v p h. elim ((parts v p).0 h) [
      | inl k ↦ by_one one other v p k
      | inr k ↦ elim (other.fresh v p k) [
        | inl g ↦ elim ((one.visited v p).0 g) [ inl f ↦ inl f | inr f ↦ by_one one other v p f ]
        | inr g ↦ inr g
      ]
    ];
    keys = λ v h. other.keys v (one.keys v h);
    room = λ pairs within.
        let a = one.room pairs (λ v p h. within v p ((parts v p).1 (inl h))) in
        let b = other.room pairs (λ v p h. within v p ((parts v p).1 (inr h))) in
        omega (arith, a, b);
  }
    where
      by_one : Explores One seen seen1 tasks tasks1 → Explores Other seen1 seen2 tasks1 tasks2 → (v : Value) (p : ℕ) → One v p → Visits seen v p ⊎ Waits tasks2 v p
      by_one one other v p k = elim (one.fresh v p k) [ inl g ↦ inl g | inr g ↦ inr (other.kept v p g) ]

pub no_steps : (t : Table) (reach : List ℕ) (seen : BTreeMap Value (List ℕ)) (tasks : List Task) → Explores (Ahead t reach []) seen seen tasks tasks
no_steps t reach seen tasks = nothing_new _ seen tasks (λ v p h. let k = h.1.1 in omega (arith, k))

pub one_step_more : (t : Table) (reach : List ℕ) (steps : List Step) (step : Step) (positions : List ℕ)
    (seen seen1 seen2 : BTreeMap Value (List ℕ)) (tasks tasks1 tasks2 : List Task)
    → ((q : ℕ) → Has positions q ↔ (Has reach q × ReadsIn t.letters q step.label))
    → Explores (Ahead t reach steps) seen seen1 tasks tasks1 → Explores (At step.end positions) seen1 seen2 tasks1 tasks2
    → Explores (Ahead t reach (steps ++ step ∷ [])) seen seen2 tasks tasks2
one_step_more t reach steps step positions seen seen1 seen2 tasks tasks1 tasks2 read one other =
    in_turn (Ahead t reach steps) (At step.end positions) (Ahead t reach (steps ++ step ∷ [])) seen seen1 seen2 tasks tasks1 tasks2 (λ v p. (to v p, from v p)) one other
  where
    to : (v : Value) (p : ℕ) → Ahead t reach (steps ++ step ∷ []) v p → Ahead t reach steps v p ⊎ At step.end positions v p
    to v p (l, c, h, r) = elim (Contains-push_cases steps step (record { label = l; end = v }) c) [
      | inl k ↦ inl (l, k, h, r)
      | inr e ↦ inr (sym (ap (λ (x : Step). x.end) e), (read p).1 (h, subst (λ k. ReadsIn t.letters p k) (sym (ap (λ (x : Step). x.label) e)) r))
    ]

    from : (v : Value) (p : ℕ) → Ahead t reach steps v p ⊎ At step.end positions v p → Ahead t reach (steps ++ step ∷ []) v p
    from v p (inl (l, c, h, r)) = (l, Contains-append_left steps (step ∷ []) (record { label = l; end = v }) c, h, r)
    from v p (inr (e, h)) =
        let k = (read p).0 h in
        (step.label, subst (λ (x : Value). Contains (steps ++ step ∷ []) (record { label = step.label; end = x })) (sym e) (Contains-push steps step), k.0, k.1)

pub same_pairs : (One Other : Value → ℕ → Type 0) → ((v : Value) (p : ℕ) → One v p ↔ Other v p)
    → (seen seen1 : BTreeMap Value (List ℕ)) (tasks tasks1 : List Task) → Explores One seen seen1 tasks tasks1 → Explores Other seen seen1 tasks tasks1
same_pairs One Other same seen seen1 tasks tasks1 e = record {
  visited = λ v p. (
    λ h. elim ((e.visited v p).0 h) [ inl k ↦ inl k | inr k ↦ inr ((same v p).0 k) ],
    λ h. (e.visited v p).1 (elim h [ inl k ↦ inl k | inr k ↦ inr ((same v p).1 k) ]),
  );
  waits = λ v p h. elim (e.waits v p h) [ inl k ↦ inl k | inr k ↦ inr ((same v p).0 k) ];
  kept = e.kept;
  fresh = λ v p h. e.fresh v p ((same v p).1 h);
  keys = e.keys;
  room = λ pairs within. e.room pairs (λ v p h. within v p ((same v p).0 h));
}
