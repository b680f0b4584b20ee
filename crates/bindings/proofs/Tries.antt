-- Laws of values that are tried.
use Rattle.std.proofs.Common.{◌≡◌, ℕ, List, refl, sym, subst}
use Rattle.std.specs.Option.{is_some, MatchOption}
use Rattle.std.specs.Prelude.{Option, None, Some, Bool, slice_get, slice_set, Contains, IsTrue, ◌↔◌, false}
use Rattle.sd_value.specs.declared.Value.{Value}
use Rattle.graph_spec.specs.DataGraph.{DataGraph, HasEdge}
use Rattle.graph_spec.specs.Steps.{IsMemberValue}
use Rattle.condition_tests.specs.declared.literal.Slot.{Slot}
use Rattle.condition_tests.specs.declared.literal.Slot.TheVariants.{Variable}
use Rattle.condition_tests.specs.declared.literal.Property.TheVariants.{Member}
use Rattle.condition_tests.specs.declared.literal.Relation.TheVariants.{Edge}
use Rattle.condition_tests.specs.declared.literal.Atom.TheVariants.{One, Two}
use Rattle.condition_tests.specs.declared.literal.Literal.{Literal}
use Rattle.condition_tests.specs.declared.literal.Goal.{Goal}
use Rattle.condition_tests.specs.declared.literal.Goal.TheVariants.{Holds}
use Rattle.condition_tests.specs.Meaning.{Stands, AtomHolds, LiteralHolds, GoalHolds, Signed}
use Rattle.condition_tests.specs.Places.{IsKnown}
use Rattle.condition_tests.proofs.Decided.{known_stands}
use Rattle.condition_tests.specs.Known.{Agrees, IsCandidate, is_arc}
use Rattle.candidate_values.specs.Offers.{IsSettled}
use Rattle.bindings.specs.Fits.{Fits, SomeFits}
use Rattle.bindings.specs.Tries.{AreTried, GoalAt, IsTry}
use Rattle.bindings.proofs.Known.{slice_get-set_same}
use Rattle.bindings.proofs.Found.{agrees_less}

module _ (G : DataGraph) (version : ℕ) (arcs : List Bool) (goals : List Goal) where
  pub tried : (P : List Value → Type 0) (s : List (Option Value)) (slot : ℕ) (all : List Value) (exact : Bool) (slot2 : ℕ) (values : List Value) (settled : Bool) → slice_get s slot ≡ Some None → IsSettled G arcs slot all exact slot2 values settled
      → ((t : List Value) (v : Value) → Contains all v → slice_get t slot ≡ Some v → Agrees t s → P t) → AreTried G arcs P s slot2 values settled
  tried P s slot all exact slot2 values settled free h sound = record {
    free = subst (λ k. slice_get s k ≡ Some None) (sym h.same_slot) free;
    within = λ v c. subst (λ k. IsCandidate G (is_arc arcs k) v) (sym h.same_slot) (h.part.sound v c);
    exact = λ set t v c e a. sound t v (h.part.of_all v c) (subst (λ k. slice_get t k ≡ Some v) h.same_slot e) a;
  }

  pub tried_after : (s : List (Option Value)) (p : Slot) (label : List ℕ) (q : Slot) (u : Value) (slot : ℕ) (all : List Value) (exact : Bool) (slot2 : ℕ) (values : List Value) (settled : Bool)
      → IsKnown p s u → q ≡ Variable slot → slice_get s slot ≡ Some None → ((v : Value) → Contains all v → HasEdge G u label v) → IsSettled G arcs slot all exact slot2 values settled
      → AreTried G arcs (AtomHolds G version (Two p (Edge label) q)) s slot2 values settled
  tried_after s p label q u slot all exact slot2 values settled hp hq free edges h =
      tried (AtomHolds G version (Two p (Edge label) q)) s slot all exact slot2 values settled free h
      (λ t v c e a. (u, v, known_stands p t s u a hp, subst (λ r. Stands r t v) (sym hq) e, edges v c))

  pub tried_before : (s : List (Option Value)) (p : Slot) (label : List ℕ) (q : Slot) (v : Value) (slot : ℕ) (all : List Value) (exact : Bool) (slot2 : ℕ) (values : List Value) (settled : Bool)
      → IsKnown q s v → p ≡ Variable slot → slice_get s slot ≡ Some None → ((u : Value) → Contains all u → HasEdge G u label v) → IsSettled G arcs slot all exact slot2 values settled
      → AreTried G arcs (AtomHolds G version (Two p (Edge label) q)) s slot2 values settled
  tried_before s p label q v slot all exact slot2 values settled hq hp free edges h =
      tried (AtomHolds G version (Two p (Edge label) q)) s slot all exact slot2 values settled free h
      (λ t u c e a. (u, v, subst (λ r. Stands r t u) (sym hp) e, known_stands q t s v a hq, edges u c))

  pub tried_member : (s : List (Option Value)) (p : Slot) (collection : List ℕ) (slot : ℕ) (all : List Value) (exact : Bool) (slot2 : ℕ) (values : List Value) (settled : Bool)
      → p ≡ Variable slot → slice_get s slot ≡ Some None → ((v : Value) → Contains all v → IsMemberValue G collection v) → IsSettled G arcs slot all exact slot2 values settled
      → AreTried G arcs (AtomHolds G version (One p (Member collection))) s slot2 values settled
  tried_member s p collection slot all exact slot2 values settled hp free members h =
      tried (AtomHolds G version (One p (Member collection))) s slot all exact slot2 values settled free h
      (λ t v c e a. (v, subst (λ r. Stands r t v) (sym hp) e, members v c))

  -- what holds of the atom of a goal that is not negated holds of the goal
  pub tried_goal : (s : List (Option Value)) (goal : ℕ) (l : Literal) (slot : ℕ) (values : List Value) (settled : Bool) → slice_get goals goal ≡ Some (Holds l) → l.negated ≡ false
      → AreTried G arcs (AtomHolds G version l.atom) s slot values settled → AreTried G arcs (GoalAt G version goals goal) s slot values settled
  tried_goal s goal l slot values settled here positive a = record {
    free = a.free;
    within = a.within;
    exact = λ set t v c e b g there.
        (let now : LiteralHolds G version l t = subst (λ x. Signed x (AtomHolds G version l.atom t)) (sym positive) (a.exact set t v c e b) in
        let same : Holds l ≡ g = cc in subst (λ x. GoalHolds G version x t) same now);
  }

  -- a look for one row tells whether there is one
  pub witness_tells : (s : List (Option Value)) (o : Option (List Value)) → MatchOption o (SomeFits G version arcs goals 0 s → ⊥) (λ t. Fits G version arcs goals 0 s t) → IsTrue (is_some o) ↔ SomeFits G version arcs goals 0 s
  witness_tells s None none = ((λ yes. cc), (λ f. absurd (none f)))
  witness_tells s (Some t) fits = ((λ yes. record { row = t; fits = fits }), (λ f. refl))

  pub try_join : (at next : ℕ) (s : List (Option Value)) (slot : ℕ) (values : List Value) (v : Value) → IsTry G version arcs goals at s slot values next → Contains values v → (t : List Value) → Fits G version arcs goals next (slice_set s slot (Some v)) t → Fits G version arcs goals at s t
  try_join at next s slot values v c one t f =
      let here : slice_get t slot ≡ Some v = f.agrees.same slot v (slice_get-set_same s slot None (Some v) c.free) in
      let less : Fits G version arcs goals next s t = record { agrees = agrees_less G version arcs goals t s slot v c.free f.agrees; in_domains = f.in_domains; goals_hold = f.goals_hold } in
      c.exact t v one here less
