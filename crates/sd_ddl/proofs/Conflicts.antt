-- Conflicts, one part after another.
use Rattle.std.proofs.Common.{◌≡◌, refl, sym, ap, subst, ◌∙◌, true, false, ℕ, List, [], ◌∷◌, ◌++◌, take, drop, length, get_or, ◌<◌, ◌≤◌, ◌+◌, arith, if◌then◌else◌, Result, Ok, Err, Some, None, append_assoc}
use Rattle.std.proofs.lemmas.List.{append-nil, drop_more, at_drop_all}
use Rattle.std.proofs.lemmas.Grind.{flat_map-append, take_at_read}
use Rattle.sd_graph.specs.Statement.{Statement, Building, Adds}
use Rattle.sd_graph.specs.Stating.{Step, says, fails, done, too_many_nodes, too_many_edges, no_memory, Ends, Leads}
use Rattle.sd_graph.specs.StatingLaws.{Ends-before, Ends-one, ending_at, IsCut, Continues, Continues-step, Continues-stop, Continues-end}
use Rattle.sd_graph.specs.declared.GraphRefusal.{GraphRefusal}
use Rattle.ddl_text.specs.declared.tree.Given.{Given}
use Rattle.ddl_text.specs.declared.tree.Content.{Content}
use Rattle.ddl_text.specs.declared.tree.Content.TheVariants as contents
use Rattle.sd_ddl.specs.declared.part.Part.{Part}
use Rattle.sd_ddl.specs.declared.part.Giving.{Giving}
use Rattle.sd_ddl.specs.declared.part.Part.TheVariants.{Gives, Node, Member, Edge}
use Rattle.sd_ddl.specs.declared.kinds.StatedKinds.{StatedKinds}
use Rattle.sd_ddl.specs.declared.kinds.StatedKinds.TheVariants.{Nothing, One, Several}
use Rattle.sd_ddl.specs.declared.kinds.Givings.{Givings}
use Rattle.sd_ddl.specs.declared.kinds.Kinds.{Kinds}
use Rattle.sd_ddl.specs.declared.conflict.Stop.{Stop}
use Rattle.sd_ddl.specs.declared.conflict.Stop.TheVariants.{KindConflict, TooManyNodes, TooManyEdges, NoMemory}
use Rattle.sd_ddl.specs.Kinds.{Name, given, differs}
use Rattle.sd_ddl.specs.Tables.{both, is_several, told_of, HasGivings, Knows, has_two_kinds, is_conflict}
use Rattle.sd_ddl.specs.Steps.{value_of, edge_steps, said, steps_of, steps_from, steps, kinds_told, place_of}
use Rattle.sd_ddl.specs.declared.conflict.Conflict.{Conflict}
use Rattle.sd_ddl.specs.Stops.{all_said, NoFails, stop_ending, IsFirst, Takes}
use Rattle.sd_ddl.proofs.Told.{several-differs}

-- the tables tell what the whole text tells
pub same_kinds : (parts : List Part) (kinds : Kinds) → Knows parts kinds → told_of kinds ≡ kinds_told parts
same_kinds parts kinds knows = λ i o a. knows o a i

value_conflict : (t : StatedKinds) (place : ℕ) (o l : Name) (v : Content) → has_two_kinds t v ≡ true → edge_steps place o l (value_of t v) ≡ fails place ∷ []
value_conflict t place o l (contents.Number n) h = cc
value_conflict Nothing place o l (contents.Plain s) h = cc
value_conflict (One k) place o l (contents.Plain s) h = cc
value_conflict Several place o l (contents.Plain s) h = refl
value_conflict t place o l (contents.Kinded k s) h = cc
value_conflict t place o l (contents.Node n) h = cc

value_said : (t : StatedKinds) (place : ℕ) (o l : Name) (v : Content) → has_two_kinds t v ≡ false → NoFails (edge_steps place o l (value_of t v))
value_said t place o l (contents.Number n) h = tt
value_said Nothing place o l (contents.Plain s) h = tt
value_said (One k) place o l (contents.Plain s) h = tt
value_said Several place o l (contents.Plain s) h = cc
value_said t place o l (contents.Kinded k s) h = tt
value_said t place o l (contents.Node n) h = tt

module _ (parts : List Part) (kinds : Kinds) (knows : Knows parts kinds) (front : List Part) (seen : Givings) (has : HasGivings front seen) where
  gives_conflict : (g : Giving) → is_conflict seen kinds (Gives g) ≡ differs (given front g.collection g.attribute) g.kind.kind
  gives_conflict g =
      ap (λ t. is_several (both t (One g.kind.kind))) (has g.collection g.attribute) ∙ several-differs (given front g.collection g.attribute) g.kind.kind

  edge_conflict : (o l : Name) (v : Given) → is_conflict seen kinds (Edge o l v) ≡ has_two_kinds (kinds_told parts o l) v.content
  edge_conflict o l v = ap (λ t. has_two_kinds t v.content) (knows o l)

  -- a conflict fails at its place
  pub conflict_fails : (p : Part) → is_conflict seen kinds p ≡ true → steps_of (kinds_told parts) front p ≡ fails (place_of p) ∷ []
  conflict_fails (Gives g) h = ap (λ b. if b then fails g.kind.place ∷ [] else []) (sym (gives_conflict g) ∙ h)
  conflict_fails (Node n) h = cc
  conflict_fails (Member c n) h = cc
  conflict_fails (Edge o l v) h = value_conflict (kinds_told parts o l) v.place o l v.content (sym (edge_conflict o l v) ∙ h)

  -- any other part states what it states
  pub other_said : (p : Part) → is_conflict seen kinds p ≡ false → (steps_of (kinds_told parts) front p ≡ said (kinds_told parts) p) × NoFails (said (kinds_told parts) p)
  other_said (Gives g) h = (ap (λ b. if b then fails g.kind.place ∷ [] else []) (sym (gives_conflict g) ∙ h), tt)
  other_said (Node n) h = (refl, tt)
  other_said (Member c n) h = (refl, tt)
  other_said (Edge o l v) h = (refl, value_said (kinds_told parts o l) v.place o l v.content (sym (edge_conflict o l v) ∙ h))

pub NoFails-append : (xs ys : List (Step ℕ ℕ)) → NoFails xs → NoFails ys → NoFails (xs ++ ys)
NoFails-append [] ys h k = k
NoFails-append (says p s ∷ xs) ys h k = NoFails-append xs ys h k
NoFails-append (fails f ∷ xs) ys h k = absurd h

no_fault : (front rest : List (Step ℕ ℕ)) (f : ℕ) → NoFails (front ++ (fails f ∷ rest)) → ⊥
no_fault [] rest f h = h
no_fault (says p s ∷ front) rest f h = no_fault front rest f h
no_fault (fails g ∷ front) rest f h = h

-- what the steps before the i-th part say, and those behind it
pub record Reached (parts front later : List Part) : Type 0 where
  pub steps_are : steps parts ≡ all_said (kinds_told parts) front ++ steps_from (kinds_told parts) front later
  pub all_fit : NoFails (all_said (kinds_told parts) front)

pub reached_next : (parts front later : List Part) (p : Part) → Reached parts front (p ∷ later)
    → (steps_of (kinds_told parts) front p ≡ said (kinds_told parts) p) × NoFails (said (kinds_told parts) p) → Reached parts (front ++ p ∷ []) later
reached_next parts front later p r is = record {
  steps_are = r.steps_are ∙ ap (λ s. all_said (kinds_told parts) front ++ (s ++ steps_from (kinds_told parts) (front ++ p ∷ []) later)) is.0
      ∙ sym (append_assoc (all_said (kinds_told parts) front) (said (kinds_told parts) p) _)
      ∙ ap (λ s. s ++ steps_from (kinds_told parts) (front ++ p ∷ []) later) (sym all);
  all_fit = subst NoFails (sym all) (NoFails-append (all_said (kinds_told parts) front) (said (kinds_told parts) p) r.all_fit is.1);
}
  where
    all : all_said (kinds_told parts) (front ++ p ∷ []) ≡ all_said (kinds_told parts) front ++ said (kinds_told parts) p
    all = flat_map-append (said (kinds_told parts)) front (p ∷ []) ∙ ap (λ s. all_said (kinds_told parts) front ++ s) (append-nil (said (kinds_told parts) p))

pub reached_conflict : (parts front later : List Part) (p : Part) → Reached parts front (p ∷ later) → steps_of (kinds_told parts) front p ≡ fails (place_of p) ∷ []
    → steps parts ≡ all_said (kinds_told parts) front ++ (fails (place_of p) ∷ steps_from (kinds_told parts) (front ++ p ∷ []) later)
reached_conflict parts front later p r is =
    r.steps_are ∙ ap (λ s. all_said (kinds_told parts) front ++ (s ++ steps_from (kinds_told parts) (front ++ p ∷ []) later)) is

-- without a conflict the answer is that of all steps
pub takes_all : (parts : List Part) (steps_said : List (Step ℕ ℕ)) (b c : Building) (r : Result (Unit {0}) Stop) → steps parts ≡ steps_said → NoFails steps_said
    → Ends b steps_said c (stop_ending r) → Takes parts b c r
takes_all parts ss b c (Ok u) e n h = subst (λ s. Ends b s c done) (sym e) h
takes_all parts ss b c (Err (KindConflict at)) e n (front, rest, is, leads) = absurd (no_fault front rest at (subst NoFails is n))
takes_all parts ss b c (Err (TooManyNodes at)) e n h = subst (λ s. Ends b s c (too_many_nodes at)) (sym e) h
takes_all parts ss b c (Err (TooManyEdges at)) e n h = subst (λ s. Ends b s c (too_many_edges at)) (sym e) h
takes_all parts ss b c (Err NoMemory) e n h = subst (λ s. Ends b s c no_memory) (sym e) h

-- what doesn't fit before the conflict
pub takes_cut : (parts : List Part) (steps_said more : List (Step ℕ ℕ)) (b c : Building) (stop : Stop) → steps parts ≡ steps_said ++ more → NoFails steps_said
    → Ends b steps_said c (stop_ending (Err stop)) → Takes parts b c (Err stop)
takes_cut parts ss more b c (KindConflict at) e n (front, rest, is, leads) = absurd (no_fault front rest at (subst NoFails is n))
takes_cut parts ss more b c (TooManyNodes at) e n h = subst (λ s. Ends b s c (too_many_nodes at)) (sym e) (Ends-before b c ss more (too_many_nodes at) tt h)
takes_cut parts ss more b c (TooManyEdges at) e n h = subst (λ s. Ends b s c (too_many_edges at)) (sym e) (Ends-before b c ss more (too_many_edges at) tt h)
takes_cut parts ss more b c NoMemory e n h = subst (λ s. Ends b s c no_memory) (sym e) (Ends-before b c ss more no_memory tt h)

-- all before the conflict fits
pub takes_conflict : (parts : List Part) (steps_said more : List (Step ℕ ℕ)) (at : ℕ) (b c d : Building) → steps parts ≡ steps_said ++ (fails at ∷ more)
    → Leads b steps_said d → c ≡ b → Takes parts b c (Err (KindConflict at))
takes_conflict parts ss more at b c d e h same = (same, (d, (ss, more, e, h)))

-- the next part of a list that is gone through
pub next_part : (parts : List Part) (i : ℕ) (p : Part) → i < length parts → p ≡ get_or parts i p
    → (drop i parts ≡ p ∷ drop (i + 1) parts) × (take (i + 1) parts ≡ take i parts ++ p ∷ [])
next_part parts i p lt is =
    (drop_more parts i p lt ∙ ap (λ q. q ∷ drop (i + 1) parts) (sym is), (take_at_read parts i p lt).1 ∙ ap (λ q. take i parts ++ q ∷ []) (sym is))

module _ (parts : List Part) (kinds : Kinds) (knows : Knows parts kinds) (i : ℕ) (p : Part) (lt : i < length parts) (is : p ≡ get_or parts i p) (seen : Givings)
    (has : HasGivings (take i parts) seen) (reached : Reached parts (take i parts) (drop i parts)) where
  reached_here : Reached parts (take i parts) (p ∷ drop (i + 1) parts)
  reached_here = subst (Reached parts (take i parts)) (next_part parts i p lt is).0 reached

  pub first_found : (count place : ℕ) → count ≡ i → place ≡ place_of p → is_conflict seen kinds p ≡ true → IsFirst parts (Some (record { count = count; place = place }))
  first_found count place same at h =
      subst (λ n. IsFirst parts (Some (record { count = n; place = place }))) (sym same)
      (subst (λ n. IsFirst parts (Some (record { count = i; place = n }))) (sym at) (
        omega (arith, lt),
        reached.all_fit,
        (steps_from (kinds_told parts) (take i parts ++ p ∷ []) (drop (i + 1) parts), reached_conflict parts (take i parts) (drop (i + 1) parts) p reached_here (conflict_fails parts kinds knows (take i parts) seen has p h)),
      ))

  pub not_yet : (more : Givings) → HasGivings (take i parts ++ p ∷ []) more → is_conflict seen kinds p ≡ false
      → HasGivings (take (i + 1) parts) more × Reached parts (take (i + 1) parts) (drop (i + 1) parts)
  not_yet more add h =
      let front = sym (next_part parts i p lt is).1 in (
        subst (λ ps. HasGivings ps more) front add,
        subst (λ ps. Reached parts ps (drop (i + 1) parts)) front
            (reached_next parts (take i parts) (drop (i + 1) parts) p reached_here (other_said parts kinds knows (take i parts) seen has p h)),
      )

-- one statement at its place
pub stated : (place : ℕ) (s : Statement) (b c : Building) (r : Result (Unit {0}) GraphRefusal) (stop : Result (Unit {0}) Stop) → Adds s b c r
    → stop_ending stop ≡ ending_at place r → Ends b (says place s ∷ []) c (stop_ending stop)
stated place s b c r stop adds e = subst (Ends b (says place s ∷ []) c) (sym e) (Ends-one ℕ place s b c r adds)

pub cuts : (stop : Stop) → IsCut (stop_ending (Err stop))
cuts (KindConflict at) = tt
cuts (TooManyNodes at) = tt
cuts (TooManyEdges at) = tt
cuts NoMemory = tt

module _ (k : Name → Name → StatedKinds) (parts : List Part) (b c d : Building) (i : ℕ) (p : Part) (lt : i < length parts) (is : p ≡ get_or parts i p)
    (whole : Continues b (all_said k parts) c (all_said k (drop i parts))) where
  whole_here : Continues b (all_said k parts) c (said k p ++ all_said k (drop (i + 1) parts))
  whole_here = subst (Continues b (all_said k parts) c) (ap (all_said k) (next_part parts i p lt is).0) whole

  pub part_added : Leads c (said k p) d → Continues b (all_said k parts) d (all_said k (drop (i + 1) parts))
  part_added h = Continues-step b c d (all_said k parts) (said k p) (all_said k (drop (i + 1) parts)) whole_here h

  pub part_stopped : (stop : Stop) → Ends c (said k p) d (stop_ending (Err stop)) → Ends b (all_said k parts) d (stop_ending (Err stop))
  part_stopped stop h = Continues-stop b c d (all_said k parts) (said k p) (all_said k (drop (i + 1) parts)) (stop_ending (Err stop)) whole_here (cuts stop) h

pub parts_added : (k : Name → Name → StatedKinds) (parts : List Part) (b c : Building) (i : ℕ) → length parts ≤ i → Continues b (all_said k parts) c (all_said k (drop i parts))
    → Leads b (all_said k parts) c
parts_added k parts b c i over whole =
    Continues-end b c (all_said k parts) (subst (Continues b (all_said k parts) c) (at_drop_all (all_said k) parts i over) whole)

-- What stands before a conflict is added by the tables, and seen as what the whole text tells.
module _ (parts : List Part) (kinds : Kinds) (knows : Knows parts kinds) where
  pub all_taken : (b c : Building) (r : Result (Unit {0}) Stop) → IsFirst parts None → Ends b (all_said (told_of kinds) parts) c (stop_ending r) → Takes parts b c r
  all_taken b c r none h =
      takes_all parts (all_said (kinds_told parts) parts) b c r none.0 none.1 (subst (λ k. Ends b (all_said k parts) c (stop_ending r)) (same_kinds parts kinds knows) h)

  pub front_stopped : (conflict : Conflict) (front : List Part) (b c : Building) (stop : Stop) → IsFirst parts (Some conflict) → front ≡ take conflict.count parts
      → Ends b (all_said (told_of kinds) front) c (stop_ending (Err stop)) → Takes parts b c (Err stop)
  front_stopped conflict front b c stop (within, fit, (rest, e)) is h =
      takes_cut parts (all_said (kinds_told parts) (take conflict.count parts)) (fails conflict.place ∷ rest) b c stop e fit
      (subst (λ k. Ends b (all_said k (take conflict.count parts)) c (stop_ending (Err stop))) (same_kinds parts kinds knows)
      (subst (λ ps. Ends b (all_said (told_of kinds) ps) c (stop_ending (Err stop))) is h))

  pub front_added : (conflict : Conflict) (front : List Part) (b d : Building) → IsFirst parts (Some conflict) → front ≡ take conflict.count parts
      → Leads b (all_said (told_of kinds) front) d → Takes parts b b (Err (KindConflict conflict.place))
  front_added conflict front b d (within, fit, (rest, e)) is h =
      takes_conflict parts (all_said (kinds_told parts) (take conflict.count parts)) rest conflict.place b b d e
      (subst (λ k. Leads b (all_said k (take conflict.count parts)) d) (same_kinds parts kinds knows)
      (subst (λ ps. Leads b (all_said (told_of kinds) ps) d) is h)) refl
