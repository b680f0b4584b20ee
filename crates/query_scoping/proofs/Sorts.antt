-- In a query without faults a variable has one sort, wherever it stands in a chain.
use Rattle.std.proofs.Common.{◌≡◌, ℕ, List, [], ◌∷◌, ◌++◌, refl, sym, ap, ◌∙◌, subst, append_assoc, ⊎_elim}
use Rattle.std.specs.Prelude.{Bool, true, false, ◌||◌, Contains, Option, Some, None}
use Rattle.std.proofs.lemmas.List.{append-nil}
use Rattle.std.proofs.lemmas.List.Elements.{Contains-append_cases}
use Rattle.sd_value.specs.Members.{Contains-nil, Contains-cons_cases}
use Rattle.query_spec.specs.Mentions.{same_name}
use Rattle.struql_ast.specs.Written.{Name}
use Rattle.struql_check.specs.declared.faults.Check.{Check}
use Rattle.struql_check.specs.declared.faults.Check.TheVariants.{ArcAsNode, NotLabel}
use Rattle.struql_check.specs.declared.mentions.VariableUse.{VariableUse}
use Rattle.struql_check.specs.declared.mentions.Role.TheVariants.{Arc, End}
use Rattle.struql_check.specs.Scope.{is_in, sort_of}
use Rattle.struql_check.specs.Faults.{SomeIn, MentionFault, BlockFault}
use Rattle.query_spec.proofs.MentionLaws.{same_itself, by_test}
use Rattle.query_scoping.proofs.Placed.{Placed, joined, scoped_of}

-- a block's own mention is in it
pub mentioned : (ms : List VariableUse) (m : VariableUse) → Contains ms m → is_in ms m.name ≡ true
mentioned [] m h = absurd (Contains-nil m h)
mentioned (n ∷ ms) m h =
    ⊎_elim
    (λ e. (let s : same_name m.name n.name ≡ true = subst (λ (k : VariableUse). same_name m.name k.name ≡ true) (sym e) (same_itself m.name) in rw s refl))
    (λ k. (let r = mentioned ms m k in rw r (or_true (same_name m.name n.name))))
    (Contains-cons_cases n ms m h) where
      or_true : (b : Bool) → (b || true) ≡ true
      or_true true = refl
      or_true false = refl

-- the sort that outer blocks give stays
pub sort_kept : (round more : List (List VariableUse)) (x : Name) (b : Bool) → sort_of round x ≡ Some b → sort_of (round ++ more) x ≡ Some b
sort_kept [] more x b e = absurd cc
sort_kept (here ∷ deeper) more x b e =
    by_test (is_in here x) (sort_of ((here ∷ deeper) ++ more) x ≡ Some b)
    (λ t. rw t (rw t at e))
    (λ f. rw f (sort_kept deeper more x b (rw f at e)))

-- what a block mentions has a sort in it
pub sort_some : (round : List (List VariableUse)) (own : List VariableUse) (x : Name) → is_in own x ≡ true → sort_of (round ++ own ∷ []) x ≡ None → ⊥
sort_some [] own x t e = (let f = rw t at e in cc)
sort_some (here ∷ deeper) own x t e =
    by_test (is_in here x) ⊥
    (λ y. (let f = rw y at e in cc))
    (λ n. sort_some deeper own x t (rw n at e))

option_cases : (o : Option Bool) (P : Type 0) → (o ≡ None → P) → (o ≡ Some true → P) → (o ≡ Some false → P) → P
option_cases None P n t f = n refl
option_cases (Some true) P n t f = t refl
option_cases (Some false) P n t f = f refl

-- each mention in the conditions has the sort that its role asks for
pub record IsSound (round : List (List VariableUse)) : Type 0 where
  pub ends : (m : VariableUse) → Contains (joined round) m → m.role ≡ End → sort_of round m.name ≡ Some false
  pub arcs : (m : VariableUse) → Contains (joined round) m → m.role ≡ Arc → sort_of round m.name ≡ Some true

abbrev pub NoFault : ℕ → Placed → Type 0
NoFault version p = (check : Check) (at : ℕ) → BlockFault version (scoped_of p) check at → ⊥

joined_push : {X : Type 0} (xss : List (List X)) (xs : List X) → joined (xss ++ xs ∷ []) ≡ joined xss ++ xs
joined_push [] xs = append-nil xs
joined_push (ys ∷ xss) xs = ap (λ l. ys ++ l) (joined_push xss xs) ∙ sym (append_assoc ys (joined xss) xs)

pub sound_step : (round : List (List VariableUse)) (own : List VariableUse) → IsSound round
    → ((check : Check) (at : ℕ) → SomeIn (MentionFault (round ++ own ∷ [])) own check at → ⊥) → IsSound (round ++ own ∷ [])
sound_step round own s never = record {
  ends = λ m h role. ⊎_elim
      (λ k. sort_kept round (own ∷ []) m.name false (s.ends m k role))
      (λ k. option_cases (sort_of (round ++ own ∷ []) m.name) (sort_of (round ++ own ∷ []) m.name ≡ Some false)
      (λ n. absurd (sort_some round own m.name (mentioned own m k) n))
      (λ t. absurd (never ArcAsNode m.at (m, k, (role, t, refl))))
      (λ f. f))
      (Contains-append_cases (joined round) own m (subst (λ (ms : List VariableUse). Contains ms m) (joined_push round own) h));
  arcs = λ m h role. ⊎_elim
      (λ k. sort_kept round (own ∷ []) m.name true (s.arcs m k role))
      (λ k. option_cases (sort_of (round ++ own ∷ []) m.name) (sort_of (round ++ own ∷ []) m.name ≡ Some true)
      (λ n. absurd (sort_some round own m.name (mentioned own m k) n))
      (λ t. t)
      (λ f. absurd (never NotLabel m.at (m, k, (rw role tt, f, refl)))))
      (Contains-append_cases (joined round) own m (subst (λ (ms : List VariableUse). Contains ms m) (joined_push round own) h));
}

-- a variable that has a sort is mentioned
pub sorted_in : (round : List (List VariableUse)) (x : Name) → (sort_of round x ≡ None → ⊥) → is_in (joined round) x ≡ true
sorted_in [] x n = absurd (n refl)
sorted_in (here ∷ deeper) x n =
    by_test (is_in here x) (is_in (joined (here ∷ deeper)) x ≡ true)
    (λ t. in_left here (joined deeper) x t)
    (λ f. in_right here (joined deeper) x (sorted_in deeper x (λ e. n (rw f e)))) where
      in_left : (ms ns : List VariableUse) (x : Name) → is_in ms x ≡ true → is_in (ms ++ ns) x ≡ true
      in_left [] ns x t = absurd cc
      in_left (m ∷ ms) ns x t = by_test (same_name x m.name) (is_in ((m ∷ ms) ++ ns) x ≡ true) (λ y. rw y refl) (λ z. rw z (in_left ms ns x (rw z at t)))

      in_right : (ms ns : List VariableUse) (x : Name) → is_in ns x ≡ true → is_in (ms ++ ns) x ≡ true
      in_right [] ns x t = t
      in_right (m ∷ ms) ns x t = (let r = in_right ms ns x t in by_test (same_name x m.name) (is_in ((m ∷ ms) ++ ns) x ≡ true) (λ y. rw y refl) (λ z. rw (z, r) refl))
