-- Entailment is sound: values under which the conditions hold make each entailed condition hold.
use Rattle.std.proofs.Common.{◌≡◌, ℕ, List, [], ◌∷◌, ◌++◌, refl, sym, subst, inl, inr}
use Rattle.std.specs.Prelude.{Some, Contains}
use Rattle.std.specs.List.{flat_map}
use Rattle.std.proofs.lemmas.List.Elements.{All-contains, Contains-append_left, Contains-append_cases}
use Rattle.sd_value.specs.declared.Value.{Value}
use Rattle.sd_value.specs.Members.{Contains-nil, Contains-cons_cases, Contains-here, Contains-flat_mapped}
use Rattle.rpe.specs.Regex.{Regex, Word, any}
use Rattle.rpe.specs.Language.{InLanguage}
use Rattle.graph_spec.specs.DataGraph.{DataGraph, Name, text}
use Rattle.query_spec.specs.declared.Op.{Op}
use Rattle.query_spec.specs.declared.Op.TheVariants.{Eq, Ne, Lt, Le, Gt, Ge, Texts}
use Rattle.query_spec.specs.declared.Test.{Test}
use Rattle.query_spec.specs.Query.{Operand, variable, constant, arc_variable, expression, Condition, member, path, compare, one_of, kind, negation}
use Rattle.query_spec.specs.Mentions.{operand_names, step_names, names, arc_names, IsFlat}
use Rattle.query_spec.specs.Holds.{Assignment, operand_value, IsEqual, Compares, HasKind, Holds}
use Rattle.constraint_spec.specs.Entailed.{IsIncluded, HasNarrowerPath, HasNarrowerStep, IsIdle, HasTurned, HasBelow, HasStricter, HasConstant, IsAmong, HasFewer, HasOneOf, HasKnownKind, IsTextOfArc, Follows, IsPlainlyEntailed, IsEntailed}
use Rattle.constraint_laws.proofs.Equality.{equal_turned, equal_through, equal_without_twin, compares_turned, below_differs}

pub included : (a b : Regex) → IsIncluded a b → (word : Word) → InLanguage a word → InLanguage b word
included a b (inl small) word h = small.words word h
included a b (inr large) word h = subst (λ r. InLanguage r word) large.same h

abbrev pub HasValue : Assignment → Name → Type 0
HasValue s x = (a : Value) × (s x ≡ Some a)

abbrev pub IsText : Assignment → Name → Type 0
IsText s x = (l : Name) × (s x ≡ Some (text l))

operand_has_value : (s : Assignment) (t : Operand) → ((x : Name) → Contains (operand_names t) x → HasValue s x) → (a : Value) × (operand_value s t ≡ Some a)
operand_has_value s (variable x) h = h x (Contains-here x [])
operand_has_value s (constant v) h = (v, refl)

some_is : (a b : Value) → Some a ≡ Some b → a ≡ b
some_is a b e = cc

-- the values are such that the conditions of S hold and its arc variables are texts
pub record Satisfies (G : DataGraph) (version : ℕ) (S : List Condition) (s : Assignment) : Type 0 where
  pub holds : (c : Condition) → Contains S c → Holds G version c s
  pub texts : (x : Name) → Contains (flat_map arc_names S) x → IsText s x

module _ (G : DataGraph) (version : ℕ) (S : List Condition) (s : Assignment) (satisfies : Satisfies G version S s) where
  narrower_path : (t : Operand) (r : Regex) (u : Operand) → HasNarrowerPath S t r u → Holds G version (path t (expression r) u) s
  narrower_path t r u h =
      let (a, b, ta, ub, word, spelled, walk) = satisfies.holds (path t (expression h.0) u) h.1 in
      (a, b, ta, ub, word, included h.0 r h.2 word spelled, walk)

  narrower_step : (t : Operand) (r : Regex) (u : Operand) → HasNarrowerStep S t r u → Holds G version (path t (expression r) u) s
  narrower_step t r u h =
      let (a, b, ta, ub, label, is, edge) = satisfies.holds (path t (arc_variable h.0) u) h.1 in
      (a, b, ta, ub, label ∷ [], included any r h.2 (label ∷ []) (label, refl), (b, edge, refl))

  idle : (t : Operand) (r : Regex) (u : Operand) → ((x : Name) → Contains (operand_names t) x → HasValue s x) → IsIdle t r u → Holds G version (path t (expression r) u) s
  idle t r u known h =
      let at = operand_has_value s t known in
      (at.0, at.0, at.1, subst (λ w. operand_value s w ≡ Some at.0) h.0 at.1, [], h.1, refl)

  below : (t u : Operand) → HasBelow S t u → Holds G version (compare t Lt u) s
  below t u (inl m) = satisfies.holds (compare t Lt u) m
  below t u (inr m) =
      let (b, a, ub, ta, greater) = satisfies.holds (compare u Gt t) m in
      (a, b, ta, ub, compares_turned version Lt Gt a b refl greater)

  stricter : (t : Operand) (op : Op) (u : Operand) → HasStricter S t op u → Holds G version (compare t op u) s
  stricter t Le u h = let (a, b, ta, ub, less) = below t u h in (a, b, ta, ub, inl less)
  stricter t Ge u h = let (b, a, ub, ta, less) = below u t h in (a, b, ta, ub, compares_turned version Ge Le a b refl (inl less))
  stricter t Ne u (inl h) = let (a, b, ta, ub, less) = below t u h in (a, b, ta, ub, below_differs version a b less)
  stricter t Ne u (inr h) = let (b, a, ub, ta, less) = below u t h in (a, b, ta, ub, λ e. below_differs version b a less (equal_turned version a b e))
  stricter t Eq u h = absurd h
  stricter t Lt u h = absurd h
  stricter t Gt u h = absurd h
  stricter t (Texts test) u h = absurd h

  exchanged : (t : Operand) (op : Op) (u : Operand) → HasTurned S t op u → Holds G version (compare t op u) s
  exchanged t op u (p, is, m) =
      let (b, a, ub, ta, h) = satisfies.holds (compare u p t) m in
      (a, b, ta, ub, compares_turned version op p a b is h)

  to_itself : (t : Operand) (op : Op) (u : Operand) → ((x : Name) → Contains (operand_names t) x → HasValue s x) → (op ≡ Eq) × (t ≡ u) → Holds G version (compare t op u) s
  to_itself t op u known h =
      let at = operand_has_value s t known in
      (at.0, at.0, at.1, subst (λ w. operand_value s w ≡ Some at.0) h.1 at.1, subst (λ o. Compares version o at.0 at.0) (sym h.0) (inl refl))

  -- the value is the constant or its twin
  constant_value : (t : Operand) (k : Value) → HasConstant S t k → (a : Value) × (operand_value s t ≡ Some a) × IsEqual version a k
  constant_value t k (inl m) =
      let (a, b, ta, kb, e) = satisfies.holds (compare t Eq (constant k)) m in
      (a, ta, subst (IsEqual version a) (sym (some_is k b kb)) e)
  constant_value t k (inr m) =
      let (b, a, kb, ta, e) = satisfies.holds (compare (constant k) Eq t) m in
      (a, ta, subst (IsEqual version a) (sym (some_is k b kb)) (equal_turned version b a e))

  among : (t : Operand) (values : List Value) (a k : Value) → operand_value s t ≡ Some a → IsEqual version a k → IsAmong version values k → Holds G version (one_of t values) s
  among t values a k ta e h = (a, ta, h.0, h.1, equal_through version a k h.0 e h.2)

  fewer : (t : Operand) (values : List Value) → HasFewer version S t values → Holds G version (one_of t values) s
  fewer t values h =
      let (a, ta, k, within, e) = satisfies.holds (one_of t h.0) h.1 in
      among t values a k ta e (All-contains (IsAmong version values) h.0 k h.2 within)

  one_constant : (t : Operand) (values : List Value) → HasOneOf version S t values → Holds G version (one_of t values) s
  one_constant t values h = let at = constant_value t h.0 h.1 in among t values at.0 h.0 at.1 at.2 h.2

  known_kind : (test : Test) (x : Name) → HasKnownKind version S test x → Holds G version (kind test x) s
  known_kind test x h =
      let at = constant_value (variable x) h.0 h.1 in
      (at.0, at.1, subst (HasKind test) (sym (equal_without_twin version at.0 h.0 h.3 at.2)) h.2)

  text_of_arc : (test : Test) (x : Name) → IsTextOfArc S test x → Holds G version (kind test x) s
  text_of_arc test x h =
      let at = satisfies.texts x h.1 in
      (text at.0, at.1, subst (λ t. HasKind t (text at.0)) (sym h.0) (at.0, refl))

  follows : (c : Condition) → ((x : Name) → Contains (names c) x → HasValue s x) → Follows version S c → Holds G version c s
  follows (path t (expression r) u) known (inl h) = narrower_path t r u h
  follows (path t (expression r) u) known (inr (inl h)) = narrower_step t r u h
  follows (path t (expression r) u) known (inr (inr h)) = idle t r u (λ x m. known x (Contains-append_left (operand_names t ++ step_names (expression r)) (operand_names u) x (Contains-append_left (operand_names t) (step_names (expression r)) x m))) h
  follows (compare t op u) known (inl h) = to_itself t op u (λ x m. known x (Contains-append_left (operand_names t) (operand_names u) x m)) h
  follows (compare t op u) known (inr (inl h)) = exchanged t op u h
  follows (compare t op u) known (inr (inr h)) = stricter t op u h
  follows (one_of t values) known (inl h) = fewer t values h
  follows (one_of t values) known (inr h) = one_constant t values h
  follows (kind test x) known (inl h) = known_kind test x h
  follows (kind test x) known (inr h) = text_of_arc test x h
  follows (path t (arc_variable a) u) known h = absurd h
  follows (member c x) known h = absurd h
  follows (negation c) known h = absurd h

  pub plainly : (c : Condition) → ((x : Name) → Contains (names c) x → HasValue s x) → IsPlainlyEntailed version S c → Holds G version c s
  plainly c known (inl m) = satisfies.holds c m
  plainly c known (inr h) = follows c known h

-- the arc variables of a condition that holds are texts, unless it is a negation
own_texts : (G : DataGraph) (version : ℕ) (p : Condition) (s : Assignment) → IsFlat (negation p) → Holds G version p s → (x : Name) → Contains (arc_names p) x → IsText s x
own_texts G version (path t (arc_variable a) u) s flat h x m =
    elim (Contains-cons_cases a [] x m) [ inl e ↦ let (b, c, tb, uc, label, is, edge) = h in (label, subst (λ z. s z ≡ Some (text label)) e is) | inr none ↦ absurd (Contains-nil x none) ]
own_texts G version (path t (expression r) u) s flat h x m = absurd (Contains-nil x m)
own_texts G version (member c y) s flat h x m = absurd (Contains-nil x m)
own_texts G version (compare t op u) s flat h x m = absurd (Contains-nil x m)
own_texts G version (one_of t values) s flat h x m = absurd (Contains-nil x m)
own_texts G version (kind test y) s flat h x m = absurd (Contains-nil x m)
own_texts G version (negation c) s flat h x m = absurd flat

alone_satisfies : (G : DataGraph) (version : ℕ) (p : Condition) (s : Assignment) → IsFlat (negation p) → Holds G version p s → Satisfies G version (p ∷ []) s
alone_satisfies G version p s flat h = record {
  holds = λ c m. elim (Contains-cons_cases p [] c m) [ inl e ↦ subst (λ z. Holds G version z s) e h | inr none ↦ absurd (Contains-nil c none) ];
  texts = λ x m. own_texts G version p s flat h x (elim (Contains-append_cases (arc_names p) [] x m) [ inl here ↦ here | inr none ↦ absurd (Contains-nil x none) ]);
}

pub entailed : (G : DataGraph) (version : ℕ) (S : List Condition) (s : Assignment) → Satisfies G version S s → ((x : Name) → Contains (flat_map names S) x → HasValue s x)
    → (c : Condition) → IsFlat c → ((x : Name) → Contains (names c) x → HasValue s x) → IsEntailed version S c → Holds G version c s
entailed G version S s satisfies all_known c flat known (inl h) = plainly G version S s satisfies c known h
entailed G version S s satisfies all_known (negation p) flat known (inr h) = λ holds.
    let q_known : (x : Name) → Contains (names h.0) x → HasValue s x = λ x m. all_known x (Contains-flat_mapped names S (negation h.0) x h.1 m) in
    satisfies.holds (negation h.0) h.1 (plainly G version (p ∷ []) s (alone_satisfies G version p s flat holds) h.0 q_known h.2)
entailed G version S s satisfies all_known (member c x) flat known (inr h) = absurd h
entailed G version S s satisfies all_known (path t step u) flat known (inr h) = absurd h
entailed G version S s satisfies all_known (compare t op u) flat known (inr h) = absurd h
entailed G version S s satisfies all_known (one_of t values) flat known (inr h) = absurd h
entailed G version S s satisfies all_known (kind test x) flat known (inr h) = absurd h
