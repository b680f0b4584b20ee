-- The tests of entailment decide it.
use Rattle.std.proofs.Common.{◌≡◌, ◌⊎◌, ◌≤◌, ℕ, ℤ, List, [], ◌∷◌, refl, ap, sym, subst, inl, inr, arith}
use Rattle.std.specs.Prelude.{Bool, ◌&&◌, ◌||◌, ◌==◌, leb, Contains, All, Option, Some, None}
use Rattle.std.specs.Bool.{Decides}
use Rattle.std.specs.List.{list_any, list_all, flat_map}
use Rattle.std.proofs.lemmas.List.Elements.{All-nil, All-cons, All-contains}
use Rattle.std.proofs.lemmas.Bool.Decides.{nat_tests}
use Rattle.sd_value.specs.declared.Datum.TheVariants.{Int, Text, Url, File, Node}
use Rattle.sd_value.specs.declared.Value.{Value}
use Rattle.sd_value.specs.declared.Value.TheVariants.{Data}
use Rattle.rpe.specs.Regex.{Regex, any}
use Rattle.graph_spec.specs.DataGraph.{Name}
use Rattle.query_spec.specs.declared.Op.{Op}
use Rattle.query_spec.specs.declared.Op.TheVariants.{Eq, Ne, Lt, Le, Gt, Ge, Texts}
use Rattle.query_spec.specs.declared.Test.{Test}
use Rattle.query_spec.specs.declared.Test.TheVariants.{IsInt, IsText, IsUrl, IsFile, IsNode}
use Rattle.query_spec.specs.Query.{Operand, variable, constant, arc_variable, expression, Condition, member, path, compare, one_of, kind, negation}
use Rattle.query_spec.specs.Mentions.{same_name, arc_names}
use Rattle.query_spec.specs.Holds.{AreTwins, IsTwinOf, IsEqual, HasKind}
use Rattle.constraint_spec.specs.Entailed.{IsIncluded, HasNarrowerPath, HasNarrowerStep, turned, HasBelow, HasStricter, HasConstant, IsAmong, HasFewer, HasOneOf, HasNoTwin, HasKnownKind, IsTextOfArc, Follows, IsPlainlyEntailed, FollowsTurned, IsEntailed}
use Rattle.constraint_spec.specs.Use.{rename}
use Rattle.query_parts.specs.Same.{same_value, same_op, same_test, same_operand, same_condition}
use Rattle.constraint_recheck.specs.Entails.{Tests, IsKnown, AreTests, twins, equal, among, without_twin, has_kind, on_constant, fixes, contains, below, stricter, narrower, fewer, exchanged, follows, plainly, negates, follows_turned, entails}
use Rattle.query_parts.proofs.Bools.{never, always, as_well, both, either, denied, some, some_in, every}
use Rattle.query_parts.proofs.Same.{name_decides, value_decides, op_decides, test_decides, operand_decides, condition_decides}

pub number_decides : (m n : ℕ) → Decides (m == n) (m ≡ n)
number_decides m n = (λ t. grind (arith, nat_tests), λ e. grind (arith, nat_tests))

least_decides : (m n : ℕ) → Decides (leb m n) (m ≤ n)
least_decides m n = (λ t. grind (arith, nat_tests), λ e. grind (arith, nat_tests))

-- ---- kinds

kind_decides : (test : Test) (v : Value) → Decides (has_kind test v) (HasKind test v)
kind_decides IsInt (Data (Int n)) = always (n, refl)
kind_decides IsText (Data (Text s)) = always (s, refl)
kind_decides IsUrl (Data (Url s)) = always (s, refl)
kind_decides IsFile (Data (File s)) = always (s, refl)
kind_decides IsNode (Data (Node s)) = always (s, refl)
kind_decides test v = never (λ h. let e = h.1 in cc)

-- ---- lists of conditions

pub contains_decides : (S : List Condition) (c : Condition) → Decides (contains S c) (Contains S c)
contains_decides S c =
    as_well (contains S c) (λ h. subst (Contains S) h.2 h.1) (λ m. (c, m, refl)) (some (λ d. same_condition d c) (λ d. d ≡ c) (λ d. condition_decides d c) S)

below_decides : (S : List Condition) (t u : Operand) → Decides (below S t u) (HasBelow S t u)
below_decides S t u = either (contains S (compare t Lt u)) (contains S (compare u Gt t)) (contains_decides S (compare t Lt u)) (contains_decides S (compare u Gt t))

stricter_decides : (S : List Condition) (t : Operand) (op : Op) (u : Operand) → Decides (stricter S t op u) (HasStricter S t op u)
stricter_decides S t Le u = below_decides S t u
stricter_decides S t Ge u = below_decides S u t
stricter_decides S t Ne u = either (below S t u) (below S u t) (below_decides S t u) (below_decides S u t)
stricter_decides S t Eq u = never (λ h. h)
stricter_decides S t Lt u = never (λ h. h)
stricter_decides S t Gt u = never (λ h. h)
stricter_decides S t (Texts test) u = never (λ h. h)

exchanged_decides : (S : List Condition) (t : Operand) (op : Option Op) (u : Operand) → Decides (exchanged S t op u) ((p : Op) × (op ≡ Some p) × Contains S (compare u p t))
exchanged_decides S t None u = never (λ h. let e = h.1 in cc)
exchanged_decides S t (Some o) u =
    as_well (contains S (compare u o t)) (λ m. (o, refl, m))
    (λ h. let e : o ≡ h.0 = (let g = h.1 in cc) in subst (λ p. Contains S (compare u p t)) (sym e) h.2)
    (contains_decides S (compare u o t))

module _ (f : Value → Bool) (P : Value → Type 0) (d : (k : Value) → Decides (f k) (P k)) where
  constant_decides : (o : Operand) → Decides (on_constant f o) ((k : Value) × (o ≡ constant k) × P k)
  constant_decides (variable x) = never (λ h. let e = h.1 in cc)
  constant_decides (constant k) = as_well (f k) (λ p. (k, refl, p)) (λ h. let e : k ≡ h.0 = (let g = h.1 in cc) in subst P (sym e) h.2) (d k)

  abbrev pub Fixes : Operand → Condition → Type 0
  Fixes t c = (k : Value) × ((c ≡ compare t Eq (constant k)) ⊎ (c ≡ compare (constant k) Eq t)) × P k

  abbrev Parts : Operand → Operand → Op → Operand → Type 0
  Parts t l o r = (o ≡ Eq) × (((l ≡ t) × ((k : Value) × (r ≡ constant k) × P k)) ⊎ ((r ≡ t) × ((k : Value) × (l ≡ constant k) × P k)))

  to_fixes : (t l : Operand) (o : Op) (r : Operand) → Parts t l o r → Fixes t (compare l o r)
  to_fixes t l o r (e, inl (lt, (k, rk, p))) = (k, inl (λ i. compare (lt i) (e i) (rk i)), p)
  to_fixes t l o r (e, inr (rt, (k, lk, p))) = (k, inr (λ i. compare (lk i) (e i) (rt i)), p)

  from_fixes : (t l : Operand) (o : Op) (r : Operand) → Fixes t (compare l o r) → Parts t l o r
  from_fixes t l o r (k, inl e, p) = (let a : o ≡ Eq = cc in a, inl (let b : l ≡ t = cc in b, (k, let c : r ≡ constant k = cc in c, p)))
  from_fixes t l o r (k, inr e, p) = (let a : o ≡ Eq = cc in a, inr (let b : r ≡ t = cc in b, (k, let c : l ≡ constant k = cc in c, p)))

  pub fixes_decides : (t : Operand) (c : Condition) → Decides (fixes f t c) (Fixes t c)
  fixes_decides t (compare l o r) =
      as_well (fixes f t (compare l o r)) (to_fixes t l o r) (from_fixes t l o r)
      (both (same_op o Eq) ((same_operand l t && on_constant f r) || (same_operand r t && on_constant f l)) (op_decides o Eq)
      (either (same_operand l t && on_constant f r) (same_operand r t && on_constant f l)
      (both (same_operand l t) (on_constant f r) (operand_decides l t) (constant_decides r))
      (both (same_operand r t) (on_constant f l) (operand_decides r t) (constant_decides l))))
  fixes_decides t (member c x) = never (λ h. elim (h.1) [ inl e ↦ cc | inr e ↦ cc ])
  fixes_decides t (path v s w) = never (λ h. elim (h.1) [ inl e ↦ cc | inr e ↦ cc ])
  fixes_decides t (one_of v vs) = never (λ h. elim (h.1) [ inl e ↦ cc | inr e ↦ cc ])
  fixes_decides t (kind test x) = never (λ h. elim (h.1) [ inl e ↦ cc | inr e ↦ cc ])
  fixes_decides t (negation c) = never (λ h. elim (h.1) [ inl e ↦ cc | inr e ↦ cc ])

  pub fixed_decides : (S : List Condition) (t : Operand) → Decides (list_any (fixes f t) S) ((k : Value) × HasConstant S t k × P k)
  fixed_decides S t = as_well (list_any (fixes f t) S) to from (some (fixes f t) (Fixes t) (fixes_decides t) S)
    where
      to : ((c : Condition) × Contains S c × Fixes t c) → (k : Value) × HasConstant S t k × P k
      to (c, m, (k, inl e, p)) = (k, inl (subst (Contains S) e m), p)
      to (c, m, (k, inr e, p)) = (k, inr (subst (Contains S) e m), p)

      from : ((k : Value) × HasConstant S t k × P k) → (c : Condition) × Contains S c × Fixes t c
      from (k, inl m, p) = (compare t Eq (constant k), m, (k, inl refl, p))
      from (k, inr m, p) = (compare (constant k) Eq t, m, (k, inr refl, p))

-- ---- with tests that are built elsewhere

twin_version : (version : ℕ) (v w : Value) → IsTwinOf version v w → 2 ≤ version
twin_version version (Data (Int n)) (Data (Text s)) h = h.0
twin_version version (Data (Text s)) (Data (Int n)) h = h.0
twin_version version v w h = absurd h

twins_of_two : (version : ℕ) (v w : Value) → IsTwinOf version v w → IsTwinOf 2 v w
twins_of_two version (Data (Int n)) (Data (Text s)) h = (omega arith, h.1, h.2, h.3)
twins_of_two version (Data (Text s)) (Data (Int n)) h = (omega arith, h.1, h.2, h.3)
twins_of_two version v w h = absurd h

twins_from_two : (version : ℕ) (v w : Value) → 2 ≤ version → IsTwinOf 2 v w → IsTwinOf version v w
twins_from_two version (Data (Int n)) (Data (Text s)) l h = (l, h.1, h.2, h.3)
twins_from_two version (Data (Text s)) (Data (Int n)) l h = (l, h.1, h.2, h.3)
twins_from_two version v w l h = absurd h

module _ (known : Regex → Type 0) (tests : Tests) (are : AreTests known tests) (version : ℕ) where
  spelled_decides : (n : ℤ) (s : Name) → Decides (leb 2 version && tests.spells n s) (AreTwins version n s)
  spelled_decides n s =
      as_well (leb 2 version && tests.spells n s) (λ h. (h.0, h.1.1, h.1.2, h.1.3)) (λ h. (h.0, (omega arith, h.1, h.2, h.3)))
      (both (leb 2 version) (tests.spells n s) (least_decides 2 version) (are.spells n s))

  twins_decides : (v w : Value) → Decides (twins tests version v w) (IsTwinOf version v w)
  twins_decides (Data (Int n)) (Data (Text s)) = spelled_decides n s
  twins_decides (Data (Text s)) (Data (Int n)) = spelled_decides n s
  twins_decides v w = never (λ h. h)

  equal_decides : (v w : Value) → Decides (equal tests version v w) (IsEqual version v w)
  equal_decides v w = either (same_value v w) (twins tests version v w) (value_decides v w) (twins_decides v w)

  pub among_decides : (values : List Value) (k : Value) → Decides (among tests version values k) (IsAmong version values k)
  among_decides values k = some (λ l. equal tests version k l) (λ l. IsEqual version k l) (λ l. equal_decides k l) values

  no_twin_decides : (v : Value) → Decides (without_twin tests version v) (HasNoTwin version v)
  no_twin_decides v =
      as_well (without_twin tests version v)
      (λ n w t. n (twin_version version v w t, (w, twins_of_two version v w t)))
      (λ n h. n h.1.0 (twins_from_two version v h.1.0 h.0 h.1.1))
      (denied (leb 2 version && tests.has_twin v) (both (leb 2 version) (tests.has_twin v) (least_decides 2 version) (are.has_twin v)))

  -- ---- paths

  abbrev Narrows : Operand → Regex → Operand → Condition → Type 0
  Narrows t r u c = ((p : Regex) × (c ≡ path t (expression p) u) × IsIncluded p r) ⊎ ((a : Name) × (c ≡ path t (arc_variable a) u) × IsIncluded any r)

  narrower_decides : (t : Operand) (r : Regex) (u : Operand) → known r → (c : Condition) → IsKnown known c → Decides (narrower tests version t r u c) (Narrows t r u c)
  narrower_decides t r u kr (path v (expression p) w) kp =
      as_well (narrower tests version t r u (path v (expression p) w))
      (λ h. inl (p, λ i. path (h.0 i) (expression p) (h.1.0 i), h.1.1))
      (elim [
        | inl (q, e, inside) ↦ (let a : v ≡ t = cc in a, (let b : w ≡ u = cc in b, let c : q ≡ p = cc in subst (λ z. IsIncluded z r) c inside))
        | inr (a, e, inside) ↦ cc
      ])
      (both (same_operand v t) (same_operand w u && tests.included p r) (operand_decides v t) (both (same_operand w u) (tests.included p r) (operand_decides w u) (are.included p r kp kr)))
  narrower_decides t r u kr (path v (arc_variable x) w) kp =
      as_well (narrower tests version t r u (path v (arc_variable x) w))
      (λ h. inr (x, λ i. path (h.0 i) (arc_variable x) (h.1.0 i), h.1.1))
      (elim [
        | inl (q, e, inside) ↦ cc
        | inr (a, e, inside) ↦ (let a : v ≡ t = cc in a, (let b : w ≡ u = cc in b, inside))
      ])
      (both (same_operand v t) (same_operand w u && tests.included any r) (operand_decides v t) (both (same_operand w u) (tests.included any r) (operand_decides w u) (are.included any r are.any_label kr)))
  narrower_decides t r u kr (member c x) kc = never (elim [ inl h ↦ let e = h.1 in cc | inr h ↦ let e = h.1 in cc ])
  narrower_decides t r u kr (compare v op w) kc = never (elim [ inl h ↦ let e = h.1 in cc | inr h ↦ let e = h.1 in cc ])
  narrower_decides t r u kr (one_of v vs) kc = never (elim [ inl h ↦ let e = h.1 in cc | inr h ↦ let e = h.1 in cc ])
  narrower_decides t r u kr (kind test x) kc = never (elim [ inl h ↦ let e = h.1 in cc | inr h ↦ let e = h.1 in cc ])
  narrower_decides t r u kr (negation c) kc = never (elim [ inl h ↦ let e = h.1 in cc | inr h ↦ let e = h.1 in cc ])

  paths_decide : (S : List Condition) → All (IsKnown known) S → (t : Operand) (r : Regex) (u : Operand) → known r → Decides (list_any (narrower tests version t r u) S) (HasNarrowerPath S t r u ⊎ HasNarrowerStep S t r u)
  paths_decide S ks t r u kr =
      as_well (list_any (narrower tests version t r u) S) to from
      (some_in (narrower tests version t r u) (Narrows t r u) S (λ c m. narrower_decides t r u kr c (All-contains (IsKnown known) S c ks m)))
    where
      to : ((c : Condition) × Contains S c × Narrows t r u c) → HasNarrowerPath S t r u ⊎ HasNarrowerStep S t r u
      to (c, m, inl (p, e, inside)) = inl (p, subst (Contains S) e m, inside)
      to (c, m, inr (a, e, inside)) = inr (a, subst (Contains S) e m, inside)

      from : HasNarrowerPath S t r u ⊎ HasNarrowerStep S t r u → (c : Condition) × Contains S c × Narrows t r u c
      from (inl (p, m, inside)) = (path t (expression p) u, m, inl (p, refl, inside))
      from (inr (a, m, inside)) = (path t (arc_variable a) u, m, inr (a, refl, inside))

  -- ---- lists of constants

  abbrev Fewer : Operand → List Value → Condition → Type 0
  Fewer t values c = (vs : List Value) × (c ≡ one_of t vs) × All (IsAmong version values) vs

  fewer_decides : (t : Operand) (values : List Value) (c : Condition) → Decides (fewer tests version t values c) (Fewer t values c)
  fewer_decides t values (one_of u vs) =
      as_well (fewer tests version t values (one_of u vs))
      (λ h. (vs, ap (λ z. one_of z vs) h.0, h.1))
      (λ h. let e = h.1 in (let a : u ≡ t = cc in a, let b : h.0 ≡ vs = cc in subst (All (IsAmong version values)) b h.2))
      (both (same_operand u t) (list_all (among tests version values) vs) (operand_decides u t) (every (among tests version values) (IsAmong version values) (among_decides values) vs))
  fewer_decides t values (member c x) = never (λ h. let e = h.1 in cc)
  fewer_decides t values (path v s w) = never (λ h. let e = h.1 in cc)
  fewer_decides t values (compare v op w) = never (λ h. let e = h.1 in cc)
  fewer_decides t values (kind test x) = never (λ h. let e = h.1 in cc)
  fewer_decides t values (negation c) = never (λ h. let e = h.1 in cc)

  lists_decide : (S : List Condition) (t : Operand) (values : List Value) → Decides (list_any (fewer tests version t values) S) (HasFewer version S t values)
  lists_decide S t values =
      as_well (list_any (fewer tests version t values) S)
      (λ h. (h.2.0, subst (Contains S) h.2.1 h.1, h.2.2))
      (λ h. (one_of t h.0, h.1, (h.0, refl, h.2)))
      (some (fewer tests version t values) (Fewer t values) (fewer_decides t values) S)

  constants_decide : (S : List Condition) (t : Operand) (values : List Value) → Decides (list_any (fixes (among tests version values) t) S) (HasOneOf version S t values)
  constants_decide S t values = fixed_decides (among tests version values) (IsAmong version values) (among_decides values) S t

  -- ---- tests of kinds

  abbrev known_kind : Test → Value → Bool
  known_kind test k = has_kind test k && without_twin tests version k

  kinds_decide : (S : List Condition) (test : Test) (x : Name) → Decides (list_any (fixes (known_kind test) (variable x)) S) (HasKnownKind version S test x)
  kinds_decide S test x =
      as_well (list_any (fixes (known_kind test) (variable x)) S) (λ h. (h.0, h.1, h.2.0, h.2.1)) (λ h. (h.0, h.1, (h.2, h.3)))
      (fixed_decides (known_kind test) (λ k. HasKind test k × HasNoTwin version k)
      (λ k. both (has_kind test k) (without_twin tests version k) (kind_decides test k) (no_twin_decides k)) S (variable x))

  arcs_decide : (S : List Condition) (test : Test) (x : Name) → Decides (same_test test IsText && list_any (same_name x) (flat_map arc_names S)) (IsTextOfArc S test x)
  arcs_decide S test x =
      both (same_test test IsText) (list_any (same_name x) (flat_map arc_names S)) (test_decides test IsText)
      (as_well (list_any (same_name x) (flat_map arc_names S)) (λ h. subst (Contains (flat_map arc_names S)) (sym h.2) h.1) (λ m. (x, m, refl))
      (some (same_name x) (λ y. x ≡ y) (name_decides x) (flat_map arc_names S)))

  -- ---- all cases

  follows_decides : (S : List Condition) → All (IsKnown known) S → (c : Condition) → IsKnown known c → Decides (follows tests version S c) (Follows version S c)
  follows_decides S ks (path t (expression r) u) kc =
      as_well (follows tests version S (path t (expression r) u))
      (elim [ inl (inl h) ↦ inl h | inl (inr h) ↦ inr (inl h) | inr h ↦ inr (inr h) ])
      (elim [ inl h ↦ inl (inl h) | inr (inl h) ↦ inl (inr h) | inr (inr h) ↦ inr h ])
      (either (list_any (narrower tests version t r u) S) (same_operand t u && tests.has_empty r) (paths_decide S ks t r u kc) (both (same_operand t u) (tests.has_empty r) (operand_decides t u) (are.has_empty r)))
  follows_decides S ks (compare t op u) kc =
      either (same_op op Eq && same_operand t u) (exchanged S t (turned op) u || stricter S t op u)
      (both (same_op op Eq) (same_operand t u) (op_decides op Eq) (operand_decides t u))
      (either (exchanged S t (turned op) u) (stricter S t op u) (exchanged_decides S t (turned op) u) (stricter_decides S t op u))
  follows_decides S ks (one_of t values) kc =
      either (list_any (fewer tests version t values) S) (list_any (fixes (among tests version values) t) S) (lists_decide S t values) (constants_decide S t values)
  follows_decides S ks (kind test x) kc =
      either (list_any (fixes (known_kind test) (variable x)) S) (same_test test IsText && list_any (same_name x) (flat_map arc_names S)) (kinds_decide S test x) (arcs_decide S test x)
  follows_decides S ks (path t (arc_variable a) u) kc = never (λ h. h)
  follows_decides S ks (member c x) kc = never (λ h. h)
  follows_decides S ks (negation c) kc = never (λ h. h)

  plainly_decides : (S : List Condition) → All (IsKnown known) S → (c : Condition) → IsKnown known c → Decides (plainly tests version S c) (IsPlainlyEntailed version S c)
  plainly_decides S ks c kc = either (contains S c) (follows tests version S c) (contains_decides S c) (follows_decides S ks c kc)

  abbrev Negates : Condition → Condition → Type 0
  Negates p c = (q : Condition) × (c ≡ negation q) × IsPlainlyEntailed version (p ∷ []) q

  negates_decides : (p : Condition) → IsKnown known p → (c : Condition) → IsKnown known c → Decides (negates tests version p c) (Negates p c)
  negates_decides p kp (negation q) kq =
      as_well (negates tests version p (negation q)) (λ h. (q, refl, h))
      (λ h. let g = h.1 in let e : h.0 ≡ q = cc in subst (IsPlainlyEntailed version (p ∷ [])) e h.2) (plainly_decides (p ∷ []) (All-cons (IsKnown known) p [] kp (All-nil (IsKnown known))) q kq)
  negates_decides p kp (member c x) kc = never (λ h. let e = h.1 in cc)
  negates_decides p kp (path t s u) kc = never (λ h. let e = h.1 in cc)
  negates_decides p kp (compare t op u) kc = never (λ h. let e = h.1 in cc)
  negates_decides p kp (one_of t vs) kc = never (λ h. let e = h.1 in cc)
  negates_decides p kp (kind test x) kc = never (λ h. let e = h.1 in cc)

  turned_decides : (S : List Condition) → All (IsKnown known) S → (c : Condition) → IsKnown known c → Decides (follows_turned tests version S c) (FollowsTurned version S c)
  turned_decides S ks (negation p) kp =
      as_well (follows_turned tests version S (negation p))
      (λ h. (h.2.0, subst (Contains S) h.2.1 h.1, h.2.2))
      (λ h. (negation h.0, h.1, (h.0, refl, h.2)))
      (some_in (negates tests version p) (Negates p) S (λ c m. negates_decides p kp c (All-contains (IsKnown known) S c ks m)))
  turned_decides S ks (member c x) kc = never (λ h. h)
  turned_decides S ks (path t s u) kc = never (λ h. h)
  turned_decides S ks (compare t op u) kc = never (λ h. h)
  turned_decides S ks (one_of t vs) kc = never (λ h. h)
  turned_decides S ks (kind test x) kc = never (λ h. h)

  pub entails_decides : (S : List Condition) → All (IsKnown known) S → (c : Condition) → IsKnown known c → Decides (entails tests version S c) (IsEntailed version S c)
  entails_decides S ks c kc = either (plainly tests version S c) (follows_turned tests version S c) (plainly_decides S ks c kc) (turned_decides S ks c kc)

-- renaming variables changes no expression
pub known_renamed : (known : Regex → Type 0) (f : Name → Name) (c : Condition) → IsKnown known c → IsKnown known (rename f c)
known_renamed known f (member c x) k = tt
known_renamed known f (path t (expression r) u) k = k
known_renamed known f (path t (arc_variable a) u) k = tt
known_renamed known f (compare t op u) k = tt
known_renamed known f (one_of t vs) k = tt
known_renamed known f (kind test x) k = tt
known_renamed known f (negation c) k = known_renamed known f c k
