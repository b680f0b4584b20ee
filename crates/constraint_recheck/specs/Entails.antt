-- Whether the conditions of a chain entail a condition.
use Rattle.std.specs.Prelude.{ℕ, ℤ, Bool, true, false, not, leb, ◌&&◌, ◌||◌, List, [], ◌∷◌, Contains, All, Option, Some, None}
use Rattle.std.specs.List.{list_any, list_all, flat_map}
use Rattle.std.specs.Bool.{Decides}
use Rattle.sd_value.specs.declared.Datum.TheVariants.{Int, Text, Url, File, Node}
use Rattle.sd_value.specs.declared.Value.{Value}
use Rattle.sd_value.specs.declared.Value.TheVariants.{Data}
use Rattle.rpe.specs.Regex.{Regex, any}
use Rattle.graph_spec.specs.DataGraph.{Name}
use Rattle.query_spec.specs.declared.Op.{Op}
use Rattle.query_spec.specs.declared.Op.TheVariants.{Eq, Ne, Lt, Le, Gt, Ge}
use Rattle.query_spec.specs.declared.Test.{Test}
use Rattle.query_spec.specs.declared.Test.TheVariants.{IsInt, IsText, IsUrl, IsFile, IsNode}
use Rattle.query_spec.specs.Query.{Body}
use Rattle.site_spec.specs.Site.{Scope}
use Rattle.query_spec.specs.Query.{Operand, variable, constant, arc_variable, expression, Condition, path, compare, one_of, kind, negation}
use Rattle.query_spec.specs.Mentions.{same_name, arc_names}
use Rattle.query_spec.specs.Holds.{AreTwins, IsTwinOf}
use Rattle.rpe.specs.Language.{InLanguage}
use Rattle.constraint_spec.specs.Entailed.{IsIncluded, turned}
use Rattle.query_parts.specs.Same.{same_value, same_op, same_test, same_operand, same_condition}

-- tests of expressions and of twins that are built elsewhere
pub record Tests : Type 0 where
  pub included : Regex → Regex → Bool
  pub has_empty : Regex → Bool
  -- whether the text spells the number of 64 bits, and whether the value has a twin, both from
  -- version 2 on
  pub spells : ℤ → Name → Bool
  pub has_twin : Value → Bool

-- each expression of the condition is known
abbrev pub IsKnown : (Regex → Type 0) → Condition → Type 0
IsKnown known (path t (expression r) u) = known r
IsKnown known (negation c) = IsKnown known c
IsKnown known c = Unit {0}

-- they decide what they are to, of inclusion between known expressions
pub record AreTests (known : Regex → Type 0) (t : Tests) : Type 0 where
  pub any_label : known any
  pub included : (a b : Regex) → known a → known b → Decides (t.included a b) (IsIncluded a b)
  pub has_empty : (r : Regex) → Decides (t.has_empty r) (InLanguage r [])
  pub spells : (n : ℤ) (s : Name) → Decides (t.spells n s) (AreTwins 2 n s)
  pub has_twin : (v : Value) → Decides (t.has_twin v) ((w : Value) × IsTwinOf 2 v w)

module _ (tests : Tests) (version : ℕ) where
  -- from version 2 on one is a number and the other the text that spells it
  abbrev pub twins : Value → Value → Bool
  twins (Data (Int n)) (Data (Text s)) = leb 2 version && tests.spells n s
  twins (Data (Text s)) (Data (Int n)) = leb 2 version && tests.spells n s
  twins v w = false

  -- equal, or twins
  abbrev pub equal : Value → Value → Bool
  equal v w = same_value v w || twins v w

  -- the value is among these, or its twin is
  abbrev pub among : List Value → Value → Bool
  among values k = list_any (λ l. equal k l) values

  -- under version 2 the value has no twin
  abbrev pub without_twin : Value → Bool
  without_twin v = not (leb 2 version && tests.has_twin v)

-- the value is of the kind that the test asks for
abbrev pub has_kind : Test → Value → Bool
has_kind IsInt (Data (Int n)) = true
has_kind IsText (Data (Text s)) = true
has_kind IsUrl (Data (Url s)) = true
has_kind IsFile (Data (File s)) = true
has_kind IsNode (Data (Node s)) = true
has_kind test v = false

-- the operand is a constant that passes
abbrev pub on_constant : (Value → Bool) → Operand → Bool
on_constant f (variable x) = false
on_constant f (constant k) = f k

-- `t = k` or `k = t`, where k passes
abbrev pub fixes : (Value → Bool) → Operand → Condition → Bool
fixes f t (compare l o r) =
    same_op o Eq
    && ((same_operand l t && on_constant f r) || (same_operand r t && on_constant f l))
fixes f t c = false

-- the condition is one of these
abbrev pub contains : List Condition → Condition → Bool
contains S c = list_any (λ d. same_condition d c) S

-- `t < u` or `u > t` is one of these
abbrev pub below : List Condition → Operand → Operand → Bool
below S t u = contains S (compare t Lt u) || contains S (compare u Gt t)

-- the comparison follows from `t < u`
abbrev pub stricter : List Condition → Operand → Op → Operand → Bool
stricter S t Le u = below S t u
stricter S t Ge u = below S u t
stricter S t Ne u = below S t u || below S u t
stricter S t op u = false

-- the comparison is there with its sides exchanged
abbrev pub exchanged : List Condition → Operand → Option Op → Operand → Bool
exchanged S t None u = false
exchanged S t (Some p) u = contains S (compare u p t)

module _ (tests : Tests) (version : ℕ) where
  -- the condition is a path or an edge from t to u, each word of which is one of r
  abbrev pub narrower : Operand → Regex → Operand → Condition → Bool
  narrower t r u (path v (expression p) w) =
      same_operand v t && (same_operand w u && tests.included p r)
  narrower t r u (path v (arc_variable a) w) =
      same_operand v t && (same_operand w u && tests.included any r)
  narrower t r u c = false

  -- the condition is `t in` a list of some of the values
  abbrev pub fewer : Operand → List Value → Condition → Bool
  fewer t values (one_of u vs) = same_operand u t && list_all (among tests version values) vs
  fewer t values c = false

  -- the condition follows from others, negations aside
  abbrev pub follows : List Condition → Condition → Bool
  follows S (path t (expression r) u) =
      list_any (narrower t r u) S || (same_operand t u && tests.has_empty r)
  follows S (compare t op u) =
      (same_op op Eq && same_operand t u)
      || (exchanged S t (turned op) u || stricter S t op u)
  follows S (one_of t values) =
      list_any (fewer t values) S || list_any (fixes (among tests version values) t) S
  follows S (kind test x) =
      list_any (fixes (λ k. has_kind test k && without_twin tests version k) (variable x)) S
      || (same_test test IsText && list_any (same_name x) (flat_map arc_names S))
  follows S c = false

  -- the condition is one of these, or follows from them, negations aside
  abbrev pub plainly : List Condition → Condition → Bool
  plainly S c = contains S c || follows S c

  -- the condition is `not(q)`, and p alone entails q
  abbrev pub negates : Condition → Condition → Bool
  negates p (negation q) = plainly (p ∷ []) q
  negates p c = false

  -- the condition is `not(p)`, and some condition is `not(q)` where p alone entails q
  abbrev pub follows_turned : List Condition → Condition → Bool
  follows_turned S (negation p) = list_any (negates p) S
  follows_turned S c = false

  -- the conditions S entail the condition
  abbrev pub entails : List Condition → Condition → Bool
  entails S c = plainly S c || follows_turned S c

-- each expression of the query is known
abbrev pub AreKnown : (Regex → Type 0) → Scope → Type 0
AreKnown known q = (b : Body) → Contains q.bodies b → All (IsKnown known) b.conditions
