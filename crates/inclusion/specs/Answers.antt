-- What a table of inclusions answers.
use Rattle.std.specs.Prelude.{ℕ, Bool, true, false, ◌&&◌, ◌||◌, List, map, slice_get, unwrap_or}
use Rattle.std.specs.Prelude.{Contains, Option, Some, None}
use Rattle.std.specs.Global.{Vec}
use Rattle.std.specs.Bool.{Decides}
use Rattle.std.specs.List.{AllZip, position}
use Rattle.rpe.specs.declared.Rpe.{Rpe}
use Rattle.rpe.specs.Regex.{Regex, label, any, empty, seq, alt, star}
use Rattle.rpe.specs.Reading.{regex_of}
use Rattle.query_spec.specs.Mentions.{same_name}
use Rattle.site_spec.specs.Site.{Scope}
use Rattle.constraint_spec.specs.Entailed.{IsIncluded}
use Rattle.query_parts.specs.Same.{same_regex}
use Rattle.constraint_recheck.specs.Entails.{Tests, AreTests, AreKnown}
use Rattle.inclusion.specs.SpelledTable.{spells, has_twin}
use Rattle.inclusion.specs.declared.table.Inclusions.{Inclusions}

-- ---- rows

-- for each of these expressions, whether the one is included in it
abbrev pub IsRow : List Rpe → Rpe → List Bool → Type 0
IsRow all one row =
    AllZip (λ other bit. Decides bit (IsIncluded (regex_of one) (regex_of other))) all row

-- the bits of the rows
abbrev pub bits_of : List (Vec Bool) → List (List Bool)
bits_of rows = map (λ r. r.items) rows

-- for each of these expressions its row
abbrev pub AreRows : List Rpe → List (Vec Bool) → Type 0
AreRows all rows = AllZip (IsRow all) all (bits_of rows)

-- ---- what is looked up

-- the number of an expression among these
abbrev pub number_of : List Rpe → Regex → Option ℕ
number_of all r = position (λ e. same_regex (regex_of e) r) all

-- the bit of this number, and none where there is none
abbrev pub bit_in : Option (List Bool) → ℕ → Bool
bit_in None j = false
bit_in (Some row) j = unwrap_or (slice_get row j) false

-- the bit in the row of the first number, at the place of the second
abbrev pub bit_at : List (List Bool) → Option ℕ → Option ℕ → Bool
bit_at rows (Some i) (Some j) = bit_in (slice_get rows i) j
bit_at rows (Some i) None = false
bit_at rows None q = false

-- what the table has of two expressions
abbrev pub table_bit : Inclusions → Regex → Regex → Bool
table_bit t a b =
    let all = t.expressions.items in
    bit_at (bits_of t.rows.items) (number_of all a) (number_of all b)

-- the same, but two labels are compared
abbrev pub included_by : Inclusions → Regex → Regex → Bool
included_by t (label l) (label m) = same_name l m
included_by t a b = table_bit t a b

-- the empty word is one of the expression's
abbrev pub has_empty : Regex → Bool
has_empty (label l) = false
has_empty any = false
has_empty empty = true
has_empty (seq a b) = has_empty a && has_empty b
has_empty (alt a b) = has_empty a || has_empty b
has_empty (star a) = true

-- the tests that the table stands for
abbrev pub tests_of : Inclusions → Tests
tests_of t = record {
  included = included_by t;
  has_empty = has_empty;
  spells = spells;
  has_twin = has_twin;
}

-- ---- the table of a query

-- the table knows the query's expressions, and its tests are right of what it knows
pub record IsTableOf (q : Scope) (t : Inclusions) : Type 0 where
  pub known : List Regex
  pub tests : AreTests (Contains known) (tests_of t)
  pub all : AreKnown (Contains known) q
