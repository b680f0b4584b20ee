-- What values of a chain's variables make a written term name a page.
use Rattle.std.specs.Prelude.{◌≡◌, ℕ, List, Option, Some, length, slice_get}
use Rattle.sd_value.specs.declared.Value.{Value}
use Rattle.graph_spec.specs.DataGraph.{Name}
use Rattle.query_spec.specs.declared.Variable.{Variable}
use Rattle.query_spec.specs.Query.{Operand}
use Rattle.query_spec.specs.Holds.{Assignment, operand_value}
use Rattle.sd_value.specs.declared.Datum.{Datum}
use Rattle.sd_value.specs.declared.Value.TheVariants.{Data}
use Rattle.query_spec.specs.Rows.{value_in, Agrees}

abbrev pub HasAt : ℕ → Value → List Value → Type 0
HasAt i v row = slice_get row i ≡ Some v

-- the name has the value under the row
abbrev pub HasName : List Variable → Name → Value → List Value → Type 0
HasName variables name v row = value_in variables row name ≡ Some v

-- `new` binds what `old` does, and that Q holds
pub record Adds (Q : List Value → Type 0) (old new : List (Option Value)) : Type 0 where
  pub one_each : length new ≡ length old
  pub to : (row : List Value) → length row ≡ length old → Agrees row new → Agrees row old × Q row
  pub from : (row : List Value) → length row ≡ length old → Agrees row old → Q row → Agrees row new

-- Q holds of no row that agrees
pub record Refutes (Q : List Value → Type 0) (old : List (Option Value)) : Type 0 where
  pub never : (row : List Value) → length row ≡ length old → Agrees row old → Q row → ⊥

-- the rows that agree are those under which P holds
pub record Solves (variables : List Variable) (P : Assignment → Type 0)
    (bound : List (Option Value)) : Type 0 where
  pub one_each : length bound ≡ length variables
  pub to : (row : List Value) → length row ≡ length variables → Agrees row bound
      → P (value_in variables row)
  pub from : (row : List Value) → length row ≡ length variables → P (value_in variables row)
      → Agrees row bound

-- P holds under no row
pub record HasNone (variables : List Variable) (P : Assignment → Type 0) : Type 0 where
  pub never : (row : List Value) → length row ≡ length variables → P (value_in variables row) → ⊥

-- the operand is the datum under the row
abbrev pub SolvesOperand : List Variable → Operand → Datum → List Value → Type 0
SolvesOperand variables operand d row = operand_value (value_in variables row) operand ≡ Some (Data d)

-- this many places, none of them bound
pub record AllFree (n : ℕ) (bound : List (Option Value)) : Type 0 where
  pub one_each : length bound ≡ n
  pub free : (row : List Value) → length row ≡ n → Agrees row bound
