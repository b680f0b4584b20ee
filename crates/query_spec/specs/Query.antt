-- A query as a plain tree: what its text says, the places aside.
use Rattle.std.specs.Prelude.{ℕ, List, [], ◌∷◌, ◌++◌}
use Rattle.sd_value.specs.declared.Value.{Value}
use Rattle.rpe.specs.Regex.{Regex}
use Rattle.graph_spec.specs.DataGraph.{Name}
use Rattle.query_spec.specs.declared.Op.{Op}
use Rattle.query_spec.specs.declared.Test.{Test}
use Rattle.query_spec.specs.declared.Variable.{Variable}

-- a variable, or a constant value
pub data Operand : Type 0 where
  variable : Name → Operand
  constant : Value → Operand

-- what is between the arrows of a path
pub data PathStep : Type 0 where
  arc_variable : Name → PathStep
  expression : Regex → PathStep

-- a condition of a WHERE
pub data Condition : Type 0 where
  -- `C(x)`
  member : (collection x : Name) → Condition
  -- `t -> step -> u`
  path : Operand → PathStep → Operand → Condition
  -- `t op u`
  compare : Operand → Op → Operand → Condition
  -- `t in {..}`
  one_of : Operand → List Value → Condition
  -- `isInt(x)` and its like
  kind : Test → (x : Name) → Condition
  -- `not(..)`
  negation : Condition → Condition

-- a function's name and its arguments, as written in CREATE, LINK and COLLECT
pub record SkolemTerm : Type 0 where
  pub function : Name
  pub args : List Operand

-- what a link tells of the values that variables have in many rows
pub data Aggregate : Type 0 where
  -- `count(v)`
  count_of : (v : Name) → Aggregate
  -- `min(v)`
  min_of : (v : Name) → Aggregate
  -- `max(v)`
  max_of : (v : Name) → Aggregate
  -- `sum(v OF x)`
  sum_of : (v x : Name) → Aggregate

-- what a link or a COLLECT ends at: an operand, or the page of a term; and of links alone, an
-- aggregate
pub data Target : Type 0 where
  plain : Operand → Target
  made : SkolemTerm → Target
  summed : Aggregate → Target

-- the label of a link: a quoted one, or the value of a variable
pub data LinkLabel : Type 0 where
  quoted : Name → LinkLabel
  label_variable : Name → LinkLabel

-- a LINK from one target by a label to another
pub record Link : Type 0 where
  pub source : Target
  pub label : LinkLabel
  pub target : Target

-- a COLLECT of a target under a name
pub record Collect : Type 0 where
  pub collection : Name
  pub target : Target

-- what a block says, apart from the blocks in it
pub record Body : Type 0 where
  pub conditions : List Condition
  pub creates : List SkolemTerm
  pub links : List Link
  pub collects : List Collect

-- blocks one after another: the first, the blocks in it, and the blocks after it
pub data Blocks : Type 0 where
  no_blocks : Blocks
  block : Body → Blocks → Blocks → Blocks

-- a whole query: its version, the names of its input and its output, and its blocks
pub record Query : Type 0 where
  pub version : ℕ
  pub input : Name
  pub blocks : Blocks
  pub output : Name

-- variables, and the conditions that they have to meet
pub record Chain : Type 0 where
  pub version : ℕ
  pub variables : List Variable
  pub conditions : List Condition

-- each block in the text's order, its conditions following those of all blocks round it, outermost
-- first
abbrev pub with_outer : List Condition → Blocks → List Body
with_outer outer no_blocks = []
with_outer outer (block body inner after) =
    let conditions = outer ++ body.conditions in
    record body { conditions = conditions }
    ∷ (with_outer conditions inner ++ with_outer outer after)

-- the blocks of a query, each with the conditions of all blocks round it
abbrev pub blocks_in_scope : Query → List Body
blocks_in_scope q = with_outer [] q.blocks
