-- How many of a link's variables have to be mapped until the parts of its chain are.
use Rattle.std.specs.Prelude.{ℕ, List, [], map}
use Rattle.query_spec.specs.declared.Variable.{Variable}
use Rattle.query_spec.specs.Query.{Operand, Condition, Target, plain, made, summed, Link}
use Rattle.query_spec.specs.Mentions.{operand_names, names}
use Rattle.constraint_recheck.specs.Search.{depth}

-- for each of the operands
abbrev pub operand_depths : List Variable → List Operand → List ℕ
operand_depths variables = map (λ o. depth variables (operand_names o))

-- for each argument of a link's end
abbrev pub end_depths : List Variable → Target → List ℕ
end_depths variables (plain o) = []
end_depths variables (made t) = operand_depths variables t.args
end_depths variables (summed a) = []

-- for each of the conditions
abbrev pub condition_depths : List Variable → List Condition → List ℕ
condition_depths variables = map (λ c. depth variables (names c))

-- for all parts of a link
pub record LinkDepths : Type 0 where
  pub conditions : List ℕ
  pub source : List ℕ
  pub target : List ℕ

-- those of a link under these conditions
abbrev pub depths_of : List Variable → List Condition → Link → LinkDepths
depths_of variables conditions k = record {
  conditions = condition_depths variables conditions;
  source = end_depths variables k.source;
  target = end_depths variables k.target;
}
