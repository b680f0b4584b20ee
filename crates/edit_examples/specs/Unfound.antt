-- `"U" -> "a"* -> y`: by the empty word y may be "U", where the data have it.
use Rattle.std.specs.Prelude.{List, [], ◌∷◌, codes}
use Rattle.sd_value.specs.declared.Value.{Value}
use Rattle.rpe.specs.Regex.{label, star}
use Rattle.graph_spec.specs.DataGraph.{text}
use Rattle.query_spec.specs.Query.{variable, constant, expression, Condition, path, Chain}
use Rattle.query_spec.specs.Mentions.{chain_of}
use Rattle.edit_examples.specs.Parts.{y}

abbrev pub added : Value
added = text (codes "U")

abbrev pub condition : Condition
condition = path (constant added) (expression (star (label (codes "a")))) (variable y)

abbrev pub chain : Chain
chain = chain_of 1 (condition ∷ [])

abbrev pub row : List Value
row = added ∷ []
