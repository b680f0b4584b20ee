use Rattle.std.proofs.Common.{◌∙◌, sym}
use Rattle.std.specs.Prelude.{map}
use Rattle.std.specs.List.{list_any}
use Rattle.query_spec.specs.Mentions.{same_name, arc_names}
use Rattle.struql_ast.specs.Reading.{condition_of}
use Rattle.entailment.proofs.Lists.{any_mapped, any_flat}
use Rattle.entailment.proofs.entails.is_arc.Goals as goal

pub returns : goal.returns
returns c =
    c.some_arc.ensures
    ∙ sym (any_mapped (λ d. list_any (same_name c.args.name.now) (arc_names d)) condition_of c.args.conditions.now)
    ∙ sym (any_flat (same_name c.args.name.now) arc_names (map condition_of c.args.conditions.now))
