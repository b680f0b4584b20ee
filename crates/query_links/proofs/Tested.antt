-- Tests of parts, from tests of what is written.
use Rattle.std.proofs.Common.{◌≡◌, List, sym, ap, ◌∙◌}
use Rattle.std.specs.Prelude.{Bool, map}
use Rattle.std.specs.List.{list_any, list_all, flat_map}
use Rattle.sd_value.specs.Names.{Name}
use Rattle.query_spec.specs.Mentions.{operand_names}
use Rattle.query_spec.specs.Query.{Condition as PlainCondition}
use Rattle.struql_ast.specs.declared.Operand.{Operand}
use Rattle.struql_ast.specs.declared.Condition.{Condition}
use Rattle.struql_ast.specs.Reading.{operand_of, condition_of}
use Rattle.query_links.proofs.Lists.{any_mapped, any_flat, all_mapped, all_flat}

pub some_of_args : (f : Name → Bool) (args scanned : List Operand) (b : Bool) → scanned ≡ args → b ≡ list_any (λ o. list_any f (operand_names (operand_of o))) scanned → b ≡ list_any f (flat_map operand_names (map operand_of args))
some_of_args f args scanned b same is =
    is ∙ (ap (list_any (λ o. list_any f (operand_names (operand_of o)))) same
    ∙ (sym (any_mapped (λ o. list_any f (operand_names o)) operand_of args) ∙ sym (any_flat f operand_names (map operand_of args))))

pub all_of_args : (f : Name → Bool) (args scanned : List Operand) (b : Bool) → scanned ≡ args → b ≡ list_all (λ o. list_all f (operand_names (operand_of o))) scanned → b ≡ list_all f (flat_map operand_names (map operand_of args))
all_of_args f args scanned b same is =
    is ∙ (ap (list_all (λ o. list_all f (operand_names (operand_of o)))) same
    ∙ (sym (all_mapped (λ o. list_all f (operand_names o)) operand_of args) ∙ sym (all_flat f operand_names (map operand_of args))))

pub all_of_conditions : (f : PlainCondition → Bool) (scanned : List Condition) (conditions : List PlainCondition) (b : Bool) → map condition_of scanned ≡ conditions → b ≡ list_all (λ c. f (condition_of c)) scanned → b ≡ list_all f conditions
all_of_conditions f scanned conditions b same is = is ∙ (sym (all_mapped f condition_of scanned) ∙ ap (list_all f) same)
