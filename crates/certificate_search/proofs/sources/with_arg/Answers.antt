use Rattle.std.proofs.Common.{◌++◌, ◌∷◌, [], ap, ◌∙◌}
use Rattle.std.specs.Prelude.{map}
use Rattle.std.proofs.lemmas.List.{map_push}
use Rattle.query_spec.specs.Query.{SkolemTerm}
use Rattle.struql_ast.specs.Reading.{operand_of}
use Rattle.certificate_search.proofs.sources.with_arg.Goals as goal

pub returns : goal.returns
returns c =
    let copy = c.in_ok-copied_operand.field-0 in
    let same = c.in_ok-longer.ensures in
    let function = ap (λ (t : SkolemTerm). t.function) same in
    let args =
    ap (λ zs. map operand_of zs) c.in_ok-push.ensures.items
    ∙ map_push operand_of c.in_ok-longer.longer.args.items copy
    ∙ ap (λ zs. zs ++ operand_of copy ∷ []) (ap (λ (t : SkolemTerm). t.args) same)
    ∙ ap (λ o. map operand_of c.args.term.now.args.items ++ o ∷ []) c.in_ok-copied_operand.ensures in
    λ i. record { function = function i; args = args i }
