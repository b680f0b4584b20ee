use Rattle.std.proofs.Common.{List, ◌++◌, ap, ◌∙◌}
use Rattle.std.specs.Prelude.{map}
use Rattle.query_spec.specs.Query as plain
use Rattle.struql_ast.specs.declared.Condition as declared
use Rattle.struql_ast.specs.Reading.{condition_of}
use Rattle.query_scoping.proofs.Parts.{own_is}
use Rattle.query_scoping.proofs.blocks.conditions_of.Goals as goal

pub returns : goal.returns
returns c =
    let own = map condition_of c.deref.result.now in
    let outer = map condition_of c.args.outer.now in
    rw (own_is c.args.block.now, ← c.deref.ensures.value)
    (c.in_ok-push_conditions-2.ensures ∙ ap (λ (ks : List plain.Condition). ks ++ own) (c.in_ok-push_conditions.ensures ∙ ap (λ (ks : List declared.Condition). map condition_of ks ++ outer) c.new-all.ensures.items))
