use Rattle.std.specs.List.{list_any}
use Rattle.query_spec.specs.Mentions.{same_name}
use Rattle.struql_ast.specs.Reading.{target_of}
use Rattle.constraint_spec.specs.Certificate.{target_names}
use Rattle.query_links.proofs.Tested.{all_of_args}
use Rattle.query_links.proofs.determined.is_determined.Goals as goal

pub returns-in-Made : goal.returns-in-Made
returns-in-Made c =
    rw c.in-Made.is
    (all_of_args (λ x. list_any (same_name x) (target_names (target_of c.args.link.now.source))) c.in-Made.term.args.items c.deref.result.now c.are_in.result c.deref.ensures.value c.are_in.ensures)
