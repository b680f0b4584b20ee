use Rattle.query_spec.specs.Mentions.{same_name}
use Rattle.query_links.proofs.Tested.{some_of_args}
use Rattle.query_links.proofs.determined.has_variable.Goals as goal

pub returns-in-Made : goal.returns-in-Made
returns-in-Made c =
    rw c.in-Made.is
    (some_of_args (same_name c.args.name.now) c.in-Made.term.args.items c.deref.result.now c.some_variable.result c.deref.ensures.value c.some_variable.ensures)
