use Rattle.std.specs.List.{flat_map}
use Rattle.query_spec.specs.Mentions.{arc_names}
use Rattle.site_lint.proofs.NameLists.{among, some_has}
use Rattle.site_lint.proofs.conditions.is_arc.Goals as goal

pub returns : goal.returns
returns c =
    among c.some_has_arc.result c.args.name.now (flat_map arc_names c.args.chain.now.conditions)
    (some_has arc_names c.args.name.now c.conditions.result.now c.args.chain.now.conditions c.some_has_arc.result c.conditions.ensures c.some_has_arc.ensures)
