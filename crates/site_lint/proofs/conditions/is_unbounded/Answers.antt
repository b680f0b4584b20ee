use Rattle.std.specs.List.{flat_map}
use Rattle.lint_spec.specs.Mistakes.{outright_names}
use Rattle.site_lint.proofs.NameLists.{not_among, some_has}
use Rattle.site_lint.proofs.conditions.is_unbounded.Goals as goal

pub returns : goal.returns
returns c =
    not_among c.some_has_outright.result c.args.name.now (flat_map outright_names c.args.chain.now.conditions)
    (some_has outright_names c.args.name.now c.conditions.result.now c.args.chain.now.conditions c.some_has_outright.result c.conditions.ensures c.some_has_outright.ensures)
