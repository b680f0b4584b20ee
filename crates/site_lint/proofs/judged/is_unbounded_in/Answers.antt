use Rattle.std.proofs.Common.{◌≡◌, sym}
use Rattle.std.specs.Prelude.{Contains, Some, slice_get}
use Rattle.std.specs.List.{flat_map}
use Rattle.query_spec.specs.Query.{Body}
use Rattle.lint_spec.specs.Mistakes.{outright_names}
use Rattle.site_lint.proofs.Marks.{of_some_block}
use Rattle.site_lint.proofs.judged.is_unbounded_in.Goals as goal

pub returns-in-Some : goal.returns-in-Some
returns-in-Some c =
    let some : slice_get c.args.blocks.now.blocks.items c.args.number ≡ Some c.in-Some.block.now = sym c.in-Some.ensures in
    of_some_block c.args.blocks.now c.args.number (λ (b : Body). Contains (flat_map outright_names b.conditions) c.args.name.now → ⊥) c.in-Some.block.now c.is_unbounded.result some c.is_unbounded.ensures
