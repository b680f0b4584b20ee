use Rattle.std.proofs.Common.{◌≡◌, ◌++◌, take}
use Rattle.std.specs.Prelude.{map}
use Rattle.query_blocks.specs.Blocks.{body_of}
use Rattle.lint_spec.specs.Mistakes as mistakes
use Rattle.site_lint.proofs.gathered.push_all_put.Given as goal

abbrev pub invariant-loop-block : goal.invariant-loop-block
invariant-loop-block l = l.found.items ≡ l.initial.found.items ++ mistakes.put (map body_of (take l.block-index l.blocks.blocks.items))
