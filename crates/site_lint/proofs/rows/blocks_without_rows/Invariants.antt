use Rattle.std.proofs.Common.{◌≡◌, take}
use Rattle.site_lint.specs.Judged.{AreWithoutRows}
use Rattle.site_lint.proofs.rows.blocks_without_rows.Given as goal

abbrev pub invariant-loop-block : goal.invariant-loop-block
invariant-loop-block g l = record {
  graph : g.A.Asker.graph l.asker ≡ g.A.Asker.graph l.initial.asker;
  none : AreWithoutRows (g.A.Asker.graph l.initial.asker) (take l.block-index l.blocks.blocks.items) l.marks.items;
}
