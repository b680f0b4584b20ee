use Rattle.std.proofs.Common.{◌≡◌, take}
use Rattle.site_build.specs.Materialised.{BlocksAdd}
use Rattle.site_build.proofs.contents.add_blocks.Given as goal

abbrev pub invariant-loop-block : goal.invariant-loop-block
invariant-loop-block g l = record {
  graph : g.A.Asker.graph l.asker ≡ g.A.Asker.graph l.initial.asker;
  adds : BlocksAdd (g.A.Asker.graph l.initial.asker) (take l.block-index l.blocks) l.initial.made l.made;
}
