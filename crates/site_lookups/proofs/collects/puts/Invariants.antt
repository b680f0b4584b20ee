use Rattle.std.proofs.Common.{◌≡◌, take}
use Rattle.sd_value.specs.Gathered.{Gathered}
use Rattle.site_lookups.specs.Ends.{BlockPuts}
use Rattle.struql_ast.specs.Reading.{collect_of}
use Rattle.site_lookups.specs.Counts.{IsCollectRow}
use Rattle.weight_spec.specs.CountsAtMost.{CountsAtMost, IsAt, IsBefore}
use Rattle.site_lookups.proofs.collects.puts.Given as goal

abbrev pub invariant-loop-block : goal.invariant-loop-block
invariant-loop-block g l = record {
  graph : g.A.Asker.graph l.asker ≡ g.A.Asker.graph l.initial.asker;
  gathered : Gathered (BlockPuts (g.A.Asker.graph l.initial.asker) l.name) (take l.block-index l.blocks) l.values.items;
  counted : CountsAtMost (IsBefore l.blocks (λ b. IsAt b.collects.items (λ k. IsCollectRow (g.A.Asker.graph l.initial.asker) b.chain l.name (collect_of k))) l.block-index) (g.A.Asker.count l.initial.asker) (g.A.Asker.count l.asker);
}
