use Rattle.std.proofs.Common.{◌≡◌, take}
use Rattle.struql_ast.specs.Reading.{collect_of}
use Rattle.site_spec.specs.Site.{IsPut}
use Rattle.sd_value.specs.Gathered.{Gathered}
use Rattle.site_lookups.specs.Counts.{IsCollectRow}
use Rattle.weight_spec.specs.CountsAtMost.{CountsAtMost, IsBefore}
use Rattle.site_lookups.proofs.collects.puts_of_block.Given as goal

abbrev pub invariant-loop-collect : goal.invariant-loop-collect
invariant-loop-collect g l = record {
  graph : g.A.Asker.graph l.asker ≡ g.A.Asker.graph l.initial.asker;
  gathered : Gathered (λ k v. IsPut (g.A.Asker.graph l.initial.asker) l.block.chain l.name v (collect_of k)) (take l.collect-index l.collects) l.values.items;
  counted : CountsAtMost (IsBefore l.collects (λ k. IsCollectRow (g.A.Asker.graph l.initial.asker) l.block.chain l.name (collect_of k)) l.collect-index) (g.A.Asker.count l.initial.asker) (g.A.Asker.count l.asker);
}
