use Rattle.std.proofs.Common.{◌≡◌, take}
use Rattle.sd_value.specs.declared.Value.TheVariants.{Page}
use Rattle.sd_value.specs.Gathered.{Gathered}
use Rattle.site_lookups.specs.Ends.{BlockJoins}
use Rattle.struql_ast.specs.Reading.{link_of}
use Rattle.site_lookups.specs.Counts.{IsLinkRow}
use Rattle.weight_spec.specs.CountsAtMost.{CountsAtMost, IsAt, IsBefore}
use Rattle.site_lookups.proofs.linked.links_out.Given as goal

abbrev pub invariant-loop-block : goal.invariant-loop-block
invariant-loop-block g l = record {
  graph : g.A.Asker.graph l.asker ≡ g.A.Asker.graph l.initial.asker;
  gathered : Gathered (BlockJoins (g.A.Asker.graph l.initial.asker) (Page l.term) l.label) (take l.block-index l.blocks) l.ends.items;
  counted : CountsAtMost (IsBefore l.blocks (λ b. IsAt b.links.items (λ k. IsLinkRow (g.A.Asker.graph l.initial.asker) b.chain l.term l.label (link_of k))) l.block-index) (g.A.Asker.count l.initial.asker) (g.A.Asker.count l.asker);
}
