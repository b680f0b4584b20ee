use Rattle.std.proofs.Common.{◌≡◌, take}
use Rattle.sd_value.specs.declared.Value.TheVariants.{Page}
use Rattle.struql_ast.specs.Reading.{link_of}
use Rattle.site_spec.specs.Site.{IsJoined}
use Rattle.sd_value.specs.Gathered.{Gathered}
use Rattle.site_lookups.specs.Counts.{IsLinkRow}
use Rattle.weight_spec.specs.CountsAtMost.{CountsAtMost, IsBefore}
use Rattle.site_lookups.proofs.linked.ends_of_block.Given as goal

abbrev pub invariant-loop-link : goal.invariant-loop-link
invariant-loop-link g l = record {
  graph : g.A.Asker.graph l.asker ≡ g.A.Asker.graph l.initial.asker;
  gathered : Gathered (λ k v. IsJoined (g.A.Asker.graph l.initial.asker) l.block.chain (Page l.term) l.label v (link_of k)) (take l.link-index l.links) l.ends.items;
  counted : CountsAtMost (IsBefore l.links (λ k. IsLinkRow (g.A.Asker.graph l.initial.asker) l.block.chain l.term l.label (link_of k)) l.link-index) (g.A.Asker.count l.initial.asker) (g.A.Asker.count l.asker);
}
