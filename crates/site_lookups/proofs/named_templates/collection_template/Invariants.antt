use Rattle.std.proofs.Common.{◌≡◌, ◌<◌, take}
use Rattle.weight_spec.specs.CountsAtMost.{CountsAtMost}
use Rattle.graph_spec.specs.DataGraph.{HasMember}
use Rattle.site_lookups.proofs.Firsts.{NoneNamed}
use Rattle.site_lookups.proofs.named_templates.collection_template.Given as goal

abbrev pub invariant-loop-named : goal.invariant-loop-named
invariant-loop-named g l = record {
  graph : g.A.Asker.graph l.asker ≡ g.A.Asker.graph l.initial.asker;
  none : NoneNamed (λ name. HasMember (g.A.Asker.graph l.initial.asker) name l.node) (take l.named-index l.names);
  counted : CountsAtMost (λ n. n < l.named-index) (g.A.Asker.count l.initial.asker) (g.A.Asker.count l.asker);
}
