use Rattle.std.proofs.Common.{◌≡◌, take}
use Rattle.struql_ast.specs.Reading.{link_of}
use Rattle.site_spec.specs.Site.{SomeOf, IsNamed, ends_of}
use Rattle.site_lookups.proofs.Some.{NoneOf}
use Rattle.weight_spec.specs.CountsAtMost.{CountsAtMost, IsBefore}
use Rattle.site_lookups.specs.Counts.{IsEndOf}
use Rattle.site_lookups.proofs.named.any_link_named.Given as goal

abbrev pub invariant-loop-link : goal.invariant-loop-link
invariant-loop-link g l = record {
  graph : g.A.Asker.graph l.asker ≡ g.A.Asker.graph l.initial.asker;
  none : NoneOf (λ k. SomeOf (IsNamed (g.A.Asker.graph l.initial.asker) l.chain l.term) (ends_of (link_of k))) (take l.link-index l.links);
  counted : CountsAtMost (IsBefore l.links (λ k. IsEndOf l.term (link_of k)) l.link-index) (g.A.Asker.count l.initial.asker) (g.A.Asker.count l.asker);
}
