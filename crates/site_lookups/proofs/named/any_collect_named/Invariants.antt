use Rattle.std.proofs.Common.{◌≡◌, take}
use Rattle.struql_ast.specs.Reading.{collect_of}
use Rattle.site_spec.specs.Site.{SomeOf, IsNamed, target_terms}
use Rattle.site_lookups.proofs.Some.{NoneOf}
use Rattle.weight_spec.specs.CountsAtMost.{CountsAtMost, IsBefore}
use Rattle.site_lookups.specs.Counts.{IsTermOf}
use Rattle.site_lookups.proofs.named.any_collect_named.Given as goal

abbrev pub invariant-loop-collect : goal.invariant-loop-collect
invariant-loop-collect g l = record {
  graph : g.A.Asker.graph l.asker ≡ g.A.Asker.graph l.initial.asker;
  none : NoneOf (λ k. SomeOf (IsNamed (g.A.Asker.graph l.initial.asker) l.chain l.term) (target_terms (collect_of k).target)) (take l.collect-index l.collects);
  counted : CountsAtMost (IsBefore l.collects (λ k. IsTermOf l.term (collect_of k).target) l.collect-index) (g.A.Asker.count l.initial.asker) (g.A.Asker.count l.asker);
}
