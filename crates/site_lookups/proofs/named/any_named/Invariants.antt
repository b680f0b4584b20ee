use Rattle.std.proofs.Common.{◌≡◌, take}
use Rattle.struql_ast.specs.Reading.{term_of}
use Rattle.site_spec.specs.Site.{IsNamed}
use Rattle.site_lookups.proofs.Some.{NoneOf}
use Rattle.weight_spec.specs.CountsAtMost.{CountsAtMost, IsBefore}
use Rattle.site_lookups.specs.Counts.{HasFunction}
use Rattle.site_lookups.proofs.named.any_named.Given as goal

abbrev pub invariant-loop-written : goal.invariant-loop-written
invariant-loop-written g l = record {
  graph : g.A.Asker.graph l.asker ≡ g.A.Asker.graph l.initial.asker;
  none : NoneOf (λ w. IsNamed (g.A.Asker.graph l.initial.asker) l.chain l.term (term_of w)) (take l.written-index l.terms);
  counted : CountsAtMost (IsBefore l.terms (HasFunction l.term) l.written-index) (g.A.Asker.count l.initial.asker) (g.A.Asker.count l.asker);
}
