use Rattle.std.proofs.Common.{◌≡◌, take}
use Rattle.site_spec.specs.Site.{SomeOf, IsNamed, terms_of}
use Rattle.query_blocks.specs.Blocks.{body_of}
use Rattle.site_lookups.proofs.Some.{NoneOf}
use Rattle.weight_spec.specs.Charges.{IsNamedAt}
use Rattle.weight_spec.specs.CountsAtMost.{CountsAtMost, IsBefore}
use Rattle.site_lookups.proofs.named.in_site.Given as goal

abbrev pub invariant-loop-block : goal.invariant-loop-block
invariant-loop-block g l = record {
  graph : g.A.Asker.graph l.asker ≡ g.A.Asker.graph l.initial.asker;
  none : NoneOf (λ b. SomeOf (IsNamed (g.A.Asker.graph l.initial.asker) b.chain l.term) (terms_of (body_of b))) (take l.block-index l.blocks);
  counted : CountsAtMost (IsBefore l.blocks (λ b. IsNamedAt (body_of b) l.term) l.block-index) (g.A.Asker.count l.initial.asker) (g.A.Asker.count l.asker);
}
