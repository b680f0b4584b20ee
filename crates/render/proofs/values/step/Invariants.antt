use Rattle.std.proofs.Common.{◌≡◌, take}
use Rattle.sd_value.specs.Gathered.{Gathered}
use Rattle.page_spec.specs.Question.{out}
use Rattle.sd_value.specs.declared.Value.{Value}
use Rattle.std.specs.Prelude.{Contains}
use Rattle.demand_spec.specs.Reads.{KeepsOnly}
use Rattle.render.proofs.values.step.Given as goal

abbrev pub invariant-loop-value : goal.invariant-loop-value
invariant-loop-value g l = record {
  own : g.V.SiteView.Own l.view;
  fixed : g.V.SiteView.fixed l.view ≡ g.V.SiteView.fixed l.initial.view;
  gathered : Gathered (λ m v. (g.V.SiteView.site (g.V.SiteView.fixed l.initial.view)).edge m l.label v) (take l.value-index l.from) l.ends.items;
  kept : KeepsOnly (λ q. (u : Value) × Contains l.from u × (q ≡ out u l.label)) (g.V.SiteView.kept l.initial.view) (g.V.SiteView.kept l.view);
}
