use Rattle.std.proofs.Common.{◌≡◌, take}
use Rattle.std.specs.Prelude.{Contains}
use Rattle.sd_value.specs.declared.Value.{Value}
use Rattle.sd_value.specs.Order.{value_cmp}
use Rattle.sd_value.specs.Ascending.{ListsExactly}
use Rattle.page_spec.specs.Site.{Reaches}
use Rattle.render.specs.Asks.{WordAsks}
use Rattle.demand_spec.specs.Reads.{KeepsOnly}
use Rattle.render.proofs.values.reached.Given as goal

abbrev pub invariant-loop-label : goal.invariant-loop-label
invariant-loop-label g l = record {
  own : g.V.SiteView.Own l.view;
  fixed : g.V.SiteView.fixed l.view ≡ g.V.SiteView.fixed l.initial.view;
  exact : ListsExactly value_cmp (λ v. (u : Value) × Contains l.fn.from.items u × Reaches (g.V.SiteView.site (g.V.SiteView.fixed l.initial.view)) u (take l.label-index l.word) v) l.at.items;
  kept : KeepsOnly (WordAsks (g.V.SiteView.site (g.V.SiteView.fixed l.initial.view)) (Contains l.fn.from.items) l.word) (g.V.SiteView.kept l.initial.view) (g.V.SiteView.kept l.view);
}
