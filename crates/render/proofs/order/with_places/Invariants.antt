use Rattle.std.proofs.Common.{◌≡◌, ◌∷◌, List, take}
use Rattle.render.specs.Rows.{HasRow, HasFirstOf}
use Rattle.sd_value.specs.Gathered.{Gathered}
use Rattle.sd_value.specs.declared.Value.{Value}
use Rattle.page_spec.specs.declared.Keyed.{Keyed}
use Rattle.std.specs.Prelude.{Contains}
use Rattle.render.specs.Asks.{KeysAsks}
use Rattle.demand_spec.specs.Reads.{KeepsOnly}
use Rattle.render.proofs.order.with_places.Given as goal

abbrev pub invariant-loop-value : goal.invariant-loop-value
invariant-loop-value g l = record {
  own : g.V.SiteView.Own l.view;
  fixed : g.V.SiteView.fixed l.view ≡ g.V.SiteView.fixed l.initial.view;
  seen : (seen : List Keyed) × Gathered (HasRow (g.V.SiteView.site (g.V.SiteView.fixed l.initial.view)) (l.key ∷ l.more)) (take l.value-index l.values) seen × HasFirstOf l.fn.limit seen l.rows.items;
  kept : KeepsOnly (λ q. (v : Value) × Contains l.values v × KeysAsks (g.V.SiteView.site (g.V.SiteView.fixed l.initial.view)) (l.key ∷ l.more) v q) (g.V.SiteView.kept l.initial.view) (g.V.SiteView.kept l.view);
}
