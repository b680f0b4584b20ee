use Rattle.std.proofs.Common.{◌≡◌, take}
use Rattle.std.proofs.Common.{List}
use Rattle.page_spec.specs.Pieces.{Item, Formatted, Joined, delimiter}
use Rattle.render.specs.Room.{Adds}
use Rattle.sd_value.specs.declared.Value.{Value}
use Rattle.std.specs.Prelude.{Contains}
use Rattle.render.specs.Asks.{ModeAsks}
use Rattle.demand_spec.specs.Reads.{KeepsOnly}
use Rattle.render.proofs.pieces.all_formatted.Given as goal

abbrev pub invariant-loop-number : goal.invariant-loop-number
invariant-loop-number g l = record {
  own : g.V.SiteView.Own l.view;
  fixed : g.V.SiteView.fixed l.view ≡ g.V.SiteView.fixed l.initial.view;
  joined : (ps : List Item) × Joined (Formatted (g.V.SiteView.site (g.V.SiteView.fixed l.initial.view)) (g.V.SiteView.templates (g.V.SiteView.fixed l.initial.view)) l.mode) (delimiter l.delimiter) (take l.number l.values) ps × Adds l.initial.out l.out ps;
  kept : KeepsOnly (λ q. (v : Value) × Contains l.values v × ModeAsks (g.V.SiteView.site (g.V.SiteView.fixed l.initial.view)) l.mode v q) (g.V.SiteView.kept l.initial.view) (g.V.SiteView.kept l.view);
}
