use Rattle.std.proofs.Common.{◌≡◌, ◌+◌, ◌∷◌, take}
use Rattle.page_spec.specs.Site.{HasPlaces}
use Rattle.render.specs.Asks.{KeysAsks}
use Rattle.demand_spec.specs.Reads.{KeepsOnly}
use Rattle.render.proofs.order.row_of.Given as goal

abbrev pub invariant-loop-further : goal.invariant-loop-further
invariant-loop-further g l = record {
  own : g.V.SiteView.Own l.view;
  fixed : g.V.SiteView.fixed l.view ≡ g.V.SiteView.fixed l.initial.view;
  places : HasPlaces (g.V.SiteView.site (g.V.SiteView.fixed l.initial.view)) (take (l.further-index + 1) (l.key ∷ l.more)) l.value (l.place ∷ l.list.items);
  kept : KeepsOnly (KeysAsks (g.V.SiteView.site (g.V.SiteView.fixed l.initial.view)) (l.key ∷ l.more) l.value) (g.V.SiteView.kept l.initial.view) (g.V.SiteView.kept l.view);
}
