use Rattle.std.proofs.Common.{◌≡◌, ◌++◌, List, take, drop}
use Rattle.tmpl.specs.Body.{body_of}
use Rattle.page_spec.specs.Pieces.{Item, Expands, Joined, binding, delimiter}
use Rattle.render.specs.Room.{Adds}
use Rattle.tmpl.specs.Body.{part_before, done}
use Rattle.render.specs.Asks.{SceneAsks}
use Rattle.demand_spec.specs.Reads.{KeepsOnly}
use Rattle.render.proofs.pieces.+expand.Given as goal

abbrev pub invariant-expand-loop-part : goal.invariant-expand-loop-part
invariant-expand-loop-part g l = record {
  own : g.V.SiteView.Own l.view;
  fixed : g.V.SiteView.fixed l.view ≡ g.V.SiteView.fixed l.fn.view;
  so_far : (ps : List Item) × ((b : List Item) → Expands (g.V.SiteView.site (g.V.SiteView.fixed l.fn.view)) (g.V.SiteView.templates (g.V.SiteView.fixed l.fn.view)) record { here = l.here; loops = l.loops } (body_of (drop l.part-index l.parts)) b → Expands (g.V.SiteView.site (g.V.SiteView.fixed l.fn.view)) (g.V.SiteView.templates (g.V.SiteView.fixed l.fn.view)) record { here = l.here; loops = l.loops } (body_of l.parts) (ps ++ b)) × Adds l.initial.out l.out ps;
  kept : KeepsOnly (SceneAsks (g.V.SiteView.site (g.V.SiteView.fixed l.fn.view)) record { here = l.here; loops = l.loops } (body_of l.parts)) (g.V.SiteView.kept l.fn.view) (g.V.SiteView.kept l.view);
}

abbrev pub invariant-expand_part-loop-number : goal.invariant-expand_part-loop-number
invariant-expand_part-loop-number g l = record {
  own : g.V.SiteView.Own l.view;
  fixed : g.V.SiteView.fixed l.view ≡ g.V.SiteView.fixed l.fn.view;
  joined : (ps : List Item) × Joined (λ v. Expands (g.V.SiteView.site (g.V.SiteView.fixed l.fn.view)) (g.V.SiteView.templates (g.V.SiteView.fixed l.fn.view)) (binding record { here = l.here; loops = l.loops } l.repeat.number v) (body_of l.repeat.body.items)) (delimiter l.repeat.order.delimiter) (take l.number l.value-items) ps × Adds l.initial.out l.out ps;
  kept : KeepsOnly (SceneAsks (g.V.SiteView.site (g.V.SiteView.fixed l.fn.view)) record { here = l.here; loops = l.loops } (part_before l.part done)) (g.V.SiteView.kept l.fn.view) (g.V.SiteView.kept l.view);
}
