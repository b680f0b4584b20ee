use Rattle.std.proofs.Common.{◌≡◌, ◌+◌, ◌-◌, ◌*◌, ◌^◌, vec_len}
use Rattle.std.specs.BTreeMap.{btree_map_len}
use Rattle.render.specs.Frames.{IsUnderway}
use Rattle.render.specs.Asks.{LedAsks}
use Rattle.demand_spec.specs.Reads.{KeepsOnly}
use Rattle.render.proofs.page.run.Given as goal

abbrev pub invariant-taking : goal.invariant-taking
invariant-taking g l = record {
  own : g.V.SiteView.Own l.view;
  fixed : g.V.SiteView.fixed l.view ≡ g.V.SiteView.fixed l.fn.view;
  state : IsUnderway (g.V.SiteView.site (g.V.SiteView.fixed l.fn.view)) (g.V.SiteView.templates (g.V.SiteView.fixed l.fn.view)) l.fn.frame.value l.cut l.known l.drafts.items l.stack.items l.top;
  kept : KeepsOnly (LedAsks (g.V.SiteView.site (g.V.SiteView.fixed l.fn.view)) (g.V.SiteView.templates (g.V.SiteView.fixed l.fn.view)) l.fn.frame.value) (g.V.SiteView.kept l.fn.view) (g.V.SiteView.kept l.view);
}

abbrev pub decreases-taking : goal.decreases-taking
decreases-taking g l = 2 * (2 ^ 64 - btree_map_len l.known) + vec_len l.stack
