use Rattle.std.proofs.Common.{◌≡◌, ℕ, Bool, List, vec_len}
use Rattle.sd_value.specs.declared.Value.{Value}
use Rattle.render.specs.Frames.{IsFrame, AreKnown}
use Rattle.render.proofs.page.take.Given as goal

abbrev pub invariant-loop-piece : goal.invariant-loop-piece
invariant-loop-piece g l = record {
  value : l.frame.value ≡ l.initial.frame.value;
  frame : (page : Value) (cut : Bool) (ts : List (List ℕ)) → AreKnown (g.V.SiteView.site (g.V.SiteView.fixed l.fn._view)) (g.V.SiteView.templates (g.V.SiteView.fixed l.fn._view)) cut ts l.known
      → IsFrame (g.V.SiteView.site (g.V.SiteView.fixed l.fn._view)) (g.V.SiteView.templates (g.V.SiteView.fixed l.fn._view)) page cut ts l.initial.frame
      → IsFrame (g.V.SiteView.site (g.V.SiteView.fixed l.fn._view)) (g.V.SiteView.templates (g.V.SiteView.fixed l.fn._view)) page cut ts l.frame;
}

abbrev pub decreases-loop-piece : goal.decreases-loop-piece
decreases-loop-piece g l = vec_len l.frame.left
