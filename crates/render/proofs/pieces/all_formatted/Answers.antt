use Rattle.std.proofs.Common.{◌∙◌, arith, subst, List, [], ◌++◌}
use Rattle.std.specs.Prelude.{if◌then◌else◌, nat_lt}
use Rattle.page_spec.specs.Pieces.{Item, Formatted, delimiter}
use Rattle.render.specs.Room.{Adds}
use Rattle.render.proofs.Room.{adds_then}
use Rattle.render.proofs.Joins.{joined_more}
use Rattle.render.specs.Asks.{ModeAsks}
use Rattle.render.proofs.Asked.{keeps_then, item_in}
use Rattle.render.proofs.pieces.all_formatted.Goals as goal

pub loop-number-preserved : goal.loop-number-preserved
loop-number-preserved g c =
    let fixed = g.V.SiteView.fixed c.args.view.now in
    let d = delimiter c.args.delimiter.now in
    let so_far = c.loop-number.invariant.joined in
    let one = subst (λ x. (ps : List Item) × Formatted (g.V.SiteView.site x) (g.V.SiteView.templates x) c.args.mode.now c.index-values-number.result ps × Adds c.separator.new.out c.formatted.new.out ps) c.loop-number.invariant.fixed c.in_ok-formatted.ensures.answer in
    let before = if nat_lt 0 c.loop-number.number then d else [] in
    record {
      own = c.formatted.ensures.own;
      fixed = c.formatted.ensures.fixed ∙ c.loop-number.invariant.fixed;
      joined = (
        (so_far.0 ++ before) ++ one.0,
        joined_more (Formatted (g.V.SiteView.site fixed) (g.V.SiteView.templates fixed) c.args.mode.now) d c.args.values.now c.loop-number.number c.index-values-number.result so_far.0 one.0 (omega arith) c.index-values-number.is so_far.1 one.1,
        adds_then c.args.out.now c.separator.new.out c.formatted.new.out (so_far.0 ++ before) one.0 (adds_then c.args.out.now c.loop-number.out c.separator.new.out so_far.0 before so_far.2 c.in_ok-separator.ensures) one.2,
      );
      kept = keeps_then c.loop-number.invariant.kept (λ q h. (c.index-values-number.result, item_in c.args.values.now c.loop-number.number c.index-values-number.result (omega arith) c.index-values-number.is, subst (λ x. ModeAsks (g.V.SiteView.site x) c.args.mode.now c.index-values-number.result q) c.loop-number.invariant.fixed h)) c.formatted.ensures.kept;
    }

pub returns-in_err-formatted-clause-kept : goal.returns-in_err-formatted-clause-kept
returns-in_err-formatted-clause-kept g c =
    keeps_then c.loop-number.invariant.kept (λ q h. (c.index-values-number.result, item_in c.args.values.now c.loop-number.number c.index-values-number.result (omega arith) c.index-values-number.is, subst (λ x. ModeAsks (g.V.SiteView.site x) c.args.mode.now c.index-values-number.result q) c.loop-number.invariant.fixed h)) c.formatted.ensures.kept
