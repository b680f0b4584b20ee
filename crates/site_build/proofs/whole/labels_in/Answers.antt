use Rattle.std.proofs.Common.{◌≡◌, [], ap, sym, ◌∙◌}
use Rattle.std.specs.Prelude.{Some}
use Rattle.site_build.specs.declared.ordered.Joined.{Joined}
use Rattle.site_build.proofs.Growing.{gains_nil, gains_next, gains_end, gains_as}
use Rattle.site_build.proofs.whole.labels_in.Goals as goal

pub loop-link-init : goal.loop-link-init
loop-link-init c = rw c.new-labels.ensures.empty (gains_nil (λ (j : Joined) l. j.label ≡ l) [])

pub loop-link-preserved : goal.loop-link-preserved
loop-link-preserved c =
    gains_next (λ (j : Joined) l. j.label ≡ l) c.args.links.now c.loop-link.link-index c.link-item.result [] c.loop-link.labels.keys _ c.loop-link-test.true c.link-item.is c.loop-link.invariant
    (gains_as _ (λ l. c.link-item.result.label ≡ l) _ _ c.in_ok-insert_one.ensures
    (λ l e. let same : c.in_ok-label.label ≡ l = cc in sym c.in_ok-label.ensures ∙ same)
    (λ l e. ap Some (c.in_ok-label.ensures ∙ e)))

pub returns : goal.returns
returns c = gains_end (λ (j : Joined) l. j.label ≡ l) c.args.links.now c.loop-link.link-index [] c.loop-link.labels.keys c.loop-link-test.false c.loop-link.invariant
