use Rattle.std.proofs.Common.{refl, sym, subst, [], ◌∷◌}
use Rattle.page_spec.specs.Pieces.{Formatted, bytes, embed}
use Rattle.page_spec.specs.Show.{escaped, show, target, anchor, link}
use Rattle.page_spec.specs.Written.{written}
use Rattle.sd_value.specs.declared.Value.{Value}
use Rattle.page_spec.specs.Site.{HasKey}
use Rattle.std.proofs.Common.{Option, inl, inr}
use Rattle.render.proofs.Room.{ok_then}
use Rattle.render.proofs.Joins.{labelled, unlabelled}
use Rattle.render.proofs.Asked.{keeps_one}
use Rattle.render.proofs.pieces.formatted.Goals as goal

pub returns-in_err-template_of-in-Embed-clause-kept : goal.returns-in_err-template_of-in-Embed-clause-kept
returns-in_err-template_of-in-Embed-clause-kept g c =
    rw c.in-Embed.is (keeps_one refl c.template_of.ensures.kept)

pub returns-in-Some-2-clause-kept : goal.returns-in-Some-2-clause-kept
returns-in-Some-2-clause-kept g c =
    rw c.in-Embed.is (keeps_one refl c.template_of.ensures.kept)

pub returns-in-None-2-clause-kept : goal.returns-in-None-2-clause-kept
returns-in-None-2-clause-kept g c =
    rw c.in-Embed.is (keeps_one refl c.template_of.ensures.kept)

pub returns-in-Written-clause-answer : goal.returns-in-Written-clause-answer
returns-in-Written-clause-answer g c =
    let fixed = g.V.SiteView.fixed c.args.view.now in
    let s = g.V.SiteView.site fixed in
    let f = g.V.SiteView.templates fixed in
    let v = c.args.value.now in
    ok_then _ _ c.add_written.result (λ x adds. (bytes (written c.in-Written.writing (show v)), subst (λ m. Formatted s f m v (bytes (written c.in-Written.writing (show v)))) (sym c.in-Written.is) refl, adds)) c.add_written.ensures

pub returns-in-Labelled-clause-answer : goal.returns-in-Labelled-clause-answer
returns-in-Labelled-clause-answer g c =
    let fixed = g.V.SiteView.fixed c.args.view.now in
    let s = g.V.SiteView.site fixed in
    let f = g.V.SiteView.templates fixed in
    let v = c.args.value.now in
    let linked = bytes (anchor (target v) c.in-Labelled.label) in
    ok_then _ _ c.add_labelled.result (λ x adds. (linked, subst (λ m. Formatted s f m v linked) (sym c.in-Labelled.is) refl, adds)) c.add_labelled.ensures

pub returns-in-Some-clause-answer : goal.returns-in-Some-clause-answer
returns-in-Some-clause-answer g c =
    let fixed = g.V.SiteView.fixed c.args.view.now in
    let s = g.V.SiteView.site fixed in
    let f = g.V.SiteView.templates fixed in
    let v = c.args.value.now in
    ok_then _ _ c.add_link.result (λ x adds. (bytes (link v c.in-Some.label), subst (λ m. Formatted s f m v (bytes (link v c.in-Some.label))) (sym c.in-Link.is) (labelled s f c.in-Link.word v c.in-Some.label (subst (λ (k : Option Value). HasKey s c.in-Link.word v k) c.in-Some.is c.in_ok-label-in-Link.ensures.answer)), adds)) c.add_link.ensures

pub returns-in-None-clause-answer : goal.returns-in-None-clause-answer
returns-in-None-clause-answer g c =
    let fixed = g.V.SiteView.fixed c.args.view.now in
    let s = g.V.SiteView.site fixed in
    let f = g.V.SiteView.templates fixed in
    let v = c.args.value.now in
    ok_then _ _ c.add_link-in-None.result (λ x adds. (bytes (link v v), subst (λ m. Formatted s f m v (bytes (link v v))) (sym c.in-Link.is) (unlabelled s f c.in-Link.word v (subst (λ (k : Option Value). HasKey s c.in-Link.word v k) c.in-None.is c.in_ok-label-in-Link.ensures.answer)), adds)) c.add_link-in-None.ensures

pub returns-in-Some-2-clause-answer : goal.returns-in-Some-2-clause-answer
returns-in-Some-2-clause-answer g c =
    let fixed = g.V.SiteView.fixed c.args.view.now in
    let s = g.V.SiteView.site fixed in
    let f = g.V.SiteView.templates fixed in
    let v = c.args.value.now in
    ok_then _ _ c.add_embed.result (λ x adds. (embed v ∷ [], subst (λ m. Formatted s f m v (embed v ∷ [])) (sym c.in-Embed.is) (inl (c.in-Some-2.field-0, rw c.in-Some-2.is at c.in_ok-template_of-in-Embed.ensures.answer, refl)), adds)) c.add_embed.ensures

pub returns-in-None-2-clause-answer : goal.returns-in-None-2-clause-answer
returns-in-None-2-clause-answer g c =
    let fixed = g.V.SiteView.fixed c.args.view.now in
    let s = g.V.SiteView.site fixed in
    let f = g.V.SiteView.templates fixed in
    let v = c.args.value.now in
    ok_then _ _ c.add_written-in-None-2.result (λ x adds. (bytes (escaped (show v)), subst (λ m. Formatted s f m v (bytes (escaped (show v)))) (sym c.in-Embed.is) (inr (rw c.in-None-2.is at c.in_ok-template_of-in-Embed.ensures.answer, refl)), adds)) c.add_written-in-None-2.ensures
