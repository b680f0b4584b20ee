use Rattle.std.proofs.Common.{◌≡◌, sym, ap, ◌∙◌, subst, arith}
use Rattle.std.proofs.lemmas.List.{length-map}
use Rattle.page_spec.specs.Pieces.{HasTemplate}
use Rattle.tmpl.specs.Reading.{template_body}
use Rattle.std.proofs.lemmas.List.{reverse-reverse}
use Rattle.std.specs.Prelude.{reverse}
use Rattle.page_spec.specs.Pieces.{Item, Expands, items_of}
use Rattle.render.specs.Room.{Fits, Adds}
use Rattle.tmpl.specs.Body.{Body}
use Rattle.page_spec.specs.declared.Piece.{Piece}
use Rattle.render.specs.declared.page.Frame.{Frame}
use Rattle.render.proofs.Frames.{template_in_range}
use Rattle.std.proofs.Common.{inl, inr, refl, List, [], get_or}
use Rattle.tmpl.specs.declared.Part.{Part}
use Rattle.tmpl.specs.Body.{TemplateFile, done, body_of}
use Rattle.render.specs.Asks.{SceneAsks}
use Rattle.render.proofs.Asked.{keeps_one, keeps_then}
use Rattle.render.proofs.Scenes.{value_asks}
use Rattle.render.proofs.page.frame_of.Goals as goal

pub template-requires : goal.template-requires
template-requires g c =
    let s = g.V.SiteView.site (g.V.SiteView.fixed c.args.view.now) in
    let h = rw c.in-Some.is at c.in_ok-template_of.ensures.answer in
    let l = template_in_range s c.args.templates.now c.args.value c.in-Some.number (subst (λ f. HasTemplate s f c.args.value c.in-Some.number) (sym c.requires.file) h) in
    omega (arith, length-map c.args.templates.now.bodies.items template_body, l)

pub returns-in_err-template_of-clause-kept : goal.returns-in_err-template_of-clause-kept
returns-in_err-template_of-clause-kept g c =
    keeps_one (inl refl) c.template_of.ensures.kept

pub returns-in-None-clause-kept : goal.returns-in-None-clause-kept
returns-in-None-clause-kept g c =
    keeps_one (inl refl) c.template_of.ensures.kept

pub returns-in_err-expand-in-Some-clause-kept : goal.returns-in_err-expand-in-Some-clause-kept
returns-in_err-expand-in-Some-clause-kept g c =
    let fixed = g.V.SiteView.fixed c.args.view.now in
    let s = g.V.SiteView.site fixed in
    let f = g.V.SiteView.templates fixed in
    let has = rw c.in-Some.is at c.in_ok-template_of.ensures.answer in
    let body : template_body c.template.result.now ≡ get_or f.bodies c.in-Some.number done = c.template.ensures ∙ ap (λ (z : TemplateFile). get_or z.bodies c.in-Some.number done) c.requires.file in
    keeps_then (keeps_one (inl refl) c.template_of.ensures.kept)
    (λ q h. inr (value_asks s f c.args.value c.in-Some.number (template_body c.template.result.now) q has body (subst (λ (l : List Part). SceneAsks s record { here = c.args.value; loops = [] } (body_of l) q) c.as_slice-parts.ensures.value (subst (λ x. SceneAsks (g.V.SiteView.site x) record { here = c.args.value; loops = [] } (body_of c.as_slice-parts.result.now) q) c.template_of.ensures.fixed h))))
    c.expand.ensures.kept

pub returns-in_ok-expand-in-Some-clause-kept : goal.returns-in_ok-expand-in-Some-clause-kept
returns-in_ok-expand-in-Some-clause-kept g c =
    let fixed = g.V.SiteView.fixed c.args.view.now in
    let s = g.V.SiteView.site fixed in
    let f = g.V.SiteView.templates fixed in
    let has = rw c.in-Some.is at c.in_ok-template_of.ensures.answer in
    let body : template_body c.template.result.now ≡ get_or f.bodies c.in-Some.number done = c.template.ensures ∙ ap (λ (z : TemplateFile). get_or z.bodies c.in-Some.number done) c.requires.file in
    keeps_then (keeps_one (inl refl) c.template_of.ensures.kept)
    (λ q h. inr (value_asks s f c.args.value c.in-Some.number (template_body c.template.result.now) q has body (subst (λ (l : List Part). SceneAsks s record { here = c.args.value; loops = [] } (body_of l) q) c.as_slice-parts.ensures.value (subst (λ x. SceneAsks (g.V.SiteView.site x) record { here = c.args.value; loops = [] } (body_of c.as_slice-parts.result.now) q) c.template_of.ensures.fixed h))))
    c.expand.ensures.kept

pub returns-in_ok-expand-in-Some-clause-answer : goal.returns-in_ok-expand-in-Some-clause-answer
returns-in_ok-expand-in-Some-clause-answer g c =
    let fixed = g.V.SiteView.fixed c.args.view.now in
    let s = g.V.SiteView.site fixed in
    let f = g.V.SiteView.templates fixed in
    let has = rw c.in-Some.is at c.in_ok-template_of.ensures.answer in
    let body : template_body c.template.result.now ≡ get_or f.bodies c.in-Some.number done = c.template.ensures ∙ ap (λ (z : TemplateFile). get_or z.bodies c.in-Some.number done) c.requires.file in
    let start = c.beside-body.ensures in
    let r : Frame = record { value = c.args.value; left = c.reverse.new.self; draft = c.new.result; least = c.expand.new.out.size } in
    let all = subst (λ x. (ps : List Item) × Expands (g.V.SiteView.site x) (g.V.SiteView.templates x) record { here = c.args.value; loops = [] } (body_of c.as_slice-parts.result.now) ps × Adds c.beside-body.result c.expand.new.out ps) c.template_of.ensures.fixed c.in_ok-expand-in-Some.ensures.answer in
    let listed = subst (λ (l : List Part). Expands s f record { here = c.args.value; loops = [] } (body_of l) all.0) c.as_slice-parts.ensures.value all.1 in
    let expands = subst (λ (b : Body). Expands s f record { here = c.args.value; loops = [] } b all.0) body listed in
    let turned : reverse r.left.items ≡ c.expand.new.out.pieces.items = ap (λ (l : List Piece). reverse l) c.reverse.ensures.items ∙ reverse-reverse c.expand.new.out.pieces.items in
    record {
      value = refl;
      pieces = (all.0, (c.in-Some.number, has, expands), subst (λ (l : List Piece). Fits c.args.beside all.0 r.least (items_of l)) (sym turned) (all.2 c.args.beside [] start));
      draft = λ ts. c.new.ensures ts;
    }
