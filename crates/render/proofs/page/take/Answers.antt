use Rattle.std.proofs.Common.{◌≡◌, [], ◌∷◌, ◌++◌, length, ap, ◌∙◌, refl, arith}
use Rattle.page_spec.specs.declared.Piece.{Piece}
use Rattle.page_spec.specs.declared.Piece.TheVariants as piece
use Rattle.render.specs.declared.page.Frame.{Frame}
use Rattle.render.proofs.Frames.{frame_stretch, frame_waits, frame_resumed, frame_whole, empty_list}
use Rattle.render.proofs.page.take.Goals as goal

pub loop-piece-preserved-in-Continue-1 : goal.loop-piece-preserved-in-Continue-1
loop-piece-preserved-in-Continue-1 g c =
    let fixed = g.V.SiteView.fixed c.args._view.now in
    let r = c.loop-piece.frame in
    let q : Frame = record { value = r.value; left = c.pop.new.self; draft = c.add_stretch.new.self; least = r.least } in
    let popped : r.left.items ≡ q.left.items ++ piece.Text c.in-Stretch.bytes ∷ [] = c.in-Some.ensures.items ∙ ap (λ (p : Piece). q.left.items ++ p ∷ []) c.in-Stretch.ensures in
    record {
      value = c.loop-piece.invariant.value;
      frame = λ page cut ts known fr. frame_stretch (g.V.SiteView.site fixed) (g.V.SiteView.templates fixed) page cut ts r q c.in-Stretch.bytes (c.loop-piece.invariant.frame page cut ts known fr) popped refl (λ u d. c.in_ok-add_stretch-in-Stretch.ensures ts u d) refl;
    }

pub loop-piece-preserved : goal.loop-piece-preserved
loop-piece-preserved g c =
    let fixed = g.V.SiteView.fixed c.args._view.now in
    let r = c.loop-piece.frame in
    let q : Frame = record { value = r.value; left = c.pop.new.self; draft = r.draft; least = r.least } in
    let m = c.in-Whole.ensures.0 in
    let popped : r.left.items ≡ q.left.items ++ piece.Embed m ∷ [] = c.in-Some.ensures.items ∙ ap (λ (p : Piece). q.left.items ++ p ∷ []) c.in-Whole.ensures.1 in
    record {
      value = c.in_ok-put-in-Whole.ensures.value ∙ c.loop-piece.invariant.value;
      frame = λ page cut ts known fr.
          let (t, has, told) = known m c.in-Whole.text c.in-Whole.ensures.2 in
          let waits = frame_waits (g.V.SiteView.site fixed) (g.V.SiteView.templates fixed) page cut ts r q m (c.loop-piece.invariant.frame page cut ts known fr) popped refl refl refl in
          frame_resumed (g.V.SiteView.site fixed) (g.V.SiteView.templates fixed) page cut ts q c.put.new.frame m c.in-Whole.text t waits has told c.in_ok-put-in-Whole.ensures.value c.in_ok-put-in-Whole.ensures.left
          (λ u is d. c.in_ok-put-in-Whole.ensures.draft ts u t is d) (λ is. c.in_ok-put-in-Whole.ensures.least ts t is);
    }

pub returns-in-Enter-clause-taken : goal.returns-in-Enter-clause-taken
returns-in-Enter-clause-taken g c = λ page cut ts known fr.
    let fixed = g.V.SiteView.fixed c.args._view.now in
    let r = c.loop-piece.frame in
    let q : Frame = record { value = r.value; left = c.pop.new.self; draft = r.draft; least = r.least } in
    let popped : r.left.items ≡ q.left.items ++ piece.Embed c.in-Enter.value ∷ [] = c.in-Some.ensures.items ∙ ap (λ (p : Piece). q.left.items ++ p ∷ []) c.in-Enter.ensures.0 in
    (frame_waits (g.V.SiteView.site fixed) (g.V.SiteView.templates fixed) page cut ts r q c.in-Enter.value (c.loop-piece.invariant.frame page cut ts known fr) popped refl refl refl, c.in-Enter.ensures.1)

pub returns-in-Again-clause-taken : goal.returns-in-Again-clause-taken
returns-in-Again-clause-taken g c = λ page cut ts known fr.
    let fixed = g.V.SiteView.fixed c.args._view.now in
    let r = c.loop-piece.frame in
    let q : Frame = record { value = r.value; left = c.pop.new.self; draft = r.draft; least = r.least } in
    let popped : r.left.items ≡ q.left.items ++ piece.Embed c.in-Again.value ∷ [] = c.in-Some.ensures.items ∙ ap (λ (p : Piece). q.left.items ++ p ∷ []) c.in-Again.ensures.0 in
    (frame_waits (g.V.SiteView.site fixed) (g.V.SiteView.templates fixed) page cut ts r q c.in-Again.value (c.loop-piece.invariant.frame page cut ts known fr) popped refl refl refl, c.in-Again.ensures.1)

pub returns-clause-taken : goal.returns-clause-taken
returns-clause-taken g c = λ page cut ts known fr.
    let fixed = g.V.SiteView.fixed c.args._view.now in
    let none = empty_list c.loop-piece.frame.left.items (let e : length c.loop-piece.frame.left.items ≡ 0 = omega (arith, c.loop-piece.frame.left.ok.0, c.in_default.ensures.cases) in e) in
    frame_whole (g.V.SiteView.site fixed) (g.V.SiteView.templates fixed) page cut ts c.loop-piece.frame (c.loop-piece.invariant.frame page cut ts known fr) none
