use Rattle.std.proofs.Common.{◌≡◌, ◌↔◌, sym, subst}
use Rattle.std.specs.Prelude.{IsTrue, Contains, map}
use Rattle.sd_value.specs.Names.{Name, Label}
use Rattle.site_spec.specs.Site.{Scope}
use Rattle.constraint_spec.specs.Placed.{PlacedLink}
use Rattle.link_index.specs.Links.{quoted_links, arc_links}
use Rattle.link_index.specs.Found.{arc_name}
use Rattle.site_lint.specs.Links.{HasArc}
use Rattle.site_lint.proofs.LinkLaws.{has_by_quoted, has_by_arcs, arc_of_function}
use Rattle.site_lint.proofs.links.has_none.Goals as goal

pub returns-then-has_quoted : goal.returns-then-has_quoted
returns-then-has_quoted g c =
    let p : Name × Label = (c.args.function.now, c.args.label.now) in
    has_by_quoted (g.L.LinkAnswers.query c.args.answers.now) c.args.function.now c.args.label.now
    (subst (λ (q : Scope). Contains (quoted_links q) p) c.requires.index (c.has_quoted.ensures.0 c.if-has_quoted.true))

pub returns : goal.returns
returns g c =
    let q = g.L.LinkAnswers.query c.args.answers.now in
    let f = c.args.function.now in
    let l = c.args.label.now in
    let p : Name × Label = (f, l) in
    let part = c.arcs_of.result.now in
    let both = arc_of_function q f l part (subst (λ (r : Scope). (p : Name × PlacedLink) → Contains (map arc_name part) p ↔ (Contains (arc_links r) p × (p.0 ≡ f))) c.requires.index c.arcs_of.ensures) in
    let found : IsTrue c.in_ok-some.some ↔ HasArc q f l = (λ t. both.0 (c.in_ok-some.ensures.0 t), λ h. c.in_ok-some.ensures.1 (both.1 h)) in
    has_by_arcs q f l c.in_ok-some.some (λ h. (
    let yes = c.has_quoted.ensures.1 (subst (λ (r : Scope). Contains (quoted_links r) p) (sym c.requires.index) h) in
    let no = c.if-has_quoted.false in
    cc
    )) found
