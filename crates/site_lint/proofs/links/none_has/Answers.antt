use Rattle.std.proofs.Common.{◌↔◌, subst}
use Rattle.std.specs.Prelude.{IsTrue, Contains, map}
use Rattle.sd_value.specs.Names.{Name}
use Rattle.site_spec.specs.Site.{Scope}
use Rattle.constraint_spec.specs.Placed.{PlacedLink}
use Rattle.link_index.specs.Links.{arc_links}
use Rattle.link_index.specs.Found.{arc_name}
use Rattle.site_lint.specs.Links.{HasArc}
use Rattle.site_lint.proofs.LinkLaws.{some_by_quoted, some_by_arcs, arc_of_some}
use Rattle.site_lint.proofs.links.none_has.Goals as goal

pub returns-then-has : goal.returns-then-has
returns-then-has g c =
    some_by_quoted (g.L.LinkAnswers.query c.args.answers.now) c.args.functions.now c.args.links.now.created_labels c.args.label.now c.requires.labels (c.has.ensures.0 c.if-has.true)

pub returns : goal.returns
returns g c =
    let q = g.L.LinkAnswers.query c.args.answers.now in
    let fs = c.args.functions.now in
    let l = c.args.label.now in
    let all = c.arcs.result.now in
    let both = arc_of_some q fs l all (subst (λ (r : Scope). (p : Name × PlacedLink) → Contains (map arc_name all) p ↔ Contains (arc_links r) p) c.requires.index c.arcs.ensures) in
    let found : IsTrue c.in_ok-some.some ↔ ((f : Name) × Contains fs f × HasArc q f l) = (λ t. both.0 (c.in_ok-some.ensures.0 t), λ h. c.in_ok-some.ensures.1 (both.1 h)) in
    some_by_arcs q fs c.args.links.now.created_labels l c.in_ok-some.some c.requires.labels (λ h. (
    let yes = c.has.ensures.1 h in
    let no = c.if-has.false in
    cc
    )) found
