use Rattle.std.proofs.Common.{◌↔◌, ◌+◌, List, rules, take, arith, subst}
use Rattle.std.specs.Prelude.{Contains, map}
use Rattle.sd_value.specs.Names.{Name}
use Rattle.site_spec.specs.Site.{Scope}
use Rattle.constraint_spec.specs.Placed.{PlacedLink}
use Rattle.link_index.specs.Links.{arc_links}
use Rattle.link_index.specs.Found.{arc_name}
use Rattle.site_lint.proofs.LinkLaws.{AreFound, found_in, found_out, found_all, carrying_found}
use Rattle.site_lint.proofs.links.carrying.Goals as goal
use Rattle.site_lint.proofs.links.carrying.Goals.{then-branch+in_ok-copy+in_ok-push, else-branch}

pub loop-link-preserved : goal.loop-link-preserved
loop-link-preserved g c =
    let version = (g.L.LinkAnswers.query c.args.answers.now).version in
    let labels = c.args.labels.now in
    let arcs = c.arcs-link-items.result.now in
    elim c.if-branch.branch [
      | then-branch+in_ok-copy+in_ok-push w ↦
          found_in version labels arcs c.loop-link.link-index c.link-item.result w.in_ok-copy.field-0 c.loop-link.found.items c.if-branch.found.items (omega arith) c.link-item.is c.loop-link.invariant
          (c.in_ok-carries_some.ensures.0 w.if-branch.true) w.in_ok-copy.ensures (search rules)
      | else-branch w ↦
          subst (λ (l : List Name). AreFound version labels (take (c.loop-link.link-index + 1) arcs) l) (search rules)
          (found_out version labels arcs c.loop-link.link-index c.link-item.result c.loop-link.found.items (omega arith) c.link-item.is c.loop-link.invariant
          (λ h. let on = c.in_ok-carries_some.ensures.1 h in let off = w.if-branch.false in cc))
    ]

pub returns : goal.returns
returns g c = λ f.
    let q = g.L.LinkAnswers.query c.args.answers.now in
    let arcs = c.arcs-link-items.result.now in
    let all = found_all q.version c.args.labels.now arcs c.loop-link.link-index c.loop-link.found.items (omega arith) c.loop-link.invariant in
    let both = carrying_found q c.args.labels.now arcs c.loop-link.found.items (subst (λ (r : Scope). (p : Name × PlacedLink) → Contains (map arc_name arcs) p ↔ Contains (arc_links r) p) c.requires.index c.arcs-link-items.ensures) all f in
    let there : Contains c.of.result f ↔ Contains c.loop-link.found.items f = c.of.ensures f in
    (λ h. both.0 (there.0 h), λ h. there.1 (both.1 h))
