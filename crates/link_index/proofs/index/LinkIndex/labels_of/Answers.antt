use Rattle.std.proofs.Common.{◌↔◌, ◌+◌, List, rules, take, arith, subst}
use Rattle.std.specs.Prelude.{Contains}
use Rattle.sd_value.specs.Names.{Name}
use Rattle.site_spec.specs.Site.{Scope}
use Rattle.link_index.specs.declared.gathered.QuotedLink.{QuotedLink}
use Rattle.link_index.specs.Links.{quoted_links}
use Rattle.link_index.proofs.Lookups.{IsPicked, picked_in, picked_out, picked_all, labels_found}
use Rattle.link_index.proofs.index.LinkIndex.labels_of.Goals as goal
use Rattle.link_index.proofs.index.LinkIndex.labels_of.Goals.{then-has+in_ok-copy+in_ok-push, else-has}

pub loop-link-preserved : goal.loop-link-preserved
loop-link-preserved c =
    let key : QuotedLink → Name = λ k. k.function.now in
    let given : QuotedLink → Name = λ k. k.label.now in
    elim c.if-has.branch [
      | then-has+in_ok-copy+in_ok-push w ↦
          picked_in key given c.args.functions.now c.deref-link-items.result.now c.loop-link.link-index c.link-item.result w.in_ok-copy.field-0 c.loop-link.found.items c.if-has.found.items (omega arith) c.link-item.is c.loop-link.invariant
          (c.has.ensures.0 w.if-has.true) w.in_ok-copy.ensures (search rules)
      | else-has w ↦
          subst (λ (l : List Name). IsPicked key given c.args.functions.now (take (c.loop-link.link-index + 1) c.deref-link-items.result.now) l) (search rules)
          (picked_out key given c.args.functions.now c.deref-link-items.result.now c.loop-link.link-index c.link-item.result c.loop-link.found.items (omega arith) c.link-item.is c.loop-link.invariant
          (λ h. let yes = c.has.ensures.1 h in let no = w.if-has.false in cc))
    ]

pub returns : goal.returns
returns c = λ y.
    let inside = c.self.inside in
    let all = subst (λ (l : List QuotedLink). IsPicked (λ k. k.function.now) (λ k. k.label.now) c.args.functions.now l c.loop-link.found.items) c.deref-link-items.ensures.value
    (picked_all (λ (k : QuotedLink). k.function.now) (λ k. k.label.now) c.args.functions.now c.deref-link-items.result.now c.loop-link.link-index c.loop-link.found.items (omega arith) c.loop-link.invariant) in
    let both = labels_found _ _ c.self.invariant.0 c.args.functions.now c.loop-link.found.items all y in
    let there : Contains c.of.result y ↔ Contains c.loop-link.found.items y = c.of.ensures y in
    subst (λ (q : Scope). Contains c.of.result y ↔ ((f : Name) × Contains c.args.functions.now f × Contains (quoted_links q) (f, y))) c.self.view_is
    (λ h. both.0 (there.0 h), λ h. there.1 (both.1 h))
