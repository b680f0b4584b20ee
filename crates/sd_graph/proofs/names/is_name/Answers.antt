use Rattle.std.proofs.Common.{◌≡◌, true, Some, sym, ap, subst, ◌∙◌}
use Rattle.std.specs.Ordering.{is_eq}
use Rattle.sd_value.specs.Order.{bytes_cmp}
use Rattle.sd_value.specs.OrderLaws.{same_bytes, bytes_same}
use Rattle.graph_spec.specs.DataGraph.{Name}
use Rattle.sd_graph.proofs.names.is_name.Goals as goal

pub returns-in-Some : goal.returns-in-Some
returns-in-Some c =
    let told = c.is_eq.ensures ∙ ap is_eq c.cmp.ensures in (
      λ h. c.in-Some.is ∙ ap Some (same_bytes c.in-Some.latest c.args.name.now (sym told ∙ h)),
      λ h.
          let same : c.in-Some.latest ≡ c.args.name.now = let e = sym c.in-Some.is ∙ h in cc in
          told ∙ subst (λ (n : Name). is_eq (bytes_cmp n c.args.name.now) ≡ true) (sym same) (bytes_same c.args.name.now),
    )
