use Rattle.std.proofs.Common.{◌∙◌, ap, sym, inl, inr}
use Rattle.std.specs.Ordering.{is_eq}
use Rattle.sd_value.specs.OrderLaws.{bytes_cmp-exact}
use Rattle.list_lookup.proofs.Placed.{names_tied}
use Rattle.live_store.proofs.ListLaws.{tie}
use Rattle.live_store.proofs.live.LiveStore.is_named.Goals as goal

pub returns-else-has_node : goal.returns-else-has_node
returns-else-has_node c = (
  λ t. inr (bytes_cmp-exact c.args.name.now c.args.edge.now.from
      (sym c.cmp.ensures ∙ tie c.cmp.result (sym c.is_eq.ensures ∙ t))),
  λ h. elim h [
    | inl m ↦ (let t = c.has_node.ensures.is.1 m in let f = c.if-has_node.false in cc)
    | inr e ↦ c.is_eq.ensures ∙ ap is_eq (c.cmp.ensures ∙ names_tied c.args.name.now c.args.edge.now.from e)
  ],
)
