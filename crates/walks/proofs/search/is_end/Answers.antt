use Rattle.std.proofs.Common.{◌≡◌, true, inl, inr, sym, ◌∙◌, ap, subst}
use Rattle.std.specs.Ordering.{is_eq}
use Rattle.std.proofs.lemmas.Cmp.{tied_itself}
use Rattle.sd_value.specs.declared.Value.{Value}
use Rattle.sd_value.specs.Order.{value_cmp}
use Rattle.sd_value.specs.OrderLaws.{same_value, value_cmp-total}
use Rattle.walks.proofs.search.is_end.Goals as goal

pub returns-then-has_empty : goal.returns-then-has_empty
returns-then-has_empty c =
    let u = c.args.start.now in
    let same : c.is_eq.result ≡ is_eq (value_cmp u c.args.value.now) = c.is_eq.ensures ∙ ap is_eq c.cmp.ensures in (
      λ h. inr (sym c.has_empty.ensures ∙ c.if-has_empty.true, same_value _ _ (sym same ∙ h)),
      λ e. elim e [
        | inl k ↦ (let off = c.if-closes.ensures.1 k in cc)
        | inr k ↦ same ∙ subst (λ (x : Value). is_eq (value_cmp u x) ≡ true) k.1 (ap is_eq (tied_itself value_cmp-total u))
      ],
    )
