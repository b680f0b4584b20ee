use Rattle.site_lint.proofs.lookups.is_only_collected.Goals as goal

pub returns-then-has_no_member : goal.returns-then-has_no_member
returns-then-has_no_member g c = (
  λ t. (c.has_no_member.ensures.0 c.if-has_no_member.true, c.has.ensures.0 t),
  λ p. c.has.ensures.1 p.1,
)
