use Rattle.site_lint.proofs.lookups.is_empty_collection.Goals as goal

pub returns-then-has_no_member : goal.returns-then-has_no_member
returns-then-has_no_member g c = (
  λ t. (c.has_no_member.ensures.0 c.if-has_no_member.true, c.is_absent.ensures.0 t),
  λ p. c.is_absent.ensures.1 p.1,
)
