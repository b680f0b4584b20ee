use Rattle.site_lookups.proofs.SomeRows.{is_this}
use Rattle.site_lookups.proofs.wanted.is_in.Goals as goal

pub returns-in-Variable : goal.returns-in-Variable
returns-in-Variable c = rw c.in-Variable.is (λ h. is_this _ _ _ c.eq.ensures h)
