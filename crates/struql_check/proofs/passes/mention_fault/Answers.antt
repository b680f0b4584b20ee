use Rattle.struql_check.proofs.Exactly.{role_first}
use Rattle.struql_check.proofs.passes.mention_fault.Goals as goal

pub returns : goal.returns
returns c = rw (c.fault_at.ensures, c.broken_role-check.ensures, c.sort_of-is_arc.ensures) (role_first _ _ _)
