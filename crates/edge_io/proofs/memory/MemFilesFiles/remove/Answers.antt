use Rattle.std.proofs.Common.{refl, subst, Contains}
use Rattle.edge_io.proofs.memory.MemFilesFiles.remove.Goals as goal

pub returns-then-is_named-clause-failed : goal.returns-then-is_named-clause-failed
returns-then-is_named-clause-failed c =
    rw (← c.self.view_is) (subst (Contains c.self.inside.failing.items) c.saturating_add-self-inside.ensures (c.is_named.ensures.0 c.if-is_named.true), refl)
