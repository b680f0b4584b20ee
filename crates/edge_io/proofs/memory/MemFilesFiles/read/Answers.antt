use Rattle.std.proofs.Common.{inl, inr, subst, Contains}
use Rattle.edge_io.proofs.Times.{read_cause}
use Rattle.edge_io.proofs.memory.MemFilesFiles.read.Goals as goal

pub returns-in_default-clause-cause : goal.returns-in_default-clause-cause
returns-in_default-clause-cause c = rw (← c.self.view_is) (read_cause _ _ _ _ c.missed.ensures.later c.missed.ensures.rose)

pub returns-in_default-clause-failed : goal.returns-in_default-clause-failed
returns-in_default-clause-failed c =
    λ _. rw (← c.self.view_is) (elim c.in_default.ensures [
      | inl fails ↦ inl (subst (Contains c.self.inside.failing.items) c.saturating_add-self-inside.ensures (c.is_named-fails.ensures.0 fails))
      | inr none ↦ inr none
    ])
