use Rattle.std.proofs.Common.{◌≡◌}
use Rattle.sd_ddl.specs.declared.kinds.StatedKinds.TheVariants.{Nothing}
use Rattle.sd_ddl.specs.Tables.{tell, told_in}
use Rattle.sd_ddl.proofs.kinds.Kinds.told_by_names.Given as goal

abbrev pub invariant-loop-name : goal.invariant-loop-name
invariant-loop-name l = tell (λ c. told_in l.self.givings c l.attribute) l.told l.name-iterator ≡ tell (λ c. told_in l.self.givings c l.attribute) Nothing l.names.keys
