use Rattle.std.proofs.Common.{◌≡◌}
use Rattle.sd_ddl.specs.declared.kinds.StatedKinds.TheVariants.{Nothing}
use Rattle.sd_ddl.specs.Tables.{tell, told_within}
use Rattle.sd_ddl.proofs.kinds.Kinds.told_by_givers.Given as goal

abbrev pub invariant-loop-giver : goal.invariant-loop-giver
invariant-loop-giver l = tell (told_within l.self.givings l.names.keys l.attribute) l.told l.giver-iterator ≡ tell (told_within l.self.givings l.names.keys l.attribute) Nothing l.givers.keys
