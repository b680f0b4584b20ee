use Rattle.std.proofs.Common.{take}
use Rattle.sd_ddl.specs.Tables.{HasCollections}
use Rattle.sd_ddl.proofs.kinds.collections_of.Given as goal

abbrev pub invariant-loop-part : goal.invariant-loop-part
invariant-loop-part l = HasCollections (take l.part-index l.parts) l.collections
