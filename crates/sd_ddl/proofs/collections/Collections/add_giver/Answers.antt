use Rattle.std.proofs.Common.{sym, subst, List, ◌∷◌, [], ◌++◌}
use Rattle.std.specs.Result.{OnOk}
use Rattle.sd_ddl.specs.declared.part.Part.{Part}
use Rattle.sd_ddl.specs.Tables.{HasGivers}
use Rattle.sd_ddl.proofs.Maps.{givers-given}
use Rattle.sd_ddl.proofs.collections.Collections.add_giver.Goals as goal

pub returns-in-Gives : goal.returns-in-Gives
returns-in-Gives c =
    subst (λ p. OnOk c.add.result ((front : List Part) → HasGivers front c.args.self.now → HasGivers (front ++ p ∷ []) c.add.new.self)) (sym c.in-Gives.is)
    (givers-given c.in-Gives.giving c.args.self.now c.add.new.self c.add.result c.add.ensures.here c.add.ensures.others)
