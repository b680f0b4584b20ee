use Rattle.std.proofs.Common.{sym, subst, List, ◌∷◌, [], ◌++◌}
use Rattle.std.specs.Result.{OnOk}
use Rattle.sd_ddl.specs.declared.part.Part.{Part}
use Rattle.sd_ddl.specs.Tables.{HasCollections}
use Rattle.sd_ddl.proofs.Maps.{collections-member}
use Rattle.sd_ddl.proofs.collections.Collections.add_part.Goals as goal

pub returns-in-Member : goal.returns-in-Member
returns-in-Member c =
    subst (λ p. OnOk c.add.result ((front : List Part) → HasCollections front c.args.self.now → HasCollections (front ++ p ∷ []) c.add.new.self)) (sym c.in-Member.is)
    (collections-member c.in-Member.collection c.in-Member.object c.args.self.now c.add.new.self c.add.result c.add.ensures.here c.add.ensures.others)
