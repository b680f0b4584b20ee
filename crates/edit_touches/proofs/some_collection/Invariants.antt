use Rattle.std.proofs.Common.{◌≡◌, drop}
use Rattle.std.specs.List.{list_any}
use Rattle.edit_touches.specs.Tests.{is_of_collection}
use Rattle.edit_touches.proofs.some_collection.Given as goal

abbrev pub invariant-loop-name : goal.invariant-loop-name
invariant-loop-name l = list_any (is_of_collection l.edit) (drop l.name-index l.names) ≡ list_any
    (is_of_collection l.edit) l.names
