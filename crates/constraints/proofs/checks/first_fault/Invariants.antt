use Rattle.std.proofs.Common.{◌≡◌, take, None}
use Rattle.std.specs.List.{flat_map}
use Rattle.constraints.specs.Names.{names_in}
use Rattle.constraints.specs.Known.{first_from}
use Rattle.constraints.proofs.checks.first_fault.Given as goal

abbrev pub invariant-loop-phrase : goal.invariant-loop-phrase
invariant-loop-phrase l = first_from l.functions (flat_map names_in (take l.phrase-index l.phrases)) ≡ None
