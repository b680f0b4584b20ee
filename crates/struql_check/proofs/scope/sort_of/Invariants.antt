use Rattle.std.proofs.Common.{◌≡◌, drop}
use Rattle.struql_check.specs.Scope.{sort_of}
use Rattle.struql_check.proofs.scope.sort_of.Given as goal

abbrev pub invariant-loop-level : goal.invariant-loop-level
invariant-loop-level l = sort_of (drop l.level-index l.levels) l.name ≡ sort_of l.levels l.name
