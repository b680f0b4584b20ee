use Rattle.std.proofs.Common.{◌≡◌, ℕ, List, [], ◌∷◌, take}
use Rattle.std.specs.BTreeMap as tree
use Rattle.sd_value.specs.Order.{bytes_cmp}
use Rattle.struql_check.specs.Scope.{sort_of}
use Rattle.struql_check.proofs.scope.sorts_of.Given as goal

abbrev pub invariant-loop-mention : goal.invariant-loop-mention
invariant-loop-mention l = (x : List ℕ) → tree.get bytes_cmp l.sorts x ≡ sort_of (take l.mention-index l.mentions ∷ []) x
