use Rattle.std.proofs.Common.{◌≡◌, take}
use Rattle.std.specs.Prelude.{map}
use Rattle.lint_spec.specs.QueryClaims.{numbered_claims}
use Rattle.text_claims.specs.Blocks.{placed}
use Rattle.text_claims.proofs.blocks.claims_of_blocks.Given as goal

abbrev pub invariant-loop-i : goal.invariant-loop-i
invariant-loop-i l = l.found.items ≡ numbered_claims 0 (map placed (take l.i l.blocks))
