-- Which expressions a list has.
use Rattle.std.specs.Prelude.{List, map, All, Contains}
use Rattle.rpe.specs.declared.Rpe.{Rpe}
use Rattle.rpe.specs.Regex.{Regex}
use Rattle.rpe.specs.Reading.{regex_of}
use Rattle.query_spec.specs.Query.{Body}
use Rattle.query_blocks.specs.declared.QueryBlock.{QueryBlock}
use Rattle.query_blocks.specs.Blocks.{body_of}
use Rattle.constraint_recheck.specs.Entails.{IsKnown}

-- an expression that the list had, it has
abbrev pub Keeps : List Rpe → List Rpe → Type 0
Keeps old new = (r : Regex) → Contains (map regex_of old) r → Contains (map regex_of new) r

-- the list has each expression of the block
abbrev pub IsKnownBody : List Rpe → Body → Type 0
IsKnownBody all b = All (IsKnown (Contains (map regex_of all))) b.conditions

-- the list has each expression of the blocks
abbrev pub AreKnownBlocks : List Rpe → List QueryBlock → Type 0
AreKnownBlocks all blocks = All (λ s. IsKnownBody all (body_of s)) blocks
