use Rattle.std.proofs.Common.{◌≡◌, drop, map}
use Rattle.query_blocks.specs.Blocks.{body_of}
use Rattle.query_blocks.specs.Roots.{root_of_bodies}
use Rattle.query_blocks.proofs.root.root_in.Given as goal

-- no block so far has a root
abbrev pub invariant-loop-block : goal.invariant-loop-block
invariant-loop-block l = root_of_bodies (map body_of (drop l.block-index l.blocks)) ≡ root_of_bodies (map body_of l.blocks)
