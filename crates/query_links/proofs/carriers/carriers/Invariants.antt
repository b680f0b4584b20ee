use Rattle.std.proofs.Common.{◌≡◌, take}
use Rattle.std.specs.List.{flat_map}
use Rattle.query_blocks.specs.Blocks.{body_of}
use Rattle.constraint_spec.specs.Placed.{body_links}
use Rattle.constraint_recheck.specs.Recheck.{may_carry}
use Rattle.query_links.specs.Links.{plain_links, carried}
use Rattle.query_links.proofs.carriers.carriers.Given as goal

abbrev pub invariant-loop-block : goal.invariant-loop-block
invariant-loop-block g l =
    plain_links l.found.items
    ≡ flat_map (λ b. carried (may_carry (g.J.Judge.tests l.judge) l.query.version l.function l.label) (body_links (body_of b))) (take l.block-index l.query.blocks.items)
