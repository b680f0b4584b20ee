use Rattle.std.proofs.Common.{◌≡◌, map, take}
use Rattle.std.specs.List.{flat_map}
use Rattle.query_blocks.specs.Blocks.{body_of}
use Rattle.constraint_spec.specs.Placed.{body_links}
use Rattle.certificate_text.specs.Lines.{variables_of_links}
use Rattle.certificate_text.proofs.variables.variables_by_link.Given as goal

abbrev pub invariant-loop-block : goal.invariant-loop-block
invariant-loop-block l = map (λ v. v.now) l.found.items ≡ variables_of_links (flat_map body_links (map body_of (take l.block-index l.block-items)))
