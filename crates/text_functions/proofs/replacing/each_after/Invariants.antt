use Rattle.std.proofs.Common.{◌≡◌, ◌++◌, flat_map, map, take, string_bytes}
use Rattle.text_functions.proofs.replacing.each_after.Given as goal

abbrev pub invariant-loop-part : goal.invariant-loop-part
invariant-loop-part l = string_bytes l.text ≡ flat_map (λ t. l.by ++ t) (map (λ p. p.now) (take l.part-index l.parts))
