use Rattle.std.proofs.Common.{◌≡◌, flat_map, string_bytes, encode_utf8_all}
use Rattle.function_spec.specs.Folding.{unmarked}
use Rattle.text_functions.proofs.folding.unmarked.Given as goal

abbrev pub invariant-loop-character : goal.invariant-loop-character
invariant-loop-character l = string_bytes l.plain ≡ encode_utf8_all (flat_map unmarked l.yielded)
