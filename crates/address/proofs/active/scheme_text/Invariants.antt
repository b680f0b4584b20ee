use Rattle.std.proofs.Common.{◌≡◌, take}
use Rattle.std.specs.List.{flat_map}
use Rattle.page_spec.specs.Show.{byte_in_scheme}
use Rattle.address.proofs.active.scheme_text.Given as goal

abbrev pub invariant-loop-byte : goal.invariant-loop-byte
invariant-loop-byte l = l.read.items ≡ flat_map byte_in_scheme (take l.byte-index l.address)
