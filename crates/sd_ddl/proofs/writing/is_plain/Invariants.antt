use Rattle.std.proofs.Common.{◌≡◌, take}
use Rattle.std.specs.List.{flat_map}
use Rattle.sd_ddl.specs.Written.{quoted_byte}
use Rattle.sd_ddl.proofs.writing.is_plain.Given as goal

abbrev pub invariant-loop-byte : goal.invariant-loop-byte
invariant-loop-byte l = flat_map quoted_byte (take l.byte-index l.bytes) ≡ take l.byte-index l.bytes
