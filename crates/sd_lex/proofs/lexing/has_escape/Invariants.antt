use Rattle.std.proofs.Common.{◌≡◌, false, take}
use Rattle.std.specs.List.{list_any}
use Rattle.sd_lex.specs.Bytes.{is_backslash}
use Rattle.sd_lex.proofs.lexing.has_escape.Given as goal

abbrev pub invariant-loop-b : goal.invariant-loop-b
invariant-loop-b l = list_any is_backslash (take l.b-index l.bytes) ≡ false
