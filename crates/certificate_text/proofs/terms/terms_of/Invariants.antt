use Rattle.std.proofs.Common.{◌≡◌, take, map}
use Rattle.query_blocks.specs.Blocks.{body_of}
use Rattle.certificate_text.specs.Lines.{placed_terms}
use Rattle.certificate_text.specs.Written.{placed_of}
use Rattle.certificate_text.proofs.terms.terms_of.Given as goal

abbrev pub invariant-loop-i : goal.invariant-loop-i
invariant-loop-i l = map placed_of l.found.items ≡ placed_terms l.function (take l.i l.paths) (map body_of (take l.i l.blocks))
