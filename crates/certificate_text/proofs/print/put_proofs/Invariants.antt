use Rattle.std.proofs.Common.{◌≡◌, ◌++◌, map, drop}
use Rattle.certificate_text.specs.Lines.{proof_lines}
use Rattle.certificate_text.specs.Written.{placed_of}
use Rattle.certificate_text.proofs.print.put_proofs.Given as goal

-- what is left to append
abbrev pub invariant-loop-i : goal.invariant-loop-i
invariant-loop-i l =
    l.out.items ++ proof_lines (map (λ v. v.now) l.variables) (map placed_of (drop l.i l.mentions)) (drop l.i l.proofs)
    ≡ l.initial.out.items ++ proof_lines (map (λ v. v.now) l.variables) (map placed_of l.mentions) l.proofs
