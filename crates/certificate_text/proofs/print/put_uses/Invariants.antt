use Rattle.std.proofs.Common.{◌≡◌, ◌++◌, map, take}
use Rattle.std.specs.List.{flat_map}
use Rattle.certificate_text.specs.Lines.{use_text}
use Rattle.certificate_text.proofs.print.put_uses.Given as goal

abbrev pub invariant-loop-given : goal.invariant-loop-given
invariant-loop-given l = l.out.items ≡ l.initial.out.items ++ flat_map (use_text (map (λ v. v.now) l.variables)) (take l.given-index l.uses)
