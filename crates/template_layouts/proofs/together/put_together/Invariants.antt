use Rattle.std.proofs.Common.{◌≡◌, drop}
use Rattle.template_layouts.specs.Together.{reading_of, run, nothing_read}
use Rattle.template_layouts.proofs.together.put_together.Given as goal

abbrev pub invariant-loop-act : goal.invariant-loop-act
invariant-loop-act l = run (reading_of l.reading) (drop l.act-index l.acts) ≡ run nothing_read l.acts
