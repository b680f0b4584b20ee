use Rattle.std.proofs.Common.{◌≡◌, ◌++◌, drop}
use Rattle.template_layouts.specs.Written.{viewed}
use Rattle.template_layouts.proofs.written.viewed.Given as goal

abbrev pub invariant-loop-act : goal.invariant-loop-act
invariant-loop-act l = l.found.items ++ viewed (drop l.act-index l.acts) ≡ viewed l.acts
