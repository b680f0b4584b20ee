use Rattle.std.proofs.Common.{◌≡◌, take}
use Rattle.site_lookups.proofs.Firsts.{NoneNamed}
use Rattle.site_lookups.proofs.named_templates.function_template.Given as goal

abbrev pub invariant-loop-named : goal.invariant-loop-named
invariant-loop-named l = NoneNamed (λ name. name ≡ l.function) (take l.named-index l.names)
