use Rattle.std.proofs.Common.{◌≡◌, ◌++◌, take}
use Rattle.std.specs.Prelude.{map}
use Rattle.tmpl.specs.Reading.{named_of}
use Rattle.site_lint.proofs.gathered.push_named.Given as goal

abbrev pub invariant-loop-template : goal.invariant-loop-template
invariant-loop-template l = l.found.items ≡ l.initial.found.items ++ map (λ n. n.name) (map named_of (take l.template-index l.templates))
