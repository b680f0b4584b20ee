use Rattle.std.proofs.Common.{◌≡◌, take}
use Rattle.sd_value.specs.declared.Value.{Value}
use Rattle.sd_value.specs.declared.Value.TheVariants.{Page}
use Rattle.site_spec.specs.Site.{SomeOf}
use Rattle.constraint_report.specs.Links.{Adds}
use Rattle.constraint_report.proofs.reach.add_pages.Given as goal

abbrev pub invariant-loop-value : goal.invariant-loop-value
invariant-loop-value l = Adds (λ t. SomeOf (λ (v : Value). v ≡ Page t) (take l.value-index l.values)) l.initial.found.keys l.found.keys
