use Rattle.std.proofs.Common.{◌≡◌, take, map, false}
use Rattle.sd_value.specs.declared.Term.{Term}
use Rattle.site_pages.proofs.none_stays.Given as goal

abbrev pub invariant-loop : goal.invariant-loop
invariant-loop l = l.flags.items ≡ map (λ (term : Term). false) (take l.index l.terms)
