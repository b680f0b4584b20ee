use Rattle.std.proofs.Common.{◌≡◌, ◌++◌, ◌∷◌, [], map, take}
use Rattle.std.specs.List.{flat_map}
use Rattle.certificate_text.proofs.variables.push_for_each.Given as goal

abbrev pub invariant-loop-link : goal.invariant-loop-link
invariant-loop-link l = map (λ v. v.now) l.found.items ≡ map (λ v. v.now) l.initial.found.items ++ flat_map (λ k. l.variables ∷ []) (take l._link-index l.links)
