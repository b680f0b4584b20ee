use Rattle.std.proofs.Common.{◌≡◌, ◌++◌, List, ℕ, map, Bor}
use Rattle.sd_value.specs.declared.Term.{Term}
use Rattle.page_cache.proofs.push_keys.Given as goal

abbrev pub invariant-loop-term : goal.invariant-loop-term
invariant-loop-term l = l.all.items ≡ l.fn.all.items ++ map (λ (p : Bor Term × Bor (List ℕ)). p.0.now) l.yielded
