-- What is left of a text between two turns of a loop over its lines.
use Rattle.std.specs.Prelude.{◌≡◌, ◌+◌, ◌<◌, ◌≤◌, ℕ, List, ◌++◌, length, Option, Some, None, IfSome, Result}
use Rattle.std.specs.Borrow.{Bor}
use Rattle.std.proofs.Common.{arith}
use Rattle.text_source.specs.Scans.{now_of}
use Rattle.text_source.specs.declared.facts.Fact.{Fact}
use Rattle.text_source.specs.Front.{before}

abbrev pub left_length : Option (List ℕ) → ℕ
left_length None = 0
left_length (Some rest) = length rest + 1

abbrev pub left_bytes : Option (List ℕ) → ℕ
left_bytes None = 0
left_bytes (Some rest) = length rest

-- the facts so far, with what is left to say, are all that is said
pub record After (old now : List Fact) (all rest : Result (List Fact) ℕ) : Type 0 where
  pub more : List Fact
  pub now_is : now ≡ old ++ more
  pub all_is : all ≡ before more rest

-- what is left of a text isn't longer
pub left_within : (left : Option (Bor (List ℕ))) (n size : ℕ) → IfSome left (λ rest. length rest.now < n) → n ≤ size → left_bytes (now_of left) ≤ size
left_within None n size h k = omega arith
left_within (Some rest) n size h k = omega (arith, h, k)
