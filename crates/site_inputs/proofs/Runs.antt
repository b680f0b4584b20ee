-- One part of a run after another, and the start of a file.
use Rattle.std.proofs.Common.{◌≡◌, ◌⊎◌, ℕ, ◌+◌, ◌≤◌, ◌<◌, List, length, take, inl, inr, refl, arith, ap, ◌∙◌}
use Rattle.std.proofs.lemmas.List.{length-take, take_all}
use Rattle.std.specs.Prelude.{Err, Option, Some, None}
use Rattle.std.specs.Option.{IsSomeAnd}
use Rattle.edge_io.specs.Files.{FileMap, IsStartOf}
use Rattle.edge_io.specs.Counts.{NoneFell}
use Rattle.run_report.specs.declared.status.Place.TheVariants.{At}
use Rattle.site_inputs.specs.Runs.{FileEnds}
use Rattle.site_inputs.specs.declared.fault.Fault.{Fault}
use Rattle.site_inputs.specs.declared.fault.Fault.TheVariants.{Refused, NoMemory}

whole_fits : (whole bytes : List ℕ) (limit n : ℕ) → n ≡ limit + 1 → bytes ≡ take n whole → length bytes ≤ limit → length whole ≤ limit
whole_fits whole bytes limit n is_n start fits = omega (arith, ap length start, length-take n whole)

-- the start of a file that is no longer than the limit is the file
pub start_within : (there : Option (List ℕ)) (limit n : ℕ) (bytes value : List ℕ) → n ≡ limit + 1 → IsStartOf there n bytes → length bytes ≤ limit → value ≡ bytes
    → IsSomeAnd there (λ whole. (length whole ≤ limit) × (value ≡ whole))
start_within None limit n bytes value is_n start fits same = absurd start
start_within (Some whole) limit n bytes value is_n start fits same =
    let short : length whole ≤ limit = whole_fits whole bytes limit n is_n start fits in
    (short, same ∙ start ∙ take_all n whole (omega arith))

-- a start that is longer than the limit is of a longer file
pub start_past : (there : Option (List ℕ)) (limit n : ℕ) (bytes : List ℕ) → IsStartOf there n bytes → limit < length bytes → IsSomeAnd there (λ whole. limit < length whole)
start_past None limit n bytes start past = absurd start
start_past (Some whole) limit n bytes start past = omega (arith, ap length start, length-take n whole)

-- a file that is longer than the limit is refused
pub refused_ends : (limit : ℕ) (map : FileMap) (path : List ℕ) (fault : Fault)
    → (fault ≡ Refused (record { file = path; number = 24; place = At limit })) ⊎ (fault ≡ NoMemory) → IsSomeAnd (map path) (λ whole. limit < length whole) → FileEnds limit map path (Err fault)
refused_ends limit map path fault (inl is) past = rw is (refl, past)
refused_ends limit map path fault (inr is) past = rw is tt

-- counts that didn't fall
pub none_fell : {a b c : List ℕ → ℕ} → NoneFell a b → NoneFell b c → NoneFell a c
none_fell ab bc path = omega (arith, ab path, bc path)
