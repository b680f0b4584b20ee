-- How often a path stands in a list that grows.
use Rattle.std.proofs.Common.{◌≡◌, ℕ, ◌+◌, ◌∷◌, ◌++◌, [], List, true, arith, refl}
use Rattle.std.specs.Prelude.{Err}
use Rattle.std.specs.Str.{bytes_eq}
use Rattle.std.proofs.lemmas.Slice.Eq.{bytes_eq-Decides}
use Rattle.std.proofs.lemmas.List.Sums.{sum_by-append}
use mathlib.Core.Bool.{cond}
use Rattle.edge_io.specs.Memory.{times}
use Rattle.edge_io.specs.Files.{HasReadCause}
use Rattle.edge_io.specs.Counts.{NoneFell, Rose}
use Rattle.edge_io.specs.declared.answers.ReadEnd.{ReadEnd}
use Rattle.edge_io.specs.declared.answers.ReadEnd.TheVariants.{Failed, NoMemory}

pub times-append : (paths : List (List ℕ)) (p q : List ℕ) → times (paths ++ p ∷ []) q ≡ times paths q + times (p ∷ []) q
times-append paths p q = sum_by-append (λ r. cond (bytes_eq r q) 1 0) paths (p ∷ [])

bytes_eq-same : (p : List ℕ) → bytes_eq p p ≡ true
bytes_eq-same p = grind (arith, bytes_eq-Decides p p)

times-one : (p : List ℕ) → times (p ∷ []) p ≡ 1
times-one p = grind (arith, bytes_eq-same p)

-- a failed read that was noted is counted
pub counted_later : (paths more : List (List ℕ)) (p : List ℕ) → more ≡ paths ++ p ∷ [] → NoneFell (times paths) (times more)
counted_later paths more p e = λ q. grind (arith, times-append paths p q, e)

pub counted_rose : (paths more : List (List ℕ)) (p : List ℕ) → more ≡ paths ++ p ∷ [] → Rose (times paths p) (times more p)
counted_rose paths more p e = grind (arith, times-append paths p p, times-one p, e)

-- what was not counted stays
pub same_later : (paths more : List (List ℕ)) → more ≡ paths → NoneFell (times paths) (times more)
same_later paths more e = λ q. grind (arith, e)

pub read_cause : {T : Type 0} (before now : List ℕ → ℕ) (path : List ℕ) (end : ReadEnd) → NoneFell before now → (end ≡ Failed → Rose (before path) (now path)) → HasReadCause {T = T} before now path (Err end)
read_cause {T} before now path Failed later failed = record { later = later; failed = λ _. failed refl }
read_cause {T} before now path NoMemory later failed = record { later = later; failed = λ is. cc }
