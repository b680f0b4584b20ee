-- What a part keeps through lists and steps.
use Rattle.std.proofs.Common.{ℕ, zero, suc, List, [], ◌∷◌, ◌++◌, sym, subst}
use Rattle.std.specs.Prelude.{map}
use Rattle.grammar.specs.Grammar.{steps}
use Rattle.grammar.specs.Fault.{Every as All}
use Rattle.token_reader.proofs.Faults.{every_front, every_back}
use Rattle.struql_round.specs.Spellable.{Every, IsSome}

pub every_snoc : {A : Type 0} (P : A → Type 0) (xs : List A) (x : A) → Every P xs → P x → Every P (xs ++ x ∷ [])
every_snoc P [] x h p = (p, tt)
every_snoc P (y ∷ xs) x h p = (h.0, every_snoc P xs x h.1 p)

pub some_snoc : {A : Type 0} (P : A → Type 0) (xs : List A) (x : A) → IsSome P xs → P x → IsSome P (xs ++ x ∷ [])
some_snoc P [] x h p = absurd h
some_snoc P (y ∷ xs) x h p = (h.0, every_snoc P xs x h.1 p)

pub some_every : {A : Type 0} (P : A → Type 0) (xs : List A) → IsSome P xs → Every P xs
some_every P [] h = absurd h
some_every P (x ∷ xs) h = h

pub every_mapped : {A B : Type 0} (P : B → Type 0) (f : A → B) (xs : List A) → Every (λ x. P (f x)) xs → Every P (map f xs)
every_mapped P f [] h = tt
every_mapped P f (x ∷ xs) h = (h.0, every_mapped P f xs h.1)

-- what holds of the first state, and is kept by each step, holds of the last
pub steps_keep : {T S : Type 0} (Real : T → Type 0) (P : S → List T → S → Type 0) (Inv : S → Type 0)
    → ((s : S) (ts : List T) (s2 : S) → All Real ts → Inv s → P s ts s2 → Inv s2)
    → (n : ℕ) (s : S) (ts : List T) (s2 : S) → All Real ts → Inv s → steps P n s ts s2 → Inv s2
steps_keep Real P Inv keep zero s ts s2 real is h = subst Inv (sym h.1) is
steps_keep Real P Inv keep (suc n) s ts s2 real is (front, back, mid, e, p, q) =
    let all : All Real (front ++ back) = subst (All Real) e real in
    steps_keep Real P Inv keep n mid back s2 (every_back Real front back all) (keep s front mid (every_front Real front back all) is p) q
