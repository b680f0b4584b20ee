-- The tokens of a text leave a grammar, or pass its limits, at one place, and only where they spell nothing within the
-- limits.
use Rattle.std.proofs.Common.{◌≡◌, ℕ, List, ◌++◌, subst, Ok}
use Rattle.sd_lex.specs.declared.token.Token.{Token}
use Rattle.sd_lex.specs.Lexing.{IsTextOrFault}
use Rattle.grammar.specs.Fault.{Every, FirstFault, FirstPast}
use Rattle.token_reader.specs.Gives.{IsReal}
use Rattle.token_reader.proofs.Real.{text_real}
use Rattle.token_reader.proofs.Faults.{every_front, one_fault, one_past, fault_or_past, spelled_no_fault, spelled_no_past}

module _ {A : Type 0} (P U : List Token → A → Type 0) (within : (x : List Token) (v : A) → P x v → U x v) (limit : ℕ) (bytes : List ℕ) (tokens : List Token) (lexed : IsTextOrFault limit bytes (Ok tokens)) where
  fronts_real : (front rest more : List Token) (v : A) → tokens ≡ front ++ rest → P (front ++ more) v → Every IsReal front
  fronts_real front rest more v e h = every_front IsReal front rest (subst (Every IsReal) e (text_real limit bytes tokens lexed))

  pub text_fault : (rest rest2 : List Token) → FirstFault IsReal P U tokens rest → FirstFault IsReal P U tokens rest2 → rest ≡ rest2
  text_fault = one_fault IsReal P U within tokens fronts_real

  pub text_past : (rest rest2 : List Token) → FirstPast IsReal P U tokens rest → FirstPast IsReal P U tokens rest2 → rest ≡ rest2
  text_past = one_past IsReal P U within tokens fronts_real

  pub text_fault_or_past : (rest rest2 : List Token) → FirstFault IsReal P U tokens rest → FirstPast IsReal P U tokens rest2 → ⊥
  text_fault_or_past = fault_or_past IsReal P U within tokens fronts_real

  pub text_spelled_no_fault : (v : A) (rest : List Token) → P tokens v → FirstFault IsReal P U tokens rest → ⊥
  text_spelled_no_fault = spelled_no_fault IsReal P U within tokens fronts_real

  pub text_spelled_no_past : (v : A) (rest : List Token) → P tokens v → FirstPast IsReal P U tokens rest → ⊥
  text_spelled_no_past = spelled_no_past IsReal P U within tokens fronts_real
