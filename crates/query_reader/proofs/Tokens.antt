-- A text has no more tokens than bytes.
use Rattle.std.proofs.Common.{◌≡◌, ℕ, ◌+◌, ◌≤◌, ◌<◌, List, [], ◌∷◌, ◌++◌, length, Bool, true, false, ◌&&◌, nat_eq, arith, ap, refl}
use Rattle.std.proofs.lemmas.List.{length-append}
use Rattle.std.specs.Prelude.{Ok}
use Rattle.sd_lex.specs.declared.token.Token.{Token}
use Rattle.sd_lex.specs.Lexing.{Lexes, here, blank, comment, token, IsTokenAt, behind_mark, IsTextOrFault}
use Rattle.sd_lex.proofs.Gaps.{spelled_some}

pub lexed_length : {place : ℕ} {rest : List ℕ} {at : ℕ} {bytes : List ℕ} {tokens : List Token} → Lexes place rest at bytes tokens → length tokens ≤ length bytes
lexed_length (here b t a) = omega (arith, ap length t)
lexed_length (blank c later b is more) = let e = lexed_length more in omega (arith, ap length b, e)
lexed_length (comment line later b in_line stops more) =
    let e = lexed_length more in omega (arith, ap length b, length-append line later, e)
lexed_length (token text later t others b is ts more) =
    let e = lexed_length more in omega (arith, ap length b, length-append text later, spelled_some t.kind text is.spelled, ap length ts, e)

mark_length : (bytes : List ℕ) → length (behind_mark bytes) ≤ length bytes
mark_length [] = omega arith
mark_length (a ∷ []) = omega arith
mark_length (a ∷ b ∷ []) = omega arith
mark_length (a ∷ b ∷ c ∷ bytes) = by (nat_eq a 239 && (nat_eq b 187 && nat_eq c 191)) refl
  where
    by : (t : Bool) → (nat_eq a 239 && (nat_eq b 187 && nat_eq c 191)) ≡ t → length (behind_mark (a ∷ b ∷ c ∷ bytes)) ≤ length (a ∷ b ∷ c ∷ bytes)
    by true is = rw is (omega arith)
    by false is = rw is (omega arith)

pub text_length : (limit : ℕ) (bytes : List ℕ) (tokens : List Token) → IsTextOrFault limit bytes (Ok tokens) → length tokens ≤ limit
text_length limit bytes tokens (short, (place, lexed)) = let a = lexed_length lexed in let b = mark_length bytes in omega (arith, short, a, b)
