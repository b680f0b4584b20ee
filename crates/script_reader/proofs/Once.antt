-- A script has one answer.
use Rattle.std.proofs.Common.{◌≡◌, ℕ, List, length, refl, sym, ap, subst, ◌∙◌, Result, Ok, Err}
use Rattle.sd_lex.specs.declared.token.Token.{Token}
use Rattle.sd_lex.specs.declared.refusal.LexRefusal.{LexRefusal}
use Rattle.sd_lex.specs.declared.refusal.LexRefusal.TheVariants as lexer
use Rattle.sd_lex.specs.Lexing.{IsTextOrFault}
use Rattle.grammar.specs.Fault.{FirstFault}
use Rattle.grammar.proofs.Exact.{one_value}
use Rattle.token_reader.specs.Gives.{place, IsReal}
use Rattle.token_reader.proofs.Tokens.{one_token_list}
use Rattle.token_reader.proofs.TextFaults.{text_fault, text_spelled_no_fault}
use Rattle.happenings.specs.declared.event.WireEvent.{WireEvent}
use Rattle.token_reader.specs.declared.refusal.TextRefusal.{TextRefusal}
use Rattle.token_reader.specs.declared.refusal.TextRefusal.TheVariants.{TooLong, BadByte, OpenString, IntOutOfRange, Expected, NoMemory}
use Rattle.script_reader.specs.ScriptText.{script, events}
use Rattle.script_reader.specs.Reading.{read_phrases}
use Rattle.token_reader.specs.Refused.{of_lexer}
use Rattle.script_reader.specs.Script.{Reads, IsSettled, HasOneAnswer}
use Rattle.script_reader.proofs.Parts.{script_part}

-- the three ways to an answer: by the lexer, by the grammar, or by the phrases
data Way (limit : ℕ) (bytes : List ℕ) (r : Result (List WireEvent) TextRefusal) : Type 0 where
  lexed : (e : LexRefusal) → IsTextOrFault limit bytes (Err e) → r ≡ Err (of_lexer e) → Way limit bytes r
  stuck : (tokens rest : List Token) → IsTextOrFault limit bytes (Ok tokens) → FirstFault IsReal script script tokens rest → r ≡ Err (Expected (place (length bytes) rest)) → Way limit bytes r
  spelled : (tokens : List Token) (phrases : List WireEvent) → IsTextOrFault limit bytes (Ok tokens) → script tokens phrases → r ≡ Ok (events phrases) → Way limit bytes r

way : (limit : ℕ) (bytes : List ℕ) (r : Result (List WireEvent) TextRefusal) → Reads limit bytes r → IsSettled r → Way limit bytes r
way limit bytes (Ok found) (tokens, l, phrases, f, is) settled = spelled tokens phrases l f (ap Ok is)
way limit bytes (Err (TooLong at)) h settled = lexed (lexer.TooLong at) h refl
way limit bytes (Err (BadByte at)) h settled = lexed (lexer.BadByte at) h refl
way limit bytes (Err (OpenString at)) h settled = lexed (lexer.OpenString at) h refl
way limit bytes (Err (IntOutOfRange at)) h settled = lexed (lexer.IntOutOfRange at) h refl
way limit bytes (Err (Expected at)) (tokens, l, rest, f, is) settled = stuck tokens rest l f (ap (λ x. Err (Expected x)) is)
way limit bytes (Err NoMemory) h settled = absurd settled

no_lexed : (limit : ℕ) (bytes : List ℕ) (tokens : List Token) (e : LexRefusal) → IsTextOrFault limit bytes (Ok tokens) → IsTextOrFault limit bytes (Err e) → ⊥
no_lexed limit bytes tokens e l h = let both : Ok tokens ≡ Err e = one_token_list limit bytes (Ok tokens) (Err e) l h in cc

same_tokens : (limit : ℕ) (bytes : List ℕ) (tokens tokens2 : List Token) → IsTextOrFault limit bytes (Ok tokens) → IsTextOrFault limit bytes (Ok tokens2) → tokens ≡ tokens2
same_tokens limit bytes tokens tokens2 l m = let both : Ok tokens ≡ Ok tokens2 = one_token_list limit bytes (Ok tokens) (Ok tokens2) l m in cc

spelled_no_stuck : (limit : ℕ) (bytes : List ℕ) (tokens tokens2 rest : List Token) (phrases : List WireEvent) → IsTextOrFault limit bytes (Ok tokens) → IsTextOrFault limit bytes (Ok tokens2)
    → FirstFault IsReal script script tokens rest → script tokens2 phrases → ⊥
spelled_no_stuck limit bytes tokens tokens2 rest phrases l m f g =
    let e : tokens2 ≡ tokens = same_tokens limit bytes tokens2 tokens m l in
    text_spelled_no_fault script script (λ x v h. h) limit bytes tokens l phrases rest (subst (λ x. script x phrases) e g) f

one_way : (limit : ℕ) (bytes : List ℕ) (r s : Result (List WireEvent) TextRefusal) → Way limit bytes r → Way limit bytes s → r ≡ s
one_way limit bytes r s (lexed e h is) (lexed f k is2) =
    let both : Err e ≡ Err f = one_token_list limit bytes (Err e) (Err f) h k in
    let one : e ≡ f = cc in
    is ∙ ap (λ x. Err (of_lexer x)) one ∙ sym is2
one_way limit bytes r s (lexed e h is) (stuck tokens rest l f is2) = absurd (no_lexed limit bytes tokens e l h)
one_way limit bytes r s (lexed e h is) (spelled tokens phrases l f is2) = absurd (no_lexed limit bytes tokens e l h)
one_way limit bytes r s (stuck tokens rest l f is) (lexed e h is2) = absurd (no_lexed limit bytes tokens e l h)
one_way limit bytes r s (stuck tokens rest l f is) (stuck tokens2 rest2 m g is2) =
    let e : tokens2 ≡ tokens = same_tokens limit bytes tokens2 tokens m l in
    let one : rest ≡ rest2 = text_fault script script (λ x v h. h) limit bytes tokens l rest rest2 f (subst (λ x. FirstFault IsReal script script x rest2) e g) in
    is ∙ ap (λ x. Err (Expected (place (length bytes) x))) one ∙ sym is2
one_way limit bytes r s (stuck tokens rest l f is) (spelled tokens2 phrases m g is2) = absurd (spelled_no_stuck limit bytes tokens tokens2 rest phrases l m f g)
one_way limit bytes r s (spelled tokens phrases l f is) (lexed e h is2) = absurd (no_lexed limit bytes tokens e l h)
one_way limit bytes r s (spelled tokens phrases l f is) (stuck tokens2 rest m g is2) = absurd (spelled_no_stuck limit bytes tokens2 tokens rest phrases m l g f)
one_way limit bytes r s (spelled tokens phrases l f is) (spelled tokens2 phrases2 m g is2) =
    let e : tokens2 ≡ tokens = same_tokens limit bytes tokens2 tokens m l in
    let one : phrases2 ≡ phrases = one_value IsReal script script read_phrases script_part.reads tokens phrases2 phrases (subst (λ x. script x phrases2) e g) f in
    is ∙ sym (ap (λ x. Ok (events x)) one) ∙ sym is2

pub one_answer : (limit : ℕ) (bytes : List ℕ) → HasOneAnswer limit bytes
one_answer limit bytes r s h k settled settled2 = one_way limit bytes r s (way limit bytes r h settled) (way limit bytes s k settled2)
