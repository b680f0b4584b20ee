-- A text of constraints has one answer.
use Rattle.std.proofs.Common.{◌≡◌, ℕ, List, length, map, refl, sym, ap, subst, ◌∙◌, Option, None, Some, Result, Ok, Err}
use Rattle.std.specs.List.{flat_map}
use Rattle.sd_lex.specs.declared.token.Token.{Token}
use Rattle.sd_lex.specs.declared.refusal.LexRefusal.{LexRefusal}
use Rattle.sd_lex.specs.declared.refusal.LexRefusal.TheVariants as lexer
use Rattle.sd_lex.specs.Lexing.{IsTextOrFault}
use Rattle.grammar.specs.Fault.{FirstFault}
use Rattle.grammar.proofs.Exact.{one_value}
use Rattle.token_reader.specs.Gives.{place, IsReal}
use Rattle.token_reader.specs.declared.refusal.TextRefusal.TheVariants.{TooLong, BadByte, OpenString, IntOutOfRange, Expected, NoMemory}
use Rattle.token_reader.proofs.Tokens.{one_token_list}
use Rattle.token_reader.proofs.TextFaults.{text_fault, text_spelled_no_fault}
use Rattle.query_spec.specs.Query.{Query}
use Rattle.site_spec.specs.Schema.{IsFunction}
use Rattle.constraint_spec.specs.declared.Constraint.{Constraint}
use Rattle.constraints.specs.declared.reading.Phrase.{Phrase}
use Rattle.constraints.specs.declared.refusal.NameFault.{NameFault}
use Rattle.constraints.specs.declared.refusal.NameFault.TheVariants.{Unknown, HasArguments}
use Rattle.constraints.specs.declared.refusal.ConstraintRefusal.{ConstraintRefusal}
use Rattle.constraints.specs.declared.refusal.ConstraintRefusal.TheVariants.{Text, UnknownFunction, RootHasArguments}
use Rattle.constraints.specs.ConstraintText.{phrases, constraint_of}
use Rattle.constraints.specs.Reading.{read_phrases}
use Rattle.constraints.specs.Names.{names_in, FirstFaulty}
use Rattle.constraints.specs.Refused.{of_lexer, of_fault}
use Rattle.constraints.specs.Constraints.{IsSpelled, IsFaultAt, Reads, IsSettled, HasOneAnswer}
use Rattle.constraints.proofs.Parts.{phrases_part}
use Rattle.constraints.proofs.Names.{one_first}

abbrev Answer : Type 0
Answer = Result (List Constraint) ConstraintRefusal

-- the answer of phrases whose names have this first fault
abbrev answer_of : List Phrase → Option NameFault → Answer
answer_of written None = Ok (map constraint_of written)
answer_of written (Some fault) = Err (of_fault fault)

module _ (q : Query) (limit : ℕ) (bytes : List ℕ) where
  -- the three ways to an answer: by the lexer, by the grammar, or by the phrases and their names
  data Way (r : Answer) : Type 0 where
    lexed : (e : LexRefusal) → IsTextOrFault limit bytes (Err e) → r ≡ Err (of_lexer e) → Way r
    stuck : (at : ℕ) → IsFaultAt limit bytes at → r ≡ Err (Text (Expected at)) → Way r
    spelled : (written : List Phrase) (first : Option NameFault) → IsSpelled limit bytes written → FirstFaulty q written first → r ≡ answer_of written first → Way r

  way : (r : Answer) → Reads q limit bytes r → IsSettled r → Way r
  way (Ok found) (written, is, none, e) settled = spelled written None is none (ap Ok e)
  way (Err (Text (TooLong at))) h settled = lexed (lexer.TooLong at) h refl
  way (Err (Text (BadByte at))) h settled = lexed (lexer.BadByte at) h refl
  way (Err (Text (OpenString at))) h settled = lexed (lexer.OpenString at) h refl
  way (Err (Text (IntOutOfRange at))) h settled = lexed (lexer.IntOutOfRange at) h refl
  way (Err (Text (Expected at))) h settled = stuck at h refl
  way (Err (UnknownFunction at)) (written, is, first) settled = spelled written (Some (Unknown at)) is first refl
  way (Err (RootHasArguments at)) (written, is, first) settled = spelled written (Some (HasArguments at)) is first refl
  way (Err (Text NoMemory)) h settled = absurd settled

  no_lexed : (tokens : List Token) (e : LexRefusal) → IsTextOrFault limit bytes (Ok tokens) → IsTextOrFault limit bytes (Err e) → ⊥
  no_lexed tokens e l h = let both : Ok tokens ≡ Err e = one_token_list limit bytes (Ok tokens) (Err e) l h in cc

  same_tokens : (tokens tokens2 : List Token) → IsTextOrFault limit bytes (Ok tokens) → IsTextOrFault limit bytes (Ok tokens2) → tokens ≡ tokens2
  same_tokens tokens tokens2 l m = let both : Ok tokens ≡ Ok tokens2 = one_token_list limit bytes (Ok tokens) (Ok tokens2) l m in cc

  same_place : (at other : ℕ) → IsFaultAt limit bytes at → IsFaultAt limit bytes other → at ≡ other
  same_place at other (tokens, l, rest, f, is) (tokens2, m, rest2, g, is2) =
      let e : tokens2 ≡ tokens = same_tokens tokens2 tokens m l in
      let one : rest ≡ rest2 = text_fault phrases phrases (λ x v h. h) limit bytes tokens l rest rest2 f (subst (λ x. FirstFault IsReal phrases phrases x rest2) e g) in
      is ∙ ap (place (length bytes)) one ∙ sym is2

  no_fault : (at : ℕ) (written : List Phrase) → IsFaultAt limit bytes at → IsSpelled limit bytes written → ⊥
  no_fault at written (tokens, l, rest, f, is) (tokens2, m, g) =
      let e : tokens2 ≡ tokens = same_tokens tokens2 tokens m l in
      text_spelled_no_fault phrases phrases (λ x v h. h) limit bytes tokens l written rest (subst (λ x. phrases x written) e g) f

  same_phrases : (written other : List Phrase) → IsSpelled limit bytes written → IsSpelled limit bytes other → other ≡ written
  same_phrases written other (tokens, l, f) (tokens2, m, g) =
      let e : tokens2 ≡ tokens = same_tokens tokens2 tokens m l in
      one_value IsReal phrases phrases read_phrases phrases_part.reads tokens other written (subst (λ x. phrases x other) e g) f

  one_way : (r s : Answer) → Way r → Way s → r ≡ s
  one_way r s (lexed e h is) (lexed f k is2) =
      let both : Err e ≡ Err f = one_token_list limit bytes (Err e) (Err f) h k in
      let one : e ≡ f = cc in
      is ∙ ap (λ x. Err (of_lexer x)) one ∙ sym is2
  one_way r s (lexed e h is) (stuck at f is2) = absurd (no_lexed f.0 e f.1 h)
  one_way r s (lexed e h is) (spelled written first f g is2) = absurd (no_lexed f.0 e f.1 h)
  one_way r s (stuck at f is) (lexed e h is2) = absurd (no_lexed f.0 e f.1 h)
  one_way r s (stuck at f is) (stuck other g is2) = is ∙ ap (λ x. Err (Text (Expected x))) (same_place at other f g) ∙ sym is2
  one_way r s (stuck at f is) (spelled written first g h is2) = absurd (no_fault at written f g)
  one_way r s (spelled written first f g is) (lexed e h is2) = absurd (no_lexed f.0 e f.1 h)
  one_way r s (spelled written first f g is) (stuck at h is2) = absurd (no_fault at written h f)
  one_way r s (spelled written first f g is) (spelled other first2 h k is2) =
      let e : other ≡ written = same_phrases written other f h in
      let one : first ≡ first2 = one_first (IsFunction q) (flat_map names_in written) first first2 g (subst (λ x. FirstFaulty q x first2) e k) in
      is ∙ ap (answer_of written) one ∙ ap (λ x. answer_of x first2) (sym e) ∙ sym is2

pub one_answer : (q : Query) (limit : ℕ) (bytes : List ℕ) → HasOneAnswer q limit bytes
one_answer q limit bytes r s h k settled settled2 = one_way q limit bytes r s (way q limit bytes r h settled) (way q limit bytes s k settled2)
