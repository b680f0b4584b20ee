-- Each text of an edit has an answer: the edit, or its first fault.
use Rattle.std.proofs.Common.{ℕ, List, length, refl, Result, Ok, Err}
use Rattle.sd_lex.specs.declared.token.Token.{Token}
use Rattle.sd_lex.specs.declared.refusal.LexRefusal.{LexRefusal}
use Rattle.sd_lex.specs.declared.refusal.LexRefusal.TheVariants as lexer
use Rattle.sd_lex.specs.Lexing.{IsTextOrFault}
use Rattle.token_reader.specs.Gives.{place, IsReal}
use Rattle.token_reader.specs.declared.refusal.TextRefusal.{TextRefusal}
use Rattle.token_reader.specs.declared.refusal.TextRefusal.TheVariants.{TooLong, BadByte, OpenString, IntOutOfRange, Expected}
use Rattle.edit_spec.specs.declared.Edit.{Edit}
use Rattle.edit_reader.specs.EditText.{edit}
use Rattle.edit_reader.specs.Reading.{read_phrase, read_whole}
use Rattle.edit_reader.specs.Reads.{Reads, IsSettled}
use Rattle.edit_reader.proofs.Parts.{edit_part}
use Rattle.source_laws.proofs.Lexed.{each_text}
use Rattle.source_laws.proofs.Endings.{Ending, spelled, stuck, past, Closes, finish_closes, then_closes, ending}

reads_all : Closes read_whole
unfolding read_whole
reads_all = then_closes read_phrase _ finish_closes

module _ (limit : ℕ) (bytes : List ℕ) where
  abbrev HasAnswer : Type 0
  HasAnswer = (r : Result Edit TextRefusal) × IsSettled r × Reads limit bytes r

  of_tokens : (tokens : List Token) → IsTextOrFault limit bytes (Ok tokens) → Ending IsReal edit edit tokens → HasAnswer
  of_tokens tokens l (spelled found h) = (Ok found, tt, (tokens, l, h))
  of_tokens tokens l (stuck rest f) = (Err (Expected (place (length bytes) rest)), tt, (tokens, l, rest, f, refl))
  of_tokens tokens l (past rest f) = absurd (f.past f.spelled)

  of_text : (r : Result (List Token) LexRefusal) → IsTextOrFault limit bytes r → HasAnswer
  of_text (Ok tokens) l = of_tokens tokens l (ending IsReal edit edit read_whole edit_part.reads reads_all tokens)
  of_text (Err (lexer.TooLong at)) h = (Err (TooLong at), tt, h)
  of_text (Err (lexer.BadByte at)) h = (Err (BadByte at), tt, h)
  of_text (Err (lexer.OpenString at)) h = (Err (OpenString at), tt, h)
  of_text (Err (lexer.IntOutOfRange at)) h = (Err (IntOutOfRange at), tt, h)
  of_text (Err lexer.NoMemory) h = absurd h.1.fault

  pub edit_answer : HasAnswer
  edit_answer = let r = each_text limit bytes in of_text r.0 r.1
