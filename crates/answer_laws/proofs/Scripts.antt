-- Each script has an answer: its events, or its first fault.
use Rattle.std.proofs.Common.{ℕ, List, length, refl, Result, Ok, Err}
use Rattle.sd_lex.specs.declared.token.Token.{Token}
use Rattle.sd_lex.specs.declared.refusal.LexRefusal.{LexRefusal}
use Rattle.sd_lex.specs.declared.refusal.LexRefusal.TheVariants as lexer
use Rattle.sd_lex.specs.Lexing.{IsTextOrFault}
use Rattle.grammar.specs.Reading.{repeat}
use Rattle.token_reader.specs.Gives.{place, IsReal}
use Rattle.token_reader.specs.declared.refusal.TextRefusal.{TextRefusal}
use Rattle.token_reader.specs.declared.refusal.TextRefusal.TheVariants.{TooLong, BadByte, OpenString, IntOutOfRange, Expected}
use Rattle.happenings.specs.declared.event.WireEvent.{WireEvent}
use Rattle.script_reader.specs.ScriptText.{script, events}
use Rattle.script_reader.specs.Reading.{begins_phrase, read_phrase, read_phrases}
use Rattle.script_reader.specs.Script.{Reads, IsSettled}
use Rattle.script_reader.proofs.Parts.{script_part}
use Rattle.source_laws.proofs.Lexed.{each_text}
use Rattle.source_laws.proofs.Endings.{Ending, spelled, stuck, past, Closes, finish_closes, then_closes, ending}

reads_all : Closes read_phrases
unfolding read_phrases
reads_all = then_closes (repeat begins_phrase read_phrase) _ finish_closes

module _ (limit : ℕ) (bytes : List ℕ) where
  abbrev HasAnswer : Type 0
  HasAnswer = (r : Result (List WireEvent) TextRefusal) × IsSettled r × Reads limit bytes r

  of_tokens : (tokens : List Token) → IsTextOrFault limit bytes (Ok tokens) → Ending IsReal script script tokens → HasAnswer
  of_tokens tokens l (spelled found h) = (Ok (events found), tt, (tokens, l, found, h, refl))
  of_tokens tokens l (stuck rest f) = (Err (Expected (place (length bytes) rest)), tt, (tokens, l, rest, f, refl))
  of_tokens tokens l (past rest f) = absurd (f.past f.spelled)

  of_text : (r : Result (List Token) LexRefusal) → IsTextOrFault limit bytes r → HasAnswer
  of_text (Ok tokens) l = of_tokens tokens l (ending IsReal script script read_phrases script_part.reads reads_all tokens)
  of_text (Err (lexer.TooLong at)) h = (Err (TooLong at), tt, h)
  of_text (Err (lexer.BadByte at)) h = (Err (BadByte at), tt, h)
  of_text (Err (lexer.OpenString at)) h = (Err (OpenString at), tt, h)
  of_text (Err (lexer.IntOutOfRange at)) h = (Err (IntOutOfRange at), tt, h)
  of_text (Err lexer.NoMemory) h = absurd h.1.fault

  pub script_answer : HasAnswer
  script_answer = let r = each_text limit bytes in of_text r.0 r.1
