-- Each data text has an answer over any graph: it is taken whole, or it has a first fault.
use Rattle.std.proofs.Common.{ℕ, List, length, refl, Result, Ok, Err}
use Rattle.std.specs.Prelude.{⊤}
use Rattle.sd_lex.specs.declared.token.Token.{Token}
use Rattle.sd_lex.specs.declared.refusal.LexRefusal.{LexRefusal}
use Rattle.sd_lex.specs.declared.refusal.LexRefusal.TheVariants as lexer
use Rattle.sd_lex.specs.Lexing.{IsTextOrFault}
use Rattle.grammar.specs.Reading.{repeat}
use Rattle.token_reader.specs.Gives.{place, IsReal}
use Rattle.token_reader.specs.declared.refusal.TextRefusal.TheVariants.{TooLong, BadByte, OpenString, IntOutOfRange, Expected}
use Rattle.sd_graph.specs.Statement.{Building}
use Rattle.sd_graph.specs.Stating.{Ending, done, fault, too_many_nodes, too_many_edges, no_memory, Ends}
use Rattle.ddl_text.specs.declared.tree.Statement.{Statement}
use Rattle.ddl_text.specs.DataText.{file}
use Rattle.ddl_text.specs.Reading.{begins_statement, read_statement, read_file}
use Rattle.ddl_text.proofs.Parts.{file_part}
use Rattle.sd_ddl.specs.declared.refusal.DdlRefusal.{DdlRefusal}
use Rattle.sd_ddl.specs.declared.refusal.DdlRefusal.TheVariants.{Text, KindConflict, TooManyEdges, TooManyNodes}
use Rattle.sd_ddl.specs.Parts.{parts}
use Rattle.sd_ddl.specs.Steps.{steps}
use Rattle.sd_ddl.specs.Reads.{Spells, Reads}
use Rattle.ddl_laws.specs.OneAnswer.{IsSettled}
use Rattle.source_laws.proofs.Lexed.{each_text}
use Rattle.source_laws.proofs.Endings as tokens_end
use Rattle.source_laws.proofs.Endings.{spelled, stuck, past, Closes, finish_closes, then_closes, ending}
use Rattle.source_laws.proofs.Steps.{any_fault, all_fail, IsToldAs, ended}

reads_all : Closes read_file
unfolding read_file
reads_all = then_closes (repeat begins_statement read_statement) _ finish_closes

module _ (limit : ℕ) (bytes : List ℕ) (b : Building) where
  abbrev HasAnswer : Type 0
  HasAnswer = (c : Building) × (r : Result ⊤ DdlRefusal) × IsSettled r × Reads limit bytes b c r

  of_steps : (statements : List Statement) → Spells limit bytes statements → (d : Building) (e : Ending ℕ ℕ) → IsToldAs any_fault e
      → Ends b (steps (parts statements)) d e → HasAnswer
  of_steps statements is d done told h = (d, Ok tt, tt, (statements, is, h))
  of_steps statements is d (fault at) told h = (b, Err (KindConflict at), tt, (statements, is, (refl, (d, h))))
  of_steps statements is d (too_many_nodes at) told h = (d, Err (TooManyNodes at), tt, (statements, is, h))
  of_steps statements is d (too_many_edges at) told h = (d, Err (TooManyEdges at), tt, (statements, is, h))
  of_steps statements is d no_memory told h = absurd told

  of_tokens : (tokens : List Token) → IsTextOrFault limit bytes (Ok tokens) → tokens_end.Ending IsReal file file tokens → HasAnswer
  of_tokens tokens l (spelled statements h) =
      let e = ended any_fault b (steps (parts statements)) (all_fail (steps (parts statements))) in
      of_steps statements (tokens, l, h) e.0 e.1 e.2 e.3
  of_tokens tokens l (stuck rest f) = (b, Err (Text (Expected (place (length bytes) rest))), tt, (refl, (tokens, l, rest, f, refl)))
  of_tokens tokens l (past rest f) = absurd (f.past f.spelled)

  of_text : (r : Result (List Token) LexRefusal) → IsTextOrFault limit bytes r → HasAnswer
  of_text (Ok tokens) l = of_tokens tokens l (ending IsReal file file read_file file_part.reads reads_all tokens)
  of_text (Err (lexer.TooLong at)) h = (b, Err (Text (TooLong at)), tt, (refl, h))
  of_text (Err (lexer.BadByte at)) h = (b, Err (Text (BadByte at)), tt, (refl, h))
  of_text (Err (lexer.OpenString at)) h = (b, Err (Text (OpenString at)), tt, (refl, h))
  of_text (Err (lexer.IntOutOfRange at)) h = (b, Err (Text (IntOutOfRange at)), tt, (refl, h))
  of_text (Err lexer.NoMemory) h = absurd h.1.fault

  pub data_answer : HasAnswer
  data_answer = let r = each_text limit bytes in of_text r.0 r.1
