-- Each text of constraints has an answer over any query: the constraints, or the first fault of the text or of its names.
use Rattle.std.proofs.Common.{◌≡◌, ℕ, List, length, map, refl, ap, subst, Option, Some, None, Result, Ok, Err}
use Rattle.std.specs.Prelude.{Contains}
use Rattle.std.specs.List.{flat_map}
use Rattle.sd_value.specs.Members.{Contains-map, Contains-mapped, Contains-flat_map, Contains-flat_mapped}
use Rattle.sd_lex.specs.declared.token.Token.{Token}
use Rattle.sd_lex.specs.declared.refusal.LexRefusal.{LexRefusal}
use Rattle.sd_lex.specs.declared.refusal.LexRefusal.TheVariants as lexer
use Rattle.sd_lex.specs.Lexing.{IsTextOrFault}
use Rattle.grammar.specs.Reading.{repeat}
use Rattle.token_reader.specs.Gives.{place, IsReal}
use Rattle.token_reader.specs.declared.refusal.TextRefusal.TheVariants.{TooLong, BadByte, OpenString, IntOutOfRange, Expected}
use Rattle.query_spec.specs.Query.{SkolemTerm, Query, blocks_in_scope}
use Rattle.site_spec.specs.Schema.{IsFunction}
use Rattle.schema.specs.declared.SchemaFunction.{SchemaFunction}
use Rattle.schema.specs.Rows.{term_function, body_functions}
use Rattle.constraint_spec.specs.declared.Constraint.{Constraint}
use Rattle.constraints.specs.declared.reading.Phrase.{Phrase}
use Rattle.constraints.specs.declared.refusal.NameFault.{NameFault}
use Rattle.constraints.specs.declared.refusal.NameFault.TheVariants.{Unknown, HasArguments}
use Rattle.constraints.specs.declared.refusal.ConstraintRefusal.{ConstraintRefusal}
use Rattle.constraints.specs.declared.refusal.ConstraintRefusal.TheVariants.{Text, UnknownFunction, RootHasArguments}
use Rattle.constraints.specs.ConstraintText.{phrases, constraint_of}
use Rattle.constraints.specs.Reading.{begins_phrase, read_phrase, read_phrases}
use Rattle.constraints.specs.Names.{names_in, FirstFaulty}
use Rattle.constraints.specs.Known.{first_from}
use Rattle.constraints.specs.Constraints.{IsSpelled, Reads, IsSettled}
use Rattle.constraints.proofs.Names.{first_is}
use Rattle.constraints.proofs.Parts.{phrases_part}
use Rattle.source_laws.proofs.Lexed.{each_text}
use Rattle.source_laws.proofs.Endings.{Ending, spelled, stuck, past, Closes, finish_closes, then_closes, ending}

reads_all : Closes read_phrases
unfolding read_phrases
reads_all = then_closes (repeat begins_phrase read_phrase) _ finish_closes

module _ (q : Query) where
  -- the functions that stand in a CREATE
  abbrev functions : List SchemaFunction
  functions = flat_map body_functions (blocks_in_scope q)

  are_functions : (f : SchemaFunction) → Contains functions f → IsFunction q f.name f.arity
  are_functions f at =
      let b = Contains-flat_map body_functions (blocks_in_scope q) f at in
      let t = Contains-map term_function b.0.creates f b.2 in
      record {
        item = b.0;
        within = b.1;
        holds = record {
          item = t.0;
          within = t.2;
          holds = record { function = ap (λ (x : SchemaFunction). x.name) t.1; arguments = ap (λ (x : SchemaFunction). x.arity) t.1 };
        };
      }

  all_functions : (name : List ℕ) (arity : ℕ) → IsFunction q name arity → Contains functions (record { name = name; arity = arity })
  all_functions name arity h =
      let t : SkolemTerm = h.holds.item in
      let f : SchemaFunction = record { name = name; arity = arity } in
      let is : term_function t ≡ f = λ i. record { name = h.holds.holds.function i; arity = h.holds.holds.arguments i } in
      Contains-flat_mapped body_functions (blocks_in_scope q) h.item f h.within
      (subst (Contains (body_functions h.item)) is (Contains-mapped term_function h.item.creates t h.holds.within))

  first_faulty : (written : List Phrase) → (first : Option NameFault) × FirstFaulty q written first
  first_faulty written = (
    first_from functions (flat_map names_in written),
    first_is functions (IsFunction q) are_functions all_functions (flat_map names_in written),
  )

  module _ (limit : ℕ) (bytes : List ℕ) where
    abbrev HasAnswer : Type 0
    HasAnswer = (r : Result (List Constraint) ConstraintRefusal) × IsSettled r × Reads q limit bytes r

    of_names : (written : List Phrase) → IsSpelled limit bytes written → (first : Option NameFault) → FirstFaulty q written first → HasAnswer
    of_names written is None h = (Ok (map constraint_of written), tt, (written, is, h, refl))
    of_names written is (Some (Unknown at)) h = (Err (UnknownFunction at), tt, (written, is, h))
    of_names written is (Some (HasArguments at)) h = (Err (RootHasArguments at), tt, (written, is, h))

    of_tokens : (tokens : List Token) → IsTextOrFault limit bytes (Ok tokens) → Ending IsReal phrases phrases tokens → HasAnswer
    of_tokens tokens l (spelled written h) = let first = first_faulty written in of_names written (tokens, l, h) first.0 first.1
    of_tokens tokens l (stuck rest f) = (Err (Text (Expected (place (length bytes) rest))), tt, (tokens, l, rest, f, refl))
    of_tokens tokens l (past rest f) = absurd (f.past f.spelled)

    of_text : (r : Result (List Token) LexRefusal) → IsTextOrFault limit bytes r → HasAnswer
    of_text (Ok tokens) l = of_tokens tokens l (ending IsReal phrases phrases read_phrases phrases_part.reads reads_all tokens)
    of_text (Err (lexer.TooLong at)) h = (Err (Text (TooLong at)), tt, h)
    of_text (Err (lexer.BadByte at)) h = (Err (Text (BadByte at)), tt, h)
    of_text (Err (lexer.OpenString at)) h = (Err (Text (OpenString at)), tt, h)
    of_text (Err (lexer.IntOutOfRange at)) h = (Err (Text (IntOutOfRange at)), tt, h)
    of_text (Err lexer.NoMemory) h = absurd h.1.fault

    pub constraints_answer : HasAnswer
    constraints_answer = let r = each_text limit bytes in of_text r.0 r.1
