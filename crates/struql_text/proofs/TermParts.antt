-- Terms, links and collections, with their readers.
use Rattle.std.proofs.Common.{◌≡◌, ℕ, Bool, true, false, List, [], ◌∷◌, ◌++◌, refl, sym, subst, inl}
use Rattle.sd_lex.specs.declared.token.Span.{Span}
use Rattle.sd_lex.specs.declared.token.Token.{Token}
use Rattle.sd_lex.specs.declared.token.Sign.TheVariants as signs
use Rattle.struql_ast.specs.declared.Operand.{Operand}
use Rattle.struql_ast.specs.declared.Operand.TheVariants.{Variable, Constant}
use Rattle.struql_ast.specs.declared.Aggregate.TheVariants.{Sum}
use Rattle.struql_ast.specs.Written as tree
use Rattle.grammar.specs.Grammar.{nothing, either}
use Rattle.grammar.proofs.Parts.{Opens, opens_then, opens_either, first_is, Part, ◌>>=◌, give_part, then_part, then_opens, weaken_part, either_part, part_within}
use Rattle.grammar.specs.Reading.{Outcome, starts, choose}
use Rattle.grammar.proofs.Laws.{Always, Stops, choose_reads}
use Rattle.struql_text.specs.declared.keyword.Keyword.TheVariants as words
use Rattle.struql_text.specs.declared.keyword.Word.{Word}
use Rattle.struql_text.specs.Terminals.{from_to, is_keyword, is_sum}
use Rattle.token_reader.specs.Terminals.{is_sign}
use Rattle.struql_text.specs.Expression.{sign, keyword}
use Rattle.struql_text.specs.Grammar.{listed, operand, term_of, no_arguments, some_arguments, arguments, term, made, variable_of, named_target, source, operand_target, target, target_span, link, collect}
use Rattle.struql_text.specs.Grammar.{called, sum_of_none, sum_of_one, sum_over, sum_of_more, sum_term_end, sum_end, sum_of_some, sum_target, called_target, by_sum, applied, named_end}
use Rattle.struql_text.specs.Reading.{read_nullary, read_applied, read_arguments, read_term, read_made, read_named_target, read_source, read_operand_target, read_target, read_link, read_collect}
use Rattle.struql_text.specs.Reading.{read_sum_of_none, read_sum_of_one, read_sum_over, read_sum_of_more, read_sum_term_end, read_sum_end, read_sum_of_some, read_sum_target, read_called_target, read_by_sum, read_applied_target, read_named_end}
use Rattle.struql_text.proofs.TokenParts.{sign_part, sign_opens, sign_no_keyword, keyword_opens, of_part, name_part, collection_part, operand_part, label_part, operand_opens_no_sign}
use Rattle.token_reader.proofs.Terminals.{other_sign}
use Rattle.struql_text.proofs.ListParts.{listed_part}
use Rattle.token_reader.specs.Gives.{IsReal}

-- a phrase, or nothing where none begins
module _ {T A : Type 0} {Real : T → Type 0} {P U : List T → A → Type 0} {F : List T → Type 0} {p : List T → Outcome T A} (first : T → Bool) (v : A) (part : Part Real P U F p) (opens : Opens U (λ t. first t ≡ true)) (stops : (rest : List T) → F rest → Stops first rest) where
  pub maybe_part : Part Real (either P (nothing v)) (either U (nothing v)) F (choose first p (λ ts. Outcome.Read v ts))
  maybe_part = record {
    reads = λ tokens. choose_reads Real first P U (nothing v) (nothing v) F p (λ ts. Outcome.Read v ts) tokens (part_within part) (λ x w h. h) (λ _. part.reads tokens) (λ _. (weaken_part F (λ _ _. tt) (give_part v)).reads tokens)
        (first_is U first true opens) (λ x w rest h f. subst (λ y. starts first (y ++ rest) ≡ false) (sym h.0) (stops rest f));
    phrase = (part.phrase.0, part.phrase.1, inl part.phrase.2, part.phrase.3);
  }

-- the last part's follow, kept by what gives a value
pub ends_with : {T A : Type 0} (F : List T → Type 0) (v : A) (y : List T) (w : A) (rest : List T) → nothing v y w → F rest → F (y ++ rest)
ends_with F v y w rest h f = subst (λ x. F (x ++ rest)) (sym h.0) f

no_arguments_part : (f : Word) → Part IsReal (no_arguments f) (no_arguments f) Always (read_nullary f)
unfolding read_nullary
no_arguments_part f = do
  close ← sign_part signs.CloseParen refl
  give_part (term_of f [] close)

-- behind a name that is no function no parenthesis opens
abbrev pub AfterTarget : List Token → Type 0
AfterTarget = Stops (is_sign signs.OpenParen)

sum_of_none_part : (f : Word) → Part IsReal (sum_of_none f) (sum_of_none f) Always (read_sum_of_none f)
unfolding read_sum_of_none
sum_of_none_part f = do
  t ← no_arguments_part f
  give_part (tree.made t)

sum_of_one_part : (f : Word) (first : Operand) → Part IsReal (sum_of_one f first) (sum_of_one f first) Always (read_sum_of_one f first)
unfolding read_sum_of_one
sum_of_one_part f first = do
  close ← sign_part signs.CloseParen refl
  give_part (tree.made (term_of f (first ∷ []) close))

-- by the version
module _ (version : ℕ) where
  some_arguments_part : (f : Word) → Part IsReal (some_arguments version f) (some_arguments version f) Always (read_applied version f)
  unfolding read_applied
  some_arguments_part f =
      then_opens (λ t. is_sign signs.CloseParen t ≡ true) (listed_part (operand_part version) (λ _ _ _. tt))
      (λ args. do
        close ← sign_part signs.CloseParen refl
        give_part (term_of f args close))
      (λ args. opens_then (sign signs.CloseParen) _ _ (sign_opens signs.CloseParen _ (λ t is. is)))
      (λ t later is. (tt, other_sign signs.CloseParen signs.Comma t.kind refl is))

  arguments_part : (f : Word) → Part IsReal (arguments version f) (arguments version f) Always (read_arguments version f)
  unfolding read_arguments
  arguments_part f = do
    _ ← sign_part signs.OpenParen refl
    either_part (is_sign signs.CloseParen) (no_arguments_part f) (some_arguments_part f)
        (opens_then (sign signs.CloseParen) _ _ (sign_opens signs.CloseParen _ (λ t is. is)))
        (opens_then (listed (operand version)) _ _ (opens_then (operand version) _ _ (operand_opens_no_sign version signs.CloseParen)))

  pub term_part : Part IsReal (term version) (term version) Always (read_term version)
  unfolding read_term
  term_part = do
    f ← name_part version
    arguments_part f

  made_part : (f : Word) → Part IsReal (made version f) (made version f) Always (read_made version f)
  unfolding read_made
  made_part f = do
    t ← arguments_part f
    give_part (tree.made t)

  named_target_part : (x : Word) → Part IsReal (named_target version x) (named_target version x) AfterTarget (read_named_target version x)
  unfolding read_named_target
  named_target_part x =
      maybe_part (is_sign signs.OpenParen) (tree.plain (variable_of x)) (weaken_part AfterTarget (λ _ _. tt) (made_part x))
      (opens_then (arguments version x) _ _ (opens_then (sign signs.OpenParen) _ _ (sign_opens signs.OpenParen _ (λ t is. is))))
      (λ rest f. f)

  source_part : Part IsReal (source version) (source version) AfterTarget (read_source version)
  unfolding read_source
  source_part = do
    x ← name_part version
    named_target_part x

  sum_over_part : (f : Word) (v : List ℕ) (v_span : Span) → Part IsReal (sum_over version f v v_span) (sum_over version f v v_span) Always (read_sum_over version f v v_span)
  unfolding read_sum_over
  sum_over_part f v v_span = do
    _ ← of_part
    x ← name_part version
    close ← sign_part signs.CloseParen refl
    give_part (tree.summed (Sum v v_span x.text x.span) (from_to f.span close))

  sum_of_more_part : (f : Word) (first : Operand) → Part IsReal (sum_of_more version f first) (sum_of_more version f first) Always (read_sum_of_more version f first)
  unfolding read_sum_of_more
  sum_of_more_part f first = do
    _ ← sign_part signs.Comma refl
    then_opens (λ t. is_sign signs.CloseParen t ≡ true) (listed_part (operand_part version) (λ _ _ _. tt))
        (λ args. do
          close ← sign_part signs.CloseParen refl
          give_part (tree.made (term_of f (first ∷ args) close)))
        (λ args. opens_then (sign signs.CloseParen) _ _ (sign_opens signs.CloseParen _ (λ t is. is)))
        (λ t later is. (tt, other_sign signs.CloseParen signs.Comma t.kind refl is))

  sum_term_end_part : (f : Word) (first : Operand) → Part IsReal (sum_term_end version f first) (sum_term_end version f first) Always (read_sum_term_end version f first)
  unfolding read_sum_term_end
  sum_term_end_part f first =
      either_part (is_sign signs.CloseParen) (sum_of_one_part f first) (sum_of_more_part f first)
      (opens_then (sign signs.CloseParen) _ _ (sign_opens signs.CloseParen _ (λ t is. is)))
      (opens_then (sign signs.Comma) _ _ (sign_opens signs.Comma _ (λ t. other_sign signs.Comma signs.CloseParen t.kind refl)))

  -- a sum as a term goes on with a comma or ends
  sum_term_opens : (f : Word) (first : Operand) → Opens (sum_term_end version f first) (λ t. is_keyword words.Of t ≡ false)
  sum_term_opens f first =
      opens_either (sum_of_one f first) (sum_of_more version f first) _
      (opens_then (sign signs.CloseParen) _ _ (sign_opens signs.CloseParen _ (λ t. sign_no_keyword signs.CloseParen words.Of t.kind)))
      (opens_then (sign signs.Comma) _ _ (sign_opens signs.Comma _ (λ t. sign_no_keyword signs.Comma words.Of t.kind)))

  sum_end_part : (f : Word) (first : Operand) → Part IsReal (sum_end version f first) (sum_end version f first) Always (read_sum_end version f first)
  unfolding read_sum_end
  sum_end_part f (Variable v span) =
      either_part (is_keyword words.Of) (sum_over_part f v span) (sum_term_end_part f (Variable v span))
      (opens_then (keyword words.Of) _ _ (keyword_opens words.Of _ (λ t is. is)))
      (sum_term_opens f (Variable v span))
  sum_end_part f (Constant v span) = sum_term_end_part f (Constant v span)

  sum_of_some_part : (f : Word) → Part IsReal (sum_of_some version f) (sum_of_some version f) Always (read_sum_of_some version f)
  unfolding read_sum_of_some
  sum_of_some_part f = do
    first ← operand_part version
    sum_end_part f first

  sum_target_part : (f : Word) → Part IsReal (sum_target version f) (sum_target version f) Always (read_sum_target version f)
  unfolding read_sum_target
  sum_target_part f = do
    _ ← sign_part signs.OpenParen refl
    either_part (is_sign signs.CloseParen) (sum_of_none_part f) (sum_of_some_part f)
        (opens_then (no_arguments f) _ _ (opens_then (sign signs.CloseParen) _ _ (sign_opens signs.CloseParen _ (λ t is. is))))
        (opens_then (operand version) _ _ (operand_opens_no_sign version signs.CloseParen))

  called_target_part : (f : Word) → Part IsReal (called_target version f) (called_target version f) Always (read_called_target version f)
  unfolding read_called_target
  called_target_part f = do
    t ← arguments_part f
    give_part (called version t)

  by_sum_part : (b : Bool) (f : Word) → Part IsReal (by_sum version b f) (by_sum version b f) Always (read_by_sum version b f)
  unfolding read_by_sum
  by_sum_part true f = sum_target_part f
  by_sum_part false f = called_target_part f

  applied_part : (f : Word) → Part IsReal (applied version f) (applied version f) Always (read_applied_target version f)
  unfolding read_applied_target
  applied_part f = by_sum_part (is_sum version f.text) f

  -- a parenthesis opens what is applied
  by_sum_opens : (b : Bool) (f : Word) → Opens (by_sum version b f) (λ t. is_sign signs.OpenParen t ≡ true)
  by_sum_opens true f = opens_then (sign signs.OpenParen) _ _ (sign_opens signs.OpenParen _ (λ t is. is))
  by_sum_opens false f = opens_then (arguments version f) _ _ (opens_then (sign signs.OpenParen) _ _ (sign_opens signs.OpenParen _ (λ t is. is)))

  named_end_part : (x : Word) → Part IsReal (named_end version x) (named_end version x) AfterTarget (read_named_end version x)
  unfolding read_named_end
  named_end_part x =
      maybe_part (is_sign signs.OpenParen) (tree.plain (variable_of x)) (weaken_part AfterTarget (λ _ _. tt) (applied_part x))
      (by_sum_opens (is_sum version x.text) x)
      (λ rest f. f)

  operand_target_part : (o : Operand) → Part IsReal (operand_target version o) (operand_target version o) AfterTarget (read_operand_target version o)
  unfolding read_operand_target
  operand_target_part (Variable x span) = named_end_part (record { text = x; span = span })
  operand_target_part (Constant v span) = weaken_part AfterTarget (λ _ _. tt) (give_part (tree.plain (Constant v span)))

  target_part : Part IsReal (target version) (target version) AfterTarget (read_target version)
  unfolding read_target
  target_part = do
    o ← operand_part version
    operand_target_part o

  pub link_part : Part IsReal (link version) (link version) AfterTarget (read_link version)
  unfolding read_link
  link_part =
      then_opens (λ t. is_sign signs.Arrow t ≡ true) source_part
      (λ s. do
        _ ← sign_part signs.Arrow refl
        l ← label_part version
        _ ← sign_part signs.Arrow refl
        then_part target_part
            (λ t. weaken_part _ (λ _ _. tt) (give_part (record { source = s; label = l; target = t; span = from_to (target_span s) (target_span t) })))
            (λ t y w rest h f. ends_with AfterTarget _ y w rest h f))
      (λ s. opens_then (sign signs.Arrow) _ _ (sign_opens signs.Arrow _ (λ t is. is)))
      (λ t later is. other_sign signs.Arrow signs.OpenParen t.kind refl is)

  pub collect_part : Part IsReal (collect version) (collect version) Always (read_collect version)
  unfolding read_collect
  collect_part = do
    c ← collection_part version
    _ ← sign_part signs.OpenParen refl
    then_opens (λ t. is_sign signs.CloseParen t ≡ true) source_part
        (λ t. do
          close ← sign_part signs.CloseParen refl
          give_part (record { collection = c.text; target = t; span = from_to c.span close }))
        (λ t. opens_then (sign signs.CloseParen) _ _ (sign_opens signs.CloseParen _ (λ t is. is)))
        (λ t later is. other_sign signs.CloseParen signs.OpenParen t.kind refl is)
