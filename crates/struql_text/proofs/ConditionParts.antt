-- Conditions, with their readers.
use Rattle.std.proofs.Common.{◌≡◌, ℕ, true, false, List, refl}
use Rattle.std.specs.Prelude.{Option, Some, None}
use Rattle.sd_value.specs.declared.Datum.TheVariants as datum
use Rattle.sd_value.specs.declared.Value.TheVariants.{Data, Page}
use Rattle.query_spec.specs.declared.Op.TheVariants.{Texts}
use Rattle.query_spec.specs.declared.Test.{Test}
use Rattle.value_texts.specs.declared.TextTest.{TextTest}
use Rattle.sd_lex.specs.declared.token.Token.{Token}
use Rattle.sd_lex.specs.declared.token.Sign.TheVariants as signs
use Rattle.struql_ast.specs.declared.Operand.{Operand}
use Rattle.struql_ast.specs.declared.Operand.TheVariants.{Variable, Constant}
use Rattle.struql_ast.specs.Written as tree
use Rattle.grammar.specs.Grammar.{one, either}
use Rattle.grammar.proofs.Parts.{Opens, opens_then, opens_either, Part, ◌>>=◌, give_part, then_part, then_opens, weaken_part, either_part}
use Rattle.grammar.proofs.Laws.{Always}
use Rattle.struql_text.specs.declared.keyword.Keyword.TheVariants as words
use Rattle.struql_text.specs.declared.keyword.Word.{Word}
use Rattle.struql_text.specs.Terminals.{from_to, is_name, is_keyword, operand_span, op_value, test_of, pair_test}
use Rattle.token_reader.specs.Terminals.{is_sign}
use Rattle.struql_text.specs.Expression.{sign, keyword, Counted, expression_within, expression_spelled}
use Rattle.struql_text.specs.Grammar.{name, operand, call_with, call, second, call_end, pair_end, pair_or_call, name_call, between, comparison, membership, arc_step, expression_step, step, path, relation, behind, plain, negated, condition}
use Rattle.struql_text.specs.Reading.{read_call, read_second, read_call_end, read_pair_end, read_pair_or_call, read_name_call, read_comparison, read_membership, read_arc_step, read_path_step, read_step, read_path, read_relation, read_behind, read_plain, read_negated, read_condition}
use Rattle.struql_text.proofs.TokenParts.{sign_part, sign_opens, keyword_opens, keyword_no_sign, in_part, not_part, name_part, name_opens, operand_part, constant_part, op_part, operand_opens_no_keyword, op_opens_no_keyword, op_opens_no_sign}
use Rattle.token_reader.proofs.Terminals.{other_sign}
use Rattle.struql_text.proofs.ExpressionParts.{AfterAlt, limited_part, expression_opens_no_name}
use Rattle.struql_text.proofs.ListParts.{listed_part}
use Rattle.struql_text.proofs.TermParts.{ends_with}
use Rattle.token_reader.specs.Gives.{IsReal}
use Rattle.struql_text.specs.SpelledConditions.{IsReadAsSpelled}

-- within the limits, and at all
abbrev pub E : List Token → Counted → Type 0
E = expression_within

abbrev pub S : List Token → Counted → Type 0
S = expression_spelled

call_end_part : (c x : Word) → Part IsReal (call_end c x) (call_end c x) Always (read_call_end c x)
unfolding read_call_end
call_end_part c x = do
  close ← sign_part signs.CloseParen refl
  give_part (call_with None c x close)

membership_part : (t : Operand) → Part IsReal (membership t) (membership t) Always (read_membership t)
unfolding read_membership
membership_part t = do
  _ ← in_part
  _ ← sign_part signs.OpenBrace refl
  then_opens (λ t. is_sign signs.CloseBrace t ≡ true) (listed_part constant_part (λ _ _ _. tt))
      (λ vs. do
        close ← sign_part signs.CloseBrace refl
        give_part (tree.one_of t vs (from_to (operand_span t) close)))
      (λ vs. opens_then (sign signs.CloseBrace) _ _ (sign_opens signs.CloseBrace _ (λ t is. is)))
      (λ t later is. (tt, other_sign signs.CloseBrace signs.Comma t.kind refl is))

expression_step_part : Part IsReal (expression_step E) (expression_step S) AfterAlt read_path_step
unfolding read_path_step
expression_step_part =
    then_part limited_part
    (λ e. weaken_part AfterAlt (λ _ _. tt) (give_part (tree.expression e.tree e.span)))
    (λ e y w rest h f. ends_with AfterAlt _ y w rest h f)

membership_opens : (t : Operand) (W : Token → Type 0) → ((k : Token) → is_keyword words.In k ≡ true → W k) → Opens (membership t) W
membership_opens t W known = opens_then (keyword words.In) _ W (keyword_opens words.In W known)

-- by the version
module _ (version : ℕ) where
  call_part : (test : Option Test) (c : Word) → Part IsReal (call version test c) (call version test c) Always (read_call version test c)
  unfolding read_call
  call_part test c = do
    _ ← sign_part signs.OpenParen refl
    x ← name_part version
    close ← sign_part signs.CloseParen refl
    give_part (call_with test c x close)

  second_part : (test : TextTest) (c : Word) (t : Operand) → Part IsReal (second version test c t) (second version test c t) Always (read_second version test c t)
  unfolding read_second
  second_part test c t = do
    _ ← sign_part signs.Comma refl
    u ← operand_part version
    close ← sign_part signs.CloseParen refl
    give_part (tree.compare t (Texts test) u (from_to c.span close))

  pair_end_part : (test : TextTest) (c : Word) (t : Operand) → Part IsReal (pair_end version test c t) (pair_end version test c t) Always (read_pair_end version test c t)
  unfolding read_pair_end
  pair_end_part test c (Variable x span) =
      either_part (is_sign signs.Comma) (second_part test c (Variable x span)) (call_end_part c (record { text = x; span = span }))
      (opens_then (sign signs.Comma) _ _ (sign_opens signs.Comma _ (λ k is. is)))
      (opens_then (sign signs.CloseParen) _ _ (sign_opens signs.CloseParen _ (λ k. other_sign signs.CloseParen signs.Comma k.kind refl)))
  pair_end_part test c (Constant v span) = second_part test c (Constant v span)

  pair_or_call_part : (test : TextTest) (c : Word) → Part IsReal (pair_or_call version test c) (pair_or_call version test c) Always (read_pair_or_call version test c)
  unfolding read_pair_or_call
  pair_or_call_part test c = do
    _ ← sign_part signs.OpenParen refl
    t ← operand_part version
    pair_end_part test c t

  name_call_part : (test : Option TextTest) (c : Word) → Part IsReal (name_call version test c) (name_call version test c) Always (read_name_call version test c)
  unfolding read_name_call
  name_call_part None c = call_part (test_of c.text) c
  name_call_part (Some test) c = pair_or_call_part test c

  -- a parenthesis opens what a name makes
  name_call_opens : (test : Option TextTest) (c : Word) → Opens (name_call version test c) (λ k. is_sign signs.OpenParen k ≡ true)
  name_call_opens None c = opens_then (sign signs.OpenParen) _ _ (sign_opens signs.OpenParen _ (λ k is. is))
  name_call_opens (Some test) c = opens_then (sign signs.OpenParen) _ _ (sign_opens signs.OpenParen _ (λ k is. is))

  comparison_part : (t : Operand) → Part IsReal (comparison version t) (comparison version t) Always (read_comparison version t)
  unfolding read_comparison
  comparison_part t = do
    o ← op_part
    u ← operand_part version
    give_part (tree.compare t o u (between t u))

  arc_step_part : Part IsReal (arc_step version) (arc_step version) Always (read_arc_step version)
  unfolding read_arc_step
  arc_step_part = do
    x ← name_part version
    give_part (tree.arc_variable x.text x.span)

  spelled_opens_no_name : Opens S (λ t. is_name version t ≡ false)
  spelled_opens_no_name x v h = expression_opens_no_name version h.0 0 x v h.1

  step_part : Part IsReal (step version E) (step version S) AfterAlt (read_step version)
  unfolding read_step
  step_part =
      either_part (is_name version) (weaken_part AfterAlt (λ _ _. tt) arc_step_part) expression_step_part
      (opens_then (name version) _ _ (name_opens version))
      (opens_then S _ _ spelled_opens_no_name)

  path_part : (t : Operand) → Part IsReal (path version E t) (path version S t) Always (read_path version t)
  unfolding read_path
  path_part t = do
    _ ← sign_part signs.Arrow refl
    then_opens (λ t. is_sign signs.Arrow t ≡ true) step_part
        (λ s. do
          _ ← sign_part signs.Arrow refl
          u ← operand_part version
          give_part (tree.path t s u (between t u)))
        (λ s. opens_then (sign signs.Arrow) _ _ (sign_opens signs.Arrow _ (λ t is. is)))
        (λ t later is. ((other_sign signs.Arrow signs.Star t.kind refl is, other_sign signs.Arrow signs.Dot t.kind refl is), other_sign signs.Arrow signs.Bar t.kind refl is))

  relation_part : (t : Operand) → Part IsReal (relation version E t) (relation version S t) Always (read_relation version t)
  unfolding read_relation
  relation_part t =
      either_part (is_sign signs.Arrow) (path_part t)
      (either_part (is_keyword words.In) (membership_part t) (comparison_part t)
      (membership_opens t _ (λ k is. is))
      (opens_then (one op_value) _ _ (op_opens_no_keyword words.In)))
      (opens_then (sign signs.Arrow) _ _ (sign_opens signs.Arrow _ (λ k is. is)))
      (opens_either (membership t) (comparison version t) _
      (membership_opens t _ (λ k. keyword_no_sign words.In signs.Arrow k.kind))
      (opens_then (one op_value) _ _ (op_opens_no_sign signs.Arrow refl)))

  -- behind an operand no parenthesis opens, if it isn't a name's
  relation_opens : (t : Operand) → Opens (relation version S t) (λ k. is_sign signs.OpenParen k ≡ false)
  relation_opens t =
      opens_either (path version S t) (either (membership t) (comparison version t)) _
      (opens_then (sign signs.Arrow) _ _ (sign_opens signs.Arrow _ (λ k. other_sign signs.Arrow signs.OpenParen k.kind refl)))
      (opens_either (membership t) (comparison version t) _
      (membership_opens t _ (λ k. keyword_no_sign words.In signs.OpenParen k.kind))
      (opens_then (one op_value) _ _ (op_opens_no_sign signs.OpenParen refl)))

  behind_part : (t : Operand) → Part IsReal (behind version E t) (behind version S t) Always (read_behind version t)
  unfolding read_behind
  behind_part (Constant (Data (datum.Int n)) span) = relation_part (Constant (Data (datum.Int n)) span)
  behind_part (Constant (Data (datum.Url u)) span) = relation_part (Constant (Data (datum.Url u)) span)
  behind_part (Constant (Data (datum.File f)) span) = relation_part (Constant (Data (datum.File f)) span)
  behind_part (Constant (Data (datum.Node n)) span) = relation_part (Constant (Data (datum.Node n)) span)
  behind_part (Constant (Page p) span) = relation_part (Constant (Page p) span)
  behind_part (Constant (Data (datum.Text q)) span) =
      either_part (is_sign signs.OpenParen) (call_part None (record { text = q; span = span })) (relation_part (Constant (Data (datum.Text q)) span))
      (opens_then (sign signs.OpenParen) _ _ (sign_opens signs.OpenParen _ (λ k is. is)))
      (relation_opens (Constant (Data (datum.Text q)) span))
  behind_part (Variable x span) =
      either_part (is_sign signs.OpenParen) (name_call_part (pair_test version x) (record { text = x; span = span })) (relation_part (Variable x span))
      (name_call_opens (pair_test version x) (record { text = x; span = span }))
      (relation_opens (Variable x span))

  plain_part : Part IsReal (plain version E) (plain version S) Always (read_plain version)
  unfolding read_plain
  plain_part = do
    t ← operand_part version
    behind_part t

  negated_part : Part IsReal (negated version E) (negated version S) Always (read_negated version)
  unfolding read_negated
  negated_part = do
    n ← not_part
    _ ← sign_part signs.OpenParen refl
    c ← plain_part
    close ← sign_part signs.CloseParen refl
    give_part (tree.negation c (from_to n close))

  pub condition_part : Part IsReal (condition version E) (condition version S) Always (read_condition version)
  unfolding read_condition
  condition_part =
      either_part (is_keyword words.Not) negated_part plain_part
      (opens_then (keyword words.Not) _ _ (keyword_opens words.Not _ (λ k is. is)))
      (opens_then (operand version) _ _ (operand_opens_no_keyword version words.Not refl))

-- a condition is read exactly where it is spelled
pub read_as_spelled : (version : ℕ) (tokens : List Token) → IsReadAsSpelled version tokens
read_as_spelled version tokens =
    let r = (condition_part version).reads tokens in
    (r.sound, λ front value rest is h. r.complete front value rest is h tt)
