-- Conditions that were read can be spelled.
use Rattle.std.proofs.Common.{◌≡◌, ℕ, Bool, true, false, nat_eq, List, refl, sym, subst, inl, inr, arith}
use Rattle.std.proofs.lemmas.Bool.Decides.{nat_tests}
use Rattle.std.specs.Prelude.{Option, Some, None}
use Rattle.sd_value.specs.declared.Datum.TheVariants as datum
use Rattle.sd_value.specs.declared.Value.TheVariants.{Data, Page}
use Rattle.sd_lex.specs.declared.token.Span.{Span}
use Rattle.sd_lex.specs.declared.token.Token.{Token}
use Rattle.sd_lex.specs.declared.token.TokenKind.{TokenKind}
use Rattle.sd_lex.specs.declared.token.TokenKind.TheVariants as kinds
use Rattle.sd_lex.specs.declared.token.Sign.{Sign}
use Rattle.sd_lex.specs.declared.token.Sign.TheVariants as signs
use Rattle.value_texts.specs.declared.TextTest.{TextTest}
use Rattle.query_spec.specs.declared.Op.{Op}
use Rattle.query_spec.specs.declared.Test.{Test}
use Rattle.query_spec.specs.Query as plain
use Rattle.grammar.specs.Grammar.{one}
use Rattle.struql_ast.specs.declared.Operand.{Operand}
use Rattle.struql_ast.specs.declared.Operand.TheVariants.{Variable, Constant}
use Rattle.struql_ast.specs.Written as tree
use Rattle.struql_text.specs.declared.keyword.Word.{Word}
use Rattle.struql_text.specs.Terminals.{constant_value, op_value, op_kind_value, op_sign, test_of, pair_test}
use Rattle.struql_text.specs.Expression.{expression_within}
use Rattle.struql_text.specs.Grammar as text
use Rattle.struql_round.specs.ShownParts.{step_kept, condition_kept}
use Rattle.struql_round.specs.Spellable.{IsWord, IsConstant, IsStep, IsOperator, IsPlain, IsCondition}
use Rattle.struql_round.proofs.Fitting.{expression_fits}
use Rattle.struql_round.proofs.ParsedTerms.{Real, front_real, back_real, is_word, OperandKept, is_operand, is_constant, listed_some}

abbrev PlainKept : ℕ → tree.Condition → Type 0
PlainKept version c = IsPlain version (condition_kept c)

abbrev pub ConditionKept : ℕ → tree.Condition → Type 0
ConditionKept version c = IsCondition version (condition_kept c)

abbrev StepKept : ℕ → tree.Step → Type 0
StepKept version s = IsStep version (step_kept s)

is_step : (version : ℕ) → (ts : List Token) (s : tree.Step) → Real ts → text.step version expression_within ts s → StepKept version s
is_step version ts s real (inl (front, back, x, cut, named, (none, same))) =
    subst (StepKept version) (sym same) (is_word version front x (front_real ts front back cut real) named)
is_step version ts s real (inr (front, back, e, cut, read, (none, same))) = subst (StepKept version) (sym same) (expression_fits front e read)

-- a sign is an operator of each version
abbrev Operator : ℕ → Option Op → Type 0
Operator version None = Unit {0}
Operator version (Some o) = IsOperator version o

sign_operator : (version : ℕ) (s : Sign) (o : Op) → op_sign s ≡ Some o → IsOperator version o
sign_operator version signs.Eq o e = subst (λ (p : Option Op). Operator version p) e tt
sign_operator version signs.Ne o e = subst (λ (p : Option Op). Operator version p) e tt
sign_operator version signs.Lt o e = subst (λ (p : Option Op). Operator version p) e tt
sign_operator version signs.Le o e = subst (λ (p : Option Op). Operator version p) e tt
sign_operator version signs.Gt o e = subst (λ (p : Option Op). Operator version p) e tt
sign_operator version signs.Ge o e = subst (λ (p : Option Op). Operator version p) e tt
sign_operator version s o e = absurd cc

kind_operator : (version : ℕ) (k : TokenKind) (o : Op) → op_kind_value k ≡ Some o → IsOperator version o
kind_operator version (kinds.Name n) o e = absurd cc
kind_operator version (kinds.Quoted q) o e = absurd cc
kind_operator version (kinds.Int i) o e = absurd cc
kind_operator version (kinds.Sign s) o e = sign_operator version s o e

one_operator : (version : ℕ) (ts : List Token) (o : Op) → one op_value ts o → IsOperator version o
one_operator version ts o h = kind_operator version h.0.kind o h.2

-- there are tests of two texts in version 3 alone
third : (version : ℕ) (w : List ℕ) (test : TextTest) → pair_test version w ≡ Some test → version ≡ 3
third version w test e = by (nat_eq version 3) refl
  where
    by : (b : Bool) → nat_eq version 3 ≡ b → version ≡ 3
    by true t = grind (arith, nat_tests)
    by false t = absurd (let g = rw t at e in cc)

module _ (version : ℕ) where
  called : (k : Option Test) (c x : Word) (close : Span) → IsWord version x.text → PlainKept version (text.call_with k c x close)
  called None c x close argument = argument
  called (Some t) c x close argument = argument

  call_plain : (test : Option Test) (c : Word) (ts : List Token) (condition : tree.Condition) → Real ts → text.call version test c ts condition → PlainKept version condition
  call_plain test c ts condition real (f1, b1, opening, cut1, sign1, (f2, b2, x, cut2, named, (f3, b3, close, cut3, sign2, (none, same)))) =
      let argument = is_word version f2 x (front_real b1 f2 b2 cut2 (back_real ts f1 b1 cut1 real)) named in
      subst (PlainKept version) (sym same) (called test c x close argument)

  second_plain : (test : TextTest) (c : Word) (t : Operand) → version ≡ 3 → OperandKept version t → (ts : List Token) (condition : tree.Condition) → Real ts → text.second version test c t ts condition → PlainKept version condition
  second_plain test c t known kept ts condition real (f1, b1, comma, cut1, sign1, (f2, b2, u, cut2, operand, (f3, b3, close, cut3, sign2, (none, same)))) =
      let other = is_operand version f2 u (front_real b1 f2 b2 cut2 (back_real ts f1 b1 cut1 real)) operand in
      subst (PlainKept version) (sym same) (known, kept, other)

  pair_end_plain : (test : TextTest) (c : Word) (t : Operand) → version ≡ 3 → OperandKept version t → (ts : List Token) (condition : tree.Condition) → Real ts → text.pair_end version test c t ts condition → PlainKept version condition
  pair_end_plain test c (Variable x span) known kept ts condition real (inl h) = second_plain test c (Variable x span) known kept ts condition real h
  pair_end_plain test c (Variable x span) known kept ts condition real (inr (front, back, close, cut, is, (none, same))) = subst (PlainKept version) (sym same) kept
  pair_end_plain test c (Constant v span) known kept ts condition real h = second_plain test c (Constant v span) known kept ts condition real h

  name_call_plain : (test : Option TextTest) (c : Word) → ((found : TextTest) → test ≡ Some found → version ≡ 3) → (ts : List Token) (condition : tree.Condition) → Real ts → text.name_call version test c ts condition → PlainKept version condition
  name_call_plain None c known ts condition real h = call_plain (test_of c.text) c ts condition real h
  name_call_plain (Some test) c known ts condition real (f1, b1, opening, cut1, sign1, (f2, b2, t, cut2, operand, rest)) =
      let real1 = back_real ts f1 b1 cut1 real in
      let kept = is_operand version f2 t (front_real b1 f2 b2 cut2 real1) operand in
      pair_end_plain test c t (known test refl) kept b2 condition (back_real b1 f2 b2 cut2 real1) rest

  comparison_plain : (t : Operand) → OperandKept version t → (ts : List Token) (condition : tree.Condition) → Real ts → text.comparison version t ts condition → PlainKept version condition
  comparison_plain t kept ts condition real (f1, b1, o, cut1, op, (f2, b2, u, cut2, operand, (none, same))) =
      let other = is_operand version f2 u (front_real b1 f2 b2 cut2 (back_real ts f1 b1 cut1 real)) operand in
      subst (PlainKept version) (sym same) (one_operator version f1 o op, kept, other)

  membership_plain : (t : Operand) → OperandKept version t → (ts : List Token) (condition : tree.Condition) → Real ts → text.membership t ts condition → PlainKept version condition
  membership_plain t kept ts condition real (f1, b1, word, cut1, is, (f2, b2, opening, cut2, sign1, (f3, b3, vs, cut3, listed, (f4, b4, close, cut4, sign2, (none, same))))) =
      let real2 = back_real b1 f2 b2 cut2 (back_real ts f1 b1 cut1 real) in
      let values = listed_some (one constant_value) IsConstant is_constant f3 vs (front_real b2 f3 b3 cut3 real2) listed in
      subst (PlainKept version) (sym same) (kept, values)

  path_plain : (t : Operand) → OperandKept version t → (ts : List Token) (condition : tree.Condition) → Real ts → text.path version expression_within t ts condition → PlainKept version condition
  path_plain t kept ts condition real (f1, b1, arrow1, cut1, sign1, (f2, b2, s, cut2, step, (f3, b3, arrow2, cut3, sign2, (f4, b4, u, cut4, operand, (none, same))))) =
      let real1 = back_real ts f1 b1 cut1 real in
      let real3 = back_real b2 f3 b3 cut3 (back_real b1 f2 b2 cut2 real1) in
      let step_is = is_step version f2 s (front_real b1 f2 b2 cut2 real1) step in
      let other = is_operand version f4 u (front_real b3 f4 b4 cut4 real3) operand in
      subst (PlainKept version) (sym same) (kept, step_is, other)

  relation_plain : (t : Operand) → OperandKept version t → (ts : List Token) (condition : tree.Condition) → Real ts → text.relation version expression_within t ts condition → PlainKept version condition
  relation_plain t kept ts condition real (inl h) = path_plain t kept ts condition real h
  relation_plain t kept ts condition real (inr (inl h)) = membership_plain t kept ts condition real h
  relation_plain t kept ts condition real (inr (inr h)) = comparison_plain t kept ts condition real h

  behind_plain : (t : Operand) → OperandKept version t → (ts : List Token) (condition : tree.Condition) → Real ts → text.behind version expression_within t ts condition → PlainKept version condition
  behind_plain (Variable x span) kept ts condition real (inl h) = name_call_plain (pair_test version x) (record { text = x; span = span }) (third version x) ts condition real h
  behind_plain (Variable x span) kept ts condition real (inr h) = relation_plain (Variable x span) kept ts condition real h
  behind_plain (Constant (Data (datum.Text q)) span) kept ts condition real (inl h) = call_plain None (record { text = q; span = span }) ts condition real h
  behind_plain (Constant (Data (datum.Text q)) span) kept ts condition real (inr h) = relation_plain (Constant (Data (datum.Text q)) span) kept ts condition real h
  behind_plain (Constant (Data (datum.Int n)) span) kept ts condition real h = relation_plain (Constant (Data (datum.Int n)) span) kept ts condition real h
  behind_plain (Constant (Data (datum.Url u)) span) kept ts condition real h = absurd kept
  behind_plain (Constant (Data (datum.File f)) span) kept ts condition real h = absurd kept
  behind_plain (Constant (Data (datum.Node n)) span) kept ts condition real h = absurd kept
  behind_plain (Constant (Page p) span) kept ts condition real h = absurd kept

  is_plain : (ts : List Token) (condition : tree.Condition) → Real ts → text.plain version expression_within ts condition → PlainKept version condition
  is_plain ts condition real (front, back, t, cut, operand, rest) =
      behind_plain t (is_operand version front t (front_real ts front back cut real) operand) back condition (back_real ts front back cut real) rest

  plain_condition : (c : plain.Condition) → IsPlain version c → IsCondition version c
  plain_condition (plain.member c x) h = h
  plain_condition (plain.path t s u) h = h
  plain_condition (plain.compare t o u) h = h
  plain_condition (plain.one_of t vs) h = h
  plain_condition (plain.kind k x) h = h
  plain_condition (plain.negation c) h = absurd h

  pub is_condition : (ts : List Token) (condition : tree.Condition) → Real ts → text.condition version expression_within ts condition → ConditionKept version condition
  is_condition ts condition real (inl (f1, b1, word, cut1, is, (f2, b2, opening, cut2, sign1, (f3, b3, c, cut3, read, (f4, b4, close, cut4, sign2, (none, same)))))) =
      let real2 = back_real b1 f2 b2 cut2 (back_real ts f1 b1 cut1 real) in
      subst (ConditionKept version) (sym same) (is_plain f3 c (front_real b2 f3 b3 cut3 real2) read)
  is_condition ts condition real (inr h) = plain_condition (condition_kept condition) (is_plain ts condition real h)
