-- Operands, terms, links, collections and conditions of queries.
use Rattle.std.proofs.Common.{◌∙◌, ◌≡◌, ◌⊎◌, ℕ, ◌+◌, ◌≤◌, List, [], ◌∷◌, ◌++◌, length, arith, ap, sym, refl, subst, inl, inr}
use Rattle.std.specs.Prelude.{Bool, true, false, Option, Some, None, map}
use Rattle.std.specs.List.{flat_map}
use Rattle.std.proofs.lemmas.List.{length-append}
use Rattle.sd_value.specs.declared.Datum.TheVariants as datum
use Rattle.sd_value.specs.declared.Value.{Value}
use Rattle.sd_value.specs.declared.Value.TheVariants.{Data, Page}
use Rattle.sd_lex.specs.declared.token.Span.{Span}
use Rattle.sd_lex.specs.declared.token.Token.{Token}
use Rattle.sd_lex.specs.declared.token.TokenKind.{TokenKind}
use Rattle.sd_lex.specs.declared.token.TokenKind.TheVariants as kinds
use Rattle.value_texts.specs.declared.TextTest.{TextTest}
use Rattle.query_spec.specs.declared.Test.{Test}
use Rattle.query_spec.specs.Mentions.{IsFlat}
use Rattle.query_spec.specs.Query as plain
use Rattle.struql_ast.specs.declared.Operand.{Operand}
use Rattle.struql_ast.specs.declared.Operand.TheVariants.{Variable, Constant}
use Rattle.struql_ast.specs.Reading.{operand_of}
use Rattle.struql_ast.specs.declared.Aggregate.{Aggregate}
use Rattle.struql_ast.specs.Written as tree
use Rattle.struql_text.specs.declared.keyword.Keyword.{Keyword}
use Rattle.struql_text.specs.declared.keyword.Word.{Word}
use Rattle.struql_text.specs.Terminals.{named, operand_kind_value, operand_value, constant_kind_value, constant_value, keyword_in, test_of, pair_test, from_to, operand_span}
use Rattle.struql_text.specs.Expression.{Counted}
use Rattle.struql_text.specs.Grammar.{operand, term_of, no_arguments, some_arguments, arguments, term, made, variable_of, named_target, source, operand_target, target, link, collect, call_with, call, membership, comparison, path, relation, behind, negated, condition}
use Rattle.grammar.specs.Grammar.{one}
use Rattle.struql_text.specs.Terminals.{is_sum}
use Rattle.struql_text.specs.Grammar.{aggregate_or, called_target, sum_over, sum_term_end, sum_end, sum_target, by_sum, named_end}
use Rattle.struql_text.specs.Grammar as grammar
use Rattle.struql_check.specs.Parsed.{IsWritable, operand_constants, condition_constants, term_constants, target_constants, link_constants, target_terms}
use Rattle.query_scoping.proofs.Plain.{step_plain, condition_plain, term_plain, target_plain, link_plain, collect_plain}
use Rattle.query_reader.proofs.Weights.{one_each, link_weight, collect_weight}
use Rattle.query_reader.proofs.Sound.{Each, Bounded, split_length, list_bounded}

-- every constant of the list is a number or a text
abbrev pub Writable : List Value → Type 0
Writable = Each IsWritable

pub both_writable : (xs ys : List Value) → Writable xs → Writable ys → Writable (xs ++ ys)
both_writable [] ys h k = k
both_writable (x ∷ xs) ys h k = (h.0, both_writable xs ys h.1 k)

-- ---- operands

some_is : {A : Type 0} (P : A → Type 0) (a b : A) → Some a ≡ Some b → P a → P b
some_is P a b e p = subst P (let same : a ≡ b = cc in same) p

pub none_is : {A : Type 0} (b : A) → ◌≡◌ {A = Option A} None (Some b) → ⊥
none_is b e = cc

abbrev pub GoodOperand : Operand → Type 0
GoodOperand o = Writable (operand_constants (operand_of o))

named_good : (v : Operand) (k : Option Keyword) (o : Operand) → GoodOperand v → named v k ≡ Some o → GoodOperand o
named_good v None o good e = some_is GoodOperand v o e good
named_good v (Some k) o good e = absurd (none_is o e)

operand_kind : (version : ℕ) → (span : Span) (k : TokenKind) (o : Operand) → operand_kind_value version span k ≡ Some o → GoodOperand o
operand_kind version span (kinds.Name n) o e = named_good (Variable n span) (keyword_in version n) o tt e
operand_kind version span (kinds.Quoted q) o e = some_is GoodOperand (Constant (Data (datum.Text q)) span) o e (tt, tt)
operand_kind version span (kinds.Int i) o e = some_is GoodOperand (Constant (Data (datum.Int i)) span) o e (tt, tt)
operand_kind version span (kinds.Sign s) o e = absurd (none_is o e)

constant_kind : (k : TokenKind) (v : Value) → constant_kind_value k ≡ Some v → IsWritable v
constant_kind (kinds.Name n) v e = absurd (none_is v e)
constant_kind (kinds.Quoted q) v e = some_is IsWritable (Data (datum.Text q)) v e tt
constant_kind (kinds.Int i) v e = some_is IsWritable (Data (datum.Int i)) v e tt
constant_kind (kinds.Sign s) v e = absurd (none_is v e)

pub operand_bounded : (version : ℕ) → Bounded one_each GoodOperand (operand version)
operand_bounded version tokens o (t, is, found) = (let e = ap length is in omega (arith, e), operand_kind version t.span t.kind o found)

constant_bounded : Bounded one_each IsWritable (one constant_value)
constant_bounded tokens v (t, is, found) = (let e = ap length is in omega (arith, e), constant_kind t.kind v found)

-- ---- terms

abbrev pub GoodTerm : tree.Term → Type 0
GoodTerm t = Writable (term_constants (term_plain t))

args_good : (args : List Operand) → Each GoodOperand args → Writable (flat_map operand_constants (map operand_of args))
args_good [] all = tt
args_good (o ∷ args) all = both_writable (operand_constants (operand_of o)) _ all.0 (args_good args all.1)

arguments_good : (version : ℕ) → (f : Word) (tokens : List Token) (t : tree.Term) → arguments version f tokens t → GoodTerm t
arguments_good version f tokens t (front, back, span, split, opening, inl (c, d, close, parts, closing, (nil, is))) = subst GoodTerm (sym is) tt
arguments_good version f tokens t (front, back, span, split, opening, inr (c, d, args, parts, phrase, (g, h, close, more, closing, (nil, is)))) =
    subst GoodTerm (sym is) (args_good args (list_bounded one_each GoodOperand (operand version) (operand_bounded version) c args phrase).1)

pub term_bounded : (version : ℕ) → Bounded one_each GoodTerm (term version)
term_bounded version tokens t (front, back, f, split, (n, is, found), rest) =
    (let e = split_length tokens front back split in let one = ap length is in omega (arith, e, one), arguments_good version f back t rest)

-- ---- targets

abbrev pub GoodTarget : tree.Target → Type 0
GoodTarget t = Writable (target_constants (target_plain t))

named_target_good : (version : ℕ) → (x : Word) (tokens : List Token) (t : tree.Target) → named_target version x tokens t → GoodTarget t
named_target_good version x tokens t (inl (front, back, made_term, split, phrase, (nil, is))) = subst GoodTarget (sym is) (arguments_good version x front made_term phrase)
named_target_good version x tokens t (inr (nil, is)) = subst GoodTarget (sym is) tt

source_good : (version : ℕ) → (tokens : List Token) (t : tree.Target) → source version tokens t → GoodTarget t
source_good version tokens t (front, back, x, split, named_it, rest) = named_target_good version x back t rest

-- ---- what a link ends at

or_good : (o : Option Aggregate) (t : tree.Term) → GoodTerm t → GoodTarget (aggregate_or o t)
or_good None t good = good
or_good (Some a) t good = tt

called_good : (version : ℕ) (f : Word) (tokens : List Token) (t : tree.Target) → called_target version f tokens t → GoodTarget t
called_good version f tokens t (front, back, term, split, phrase, (nil, is)) =
    subst GoodTarget (sym is) (or_good _ term (arguments_good version f front term phrase))

sum_over_good : (version : ℕ) (f : Word) (v : List ℕ) (v_span : Span) (tokens : List Token) (t : tree.Target) → sum_over version f v v_span tokens t → GoodTarget t
sum_over_good version f v v_span tokens t (front, back, of, split, keyword, (c, d, x, parts, name, (g, h, close, more, closing, (nil, is)))) = subst GoodTarget (sym is) tt

sum_term_good : (version : ℕ) (f : Word) (first : Operand) → GoodOperand first → (tokens : List Token) (t : tree.Target) → sum_term_end version f first tokens t → GoodTarget t
sum_term_good version f first good tokens t (inl (front, back, close, split, closing, (nil, is))) = subst GoodTarget (sym is) (args_good (first ∷ []) (good, tt))
sum_term_good version f first good tokens t (inr (front, back, comma, split, sign, (c, d, args, parts, phrase, (g, h, close, more, closing, (nil, is))))) =
    subst GoodTarget (sym is) (args_good (first ∷ args) (good, (list_bounded one_each GoodOperand (operand version) (operand_bounded version) c args phrase).1))

sum_end_good : (version : ℕ) (f : Word) (first : Operand) → GoodOperand first → (tokens : List Token) (t : tree.Target) → sum_end version f first tokens t → GoodTarget t
sum_end_good version f (Variable v span) good tokens t (inl over) = sum_over_good version f v span tokens t over
sum_end_good version f (Variable v span) good tokens t (inr term) = sum_term_good version f (Variable v span) good tokens t term
sum_end_good version f (Constant v span) good tokens t term = sum_term_good version f (Constant v span) good tokens t term

sum_good : (version : ℕ) (f : Word) (tokens : List Token) (t : tree.Target) → sum_target version f tokens t → GoodTarget t
sum_good version f tokens t (front, back, opening, split, sign, inl (c, d, term, parts, (g, h, close, more, closing, (nil2, is2)), (nil, is))) =
    subst GoodTarget (sym is) (subst GoodTerm (sym is2) tt)
sum_good version f tokens t (front, back, opening, split, sign, inr (c, d, first, parts, phrase, rest)) =
    sum_end_good version f first (operand_bounded version c first phrase).1 d t rest

by_sum_good : (version : ℕ) (b : Bool) (f : Word) (tokens : List Token) (t : tree.Target) → by_sum version b f tokens t → GoodTarget t
by_sum_good version true f tokens t h = sum_good version f tokens t h
by_sum_good version false f tokens t h = called_good version f tokens t h

named_end_good : (version : ℕ) → (x : Word) (tokens : List Token) (t : tree.Target) → named_end version x tokens t → GoodTarget t
named_end_good version x tokens t (inl h) = by_sum_good version (is_sum version x.text) x tokens t h
named_end_good version x tokens t (inr (nil, is)) = subst GoodTarget (sym is) tt

behind_operand : (version : ℕ) → (o : Operand) (tokens : List Token) (t : tree.Target) → GoodOperand o → operand_target version o tokens t → GoodTarget t
behind_operand version (Variable x span) tokens t good rest = named_end_good version (record { text = x; span = span }) tokens t rest
behind_operand version (Constant v span) tokens t good (nil, is) = subst GoodTarget (sym is) good

target_good : (version : ℕ) → (tokens : List Token) (t : tree.Target) → target version tokens t → GoodTarget t
target_good version tokens t (front, back, o, split, phrase, rest) = behind_operand version o back t (operand_bounded version front o phrase).1 rest

one_term : (t : plain.Target) → length (target_terms t) ≤ 1
one_term (plain.plain o) = omega arith
one_term (plain.made t) = omega arith
one_term (plain.summed a) = omega arith

-- ---- links and collections

abbrev pub GoodLink : tree.Link → Type 0
GoodLink k = Writable (link_constants (link_plain k))

abbrev pub link_size : tree.Link → ℕ
link_size k = link_weight (link_plain k)

link_light : (k : tree.Link) → link_size k ≤ 3
link_light k =
    let a = one_term (target_plain k.source) in let b = one_term (target_plain k.target) in
    let both = length-append (target_terms (target_plain k.source)) (target_terms (target_plain k.target)) in omega (arith, a, b, both)

pub link_bounded : (version : ℕ) → Bounded link_size GoodLink (link version)
link_bounded version tokens k
    (a, b, s, e, from, (c, d, first, f, (x, arrow, u), (g, h, l, i, (y, label, v), (m, n, second, o, (z, again, w), (p, q, t, r, to, (nil, is)))))) =
    let whole = split_length tokens a b e in let two = split_length b c d f in let three = split_length d g h i in let four = split_length h m n o in
    let one = ap length arrow in let other = ap length label in let last = ap length again in
    let light = link_light k in (
      omega (arith, whole, two, three, four, one, other, last, light),
      subst GoodLink (sym is) (both_writable (target_constants (target_plain s)) (target_constants (target_plain t)) (source_good version a s from) (target_good version p t to)),
    )

abbrev pub GoodCollect : tree.Collect → Type 0
GoodCollect o = Writable (target_constants (collect_plain o).target)

abbrev pub collect_size : tree.Collect → ℕ
collect_size o = collect_weight (collect_plain o)

pub collect_bounded : (version : ℕ) → Bounded collect_size GoodCollect (collect version)
collect_bounded version tokens o (a, b, name, e, (x, word, u), (c, d, opening, f, (y, paren, v), (g, h, t, i, phrase, (j, k, close, l, closing, (nil, is))))) =
    let whole = split_length tokens a b e in let two = split_length b c d f in
    let one = ap length word in let other = ap length paren in
    let light = one_term (target_plain o.target) in
    (omega (arith, whole, two, one, other, light), subst GoodCollect (sym is) (source_good version g t phrase))

-- ---- conditions

-- the constants of the condition are writable, and a negation of it holds no negation
pub record GoodPlain (c : tree.Condition) : Type 0 where
  pub writable : Writable (condition_constants (condition_plain c))
  pub under_not : IsFlat (plain.negation (condition_plain c))
  pub flat : IsFlat (condition_plain c)

-- the constants are writable, and no negation holds a negation
pub record GoodCondition (c : tree.Condition) : Type 0 where
  pub writable : Writable (condition_constants (condition_plain c))
  pub flat : IsFlat (condition_plain c)

call_good : (test : Option Test) (c x : Word) (close : Span) → GoodPlain (call_with test c x close)
call_good None c x close = record { writable = tt; under_not = tt; flat = tt }
call_good (Some test) c x close = record { writable = tt; under_not = tt; flat = tt }

-- a test of two texts, from its comma on
second_good : (version : ℕ) → (test : TextTest) (n : Word) (t : Operand) (tokens : List Token) (c : tree.Condition) → GoodOperand t → grammar.second version test n t tokens c → GoodPlain c
second_good version test n t tokens c good (a, b, s, e, comma, (d, f, u, g, other, (h, i, close, j, closing, (nil, is)))) =
    subst GoodPlain (sym is) (record { writable = both_writable (operand_constants (operand_of t)) (operand_constants (operand_of u)) good (operand_bounded version d u other).1; under_not = tt; flat = tt })

pair_end_good : (version : ℕ) → (test : TextTest) (n : Word) (t : Operand) (tokens : List Token) (c : tree.Condition) → GoodOperand t → grammar.pair_end version test n t tokens c → GoodPlain c
pair_end_good version test n (Variable x span) tokens c good (inl rest) = second_good version test n (Variable x span) tokens c good rest
pair_end_good version test n (Variable x span) tokens c good (inr (a, b, close, e, closing, (nil, is))) = subst GoodPlain (sym is) (call_good None n (record { text = x; span = span }) close)
pair_end_good version test n (Constant v span) tokens c good rest = second_good version test n (Constant v span) tokens c good rest

name_call_good : (version : ℕ) → (test : Option TextTest) (n : Word) (tokens : List Token) (c : tree.Condition) → grammar.name_call version test n tokens c → GoodPlain c
name_call_good version None n tokens c (a, b, s, e, opening, (d, f, y, g, phrase, (h, i, close, j, closing, (nil, is)))) = subst GoodPlain (sym is) (call_good (test_of n.text) n y close)
name_call_good version (Some test) n tokens c (a, b, s, e, opening, (d, f, t, g, phrase, rest)) = pair_end_good version test n t f c (operand_bounded version d t phrase).1 rest

module _ (version : ℕ) (expression : List Token → Counted → Type 0) where
  relation_good : (t : Operand) (tokens : List Token) (c : tree.Condition) → GoodOperand t → relation version expression t tokens c → GoodPlain c
  relation_good t tokens c good (inl (a, b, span, e, arrow, (d, f, s, g, step, (h, i, span2, j, arrow2, (k, l, u, m, to, (nil, is)))))) =
      subst GoodPlain (sym is) (record { writable = both_writable (operand_constants (operand_of t)) (operand_constants (operand_of u)) good (operand_bounded version k u to).1; under_not = tt; flat = tt })
  relation_good t tokens c good (inr (inl (a, b, span, e, word, (d, f, span2, g, brace, (h, i, vs, j, phrase, (k, l, close, m, closing, (nil, is))))))) =
      subst GoodPlain (sym is) (record { writable = both_writable (operand_constants (operand_of t)) vs good (list_bounded one_each IsWritable (one constant_value) constant_bounded h vs phrase).1; under_not = tt; flat = tt })
  relation_good t tokens c good (inr (inr (a, b, op, e, sign, (d, f, u, g, to, (nil, is))))) =
      subst GoodPlain (sym is) (record { writable = both_writable (operand_constants (operand_of t)) (operand_constants (operand_of u)) good (operand_bounded version d u to).1; under_not = tt; flat = tt })

  behind_good : (t : Operand) (tokens : List Token) (c : tree.Condition) → GoodOperand t → behind version expression t tokens c → GoodPlain c
  behind_good (Variable x span) tokens c good (inl rest) = name_call_good version (pair_test version x) (record { text = x; span = span }) tokens c rest
  behind_good (Constant (Data (datum.Text q)) span) tokens c good (inl (a, b, s, e, opening, (d, f, y, g, phrase, (h, i, close, j, closing, (nil, is))))) =
      subst GoodPlain (sym is) (call_good None (record { text = q; span = span }) y close)
  behind_good (Constant (Data (datum.Text q)) span) tokens c good (inr rest) = relation_good (Constant (Data (datum.Text q)) span) tokens c good rest
  behind_good (Variable x span) tokens c good (inr rest) = relation_good (Variable x span) tokens c good rest
  behind_good (Constant (Data (datum.Int n)) span) tokens c good rest = relation_good (Constant (Data (datum.Int n)) span) tokens c good rest
  behind_good (Constant (Data (datum.Url u)) span) tokens c good rest = relation_good (Constant (Data (datum.Url u)) span) tokens c good rest
  behind_good (Constant (Data (datum.File u)) span) tokens c good rest = relation_good (Constant (Data (datum.File u)) span) tokens c good rest
  behind_good (Constant (Data (datum.Node u)) span) tokens c good rest = relation_good (Constant (Data (datum.Node u)) span) tokens c good rest
  behind_good (Constant (Page p) span) tokens c good rest = relation_good (Constant (Page p) span) tokens c good rest

  plain_good : (tokens : List Token) (c : tree.Condition) → grammar.plain version expression tokens c → (1 ≤ length tokens) × GoodPlain c
  plain_good tokens c (a, b, t, e, phrase, rest) =
      let whole = split_length tokens a b e in let one = operand_bounded version a t phrase in
      (omega (arith, whole, one.0), behind_good t b c one.1 rest)

  pub condition_bounded : Bounded one_each GoodCondition (condition version expression)
  condition_bounded tokens c (inl (a, b, n, e, (x, word, u), (d, f, s, g, opening, (h, i, p, j, phrase, (k, l, close, m, closing, (nil, is)))))) =
      let whole = split_length tokens a b e in let one = ap length word in
      let good = (plain_good h p phrase).1 in
      (omega (arith, whole, one), subst GoodCondition (sym is) (record { writable = good.writable; flat = good.under_not }))
  condition_bounded tokens c (inr phrase) =
      let good = plain_good tokens c phrase in (good.0, record { writable = good.1.writable; flat = good.1.flat })
