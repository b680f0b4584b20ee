-- Single tokens: their readers, and which of them differ.
use Rattle.std.proofs.Common.{◌≡◌, ◌<◌, ◌≤◌, ℕ, Bool, true, false, cond, nat_eq, List, [], ◌∷◌, Option, Some, None, refl, sym, ap, ◌∙◌, arith}
use Rattle.std.specs.Prelude.{codes, not, ◌&&◌, if◌then◌else◌}
use Rattle.std.proofs.lemmas.Bool.{eqb-true}
use Rattle.sd_value.specs.declared.Datum.TheVariants as datum
use Rattle.sd_value.specs.declared.Value.TheVariants.{Data}
use Rattle.sd_lex.specs.declared.token.Span.{Span}
use Rattle.sd_lex.specs.declared.token.Token.{Token}
use Rattle.sd_lex.specs.declared.token.TokenKind.{TokenKind}
use Rattle.sd_lex.specs.declared.token.TokenKind.TheVariants as kinds
use Rattle.sd_lex.specs.declared.token.Sign.{Sign}
use Rattle.sd_lex.specs.declared.token.Sign.TheVariants as signs
use Rattle.query_spec.specs.declared.Op.{Op}
use Rattle.query_spec.specs.declared.Op.TheVariants as op
use Rattle.struql_ast.specs.declared.Operand.{Operand}
use Rattle.struql_ast.specs.declared.Operand.TheVariants.{Variable, Constant}
use Rattle.struql_ast.specs.declared.LinkLabel.TheVariants as label
use Rattle.grammar.specs.Grammar.{one}
use Rattle.grammar.proofs.Parts.{Opens, opens_one, Part, one_part}
use Rattle.grammar.specs.Reading.{take_one}
use Rattle.grammar.proofs.Laws.{Always}
use Rattle.struql_text.specs.declared.keyword.Keyword.{Keyword}
use Rattle.struql_text.specs.declared.keyword.Keyword.TheVariants as words
use Rattle.struql_text.specs.declared.keyword.Word.{Word}
use Rattle.struql_text.specs.Terminals.{sign_value, rank, is_name, is_name_kind, is_free, is_found, named, keyword_of, keyword_in, is_late, in_version, is_keyword, is_keyword_kind, keyword_value, name_kind_value, name_value, collection_value, operand_kind_value, operand_value, constant_value, label_value, op_value, op_kind_value, op_sign}
use Rattle.token_reader.specs.Terminals.{is_sign, is_sign_kind, number}
use Rattle.struql_text.specs.Expression.{sign, keyword}
use Rattle.struql_text.specs.Grammar.{name, collection, operand}
use Rattle.struql_text.specs.Reading.{read_sign, read_keyword, read_name, read_collection, read_operand}
use Rattle.token_reader.specs.Gives.{IsReal}
use Rattle.token_reader.proofs.Terminals.{made, real_quoted}
use Rattle.sd_lex.specs.Lexing.{IsName, sign_text}

abbrev pub somewhere : Span
somewhere = record { start = 0; «end» = 0 }

guard : (b : Bool) (p q : Span) → cond b (Some p) None ≡ Some q → b ≡ true
guard true p q e = refl
guard false p q e = absurd cc

-- ---- signs

pub sign_part : (s : Sign) → is_sign_kind s (kinds.Sign s) ≡ true → Part IsReal (sign s) (sign s) Always (read_sign s)
sign_part s is = one_part (sign_value s) (made (kinds.Sign s)) somewhere (rw is refl) (sign_text s, refl)

pub is_that : (s : Sign) (t : Token) → is_sign s t ≡ true → sign s (t ∷ []) t.span
is_that s t is = (t, refl, rw is refl)

-- a sign opens with itself, and what follows from that
pub sign_opens : (s : Sign) (W : Token → Type 0) → ((t : Token) → is_sign s t ≡ true → W t) → Opens (sign s) W
sign_opens s W known = opens_one (sign_value s) W (λ t v e. known t (guard (is_sign_kind s t.kind) t.span v e))

pub sign_no_name : (version : ℕ) (s : Sign) (k : TokenKind) → is_sign_kind s k ≡ true → is_name_kind version k ≡ false
sign_no_name version s (kinds.Name n) e = absurd cc
sign_no_name version s (kinds.Quoted n) e = absurd cc
sign_no_name version s (kinds.Int n) e = absurd cc
sign_no_name version s (kinds.Sign n) e = refl

pub sign_no_keyword : (s : Sign) (w : Keyword) (k : TokenKind) → is_sign_kind s k ≡ true → is_keyword_kind w k ≡ false
sign_no_keyword s w (kinds.Name n) e = absurd cc
sign_no_keyword s w (kinds.Quoted n) e = absurd cc
sign_no_keyword s w (kinds.Int n) e = absurd cc
sign_no_keyword s w (kinds.Sign n) e = refl

-- ---- keywords

pub keyword_opens : (w : Keyword) (W : Token → Type 0) → ((t : Token) → is_keyword w t ≡ true → W t) → Opens (keyword w) W
keyword_opens w W known = opens_one (keyword_value w) W (λ t v e. known t (guard (is_keyword_kind w t.kind) t.span v e))

pub keyword_no_sign : (w : Keyword) (s : Sign) (k : TokenKind) → is_keyword_kind w k ≡ true → is_sign_kind s k ≡ false
keyword_no_sign w s (kinds.Name n) e = refl
keyword_no_sign w s (kinds.Quoted n) e = refl
keyword_no_sign w s (kinds.Int n) e = refl
keyword_no_sign w s (kinds.Sign n) e = absurd cc

found_other : (w u : Keyword) (o : Option Keyword) → nat_eq (rank w) (rank u) ≡ false → is_found w o ≡ true → is_found u o ≡ false
found_other w u None d e = refl
found_other w u (Some k) d e = ap (λ x. nat_eq x (rank u)) (eqb-true (rank k) (rank w) e) ∙ d

pub other_keyword : (w u : Keyword) (k : TokenKind) → nat_eq (rank w) (rank u) ≡ false → is_keyword_kind w k ≡ true → is_keyword_kind u k ≡ false
other_keyword w u (kinds.Name n) d e = found_other w u (keyword_of n) d e
other_keyword w u (kinds.Quoted n) d e = refl
other_keyword w u (kinds.Int n) d e = refl
other_keyword w u (kinds.Sign n) d e = refl

pub keyword_part : (w : Keyword) (text : List ℕ) → is_found w (keyword_of text) ≡ true → IsName text → Part IsReal (keyword w) (keyword w) Always (read_keyword w)
keyword_part w text is named = one_part (keyword_value w) (made (kinds.Name text)) somewhere (rw is refl) (text, (refl, named))

is_in : is_found words.In (keyword_of (codes "in")) ≡ true
unfolding keyword_of
is_in = refl

is_not : is_found words.Not (keyword_of (codes "not")) ≡ true
unfolding keyword_of
is_not = refl

is_of : is_found words.Of (keyword_of (codes "of")) ≡ true
unfolding keyword_of
is_of = refl

pub of_part : Part IsReal (keyword words.Of) (keyword words.Of) Always (read_keyword words.Of)
of_part = keyword_part words.Of (codes "of") is_of (refl, (refl, tt))

pub in_part : Part IsReal (keyword words.In) (keyword words.In) Always (read_keyword words.In)
in_part = keyword_part words.In (codes "in") is_in (refl, (refl, tt))

pub not_part : Part IsReal (keyword words.Not) (keyword words.Not) Always (read_keyword words.Not)
not_part = keyword_part words.Not (codes "not") is_not (refl, (refl, (refl, tt)))

-- ---- names and operands

x_is_free : keyword_of (codes "x") ≡ None
unfolding keyword_of
x_is_free = refl

pub constant_part : Part IsReal (one constant_value) (one constant_value) Always (take_one true constant_value)
constant_part = one_part constant_value (made (kinds.Quoted [])) (Data (datum.Text [])) refl real_quoted

pub op_part : Part IsReal (one op_value) (one op_value) Always (take_one true op_value)
op_part = one_part op_value (made (kinds.Sign signs.Eq)) op.Eq refl (sign_text signs.Eq, refl)

named_is_free : {A : Type 0} (x v : A) (o : Option Keyword) → named x o ≡ Some v → is_free o ≡ true
named_is_free x v None e = refl
named_is_free x v (Some k) e = absurd cc

op_no_keyword : (w : Keyword) (k : TokenKind) (v : Op) → op_kind_value k ≡ Some v → is_keyword_kind w k ≡ false
op_no_keyword w (kinds.Name n) v e = absurd cc
op_no_keyword w (kinds.Quoted n) v e = refl
op_no_keyword w (kinds.Int n) v e = refl
op_no_keyword w (kinds.Sign n) v e = refl

pub op_opens_no_keyword : (w : Keyword) → Opens (one op_value) (λ t. is_keyword w t ≡ false)
op_opens_no_keyword w = opens_one op_value _ (λ t v e. op_no_keyword w t.kind v e)

-- a keyword of all versions has a small number
early_rank : (w : Keyword) → is_late w ≡ false → rank w < 9
early_rank words.Input e = omega arith
early_rank words.Output e = omega arith
early_rank words.Where e = omega arith
early_rank words.Create e = omega arith
early_rank words.Link e = omega arith
early_rank words.Collect e = omega arith
early_rank words.Not e = omega arith
early_rank words.In e = omega arith
early_rank words.True e = omega arith
early_rank words.NoneOf e = absurd cc
early_rank words.Order e = absurd cc
early_rank words.By e = absurd cc
early_rank words.Of e = absurd cc
early_rank words.Descend e = absurd cc
early_rank words.Fold e = absurd cc

-- and one of version 3 a great one
late_rank : (w : Keyword) → is_late w ≡ true → 9 ≤ rank w
late_rank words.Input e = absurd cc
late_rank words.Output e = absurd cc
late_rank words.Where e = absurd cc
late_rank words.Create e = absurd cc
late_rank words.Link e = absurd cc
late_rank words.Collect e = absurd cc
late_rank words.Not e = absurd cc
late_rank words.In e = absurd cc
late_rank words.True e = absurd cc
late_rank words.NoneOf e = omega arith
late_rank words.Order e = omega arith
late_rank words.By e = omega arith
late_rank words.Of e = omega arith
late_rank words.Descend e = omega arith
late_rank words.Fold e = omega arith

-- what isn't kept in a version is no keyword of all versions
late_not_found : (w k : Keyword) → is_late w ≡ false → is_late k ≡ true → is_found w (Some k) ≡ false
late_not_found w k early late =
    differ (rank k) (rank w) (nat_eq (rank k) (rank w)) refl (early_rank w early) (late_rank k late)
  where
    differ : (n m : ℕ) (b : Bool) → nat_eq n m ≡ b → m < 9 → 9 ≤ n → b ≡ false
    differ n m false is less more = refl
    differ n m true is less more = let same = eqb-true n m is in absurd omega (arith, same, less, more)

named_not_found : {A : Type 0} (x v : A) (version : ℕ) (w : Keyword) (o : Option Keyword) → is_late w ≡ false → named x (in_version version o) ≡ Some v → is_found w o ≡ false
named_not_found x v version w None early e = refl
named_not_found x v version w (Some k) early e = kept (is_late k) refl (nat_eq version 3) e
  where
    kept : (late : Bool) → is_late k ≡ late → (three : Bool) → named x (if late && not three then None else Some k) ≡ Some v → is_found w (Some k) ≡ false
    kept false is three e = absurd cc
    kept true is true e = absurd cc
    kept true is false e = late_not_found w k early is

-- by the version
module _ (version : ℕ) where
  pub name_part : Part IsReal (name version) (name version) Always (read_name version)
  name_part = one_part (name_value version) (made (kinds.Name (codes "x"))) (record { text = codes "x"; span = somewhere }) (rw x_is_free refl) (codes "x", (refl, (refl, tt)))

  pub collection_part : Part IsReal (collection version) (collection version) Always (read_collection version)
  collection_part = one_part (collection_value version) (made (kinds.Quoted [])) (record { text = []; span = somewhere }) refl real_quoted

  pub operand_part : Part IsReal (operand version) (operand version) Always (read_operand version)
  operand_part = one_part (operand_value version) (made (kinds.Quoted [])) (Constant (Data (datum.Text [])) somewhere) refl real_quoted

  pub label_part : Part IsReal (one (label_value version)) (one (label_value version)) Always (take_one true (label_value version))
  label_part = one_part (label_value version) (made (kinds.Quoted [])) (label.Quoted []) refl real_quoted

  name_is : (span : Span) (k : TokenKind) (v : Word) → name_kind_value version span k ≡ Some v → is_name_kind version k ≡ true
  name_is span (kinds.Name n) v e = named_is_free (record { text = n; span = span }) v (keyword_in version n) e
  name_is span (kinds.Quoted n) v e = absurd cc
  name_is span (kinds.Int n) v e = absurd cc
  name_is span (kinds.Sign n) v e = absurd cc

  pub name_opens : Opens (name version) (λ t. is_name version t ≡ true)
  name_opens = opens_one (name_value version) (λ t. is_name version t ≡ true) (λ t v e. name_is t.span t.kind v e)

  operand_no_sign : (s : Sign) (span : Span) (k : TokenKind) (v : Operand) → operand_kind_value version span k ≡ Some v → is_sign_kind s k ≡ false
  operand_no_sign s span (kinds.Name n) v e = refl
  operand_no_sign s span (kinds.Quoted n) v e = refl
  operand_no_sign s span (kinds.Int n) v e = refl
  operand_no_sign s span (kinds.Sign n) v e = absurd cc

  pub operand_opens_no_sign : (s : Sign) → Opens (operand version) (λ t. is_sign s t ≡ false)
  operand_opens_no_sign s = opens_one (operand_value version) _ (λ t v e. operand_no_sign s t.span t.kind v e)

  operand_no_keyword : (w : Keyword) → is_late w ≡ false → (span : Span) (k : TokenKind) (v : Operand) → operand_kind_value version span k ≡ Some v → is_keyword_kind w k ≡ false
  operand_no_keyword w early span (kinds.Name n) v e = named_not_found (Variable n span) v version w (keyword_of n) early e
  operand_no_keyword w early span (kinds.Quoted n) v e = refl
  operand_no_keyword w early span (kinds.Int n) v e = refl
  operand_no_keyword w early span (kinds.Sign n) v e = absurd cc

  pub operand_opens_no_keyword : (w : Keyword) → is_late w ≡ false → Opens (operand version) (λ t. is_keyword w t ≡ false)
  operand_opens_no_keyword w early = opens_one (operand_value version) _ (λ t v e. operand_no_keyword w early t.span t.kind v e)

-- a comparison by its sign's number
unfoldable op_numbered : ℕ → Option Op
op_numbered n =
    if nat_eq n 10 then Some op.Eq
    else (if nat_eq n 11 then Some op.Ne
    else (if nat_eq n 12 then Some op.Lt
    else (if nat_eq n 13 then Some op.Le
    else (if nat_eq n 14 then Some op.Gt
    else (if nat_eq n 15 then Some op.Ge
    else None)))))

op_is_numbered : (s : Sign) → op_sign s ≡ op_numbered (number s)
unfolding op_numbered
op_is_numbered signs.Arrow = refl
op_is_numbered signs.OpenParen = refl
op_is_numbered signs.CloseParen = refl
op_is_numbered signs.OpenBrace = refl
op_is_numbered signs.CloseBrace = refl
op_is_numbered signs.Comma = refl
op_is_numbered signs.Dot = refl
op_is_numbered signs.Bar = refl
op_is_numbered signs.Star = refl
op_is_numbered signs.Amp = refl
op_is_numbered signs.Eq = refl
op_is_numbered signs.Ne = refl
op_is_numbered signs.Lt = refl
op_is_numbered signs.Le = refl
op_is_numbered signs.Gt = refl
op_is_numbered signs.Ge = refl

op_by_number : (r s : Sign) → number r ≡ number s → op_sign r ≡ op_sign s
op_by_number r s e = op_is_numbered r ∙ ap op_numbered e ∙ sym (op_is_numbered s)

-- a comparison's sign is neither an arrow nor a parenthesis
op_no_sign : (s : Sign) → op_sign s ≡ None → (k : TokenKind) (v : Op) → op_kind_value k ≡ Some v → is_sign_kind s k ≡ false
op_no_sign s none (kinds.Name n) v e = refl
op_no_sign s none (kinds.Quoted n) v e = refl
op_no_sign s none (kinds.Int n) v e = refl
op_no_sign s none (kinds.Sign r) v e = differs r s v none e (nat_eq (number r) (number s)) refl
  where
    differs : (r s : Sign) (v : Op) → op_sign s ≡ None → op_sign r ≡ Some v → (b : Bool) → nat_eq (number r) (number s) ≡ b → b ≡ false
    differs r s v none e false is = refl
    differs r s v none e true is = let same = op_by_number r s (eqb-true (number r) (number s) is) in absurd cc

pub op_opens_no_sign : (s : Sign) → op_sign s ≡ None → Opens (one op_value) (λ t. is_sign s t ≡ false)
op_opens_no_sign s none = opens_one op_value _ (λ t v e. op_no_sign s none t.kind v e)
