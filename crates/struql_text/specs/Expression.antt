-- The grammar of path expressions.
--
--   alt  := seq { "|" seq }     seq := post { "." post }     post := atom { "*" }
--   atom := Quoted | "true" | "*" | "(" ( ")" | alt ")" )
--
-- A repetition groups to the left. The place of an expression is that of its tokens.
use Rattle.std.specs.Prelude.{ℕ, zero, suc, ◌+◌, Bool, true, List, Option, Some, None, if◌then◌else◌, nat_lt}
use Rattle.sd_lex.specs.declared.token.Span.{Span}
use Rattle.sd_lex.specs.declared.token.Token.{Token}
use Rattle.sd_lex.specs.declared.token.TokenKind.{TokenKind}
use Rattle.sd_lex.specs.declared.token.TokenKind.TheVariants as kinds
use Rattle.sd_lex.specs.declared.token.Sign.{Sign}
use Rattle.sd_lex.specs.declared.token.Sign.TheVariants as signs
use Rattle.rpe.specs.Regex.{Regex, label, any, empty, seq as seq_of, alt as alt_of, star as star_of}
use Rattle.grammar.specs.Grammar.{nothing, one, ◌>>=◌, ◌>>◌, either, iterated, guarded}
use Rattle.struql_text.specs.declared.keyword.Keyword.{Keyword}
use Rattle.struql_text.specs.declared.keyword.Keyword.TheVariants as words
use Rattle.struql_text.specs.Terminals.{from_to, sign_value, keyword_of, is_found, keyword_value}
use Rattle.token_reader.specs.Terminals.{is_sign_kind}

-- a sign, whose value is its place
abbrev pub sign : Sign → List Token → Span → Type 0
sign s = one (sign_value s)

-- a keyword, whose value is its place
abbrev pub keyword : Keyword → List Token → Span → Type 0
keyword k = one (keyword_value k)

-- an expression, its place, and how many signs `.` and `|` the text has up to its end
pub record Counted : Type 0 where
  pub tree : Regex
  pub span : Span
  pub signs : ℕ

-- how many Stars are directly one within another at the top
abbrev pub stars : Regex → ℕ
stars (star_of r) = stars r + 1
stars (label l) = 0
stars any = 0
stars empty = 0
stars (seq_of a b) = 0
stars (alt_of a b) = 0

-- Whether one more sign, or one more Star around the tree, is within the limits.
pub record Limits : Type 0 where
  pub sign : ℕ → Bool
  pub star : Regex → Bool

-- those of this program
abbrev pub bounded : Limits
bounded = record { sign = λ n. nat_lt n 1023; star = λ t. nat_lt (stars t) 64 }

-- none
abbrev pub unbounded : Limits
unbounded = record { sign = λ n. true; star = λ t. true }

-- an expression of one token, and its place
pub record Leaf : Type 0 where
  pub tree : Regex
  pub span : Span

-- the expression that a token's kind is
abbrev pub leaf_kind : Span → TokenKind → Option Leaf
leaf_kind span (kinds.Name n) =
    if is_found words.True (keyword_of n) then Some (record { tree = any; span = span }) else None
leaf_kind span (kinds.Quoted q) = Some (record { tree = label q; span = span })
leaf_kind span (kinds.Int i) = None
leaf_kind span (kinds.Sign s) =
    if is_sign_kind signs.Star (kinds.Sign s) then Some (record {
      tree = star_of any;
      span = span;
    }) else None

-- a label, `true` or `*`
abbrev pub leaf_value : Token → Option Leaf
leaf_value t = leaf_kind t.span t.kind

-- an expression of one token, behind n signs
abbrev pub leaf : ℕ → List Token → Counted → Type 0
leaf n = do
  l ← one leaf_value
  nothing (record { tree = l.tree; span = l.span; signs = n })

-- the end of `()`, the empty path
abbrev pub empty_close : Span → ℕ → List Token → Counted → Type 0
empty_close opening n = do
  close ← sign signs.CloseParen
  nothing (record { tree = empty; span = from_to opening close; signs = n })

-- an expression, and the end of its parenthesis
abbrev pub inner_close : (ℕ → List Token → Counted → Type 0) → Span → ℕ → List Token → Counted
    → Type 0
inner_close inner opening n = do
  e ← inner n
  close ← sign signs.CloseParen
  nothing (record { tree = e.tree; span = from_to opening close; signs = e.signs })

-- a parenthesis, with what may be in it
abbrev pub paren : (ℕ → List Token → Counted → Type 0) → ℕ → List Token → Counted → Type 0
paren inner n = do
  opening ← sign signs.OpenParen
  either (empty_close opening n) (inner_close inner opening n)

-- a star behind an expression
abbrev pub star_step : Counted → List Token → Counted → Type 0
star_step e = do
  star ← sign signs.Star
  nothing (record { tree = star_of e.tree; span = from_to e.span star; signs = e.signs })

module _ (limits : Limits) (atom : ℕ → List Token → Counted → Type 0) where
  -- an atom with the stars behind it
  abbrev pub post : ℕ → List Token → Counted → Type 0
  post n = do
    a ← atom n
    iterated (λ e. guarded (limits.star e.tree) (star_step e)) a

  -- a dot, and what comes next on the path
  abbrev pub dot_step : Counted → List Token → Counted → Type 0
  dot_step e = do
    sign signs.Dot
    right ← post (e.signs + 1)
    nothing (record {
      tree = seq_of e.tree right.tree;
      span = from_to e.span right.span;
      signs = right.signs;
    })

  -- a sequence, of one part or more
  abbrev pub seq : ℕ → List Token → Counted → Type 0
  seq n = do
    a ← post n
    iterated (λ e. guarded (limits.sign e.signs) (dot_step e)) a

  -- a bar, and the other choice
  abbrev pub bar_step : Counted → List Token → Counted → Type 0
  bar_step e = do
    sign signs.Bar
    right ← seq (e.signs + 1)
    nothing (record {
      tree = alt_of e.tree right.tree;
      span = from_to e.span right.span;
      signs = right.signs;
    })

  -- a choice, of one part or more
  abbrev pub alt : ℕ → List Token → Counted → Type 0
  alt n = do
    a ← seq n
    iterated (λ e. guarded (limits.sign e.signs) (bar_step e)) a

-- an expression with at most n open parentheses at once
abbrev pub expression : Limits → ℕ → ℕ → List Token → Counted → Type 0
expression limits zero = alt limits leaf
expression limits (suc depth) =
    alt limits (λ n. either (paren (expression limits depth) n) (leaf n))

-- within the limits of this program
abbrev pub expression_within : List Token → Counted → Type 0
expression_within = expression bounded 64 0

-- at all
abbrev pub expression_spelled : List Token → Counted → Type 0
expression_spelled tokens value = (depth : ℕ) × expression unbounded depth 0 tokens value
