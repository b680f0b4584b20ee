-- Each part of a path expression with its reader.
use Rattle.std.proofs.Common.{◌≡◌, ℕ, zero, suc, ◌+◌, ◌<◌, ◌≤◌, Bool, true, false, cond, nat_eq, List, [], ◌∷◌, ◌++◌, Option, Some, None, refl, sym, subst, inl, inr, arith}
use Rattle.std.proofs.lemmas.List.{append-nil}
use Rattle.sd_lex.specs.declared.token.Span.{Span}
use Rattle.sd_lex.specs.declared.token.Token.{Token}
use Rattle.sd_lex.specs.declared.token.TokenKind.{TokenKind}
use Rattle.sd_lex.specs.declared.token.TokenKind.TheVariants as kinds
use Rattle.sd_lex.specs.declared.token.Sign.{Sign}
use Rattle.sd_lex.specs.declared.token.Sign.TheVariants as signs
use Rattle.rpe.specs.Regex.{label, any, empty, seq as seq_of, alt as alt_of, star as star_of}
use Rattle.grammar.specs.Grammar.{one, either}
use Rattle.grammar.proofs.Parts.{Opens, opens_one, opens_then, opens_either, Part, ◌>>=◌, give_part, one_part, then_part, then_opens, weaken_part, either_part, bar_part, iterate_part, iterate_follow, part_within, some_part, iterated_map}
use Rattle.grammar.specs.Reading.{Outcome}
use Rattle.grammar.proofs.Laws.{Always, Stops}
use Rattle.struql_text.specs.declared.keyword.Keyword.{Keyword}
use Rattle.struql_text.specs.declared.keyword.Keyword.TheVariants as words
use Rattle.struql_text.specs.Terminals.{from_to, is_name, is_name_kind, is_free, is_found, in_version, keyword_of}
use Rattle.token_reader.specs.Terminals.{is_sign, is_sign_kind, number}
use Rattle.struql_text.specs.Expression.{sign, Leaf, Counted, Limits, bounded, unbounded, leaf_kind, leaf_value, leaf, empty_close, inner_close, paren, star_step, post, dot_step, seq, bar_step, alt, expression, expression_within, expression_spelled}
use Rattle.struql_text.specs.Reading.{read_leaf, read_empty_close, read_within, read_paren, read_star_step, read_post, read_dot_step, read_seq, read_bar_step, read_alt, read_atom, read_expression}
use Rattle.struql_text.proofs.TokenParts.{somewhere, sign_no_name, sign_opens, sign_part, is_that}
use Rattle.token_reader.proofs.Terminals.{made, other_sign}
use Rattle.token_reader.specs.Gives.{IsReal}
use Rattle.grammar.specs.Fault.{Every}
use Rattle.token_reader.proofs.Terminals.{real_quoted}

leaf_part : (n : ℕ) → Part IsReal (leaf n) (leaf n) Always (read_leaf n)
unfolding read_leaf
leaf_part n = do
  l ← one_part leaf_value (made (kinds.Quoted [])) (record { tree = label []; span = somewhere }) refl real_quoted
  give_part (record { tree = l.tree; span = l.span; signs = n })

some_if : (b : Bool) (x v : Leaf) → cond b (Some x) None ≡ Some v → b ≡ true
some_if true x v e = refl
some_if false x v e = absurd cc

-- no other sign than the star is a leaf
leaf_not : (s : Sign) (span : Span) (k : TokenKind) (v : Leaf) → nat_eq (number signs.Star) (number s) ≡ false → leaf_kind span k ≡ Some v → is_sign_kind s k ≡ false
leaf_not s span (kinds.Name n) v d e = refl
leaf_not s span (kinds.Quoted q) v d e = refl
leaf_not s span (kinds.Int i) v d e = refl
leaf_not s span (kinds.Sign r) v d e = other_sign signs.Star s (kinds.Sign r) d (some_if (is_sign_kind signs.Star (kinds.Sign r)) (record { tree = star_of any; span = span }) v e)

true_no_name : (version : ℕ) (o : Option Keyword) (x v : Leaf) → cond (is_found words.True o) (Some x) None ≡ Some v → is_free (in_version version o) ≡ false
true_no_name version None x v e = absurd cc
true_no_name version (Some words.True) x v e = refl
true_no_name version (Some words.Input) x v e = absurd cc
true_no_name version (Some words.Output) x v e = absurd cc
true_no_name version (Some words.Where) x v e = absurd cc
true_no_name version (Some words.Create) x v e = absurd cc
true_no_name version (Some words.Link) x v e = absurd cc
true_no_name version (Some words.Collect) x v e = absurd cc
true_no_name version (Some words.Not) x v e = absurd cc
true_no_name version (Some words.In) x v e = absurd cc
true_no_name version (Some words.NoneOf) x v e = absurd cc
true_no_name version (Some words.Order) x v e = absurd cc
true_no_name version (Some words.By) x v e = absurd cc
true_no_name version (Some words.Of) x v e = absurd cc
true_no_name version (Some words.Descend) x v e = absurd cc
true_no_name version (Some words.Fold) x v e = absurd cc

-- a leaf is no name
leaf_no_name : (version : ℕ) (span : Span) (k : TokenKind) (v : Leaf) → leaf_kind span k ≡ Some v → is_name_kind version k ≡ false
leaf_no_name version span (kinds.Name n) v e = true_no_name version (keyword_of n) (record { tree = any; span = span }) v e
leaf_no_name version span (kinds.Quoted q) v e = refl
leaf_no_name version span (kinds.Int i) v e = refl
leaf_no_name version span (kinds.Sign r) v e = refl

-- behind a post no star stands, behind a seq no dot either, behind an alt no bar either
abbrev pub AfterSeq : List Token → Type 0
AfterSeq rest = Stops (is_sign signs.Star) rest × Stops (is_sign signs.Dot) rest

abbrev pub AfterAlt : List Token → Type 0
AfterAlt rest = AfterSeq rest × Stops (is_sign signs.Bar) rest

pub star_step_part : (e : Counted) → Part IsReal (star_step e) (star_step e) Always (read_star_step e)
unfolding read_star_step
star_step_part e = do
  star ← sign_part signs.Star refl
  give_part (record { tree = star_of e.tree; span = from_to e.span star; signs = e.signs })

pub star_opens : (e : Counted) → Opens (star_step e) (λ t. is_sign signs.Star t ≡ true)
star_opens e = opens_then (sign signs.Star) _ _ (sign_opens signs.Star _ (λ t is. is))

module _ (atom atom_all : ℕ → List Token → Counted → Type 0) (read_atom : ℕ → List Token → Outcome Token Counted) (atom_part : (n : ℕ) → Part IsReal (atom n) (atom_all n) Always (read_atom n)) where
  post_part : (n : ℕ) → Part IsReal (post bounded atom n) (post unbounded atom_all n) (Stops (is_sign signs.Star)) (read_post read_atom n)
  unfolding read_post
  post_part n = do
    a ← atom_part n
    iterate_part (is_sign signs.Star) (λ e. bounded.star e.tree) star_step star_step Always (Stops (is_sign signs.Star)) read_star_step star_step_part star_opens
        (λ rest f. f) (λ _ _ _. tt) (λ _ _. tt)
        (λ e t is. ([], record { tree = star_of e.tree; span = from_to e.span t.span; signs = e.signs }, (t ∷ [], [], t.span, refl, is_that signs.Star t is, (refl, refl)), tt)) a

  dot_step_part : (e : Counted) → Part IsReal (dot_step bounded atom e) (dot_step unbounded atom_all e) (Stops (is_sign signs.Star)) (read_dot_step read_atom e)
  unfolding read_dot_step
  dot_step_part e = do
    _ ← sign_part signs.Dot refl
    then_part (post_part (e.signs + 1))
        (λ right. weaken_part _ (λ _ _. tt) (give_part (record { tree = seq_of e.tree right.tree; span = from_to e.span right.span; signs = right.signs })))
        (λ right y w rest h f. subst (λ x. Stops (is_sign signs.Star) (x ++ rest)) (sym h.0) f)

  dot_opens : (e : Counted) → Opens (dot_step unbounded atom_all e) (λ t. is_sign signs.Dot t ≡ true)
  dot_opens e = opens_then (sign signs.Dot) _ _ (sign_opens signs.Dot _ (λ t is. is))

  dot_opened : (e : Counted) (t : Token) → is_sign signs.Dot t ≡ true → (x : List Token) × (v : Counted) × dot_step unbounded atom_all e (t ∷ x) v × Every IsReal x
  dot_opened e t is =
      let p = post_part (e.signs + 1) in
      let right = p.phrase.1 in (
        p.phrase.0,
        record { tree = seq_of e.tree right.tree; span = from_to e.span right.span; signs = right.signs },
        (t ∷ [], p.phrase.0, t.span, refl, is_that signs.Dot t is, (p.phrase.0, [], right, sym (append-nil p.phrase.0), part_within p p.phrase.0 right p.phrase.2, (refl, refl))),
        p.phrase.3,
      )

  seq_part : (n : ℕ) → Part IsReal (seq bounded atom n) (seq unbounded atom_all n) AfterSeq (read_seq read_atom n)
  unfolding read_seq
  seq_part n =
      then_part (post_part n)
      (iterate_part (is_sign signs.Dot) (λ e. bounded.sign e.signs) (dot_step bounded atom) (dot_step unbounded atom_all) (Stops (is_sign signs.Star)) AfterSeq (read_dot_step read_atom) dot_step_part dot_opens
      (λ rest f. f.1) (λ t later is. other_sign signs.Dot signs.Star t.kind refl is) (λ rest f. f.0) dot_opened)
      (λ e y last rest h f. iterate_follow (is_sign signs.Dot) (λ e. bounded.sign e.signs) (dot_step bounded atom) (dot_step unbounded atom_all) (Stops (is_sign signs.Star)) AfterSeq (read_dot_step read_atom) dot_step_part dot_opens
      (λ rest f. f.1) (λ t later is. other_sign signs.Dot signs.Star t.kind refl is) (λ rest f. f.0) dot_opened y e last rest h f)

  bar_step_part : (e : Counted) → Part IsReal (bar_step bounded atom e) (bar_step unbounded atom_all e) AfterSeq (read_bar_step read_atom e)
  unfolding read_bar_step
  bar_step_part e = do
    _ ← sign_part signs.Bar refl
    then_part (seq_part (e.signs + 1))
        (λ right. weaken_part _ (λ _ _. tt) (give_part (record { tree = alt_of e.tree right.tree; span = from_to e.span right.span; signs = right.signs })))
        (λ right y w rest h f. subst (λ x. AfterSeq (x ++ rest)) (sym h.0) f)

  bar_opens : (e : Counted) → Opens (bar_step unbounded atom_all e) (λ t. is_sign signs.Bar t ≡ true)
  bar_opens e = opens_then (sign signs.Bar) _ _ (sign_opens signs.Bar _ (λ t is. is))

  bar_opened : (e : Counted) (t : Token) → is_sign signs.Bar t ≡ true → (x : List Token) × (v : Counted) × bar_step unbounded atom_all e (t ∷ x) v × Every IsReal x
  bar_opened e t is =
      let p = seq_part (e.signs + 1) in
      let right = p.phrase.1 in (
        p.phrase.0,
        record { tree = alt_of e.tree right.tree; span = from_to e.span right.span; signs = right.signs },
        (t ∷ [], p.phrase.0, t.span, refl, is_that signs.Bar t is, (p.phrase.0, [], right, sym (append-nil p.phrase.0), part_within p p.phrase.0 right p.phrase.2, (refl, refl))),
        p.phrase.3,
      )

  alt_part : (n : ℕ) → Part IsReal (alt bounded atom n) (alt unbounded atom_all n) AfterAlt (read_alt read_atom n)
  unfolding read_alt
  alt_part n =
      then_part (seq_part n)
      (iterate_part (is_sign signs.Bar) (λ e. bounded.sign e.signs) (bar_step bounded atom) (bar_step unbounded atom_all) AfterSeq AfterAlt (read_bar_step read_atom) bar_step_part bar_opens
      (λ rest f. f.1) (λ t later is. (other_sign signs.Bar signs.Star t.kind refl is, other_sign signs.Bar signs.Dot t.kind refl is)) (λ rest f. f.0) bar_opened)
      (λ e y last rest h f. iterate_follow (is_sign signs.Bar) (λ e. bounded.sign e.signs) (bar_step bounded atom) (bar_step unbounded atom_all) AfterSeq AfterAlt (read_bar_step read_atom) bar_step_part bar_opens
      (λ rest f. f.1) (λ t later is. (other_sign signs.Bar signs.Star t.kind refl is, other_sign signs.Bar signs.Dot t.kind refl is)) (λ rest f. f.0) bar_opened y e last rest h f)

leaf_opens : (s : Sign) → nat_eq (number signs.Star) (number s) ≡ false → (n : ℕ) → Opens (leaf n) (λ t. is_sign s t ≡ false)
leaf_opens s d n = opens_then (one leaf_value) _ _ (opens_one leaf_value _ (λ t v e. leaf_not s t.span t.kind v d e))

-- an expression opens with what an atom opens with
alt_opens : (atom : ℕ → List Token → Counted → Type 0) (W : Token → Type 0) (n : ℕ) → Opens (atom n) W → Opens (alt unbounded atom n) W
alt_opens atom W n opens = opens_then (seq unbounded atom n) _ W (opens_then (post unbounded atom n) _ W (opens_then (atom n) _ W opens))

expression_opens : (s : Sign) → nat_eq (number signs.Star) (number s) ≡ false → nat_eq (number signs.OpenParen) (number s) ≡ false → (depth n : ℕ) → Opens (expression unbounded depth n) (λ t. is_sign s t ≡ false)
expression_opens s d p zero n = alt_opens leaf _ n (leaf_opens s d n)
expression_opens s d p (suc depth) n =
    alt_opens (λ n. either (paren (expression unbounded depth) n) (leaf n)) _ n
    (opens_either (paren (expression unbounded depth) n) (leaf n) _ (opens_then (sign signs.OpenParen) _ _ (sign_opens signs.OpenParen _ (λ t is. other_sign signs.OpenParen s t.kind p is))) (leaf_opens s d n))

leaf_opens_no_name : (version n : ℕ) → Opens (leaf n) (λ t. is_name version t ≡ false)
leaf_opens_no_name version n = opens_then (one leaf_value) _ _ (opens_one leaf_value _ (λ t v e. leaf_no_name version t.span t.kind v e))

-- an expression opens with no name
pub expression_opens_no_name : (version depth n : ℕ) → Opens (expression unbounded depth n) (λ t. is_name version t ≡ false)
expression_opens_no_name version zero n = alt_opens leaf _ n (leaf_opens_no_name version n)
expression_opens_no_name version (suc depth) n =
    alt_opens (λ n. either (paren (expression unbounded depth) n) (leaf n)) _ n
    (opens_either (paren (expression unbounded depth) n) (leaf n) _ (opens_then (sign signs.OpenParen) _ _ (sign_opens signs.OpenParen _ (λ t. sign_no_name version signs.OpenParen t.kind))) (leaf_opens_no_name version n))

paren_opens : (inner : ℕ → List Token → Counted → Type 0) (n : ℕ) → Opens (paren inner n) (λ t. is_sign signs.OpenParen t ≡ true)
paren_opens inner n = opens_then (sign signs.OpenParen) _ _ (sign_opens signs.OpenParen _ (λ t is. is))

empty_close_part : (opening : Span) (n : ℕ) → Part IsReal (empty_close opening n) (empty_close opening n) Always (read_empty_close opening n)
unfolding read_empty_close
empty_close_part opening n = do
  close ← sign_part signs.CloseParen refl
  give_part (record { tree = empty; span = from_to opening close; signs = n })

module _ (inner inner_all : ℕ → List Token → Counted → Type 0) (read_inner : ℕ → List Token → Outcome Token Counted) (inner_part : (n : ℕ) → Part IsReal (inner n) (inner_all n) AfterAlt (read_inner n))
    (inner_opens : (n : ℕ) → Opens (inner_all n) (λ t. is_sign signs.CloseParen t ≡ false)) where
  inner_close_part : (opening : Span) (n : ℕ) → Part IsReal (inner_close inner opening n) (inner_close inner_all opening n) Always (read_within read_inner opening n)
  unfolding read_within
  inner_close_part opening n =
      then_opens (λ t. is_sign signs.CloseParen t ≡ true) (inner_part n)
      (λ e. do
        close ← sign_part signs.CloseParen refl
        give_part (record { tree = e.tree; span = from_to opening close; signs = e.signs }))
      (λ e. opens_then (sign signs.CloseParen) _ _ (sign_opens signs.CloseParen _ (λ t is. is)))
      (λ t later is. ((other_sign signs.CloseParen signs.Star t.kind refl is, other_sign signs.CloseParen signs.Dot t.kind refl is), other_sign signs.CloseParen signs.Bar t.kind refl is))

  paren_part : (n : ℕ) → Part IsReal (paren inner n) (paren inner_all n) Always (read_paren read_inner n)
  unfolding read_paren
  paren_part n = do
    opening ← sign_part signs.OpenParen refl
    either_part (is_sign signs.CloseParen) (empty_close_part opening n) (inner_close_part opening n)
        (opens_then (sign signs.CloseParen) _ _ (sign_opens signs.CloseParen _ (λ t is. is)))
        (opens_then (inner_all n) _ _ (inner_opens n))

-- an open parenthesis begins an atom
paren_opened : (inner : ℕ → List Token → Counted → Type 0) (n : ℕ) (t : Token) → is_sign signs.OpenParen t ≡ true → (x : List Token) × (v : Counted) × paren inner n (t ∷ x) v × Every IsReal x
paren_opened inner n t is =
    let close = made (kinds.Sign signs.CloseParen) in
    (close ∷ [], record { tree = empty; span = from_to t.span somewhere; signs = n }, (t ∷ [], close ∷ [], t.span, refl, is_that signs.OpenParen t is, inl (close ∷ [], [], somewhere, refl, (close, refl, refl), (refl, refl))), ((41 ∷ [], refl), tt))

-- what an atom is with so many parentheses at once
abbrev pub atoms : Limits → ℕ → ℕ → List Token → Counted → Type 0
atoms limits zero = leaf
atoms limits (suc depth) = λ n. either (paren (expression limits depth) n) (leaf n)

in_terms : (depth deeper n : ℕ) → Part IsReal (alt bounded (atoms bounded depth) n) (alt unbounded (atoms unbounded deeper) n) AfterAlt (read_expression depth n) → Part IsReal (expression bounded depth n) (expression unbounded deeper n) AfterAlt (read_expression depth n)
in_terms zero zero n part = part
in_terms zero (suc deeper) n part = part
in_terms (suc depth) zero n part = part
in_terms (suc depth) (suc deeper) n part = part

-- with `depth` parentheses at most within the limits, and more of them beyond
pub atom_part : (depth deeper : ℕ) → depth < deeper → (n : ℕ) → Part IsReal (atoms bounded depth n) (atoms unbounded deeper n) Always (read_atom depth n)
unfolding read_atom
atom_part zero zero less n = absurd (omega arith)
atom_part (suc depth) zero less n = absurd (omega arith)
atom_part zero (suc deeper) less n =
    bar_part (is_sign signs.OpenParen) (paren (expression unbounded deeper) n) (leaf_part n) (paren_opens (expression unbounded deeper) n) (leaf_opens signs.OpenParen refl n) (paren_opened (expression unbounded deeper) n)
atom_part (suc depth) (suc deeper) less n =
    either_part (is_sign signs.OpenParen)
    (paren_part (expression bounded depth) (expression unbounded deeper) (read_expression depth)
    (λ m. in_terms depth deeper m (alt_part (atoms bounded depth) (atoms unbounded deeper) (read_atom depth) (atom_part depth deeper (omega arith)) m))
    (expression_opens signs.CloseParen refl refl deeper) n)
    (leaf_part n) (paren_opens (expression unbounded deeper) n) (leaf_opens signs.OpenParen refl n)

pub expression_part : (depth deeper : ℕ) → depth < deeper → (n : ℕ) → Part IsReal (expression bounded depth n) (expression unbounded deeper n) AfterAlt (read_expression depth n)
expression_part depth deeper less n = in_terms depth deeper n (alt_part (atoms bounded depth) (atoms unbounded deeper) (read_atom depth) (atom_part depth deeper less) n)

-- more parentheses at once spell more

alt_map : (P Q : ℕ → List Token → Counted → Type 0) → ((n : ℕ) (x : List Token) (v : Counted) → P n x v → Q n x v) → (n : ℕ) (x : List Token) (v : Counted) → alt unbounded P n x v → alt unbounded Q n x v
alt_map P Q more = in_alt
  where
    in_post : (n : ℕ) (x : List Token) (v : Counted) → post unbounded P n x v → post unbounded Q n x v
    in_post n x v h = (h.0, h.1, h.2, h.3, more n h.0 h.2 h.4, h.5)

    in_dot : (e : Counted) (x : List Token) (v : Counted) → dot_step unbounded P e x v → dot_step unbounded Q e x v
    in_dot e x v h = (h.0, h.1, h.2, h.3, h.4, (h.5.0, h.5.1, h.5.2, h.5.3, in_post (e.signs + 1) h.5.0 h.5.2 h.5.4, h.5.5))

    in_seq : (n : ℕ) (x : List Token) (v : Counted) → seq unbounded P n x v → seq unbounded Q n x v
    in_seq n x v h = (h.0, h.1, h.2, h.3, in_post n h.0 h.2 h.4, iterated_map (dot_step unbounded P) (dot_step unbounded Q) in_dot h.2 h.1 v h.5)

    in_bar : (e : Counted) (x : List Token) (v : Counted) → bar_step unbounded P e x v → bar_step unbounded Q e x v
    in_bar e x v h = (h.0, h.1, h.2, h.3, h.4, (h.5.0, h.5.1, h.5.2, h.5.3, in_seq (e.signs + 1) h.5.0 h.5.2 h.5.4, h.5.5))

    in_alt : (n : ℕ) (x : List Token) (v : Counted) → alt unbounded P n x v → alt unbounded Q n x v
    in_alt n x v h = (h.0, h.1, h.2, h.3, in_seq n h.0 h.2 h.4, iterated_map (bar_step unbounded P) (bar_step unbounded Q) in_bar h.2 h.1 v h.5)

paren_map : (P Q : ℕ → List Token → Counted → Type 0) → ((n : ℕ) (x : List Token) (v : Counted) → P n x v → Q n x v) → (n : ℕ) (x : List Token) (v : Counted) → either (paren P n) (leaf n) x v → either (paren Q n) (leaf n) x v
paren_map P Q more n x v (inr h) = inr h
paren_map P Q more n x v (inl h) = inl (h.0, h.1, h.2, h.3, h.4, closed h.2 h.1 v h.5)
  where
    closed : (o : Span) (y : List Token) (w : Counted) → either (empty_close o n) (inner_close P o n) y w → either (empty_close o n) (inner_close Q o n) y w
    closed o y w (inl k) = inl k
    closed o y w (inr k) = inr (k.0, k.1, k.2, k.3, more n k.0 k.2 k.4, k.5)

deeper : (d e : ℕ) (n : ℕ) (x : List Token) (v : Counted) → d ≤ e → expression unbounded d n x v → expression unbounded e n x v
deeper zero zero n x v le h = h
deeper zero (suc e) n x v le h = alt_map leaf (λ n. either (paren (expression unbounded e) n) (leaf n)) (λ n x v k. inr k) n x v h
deeper (suc d) zero n x v le h = absurd (omega arith)
deeper (suc d) (suc e) n x v le h =
    alt_map (λ n. either (paren (expression unbounded d) n) (leaf n)) (λ n. either (paren (expression unbounded e) n) (leaf n))
    (λ n. paren_map (expression unbounded d) (expression unbounded e) (λ n x v. deeper d e n x v (omega arith)) n) n x v h

-- the expression that begins a text, within the limits and at all
pub limited_part : Part IsReal expression_within expression_spelled AfterAlt (read_expression 64 0)
limited_part = some_part expression_within (λ depth. expression unbounded depth 0) AfterAlt (read_expression 64 0) 65 (λ n le. expression_part 64 n (omega arith) 0) (λ n m x v le h. deeper n m 0 x v le h)
