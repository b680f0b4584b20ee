-- The tokens of a condition's canonical text spell it.
use Rattle.std.proofs.Common.{◌≡◌, ℕ, suc, Bool, true, false, List, [], ◌∷◌, ◌++◌, Some, None, refl, sym, ap, subst, ◌∙◌, append_assoc, inl, inr}
use Rattle.std.specs.Prelude.{Option, nat_eq, codes}
use Rattle.std.specs.Str.{bytes_eq}
use Rattle.std.proofs.lemmas.Slice.Eq.{bytes_eq-Decides}
use Rattle.std.proofs.lemmas.List.{append-nil}
use Rattle.sd_value.specs.declared.Datum.TheVariants as datum
use Rattle.sd_value.specs.declared.Value.{Value}
use Rattle.sd_value.specs.declared.Value.TheVariants.{Data, Page}
use Rattle.sd_lex.specs.declared.token.Token.{Token}
use Rattle.sd_lex.specs.declared.token.Span.{Span}
use Rattle.sd_lex.specs.declared.token.Sign.TheVariants as signs
use Rattle.struql_ast.specs.declared.Operand as declared
use Rattle.struql_ast.specs.declared.Operand.TheVariants as operand_kinds
use Rattle.struql_ast.specs.Reading.{operand_of}
use Rattle.struql_ast.specs.Written as tree
use Rattle.value_texts.specs.declared.TextTest.{TextTest}
use Rattle.query_spec.specs.declared.Op.{Op}
use Rattle.query_spec.specs.declared.Op.TheVariants.{Texts}
use Rattle.query_spec.specs.declared.Test.{Test}
use Rattle.token_reader.specs.Terminals.{is_sign}
use Rattle.query_spec.specs.Query.{Operand, variable, constant, PathStep, arc_variable, expression, Condition, member, path, compare, one_of, kind, negation}
use Rattle.grammar.specs.Grammar.{one, iterated}
use Rattle.struql_text.specs.declared.keyword.Keyword.{Keyword}
use Rattle.struql_text.specs.declared.keyword.Keyword.TheVariants as words
use Rattle.struql_text.specs.declared.keyword.Word.{Word}
use Rattle.struql_text.specs.Terminals.{from_to, is_keyword, name_value, collection_value, test_of, text_test_of, pair_test, operand_value, operand_span, constant_value}
use Rattle.struql_text.specs.Expression.{expression_within, keyword}
use Rattle.struql_text.specs.Grammar as text
use Rattle.struql_text.proofs.TokenParts.{is_that}
use Rattle.struql_round.specs.ShownParts.{step_kept, condition_kept, ShowsName, ShowsCollection, ShowsValue, ShowsOperand, ShowsStep, ShowsMore, ShowsListed, ShowsPair, ShowsInfix, ShowsComparison, ShowsPlain, ShowsCondition}
use Rattle.struql_round.proofs.Spelled.{spelt_within}

pub name_is : (version : ℕ) → (x : List ℕ) (t : Token) → ShowsName version x t → name_value version t ≡ Some (record { text = x; span = t.span })
name_is version x t h = rw (h.0, h.1) refl

pub collection_is : (version : ℕ) → (c : List ℕ) (t : Token) → ShowsCollection version c t → collection_value version t ≡ Some (record { text = c; span = t.span })
collection_is version c t (inl quoted) = rw quoted refl
collection_is version c t (inr (name, free)) = rw (name.0, name.1) refl

-- the operand that a token shows, with its place
abbrev pub placed : Operand → Span → declared.Operand
placed (variable x) span = operand_kinds.Variable x span
placed (constant v) span = operand_kinds.Constant v span

pub operand_is : (version : ℕ) → (o : Operand) (t : Token) → ShowsOperand version o t → operand_value version t ≡ Some (placed o t.span)
operand_is version (variable x) t h = rw (h.0, h.1) refl
operand_is version (constant (Data (datum.Int n))) t h = rw h refl
operand_is version (constant (Data (datum.Text s))) t h = rw h refl
operand_is version (constant (Data (datum.Url s))) t h = absurd h
operand_is version (constant (Data (datum.File s))) t h = absurd h
operand_is version (constant (Data (datum.Node s))) t h = absurd h
operand_is version (constant (Page p)) t h = absurd h

pub placed_kept : (o : Operand) (span : Span) → operand_of (placed o span) ≡ o
placed_kept (variable x) span = refl
placed_kept (constant v) span = refl

step_spelt : (version : ℕ) → (s : PathStep) (ts : List Token) → ShowsStep version s ts → (w : tree.Step) × text.step version expression_within ts w × (step_kept w ≡ s)
step_spelt version (arc_variable x) ts h = (tree.arc_variable x h.0.span, inl (ts, [], record { text = x; span = h.0.span }, rw h.1 refl, (h.0, h.1, name_is version x h.0 h.2), (refl, refl)), refl)
step_spelt version (expression r) ts h =
    let e = spelt_within r ts h.1 h.0 in
    (tree.expression r e.0, inr (ts, [], record { tree = r; span = e.0; signs = _ }, sym (append-nil ts), e.1, (refl, refl)), refl)

value_is : (v : Value) (t : Token) → ShowsValue v t → constant_value t ≡ Some v
value_is (Data (datum.Int n)) t h = rw h refl
value_is (Data (datum.Text s)) t h = rw h refl
value_is (Data (datum.Url s)) t h = absurd h
value_is (Data (datum.File s)) t h = absurd h
value_is (Data (datum.Node s)) t h = absurd h
value_is (Page p) t h = absurd h

pub is_word : (k : Keyword) (t : Token) → is_keyword k t ≡ true → keyword k (t ∷ []) t.span
is_word k t is = (t, refl, rw is refl)

more_spelt : (done vs : List Value) (ts : List Token) → ShowsMore vs ts → iterated (text.further (one constant_value)) done ts (done ++ vs)
more_spelt done [] ts h = (0, (h, append-nil done))
more_spelt done (v ∷ vs) ts h =
    let later = subst (λ last. iterated (text.further (one constant_value)) (done ++ v ∷ []) h.2 last) (append_assoc done (v ∷ []) vs) (more_spelt (done ++ v ∷ []) vs h.2 h.6) in
    (suc later.0, (h.0 ∷ h.1 ∷ [], h.2, done ++ v ∷ [], h.3, (h.0 ∷ [], h.1 ∷ [], h.0.span, refl, is_that signs.Comma h.0 h.4, (h.1 ∷ [], [], v, refl, (h.1, refl, value_is v h.1 h.5), (refl, refl))), later.1))

listed_spelt : (vs : List Value) (ts : List Token) → ShowsListed vs ts → text.listed (one constant_value) ts vs
listed_spelt [] ts h = absurd h
listed_spelt (v ∷ vs) ts h = (h.0 ∷ [], h.1, v, h.2, (h.0, refl, value_is v h.0 h.3), more_spelt (v ∷ []) vs h.1 h.4)

-- what spells a condition that this is, places aside
abbrev Spelt : (List Token → tree.Condition → Type 0) → Condition → List Token → Type 0
Spelt P k ts = (w : tree.Condition) × P ts w × (condition_kept w ≡ k)

-- behind an operand that is a name, a parenthesis begins a call, and anything else a relation
behind_operand : (version : ℕ) (o : Operand) (span : Span) (ts : List Token) (w : tree.Condition) → text.relation version expression_within (placed o span) ts w → text.behind version expression_within (placed o span) ts w
behind_operand version (variable x) span ts w h = inr h
behind_operand version (constant (Data (datum.Text s))) span ts w h = inr h
behind_operand version (constant (Data (datum.Int n))) span ts w h = h
behind_operand version (constant (Data (datum.Url s))) span ts w h = h
behind_operand version (constant (Data (datum.File s))) span ts w h = h
behind_operand version (constant (Data (datum.Node s))) span ts w h = h
behind_operand version (constant (Page p)) span ts w h = h

-- a name or a text, and a variable in parentheses behind it
called : (version : ℕ) → (test : Option Test) (c x : List ℕ) (span : Span) (opening inner close : Token) → is_sign signs.OpenParen opening ≡ true → ShowsName version x inner → is_sign signs.CloseParen close ≡ true
    → text.call version test (record { text = c; span = span }) (opening ∷ inner ∷ close ∷ []) (text.call_with test (record { text = c; span = span }) (record { text = x; span = inner.span }) close.span)
called version test c x span opening inner close is name ends = (
  opening ∷ [],
  inner ∷ close ∷ [],
  opening.span,
  refl,
  is_that signs.OpenParen opening is,
  (inner ∷ [], close ∷ [], record { text = x; span = inner.span }, refl, (inner, refl, name_is version x inner name), (close ∷ [], [], close.span, refl, is_that signs.CloseParen close ends, (refl, refl))),
)

-- the name of a test of a kind is no test of two texts

other_word : (w v : List ℕ) (k : Test) → test_of w ≡ Some k → test_of v ≡ None → bytes_eq w v ≡ false
other_word w v k e none = by (bytes_eq w v) refl
  where
    by : (b : Bool) → bytes_eq w v ≡ b → bytes_eq w v ≡ false
    by true t = let same = (bytes_eq-Decides w v).0 t in absurd (let both = sym e ∙ (ap test_of same ∙ none) in cc)
    by false t = t

starts_no_kind : test_of (codes "starts") ≡ None
unfolding test_of
starts_no_kind = refl

ends_no_kind : test_of (codes "ends") ≡ None
unfolding test_of
ends_no_kind = refl

has_no_kind : test_of (codes "has") ≡ None
unfolding test_of
has_no_kind = refl

no_text_test : (w : List ℕ) (k : Test) → test_of w ≡ Some k → text_test_of w ≡ None
unfolding text_test_of
no_text_test w k e = rw (other_word w (codes "starts") k e starts_no_kind, other_word w (codes "ends") k e ends_no_kind, other_word w (codes "has") k e has_no_kind) refl

no_pair : (version : ℕ) (w : List ℕ) (k : Test) → test_of w ≡ Some k → pair_test version w ≡ None
no_pair version w k e = by (nat_eq version 3) refl
  where
    by : (b : Bool) → nat_eq version 3 ≡ b → pair_test version w ≡ None
    by true t = rw t (no_text_test w k e)
    by false t = rw t refl

-- a name that may be that of a test of two texts, and a variable alone in parentheses behind it
called_alone : (version : ℕ) → (test : Option TextTest) (c x : List ℕ) (span : Span) (opening inner close : Token) → test_of c ≡ None → is_sign signs.OpenParen opening ≡ true → ShowsName version x inner → is_sign signs.CloseParen close ≡ true
    → text.name_call version test (record { text = c; span = span }) (opening ∷ inner ∷ close ∷ []) (text.call_with None (record { text = c; span = span }) (record { text = x; span = inner.span }) close.span)
called_alone version None c x span opening inner close free is name ends = rw free (called version None c x span opening inner close is name ends)
called_alone version (Some test) c x span opening inner close free is name ends = (
  opening ∷ [],
  inner ∷ close ∷ [],
  opening.span,
  refl,
  is_that signs.OpenParen opening is,
  (inner ∷ [], close ∷ [], operand_kinds.Variable x inner.span, refl, (inner, refl, operand_is version (variable x) inner name), inr (close ∷ [], [], close.span, refl, is_that signs.CloseParen close ends, (refl, refl))),
)

member_spelt : (version : ℕ) (c x : List ℕ) (name opening inner close : Token) → ShowsCollection version c name → is_sign signs.OpenParen opening ≡ true → ShowsName version x inner → is_sign signs.CloseParen close ≡ true
    → text.plain version expression_within (name ∷ opening ∷ inner ∷ close ∷ []) (text.call_with None (record { text = c; span = name.span }) (record { text = x; span = inner.span }) close.span)
member_spelt version c x name opening inner close (inl quoted) is argument ends =
    (name ∷ [], opening ∷ inner ∷ close ∷ [], operand_kinds.Constant (Data (datum.Text c)) name.span, refl, (name, refl, operand_is version (constant (Data (datum.Text c))) name quoted), inl (called version None c x name.span opening inner close is argument ends))
member_spelt version c x name opening inner close (inr (shown, free)) is argument ends =
    let call = called_alone version (pair_test version c) c x name.span opening inner close free is argument ends in
    (name ∷ [], opening ∷ inner ∷ close ∷ [], operand_kinds.Variable c name.span, refl, (name, refl, operand_is version (variable c) name shown), inl call)

-- the rest of a test of two texts, from its first operand on
second_spelt : (version : ℕ) → (test : TextTest) (c : List ℕ) (span : Span) (t u : Operand) (place : Span) (comma b close : Token) → is_sign signs.Comma comma ≡ true → ShowsOperand version u b → is_sign signs.CloseParen close ≡ true
    → text.second version test (record { text = c; span = span }) (placed t place) (comma ∷ b ∷ close ∷ []) (tree.compare (placed t place) (Texts test) (placed u b.span) (from_to span close.span))
second_spelt version test c span t u place comma b close is operand ends = (
  comma ∷ [],
  b ∷ close ∷ [],
  comma.span,
  refl,
  is_that signs.Comma comma is,
  (b ∷ [], close ∷ [], placed u b.span, refl, (b, refl, operand_is version u b operand), (close ∷ [], [], close.span, refl, is_that signs.CloseParen close ends, (refl, refl))),
)

pair_end_spelt : (version : ℕ) → (test : TextTest) (c : List ℕ) (span : Span) (t : Operand) (place : Span) (ts : List Token) (w : tree.Condition) → text.second version test (record { text = c; span = span }) (placed t place) ts w → text.pair_end version test (record { text = c; span = span }) (placed t place) ts w
pair_end_spelt version test c span (variable x) place ts w h = inl h
pair_end_spelt version test c span (constant v) place ts w h = h

pair_spelt : (version : ℕ) (test : TextTest) (t u : Operand) (ts : List Token) → ShowsPair version test t u ts → Spelt (text.plain version expression_within) (compare t (Texts test) u) ts
pair_spelt version test t u ts (word, name, opening, a, comma, b, close, is, shown, known, opens, first, between, other, ends) =
    let w = tree.compare (placed t a.span) (Texts test) (placed u b.span) (from_to name.span close.span) in
    let c : Word = record { text = word; span = name.span } in
    let later : text.pair_or_call version test c (opening ∷ a ∷ comma ∷ b ∷ close ∷ []) w = (
      opening ∷ [],
      a ∷ comma ∷ b ∷ close ∷ [],
      opening.span,
      refl,
      is_that signs.OpenParen opening opens,
      (a ∷ [], comma ∷ b ∷ close ∷ [], placed t a.span, refl, (a, refl, operand_is version t a first), pair_end_spelt version test word name.span t a.span (comma ∷ b ∷ close ∷ []) w (second_spelt version test word name.span t u a.span comma b close between other ends)),
    ) in
    let call : text.name_call version (pair_test version word) c (opening ∷ a ∷ comma ∷ b ∷ close ∷ []) w = rw known later in (
      w,
      (name ∷ [], opening ∷ a ∷ comma ∷ b ∷ close ∷ [], operand_kinds.Variable word name.span, is, (name, refl, operand_is version (variable word) name shown), inl call),
      rw (placed_kept t a.span, placed_kept u b.span) refl,
    )

infix_spelt : (version : ℕ) (t : Operand) (o : Op) (u : Operand) (ts : List Token) → ShowsInfix version o t u ts → Spelt (text.plain version expression_within) (compare t o u) ts
infix_spelt version t o u ts h =
    let a = h.0 in let b = h.1 in let c = h.2 in
    let w = tree.compare (placed t a.span) o (placed u c.span) (text.between (placed t a.span) (placed u c.span)) in
    let relation : text.relation version expression_within (placed t a.span) (b ∷ c ∷ []) w =
    inr (inr (b ∷ [], c ∷ [], o, refl, (b, refl, h.5), (c ∷ [], [], placed u c.span, refl, (c, refl, operand_is version u c h.6), (refl, refl)))) in (
      w,
      (a ∷ [], b ∷ c ∷ [], placed t a.span, h.3, (a, refl, operand_is version t a h.4), behind_operand version t a.span (b ∷ c ∷ []) w relation),
      rw (placed_kept t a.span, placed_kept u c.span) refl,
    )

comparison_spelt : (version : ℕ) (t : Operand) (o : Op) (u : Operand) (ts : List Token) → ShowsComparison version o t u ts → Spelt (text.plain version expression_within) (compare t o u) ts
comparison_spelt version t (Texts test) u ts h = pair_spelt version test t u ts h
comparison_spelt version t o u ts h = infix_spelt version t o u ts h

plain_spelt : (version : ℕ) (k : Condition) (ts : List Token) → ShowsPlain version k ts → Spelt (text.plain version expression_within) k ts
plain_spelt version (compare t o u) ts h = comparison_spelt version t o u ts h
plain_spelt version (path t s u) ts h =
    let a = h.0 in let first = h.1 in let inner = h.2 in let second = h.3 in let c = h.4 in
    let e = step_spelt version s inner h.8 in
    let w = tree.path (placed t a.span) e.0 (placed u c.span) (text.between (placed t a.span) (placed u c.span)) in
    let relation : text.relation version expression_within (placed t a.span) (first ∷ (inner ++ second ∷ c ∷ [])) w =
    inl (
      first ∷ [],
      inner ++ second ∷ c ∷ [],
      first.span,
      refl,
      is_that signs.Arrow first h.7,
      (inner, second ∷ c ∷ [], e.0, refl, e.1, (second ∷ [], c ∷ [], second.span, refl, is_that signs.Arrow second h.9, (c ∷ [], [], placed u c.span, refl, (c, refl, operand_is version u c h.10), (refl, refl)))),
    ) in (
      w,
      (a ∷ [], first ∷ (inner ++ second ∷ c ∷ []), placed t a.span, h.5, (a, refl, operand_is version t a h.6), behind_operand version t a.span (first ∷ (inner ++ second ∷ c ∷ [])) w relation),
      rw (placed_kept t a.span, e.2, placed_kept u c.span) refl,
    )
plain_spelt version (member c x) ts h =
    let name = h.0 in let opening = h.1 in let inner = h.2 in let close = h.3 in
    let w = text.call_with None (record { text = c; span = name.span }) (record { text = x; span = inner.span }) close.span in
    (w, subst (λ all. text.plain version expression_within all w) (sym h.4) (member_spelt version c x name opening inner close h.5 h.6 h.7 h.8), refl)
plain_spelt version (kind k x) ts h =
    let name = h.1 in let opening = h.2 in let inner = h.3 in let close = h.4 in
    let w = text.call_with (Some k) (record { text = h.0; span = name.span }) (record { text = x; span = inner.span }) close.span in
    let call : text.name_call version (pair_test version h.0) (record { text = h.0; span = name.span }) (opening ∷ inner ∷ close ∷ []) w =
    rw (no_pair version h.0 k h.7, h.7) (called version (Some k) h.0 x name.span opening inner close h.8 h.9 h.10) in
    (w, (name ∷ [], opening ∷ inner ∷ close ∷ [], operand_kinds.Variable h.0 name.span, h.5, (name, refl, operand_is version (variable h.0) name h.6), inl call), refl)
plain_spelt version (one_of t vs) ts h =
    let a = h.0 in let word = h.1 in let opening = h.2 in let inner = h.3 in let close = h.4 in
    let w = tree.one_of (placed t a.span) vs (from_to (operand_span (placed t a.span)) close.span) in
    let relation : text.relation version expression_within (placed t a.span) (word ∷ opening ∷ (inner ++ close ∷ [])) w =
    inr (inl (
      word ∷ [],
      opening ∷ (inner ++ close ∷ []),
      word.span,
      refl,
      is_word words.In word h.7,
      (
        opening ∷ [],
        inner ++ close ∷ [],
        opening.span,
        refl,
        is_that signs.OpenBrace opening h.8,
        (inner, close ∷ [], vs, refl, listed_spelt vs inner h.9, (close ∷ [], [], close.span, refl, is_that signs.CloseBrace close h.10, (refl, refl))),
      ),
    )) in (
      w,
      (a ∷ [], word ∷ opening ∷ (inner ++ close ∷ []), placed t a.span, h.5, (a, refl, operand_is version t a h.6), behind_operand version t a.span (word ∷ opening ∷ (inner ++ close ∷ [])) w relation),
      rw (placed_kept t a.span) refl,
    )
plain_spelt version (negation c) ts h = absurd h

pub condition_spelt : (version : ℕ) (k : Condition) (ts : List Token) → ShowsCondition version k ts → Spelt (text.condition version expression_within) k ts
condition_spelt version (negation c) ts h =
    let word = h.0 in let opening = h.1 in let inner = h.2 in let close = h.3 in
    let p = plain_spelt version c inner h.7 in
    let w = tree.negation p.0 (from_to word.span close.span) in (
      w,
      inl (
        word ∷ [],
        opening ∷ (inner ++ close ∷ []),
        word.span,
        h.4,
        is_word words.Not word h.5,
        (
          opening ∷ [],
          inner ++ close ∷ [],
          opening.span,
          refl,
          is_that signs.OpenParen opening h.6,
          (inner, close ∷ [], p.0, refl, p.1, (close ∷ [], [], close.span, refl, is_that signs.CloseParen close h.8, (refl, refl))),
        ),
      ),
      ap negation p.2,
    )
condition_spelt version (member c x) ts h = let p = plain_spelt version (member c x) ts h in (p.0, inr p.1, p.2)
condition_spelt version (path t s u) ts h = let p = plain_spelt version (path t s u) ts h in (p.0, inr p.1, p.2)
condition_spelt version (compare t o u) ts h = let p = comparison_spelt version t o u ts h in (p.0, inr p.1, p.2)
condition_spelt version (one_of t vs) ts h = let p = plain_spelt version (one_of t vs) ts h in (p.0, inr p.1, p.2)
condition_spelt version (kind k x) ts h = let p = plain_spelt version (kind k x) ts h in (p.0, inr p.1, p.2)
