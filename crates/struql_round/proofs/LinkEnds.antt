-- The canonical texts of what links end at spell it: a term in place of which version 3 reads no aggregate, and aggregates.
use Rattle.std.proofs.Common.{◌≡◌, ℕ, Bool, true, false, List, [], ◌∷◌, ◌++◌, Some, None, refl, sym, ap, subst, ◌∙◌, append_assoc, inl, inr}
use Rattle.std.specs.Prelude.{map, codes, nat_eq, ◌&&◌, ◌||◌, if◌then◌else◌}
use Rattle.std.proofs.lemmas.List.{append-nil}
use Rattle.sd_lex.specs.declared.token.Token.{Token}
use Rattle.sd_lex.specs.declared.token.Span.{Span}
use Rattle.sd_lex.specs.declared.token.Sign.TheVariants as signs
use Rattle.sd_lex.specs.declared.token.TokenKind.TheVariants as kinds
use Rattle.grammar.specs.Grammar.{either}
use Rattle.token_reader.specs.Terminals.{is_sign}
use Rattle.query_spec.specs.Query as plain
use Rattle.query_spec.specs.Query.{Operand, variable, constant, SkolemTerm, Aggregate, count_of, min_of, max_of, sum_of}
use Rattle.struql_ast.specs.declared.Aggregate as declared_aggregate
use Rattle.struql_ast.specs.declared.Aggregate.TheVariants.{Count, Min, Max, Sum}
use Rattle.struql_ast.specs.declared.Operand as declared
use Rattle.struql_ast.specs.declared.Operand.TheVariants.{Variable, Constant}
use Rattle.struql_ast.specs.Reading.{operand_of, aggregate_of}
use Rattle.struql_ast.specs.Written as tree
use Rattle.struql_text.specs.declared.keyword.Keyword.TheVariants as words
use Rattle.struql_text.specs.declared.keyword.Word.{Word}
use Rattle.struql_text.specs.Terminals.{keyword_of, from_to, is_keyword, is_keyword_kind, aggregate_named, is_sum}
use Rattle.struql_text.specs.Grammar as text
use Rattle.struql_text.proofs.TokenParts.{is_that}
use Rattle.struql_print.specs.Texts.{aggregate_text}
use Rattle.struql_round.specs.ShownParts.{ShowsName, ShowsTerm, ShowsArguments, ShowsMoreOperands, term_kept}
use Rattle.struql_round.specs.Spellable.{IsWord, IsAggregate, is_summary, is_one_variable, is_told}
use Rattle.struql_round.specs.Kept.{target_kept}
use Rattle.struql_round.proofs.Conditions.{name_is, is_word, placed, operand_is, placed_kept}
use Rattle.struql_round.proofs.Terms.{more_operands, arguments_spelt}
use Rattle.struql_round.proofs.Lexing.{Lexing, Any, Nil, Cons, shown, same_text, gap, sign_then, sign_last}
use Rattle.struql_round.proofs.Texts.{name_then, word_then}

-- tokens that spell a target which is this, places aside
abbrev Ends : ℕ → plain.Target → List Token → Type 0
Ends version t tokens = (w : tree.Target) × text.target version tokens w × (target_kept w ≡ t)

-- ---- terms of other functions

named_none : (f v : List ℕ) (span : Span) → is_summary f ≡ false → aggregate_named f v span ≡ None
unfolding aggregate_named
named_none f v span e = by _ _ _ e
  where
    by : (x y z : Bool) → (x || (y || z)) ≡ false
        → (if x then Some (Count v span) else (if y then Some (Min v span) else (if z then Some (Max v span) else None))) ≡ None
    by false false false e = refl
    by true y z e = cc
    by false true z e = cc
    by false false true e = cc

last_true : (b : Bool) → (b && true) ≡ false → b ≡ false
last_true true e = e
last_true false e = refl

called_by : (b : Bool) (f : List ℕ) (args : List declared.Operand) (w : tree.Term) → (b && (is_summary f && is_one_variable (map operand_of args))) ≡ false
    → tree.made w ≡ text.aggregate_or (if b then text.aggregate_of f args else None) w
called_by false f args w e = refl
called_by true f [] w e = refl
called_by true f (Variable v span ∷ []) w e = sym (ap (λ o. text.aggregate_or o w) (named_none f v span (last_true (is_summary f) e)))
called_by true f (Variable v span ∷ (o ∷ os)) w e = refl
called_by true f (Constant c span ∷ os) w e = refl

called_made : (version : ℕ) (w : tree.Term) (f : SkolemTerm) → term_kept w ≡ f → is_told version f ≡ false → tree.made w ≡ text.called version w
called_made version w f kept untold = called_by (nat_eq version 3) w.function w.args w (subst (λ (g : SkolemTerm). is_told version g ≡ false) (sym kept) untold)

other_end : (version : ℕ) (f : SkolemTerm) (ts : List Token) → is_sum version f.function ≡ false → is_told version f ≡ false → ShowsTerm version f ts → Ends version (plain.made f) ts
other_end version f ts sums untold h =
    let s = arguments_spelt version f ts h in
    let w = s.0 in
    let word : Word = record { text = f.function; span = h.0.span } in (
      tree.made w,
      (
        h.0 ∷ [],
        h.1 ∷ (h.2 ++ h.3 ∷ []),
        Variable f.function h.0.span,
        h.4,
        (h.0, refl, operand_is version (variable f.function) h.0 h.5),
        inl (subst (λ b. text.by_sum version b word (h.1 ∷ (h.2 ++ h.3 ∷ [])) (tree.made w)) (sym sums)
            (h.1 ∷ (h.2 ++ h.3 ∷ []), [], w, sym (append-nil (h.1 ∷ (h.2 ++ h.3 ∷ []))), s.1, (refl, called_made version w f s.2 untold))),
      ),
      ap plain.made s.2,
    )

-- ---- `sum` as a term

module _ (version : ℕ) (word : Word) (close : Token) (closes : is_sign signs.CloseParen close ≡ true) where
  behind : (o : Operand) (span : Span) (ts : List Token) (t : tree.Target) → text.sum_term_end version word (placed o span) ts t → text.sum_end version word (placed o span) ts t
  behind (variable x) span ts t h = inr h
  behind (constant v) span ts t h = h

  -- after the first argument
  rest_end : (first : declared.Operand) (os : List Operand) (ts : List Token) → ShowsMoreOperands version os ts
      → (found : List declared.Operand) × text.sum_term_end version word first (ts ++ close ∷ []) (tree.made (text.term_of word (first ∷ found) close.span)) × (map operand_of found ≡ os)
  rest_end first [] ts h = ([], inl (close ∷ [], [], close.span, ap (λ z. z ++ close ∷ []) h, is_that signs.CloseParen close closes, (refl, refl)), refl)
  rest_end first (p ∷ ps) ts m =
      let there = placed p m.1.span in
      let later = more_operands version (there ∷ []) ps m.2 m.6 in (
        there ∷ later.0,
        inr (
          m.0 ∷ [],
          m.1 ∷ (m.2 ++ close ∷ []),
          m.0.span,
          ap (λ z. z ++ close ∷ []) m.3,
          is_that signs.Comma m.0 m.4,
          (
            m.1 ∷ m.2,
            close ∷ [],
            there ∷ later.0,
            refl,
            (m.1 ∷ [], m.2, there, refl, (m.1, refl, operand_is version p m.1 m.5), later.1),
            (close ∷ [], [], close.span, refl, is_that signs.CloseParen close closes, (refl, refl)),
          ),
        ),
        rw (placed_kept p m.1.span, later.2) refl,
      )

sum_end : (version : ℕ) (f : SkolemTerm) (ts : List Token) → is_sum version f.function ≡ true → ShowsTerm version f ts → Ends version (plain.made f) ts
sum_end version f ts sums h = by f.args refl h.7
  where
    word : Word
    word = record { text = f.function; span = h.0.span }

    whole : (t : tree.Target) → either (text.sum_of_none word) (text.sum_of_some version word) (h.2 ++ h.3 ∷ []) t → text.target version ts t
    whole t e = (
      h.0 ∷ [],
      h.1 ∷ (h.2 ++ h.3 ∷ []),
      Variable f.function h.0.span,
      h.4,
      (h.0, refl, operand_is version (variable f.function) h.0 h.5),
      inl (subst (λ b. text.by_sum version b word (h.1 ∷ (h.2 ++ h.3 ∷ [])) t) (sym sums)
          (h.1 ∷ [], h.2 ++ h.3 ∷ [], h.1.span, refl, is_that signs.OpenParen h.1 h.6, e)),
    )

    by : (args : List Operand) → f.args ≡ args → ShowsArguments version args h.2 → Ends version (plain.made f) ts
    by [] e shown =
        let w = text.term_of word [] h.3.span in (
          tree.made w,
          whole (tree.made w) (inl (h.2 ++ h.3 ∷ [], [], w, sym (append-nil (h.2 ++ h.3 ∷ [])), (h.3 ∷ [], [], h.3.span, ap (λ z. z ++ h.3 ∷ []) shown, is_that signs.CloseParen h.3 h.8, (refl, refl)), (refl, refl))),
          rw e refl,
        )
    by (o ∷ os) e shown =
        let here = placed o shown.0.span in
        let later = rest_end version word h.3 h.8 here os shown.1 shown.4 in
        let w = text.term_of word (here ∷ later.0) h.3.span in (
          tree.made w,
          whole (tree.made w) (inr (
            shown.0 ∷ [],
            shown.1 ++ h.3 ∷ [],
            here,
            ap (λ z. z ++ h.3 ∷ []) shown.2,
            (shown.0, refl, operand_is version o shown.0 shown.3),
            behind version word h.3 h.8 o shown.0.span (shown.1 ++ h.3 ∷ []) (tree.made w) later.1,
          )),
          rw (e, placed_kept o shown.0.span, later.2) refl,
        )

pub term_end : (version : ℕ) (f : SkolemTerm) → is_told version f ≡ false → (ts : List Token) → ShowsTerm version f ts → Ends version (plain.made f) ts
term_end version f untold ts h = by (is_sum version f.function) refl
  where
    by : (b : Bool) → is_sum version f.function ≡ b → Ends version (plain.made f) ts
    by true e = sum_end version f ts e h
    by false e = other_end version f ts e untold h

-- ---- aggregates

abbrev ShowsApplied : ℕ → List ℕ → List ℕ → List Token → Type 0
ShowsApplied version f v = Cons (ShowsName version f) (Cons (λ t. is_sign signs.OpenParen t ≡ true) (Cons (ShowsName version v) (Cons (λ t. is_sign signs.CloseParen t ≡ true) Nil)))

applied_lexing : (version : ℕ) (f v : List ℕ) → IsWord version f → IsWord version v → Lexing (ShowsApplied version f v) Any (f ++ (codes "(" ++ (v ++ codes ")")))
applied_lexing version f v is word =
    name_then version f is (λ later w. (refl, refl, refl)) (sign_then signs.OpenParen (λ later w. tt) (name_then version v word (λ later w. (refl, refl, refl)) (sign_last signs.CloseParen (λ later w. tt))))

-- a function that version 3 reads as an aggregate of one variable
module _ (f v : List ℕ) (make : Span → declared_aggregate.Aggregate) (a : Aggregate) (named : (span : Span) → aggregate_named f v span ≡ Some (make span)) (kept : (span : Span) → aggregate_of (make span) ≡ a)
    (other : is_sum 3 f ≡ false) where
  applied_end : (ts : List Token) → ShowsApplied 3 f v ts → Ends 3 (plain.summed a) ts
  applied_end ts (n, r0, e0, shows, (o, r1, e1, opens, (x, r2, e2, variable_shows, (c, r3, e3, closes, none)))) =
      let word : Word = record { text = f; span = n.span } in
      let w = text.term_of word (Variable v x.span ∷ []) c.span in
      let whole : ts ≡ n ∷ (o ∷ (x ∷ (c ∷ []))) = e0 ∙ ap (λ z. n ∷ z) (e1 ∙ ap (λ z. o ∷ z) (e2 ∙ ap (λ z. x ∷ z) (e3 ∙ ap (λ z. c ∷ z) none))) in
      let told : tree.summed (make x.span) w.span ≡ text.called 3 w = sym (ap (λ o. text.aggregate_or o w) (named x.span)) in (
        tree.summed (make x.span) w.span,
        (
          n ∷ [],
          o ∷ (x ∷ (c ∷ [])),
          Variable f n.span,
          whole,
          (n, refl, operand_is 3 (variable f) n shows),
          inl (subst (λ b. text.by_sum 3 b word (o ∷ (x ∷ (c ∷ []))) (tree.summed (make x.span) w.span)) (sym other) (
            o ∷ (x ∷ (c ∷ [])),
            [],
            w,
            refl,
            (
              o ∷ [],
              x ∷ (c ∷ []),
              o.span,
              refl,
              is_that signs.OpenParen o opens,
              inr (x ∷ [], c ∷ [], Variable v x.span ∷ [], refl, (x ∷ [], [], Variable v x.span, refl, (x, refl, operand_is 3 (variable v) x variable_shows), (0, (refl, refl))), (c ∷ [], [], c.span, refl, is_that signs.CloseParen c closes, (refl, refl))),
            ),
            (refl, told),
          )),
        ),
        ap plain.summed (kept x.span),
      )

count_named : (v : List ℕ) (span : Span) → aggregate_named (codes "count") v span ≡ Some (Count v span)
unfolding aggregate_named
count_named v span = refl

min_named : (v : List ℕ) (span : Span) → aggregate_named (codes "min") v span ≡ Some (Min v span)
unfolding aggregate_named
min_named v span = refl

max_named : (v : List ℕ) (span : Span) → aggregate_named (codes "max") v span ≡ Some (Max v span)
unfolding aggregate_named
max_named v span = refl

count_no_sum : is_sum 3 (codes "count") ≡ false
unfolding is_sum
count_no_sum = refl

min_no_sum : is_sum 3 (codes "min") ≡ false
unfolding is_sum
min_no_sum = refl

max_no_sum : is_sum 3 (codes "max") ≡ false
unfolding is_sum
max_no_sum = refl

sum_is : is_sum 3 (codes "sum") ≡ true
unfolding is_sum
sum_is = refl

count_word : IsWord 3 (codes "count")
unfolding keyword_of
count_word = ((refl, (refl, (refl, (refl, (refl, tt))))), refl)

min_word : IsWord 3 (codes "min")
unfolding keyword_of
min_word = ((refl, (refl, (refl, tt))), refl)

max_word : IsWord 3 (codes "max")
unfolding keyword_of
max_word = ((refl, (refl, (refl, tt))), refl)

sum_word : IsWord 3 (codes "sum")
unfolding keyword_of
sum_word = ((refl, (refl, (refl, tt))), refl)

of_shown : (t : Token) → t.kind ≡ kinds.Name (codes "OF") → is_keyword words.Of t ≡ true
unfolding keyword_of
of_shown t e = ap (is_keyword_kind words.Of) e

abbrev ShowsSum : List ℕ → List ℕ → List Token → Type 0
ShowsSum v x = Cons (ShowsName 3 (codes "sum")) (Cons (λ t. is_sign signs.OpenParen t ≡ true) (Cons (ShowsName 3 v) (Cons (λ t. t.kind ≡ kinds.Name (codes "OF")) (Cons (ShowsName 3 x) (Cons (λ t. is_sign signs.CloseParen t ≡ true) Nil)))))

sum_lexing : (v x : List ℕ) → IsWord 3 v → IsWord 3 x → Lexing (ShowsSum v x) Any (aggregate_text (sum_of v x))
sum_lexing v x wv wx =
    same_text _ (ap (λ z. codes "sum" ++ (codes "(" ++ z)) (sym (append_assoc v (codes " OF " ++ x) (codes ")"))))
    (name_then 3 (codes "sum") sum_word (λ later w. (refl, refl, refl)) (sign_then signs.OpenParen (λ later w. tt) (name_then 3 v wv (λ later w. (refl, refl, refl))
    (gap 32 refl (word_then (codes "OF") (refl, (refl, tt)) (λ later w. (refl, refl, refl)) (gap 32 refl (name_then 3 x wx (λ later w. (refl, refl, refl)) (sign_last signs.CloseParen (λ later w. tt)))))))))

told_end : (v x : List ℕ) (ts : List Token) → ShowsSum v x ts → Ends 3 (plain.summed (sum_of v x)) ts
told_end v x ts (n, r0, e0, shows, (o, r1, e1, opens, (a, r2, e2, value_shows, (k, r3, e3, of, (b, r4, e4, key_shows, (c, r5, e5, closes, none)))))) =
    let word : Word = record { text = codes "sum"; span = n.span } in
    let inside = a ∷ (k ∷ (b ∷ (c ∷ []))) in
    let whole : ts ≡ n ∷ (o ∷ inside) = e0 ∙ ap (λ z. n ∷ z) (e1 ∙ ap (λ z. o ∷ z) (e2 ∙ ap (λ z. a ∷ z) (e3 ∙ ap (λ z. k ∷ z) (e4 ∙ ap (λ z. b ∷ z) (e5 ∙ ap (λ z. c ∷ z) none))))) in
    let t = tree.summed (Sum v a.span x b.span) (from_to n.span c.span) in (
      t,
      (
        n ∷ [],
        o ∷ inside,
        Variable (codes "sum") n.span,
        whole,
        (n, refl, operand_is 3 (variable (codes "sum")) n shows),
        inl (subst (λ y. text.by_sum 3 y word (o ∷ inside) t) (sym sum_is) (
          o ∷ [],
          inside,
          o.span,
          refl,
          is_that signs.OpenParen o opens,
          inr (
            a ∷ [],
            k ∷ (b ∷ (c ∷ [])),
            Variable v a.span,
            refl,
            (a, refl, operand_is 3 (variable v) a value_shows),
            inl (k ∷ [], b ∷ (c ∷ []), k.span, refl, is_word words.Of k (of_shown k of), (b ∷ [], c ∷ [], record { text = x; span = b.span }, refl, (b, refl, name_is 3 x b key_shows), (c ∷ [], [], c.span, refl, is_that signs.CloseParen c closes, (refl, refl)))),
          ),
        )),
      ),
      refl,
    )

aggregate_lexing : (a : Aggregate) → IsAggregate 3 a → Lexing (Ends 3 (plain.summed a)) Any (aggregate_text a)
aggregate_lexing (count_of v) is = shown (applied_end (codes "count") v (Count v) (count_of v) (count_named v) (λ span. refl) count_no_sum) (applied_lexing 3 (codes "count") v count_word is)
aggregate_lexing (min_of v) is = shown (applied_end (codes "min") v (Min v) (min_of v) (min_named v) (λ span. refl) min_no_sum) (applied_lexing 3 (codes "min") v min_word is)
aggregate_lexing (max_of v) is = shown (applied_end (codes "max") v (Max v) (max_of v) (max_named v) (λ span. refl) max_no_sum) (applied_lexing 3 (codes "max") v max_word is)
aggregate_lexing (sum_of v x) is = shown (told_end v x) (sum_lexing v x is.0 is.1)

pub told_lexing : (version : ℕ) (a : Aggregate) → version ≡ 3 → IsAggregate version a → Lexing (Ends version (plain.summed a)) Any (aggregate_text a)
told_lexing version a e is = subst (λ n. Lexing (Ends n (plain.summed a)) Any (aggregate_text a)) (sym e) (aggregate_lexing a (subst (λ n. IsAggregate n a) e is))
