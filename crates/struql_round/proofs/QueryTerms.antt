-- The canonical texts of terms, of targets and of lists with commas spell them.
use Rattle.std.proofs.Common.{◌≡◌, ℕ, suc, List, [], ◌∷◌, ◌++◌, Some, None, true, refl, sym, ap, subst, ◌∙◌, append_assoc, inl, inr}
use Rattle.std.specs.Prelude.{Option, map}
use Rattle.std.proofs.lemmas.List.{append-nil}
use Rattle.sd_lex.specs.declared.token.Token.{Token}
use Rattle.sd_lex.specs.declared.token.TokenKind.{TokenKind}
use Rattle.sd_lex.specs.declared.token.TokenKind.TheVariants as kinds
use Rattle.sd_lex.specs.declared.token.Span.{Span}
use Rattle.sd_lex.specs.declared.token.Sign.TheVariants as signs
use Rattle.grammar.specs.Grammar.{iterated}
use Rattle.token_reader.specs.Terminals.{is_sign}
use Rattle.query_spec.specs.Query as plain
use Rattle.query_spec.specs.Query.{Operand, variable, constant, SkolemTerm, Target}
use Rattle.struql_ast.specs.declared.Operand.TheVariants.{Variable, Constant}
use Rattle.struql_ast.specs.Written as tree
use Rattle.struql_text.specs.declared.keyword.Keyword.{Keyword}
use Rattle.struql_text.specs.declared.keyword.Word.{Word}
use Rattle.struql_text.specs.Terminals.{keyword_in, operand_kind_value, name_kind_value, named}
use Rattle.struql_text.specs.Grammar as text
use Rattle.struql_text.proofs.TokenParts.{is_that}
use Rattle.struql_print.specs.Texts.{operand_text, further, joined, term_text, target_text}
use Rattle.struql_round.specs.ShownParts.{ShowsName, ShowsOperand, ShowsMoreOperands, ShowsArguments, ShowsTerm, term_kept}
use Rattle.struql_round.proofs.Conditions.{name_is, operand_is}
use Rattle.struql_round.proofs.LinkEnds.{term_end, told_lexing}
use Rattle.struql_round.proofs.Terms.{term_spelt}
use Rattle.struql_round.specs.Spellable.{Every, IsOperand, IsTerm, IsSource, IsTarget}
use Rattle.struql_round.specs.Kept.{target_kept}
use Rattle.struql_round.proofs.Lexing.{Lexing, Any, Safe, Nil, Cons, Both, shown, before, same_text, nothing_more, gap, both, sign_then, sign_last}
use Rattle.struql_round.proofs.Texts.{name_then, operand_then, operand_last, further_safe}

-- tokens that spell something which is this, places aside
abbrev pub Spelt : {A B : Type 0} → (List Token → A → Type 0) → (A → B) → B → List Token → Type 0
Spelt {A} P kept v tokens = (w : A) × P tokens w × (kept w ≡ v)

more_operands : (version : ℕ) → (os : List Operand) → Every (IsOperand version) os → Lexing (ShowsMoreOperands version os) Safe (further (map operand_text os))
more_operands version [] is = nothing_more
more_operands version (o ∷ os) is =
    shown (λ tokens c. (c.0, c.4.0, c.4.1, c.2 ∙ ap (λ x. c.0 ∷ x) c.4.2, c.3, c.4.3, c.4.4))
    (sign_then signs.Comma (λ later w. tt) (gap 32 refl (operand_then version o is.0 (λ later w. further_safe (map operand_text os) later w) (more_operands version os is.1))))

arguments_lexing : (version : ℕ) → (os : List Operand) → Every (IsOperand version) os → Lexing (ShowsArguments version os) Safe (joined (map operand_text os))
arguments_lexing version [] is = nothing_more
arguments_lexing version (o ∷ os) is = shown (λ tokens c. (c.0, c.1, c.2, c.3, c.4)) (operand_then version o is.0 (λ later w. further_safe (map operand_text os) later w) (more_operands version os is.1))

term_shown : (version : ℕ) → (f : SkolemTerm) → IsTerm version f → Lexing (ShowsTerm version f) Any (term_text f)
term_shown version f is =
    shown (λ tokens h. (h.0, h.4.0, h.4.4.0, h.4.4.4.0, h.2 ∙ ap (λ y. h.0 ∷ y) (h.4.2 ∙ ap (λ y. h.4.0 ∷ y) (h.4.4.2 ∙ ap (λ y. h.4.4.0 ++ y) (h.4.4.4.2 ∙ ap (λ y. h.4.4.4.0 ∷ y) h.4.4.4.4))), h.3, h.4.3, h.4.4.3, h.4.4.4.3))
    (name_then version f.function is.0 (λ later w. (refl, refl, refl)) (sign_then signs.OpenParen (λ later w. tt) (both (arguments_lexing version f.args is.1) (λ later w. (refl, refl, refl)) (sign_last signs.CloseParen (λ later w. tt)))))

pub term_lexing : (version : ℕ) → (f : SkolemTerm) → IsTerm version f → Lexing (Spelt (text.term version) term_kept f) Any (term_text f)
term_lexing version f is = shown (λ tokens h. term_spelt version f tokens h) (term_shown version f is)

-- ---- targets

abbrev word_at : List ℕ → Span → Word
word_at n span = record { text = n; span = span }

named_operand : (span : Span) (n : List ℕ) (w : Word) (k : Option Keyword) → named (word_at n span) k ≡ Some w → named (Variable n span) k ≡ Some (text.variable_of w)
named_operand span n w None e = let same : word_at n span ≡ w = cc in ap (λ (x : Word). Some (text.variable_of x)) same
named_operand span n w (Some j) e = absurd cc

kind_operand : (version : ℕ) → (span : Span) (k : TokenKind) (w : Word) → name_kind_value version span k ≡ Some w → operand_kind_value version span k ≡ Some (text.variable_of w)
kind_operand version span (kinds.Name n) w e = named_operand span n w (keyword_in version n) e
kind_operand version span (kinds.Quoted q) w e = absurd cc
kind_operand version span (kinds.Int i) w e = absurd cc
kind_operand version span (kinds.Sign s) w e = absurd cc

made_source : (version : ℕ) → (f : SkolemTerm) (tokens : List Token) → Spelt (text.term version) term_kept f tokens → Spelt (text.source version) target_kept (plain.made f) tokens
made_source version f tokens (w, (front, back, word, parts, name, arguments), kept) =
    (tree.made w, (front, back, word, parts, name, inl (back, [], w, sym (append-nil back), arguments, (refl, refl))), ap plain.made kept)

name_source : (version : ℕ) → (x : List ℕ) (tokens : List Token) → Cons (ShowsName version x) Nil tokens → Spelt (text.source version) target_kept (plain.plain (variable x)) tokens
name_source version x tokens (t, rest, is, shows, none) = (
  tree.plain (Variable x t.span),
  (t ∷ [], [], record { text = x; span = t.span }, is ∙ ap (λ y. t ∷ y) none, (t, refl, name_is version x t shows), inr (refl, refl)),
  refl,
)

operand_target : (version : ℕ) → (o : Operand) (tokens : List Token) → Cons (ShowsOperand version o) Nil tokens → Spelt (text.target version) target_kept (plain.plain o) tokens
operand_target version (variable x) tokens (t, rest, is, shows, none) =
    (tree.plain (Variable x t.span), (t ∷ [], [], Variable x t.span, is ∙ ap (λ y. t ∷ y) none, (t, refl, operand_is version (variable x) t shows), inr (refl, refl)), refl)
operand_target version (constant v) tokens (t, rest, is, shows, none) =
    (tree.plain (Constant v t.span), (t ∷ [], [], Constant v t.span, is ∙ ap (λ y. t ∷ y) none, (t, refl, operand_is version (constant v) t shows), (refl, refl)), refl)

pub source_lexing : (version : ℕ) → (t : Target) → IsSource version t → Lexing (Spelt (text.source version) target_kept t) Safe (target_text t)
source_lexing version (plain.plain (variable x)) is = shown (name_source version x) (same_text x (append-nil x) (name_then version {others = []} x is (λ later w. w) nothing_more))
source_lexing version (plain.plain (constant v)) is = absurd is
source_lexing version (plain.summed a) is = absurd is
source_lexing version (plain.made f) is = before (λ later w. tt) (shown (made_source version f) (term_lexing version f is))

pub target_lexing : (version : ℕ) → (t : Target) → IsTarget version t → Lexing (Spelt (text.target version) target_kept t) Safe (target_text t)
target_lexing version (plain.summed a) is = before (λ later w. tt) (told_lexing version a is.0 is.1)
target_lexing version (plain.plain o) is = shown (operand_target version o) (operand_last version o is)
target_lexing version (plain.made f) is = before (λ later w. tt) (shown (term_end version f is.1) (term_shown version f is.0))

-- ---- lists with commas between

module _ {A B : Type 0} (P : List Token → A → Type 0) (kept : A → B) (f : B → List ℕ) (Is : B → Type 0) (each : (x : B) → Is x → Lexing (Spelt P kept x) Safe (f x)) where
  abbrev More : List A → List B → List Token → Type 0
  More done xs tokens = (found : List A) × iterated (text.further P) done tokens (done ++ found) × (map kept found ≡ xs)

  one_more : (done : List A) (x : B) (xs : List B) (tokens : List Token) → Cons (λ t. is_sign signs.Comma t ≡ true) (Both (Spelt P kept x) (λ ts. (w : A) → More (done ++ w ∷ []) xs ts)) tokens → More done (x ∷ xs) tokens
  one_more done x xs tokens (t, rest, is, comma, (front, back, parts, (w, spelled, same), later)) =
      let more = later w in
      let steps = subst (λ last. iterated (text.further P) (done ++ w ∷ []) back last) (append_assoc done (w ∷ []) more.0) more.1 in (
        w ∷ more.0,
        (
          suc steps.0,
          (t ∷ front, back, done ++ w ∷ [], is ∙ ap (λ y. t ∷ y) parts, (t ∷ [], front, t.span, refl, is_that signs.Comma t comma, (front, [], w, sym (append-nil front), spelled, (refl, refl))), steps.1),
        ),
        (λ i. same i ∷ more.2 i),
      )

  more_lexing : (xs : List B) → Every Is xs → Lexing (λ tokens. (done : List A) → More done xs tokens) Safe (further (map f xs))
  more_lexing [] is = shown (λ tokens none done. ([], (0, (none, append-nil done)), refl)) nothing_more
  more_lexing (x ∷ xs) is =
      shown (λ tokens h done. one_more done x xs tokens (h.0, h.1, h.2, h.3, (h.4.0, h.4.1, h.4.2, h.4.3, λ w. h.4.4 (done ++ w ∷ []))))
      (sign_then signs.Comma (λ later w. tt) (gap 32 refl (both (each x is.0) (λ later w. further_safe (map f xs) later w) (more_lexing xs is.1))))

  pub listed_lexing : (x : B) (xs : List B) → Is x → Every Is xs → Lexing (Spelt (text.listed P) (map kept) (x ∷ xs)) Safe (joined (map f (x ∷ xs)))
  listed_lexing x xs is others =
      shown (λ tokens h. (let more = h.4 (h.3.0 ∷ []) in (h.3.0 ∷ more.0, (h.0, h.1, h.3.0, h.2, h.3.1, more.1), λ i. h.3.2 i ∷ more.2 i)))
      (both (each x is) (λ later w. further_safe (map f xs) later w) (more_lexing xs others))
