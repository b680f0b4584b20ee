-- The tokens of a term's canonical text spell it.
use Rattle.std.proofs.Common.{◌≡◌, ℕ, suc, List, [], ◌∷◌, ◌++◌, refl, ap, subst, append_assoc, inl, inr}
use Rattle.std.specs.Prelude.{map}
use Rattle.std.proofs.lemmas.List.{append-nil}
use Rattle.sd_lex.specs.declared.token.Token.{Token}
use Rattle.sd_lex.specs.declared.token.Sign.TheVariants as signs
use Rattle.grammar.specs.Grammar.{iterated}
use Rattle.struql_ast.specs.declared.Operand as declared
use Rattle.struql_ast.specs.Reading.{operand_of}
use Rattle.struql_ast.specs.Written as tree
use Rattle.query_spec.specs.Query.{Operand, SkolemTerm}
use Rattle.struql_text.specs.Grammar as text
use Rattle.struql_text.proofs.TokenParts.{is_that}
use Rattle.struql_round.specs.ShownParts.{ShowsMoreOperands, ShowsArguments, ShowsTerm, term_kept}
use Rattle.struql_round.proofs.Conditions.{name_is, placed, operand_is, placed_kept}

pub more_operands : (version : ℕ) → (done : List declared.Operand) (os : List Operand) (ts : List Token) → ShowsMoreOperands version os ts → (found : List declared.Operand) × iterated (text.further (text.operand version)) done ts (done ++ found) × (map operand_of found ≡ os)
more_operands version done [] ts h = ([], (0, (h, append-nil done)), refl)
more_operands version done (o ∷ os) ts h =
    let here = placed o h.1.span in
    let later = more_operands version (done ++ here ∷ []) os h.2 h.6 in
    let steps = subst (λ last. iterated (text.further (text.operand version)) (done ++ here ∷ []) h.2 last) (append_assoc done (here ∷ []) later.0) later.1 in (
      here ∷ later.0,
      (suc steps.0, (h.0 ∷ h.1 ∷ [], h.2, done ++ here ∷ [], h.3, (h.0 ∷ [], h.1 ∷ [], h.0.span, refl, is_that signs.Comma h.0 h.4, (h.1 ∷ [], [], here, refl, (h.1, refl, operand_is version o h.1 h.5), (refl, refl))), steps.1)),
      rw (placed_kept o h.1.span, later.2) refl,
    )

-- what is behind the name
pub arguments_spelt : (version : ℕ) → (f : SkolemTerm) (ts : List Token) → (h : ShowsTerm version f ts)
    → (w : tree.Term) × text.arguments version (record { text = f.function; span = h.0.span }) (h.1 ∷ (h.2 ++ h.3 ∷ [])) w × (term_kept w ≡ f)
arguments_spelt version f ts h = by f.args refl h.7
  where
    by : (args : List Operand) → f.args ≡ args → ShowsArguments version args h.2
        → (w : tree.Term) × text.arguments version (record { text = f.function; span = h.0.span }) (h.1 ∷ (h.2 ++ h.3 ∷ [])) w × (term_kept w ≡ f)
    by [] e shown =
        let w = text.term_of (record { text = f.function; span = h.0.span }) [] h.3.span in (
          w,
          (h.1 ∷ [], h.2 ++ h.3 ∷ [], h.1.span, refl, is_that signs.OpenParen h.1 h.6, inl (h.3 ∷ [], [], h.3.span, ap (λ z. z ++ h.3 ∷ []) shown, is_that signs.CloseParen h.3 h.8, (refl, refl))),
          rw e refl,
        )
    by (o ∷ os) e shown =
        let here = placed o shown.0.span in
        let later = more_operands version (here ∷ []) os shown.1 shown.4 in
        let w = text.term_of (record { text = f.function; span = h.0.span }) (here ∷ later.0) h.3.span in (
          w,
          (
            h.1 ∷ [],
            h.2 ++ h.3 ∷ [],
            h.1.span,
            refl,
            is_that signs.OpenParen h.1 h.6,
            inr (h.2, h.3 ∷ [], here ∷ later.0, refl, (shown.0 ∷ [], shown.1, here, shown.2, (shown.0, refl, operand_is version o shown.0 shown.3), later.1), (h.3 ∷ [], [], h.3.span, refl, is_that signs.CloseParen h.3 h.8, (refl, refl))),
          ),
          rw (e, placed_kept o shown.0.span, later.2) refl,
        )

pub term_spelt : (version : ℕ) → (f : SkolemTerm) (ts : List Token) → ShowsTerm version f ts → (w : tree.Term) × text.term version ts w × (term_kept w ≡ f)
term_spelt version f ts h =
    let a = arguments_spelt version f ts h in
    (a.0, (h.0 ∷ [], h.1 ∷ (h.2 ++ h.3 ∷ []), record { text = f.function; span = h.0.span }, h.4, (h.0, refl, name_is version f.function h.0 h.5), a.1), a.2)
