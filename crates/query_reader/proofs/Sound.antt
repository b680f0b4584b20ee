-- What the grammar of queries spells weighs no more than its tokens, holds no negation in a negation, and has numbers
-- and texts as its constants.
use Rattle.std.proofs.Common.{◌∙◌, ◌≡◌, ◌⊎◌, ℕ, zero, suc, ◌+◌, ◌≤◌, List, [], ◌∷◌, ◌++◌, length, Bool, true, false, arith, ap, sym, refl, subst, inl, inr}
use Rattle.std.specs.Prelude.{Option, Some, None, map}
use Rattle.std.proofs.lemmas.List.{length-append}
use Rattle.sd_lex.specs.declared.token.Span.{Span}
use Rattle.sd_lex.specs.declared.token.Token.{Token}
use Rattle.sd_lex.specs.declared.token.TokenKind.{TokenKind}
use Rattle.sd_lex.specs.declared.token.TokenKind.TheVariants as kinds
use Rattle.grammar.specs.Grammar.{steps, iterated}
use Rattle.struql_ast.specs.declared.Operand.{Operand}
use Rattle.struql_text.specs.Grammar.{further, listed}
use Rattle.query_reader.proofs.Weights.{weigh, weigh-append}

-- each of the items
abbrev pub Each : {X : Type 0} → (X → Type 0) → List X → Type 0
Each Q [] = Unit {0}
Each Q (x ∷ xs) = Q x × Each Q xs

pub each_push : {X : Type 0} (Q : X → Type 0) (xs : List X) (x : X) → Each Q xs → Q x → Each Q (xs ++ x ∷ [])
each_push Q [] x all q = (q, tt)
each_push Q (y ∷ xs) x all q = (all.0, each_push Q xs x all.1 q)

pub split_length : {X : Type 0} (xs front back : List X) → xs ≡ front ++ back → length xs ≡ length front + length back
split_length xs front back e = ap length e ∙ length-append front back

-- what the phrase spells is good, and weighs no more than its tokens
abbrev pub Bounded : {A : Type 0} → (A → ℕ) → (A → Type 0) → (List Token → A → Type 0) → Type 0
Bounded {A} m Q P = (tokens : List Token) (a : A) → P tokens a → (m a ≤ length tokens) × Q a

-- ---- lists with commas between

module _ {A : Type 0} (m : A → ℕ) (Q : A → Type 0) (P : List Token → A → Type 0) (bounded : Bounded m Q P) where
  abbrev Grown : List A → List A → List Token → Type 0
  Grown state last tokens = (weigh m last ≤ weigh m state + length tokens) × (Each Q state → Each Q last)

  one_further : (state next : List A) (tokens : List Token) → further P state tokens next → Grown state next tokens
  one_further state next tokens (front, back, span, split, comma, (f, b, item, parts, phrase, (nil, is))) =
      let whole = split_length tokens front back split in
      let inner = split_length back f b parts in
      let found = bounded f item phrase in
      let weight = weigh-append m state (item ∷ []) in
      let same = ap (weigh m) is in
      (omega (arith, whole, inner, found.0, weight, same), λ all. subst (Each Q) (sym is) (each_push Q state item all found.1))

  all_steps : (n : ℕ) (state last : List A) (tokens : List Token) → steps (further P) n state tokens last → Grown state last tokens
  all_steps zero state last tokens (nil, is) = (let same = ap (weigh m) is in omega (arith, same), λ all. subst (Each Q) (sym is) all)
  all_steps (suc n) state last tokens (front, back, next, split, step, rest) =
      let one = one_further state next front step in
      let more = all_steps n next last back rest in
      let whole = split_length tokens front back split in
      (omega (arith, one.0, more.0, whole), λ all. more.1 (one.1 all))

  pub list_bounded : Bounded (weigh m) (Each Q) (listed P)
  list_bounded tokens last (front, back, first, split, phrase, (n, turns)) =
      let found = bounded front first phrase in
      let more = all_steps n (first ∷ []) last back turns in
      let whole = split_length tokens front back split in
      (omega (arith, found.0, more.0, whole), more.1 (found.1, tt))
