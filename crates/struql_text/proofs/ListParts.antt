-- Lists with commas between, with their readers.
use Rattle.std.proofs.Common.{◌≡◌, true, List, [], ◌∷◌, ◌++◌, length, refl, sym, subst, ap, arith, length-append}
use Rattle.sd_lex.specs.declared.token.Token.{Token}
use Rattle.sd_lex.specs.declared.token.Sign.TheVariants as signs
use Rattle.grammar.proofs.Parts.{Opens, opens_then, Part, ◌>>=◌, give_part, then_part, weaken_part, iterate_part, iterate_follow}
use Rattle.grammar.specs.Reading.{Outcome}
use Rattle.grammar.proofs.Laws.{Stops}
use Rattle.token_reader.specs.Terminals.{is_sign}
use Rattle.struql_text.specs.Expression.{sign}
use Rattle.struql_text.specs.Grammar.{further, listed}
use Rattle.struql_text.specs.Reading.{read_further, read_listed}
use Rattle.token_reader.specs.Gives.{IsReal}
use Rattle.struql_text.proofs.Shorter.{Keeps}
use Rattle.struql_text.proofs.TokenParts.{sign_opens, sign_part, is_that}
use Rattle.grammar.specs.Fault.{Every}
use Rattle.std.proofs.lemmas.List.{append-nil}

-- behind a list stands what may stand behind its items, and no comma
abbrev pub AfterList : (List Token → Type 0) → List Token → Type 0
AfterList F rest = F rest × Stops (is_sign signs.Comma) rest

module _ {A : Type 0} {P U : List Token → A → Type 0} {F : List Token → Type 0} {p : List Token → Outcome Token A} (part : Part IsReal P U F p)
    (may : (t : Token) (later : List Token) → is_sign signs.Comma t ≡ true → F (t ∷ later)) where
  further_part : (items : List A) → Part IsReal (further P items) (further U items) F (read_further p items)
  unfolding read_further
  further_part items = do
    _ ← sign_part signs.Comma refl
    then_part part
        (λ item. weaken_part _ (λ _ _. tt) (give_part (items ++ item ∷ [])))
        (λ item y w rest h f. subst (λ x. F (x ++ rest)) (sym h.0) f)

  further_opens : (items : List A) → Opens (further U items) (λ t. is_sign signs.Comma t ≡ true)
  further_opens items = opens_then (sign signs.Comma) _ _ (sign_opens signs.Comma _ (λ t is. is))

  further_opened : (items : List A) (t : Token) → is_sign signs.Comma t ≡ true → (x : List Token) × (v : List A) × further U items (t ∷ x) v × Every IsReal x
  further_opened items t is =
      let phrase = part.phrase in
      let within = (part.reads []).within phrase.0 phrase.1 phrase.2 in
      (phrase.0, items ++ phrase.1 ∷ [], (t ∷ [], phrase.0, t.span, refl, is_that signs.Comma t is, (phrase.0, [], phrase.1, sym (append-nil phrase.0), within, (refl, refl))), phrase.3)

  pub listed_part : Part IsReal (listed P) (listed U) (AfterList F) (read_listed p)
  unfolding read_listed
  listed_part =
      then_part part
      (λ first. iterate_part (is_sign signs.Comma) (λ _. true) (further P) (further U) F (AfterList F) (read_further p) further_part further_opens
      (λ rest f. f.1) may (λ rest f. f.0) further_opened (first ∷ []))
      (λ first y last rest h f. iterate_follow (is_sign signs.Comma) (λ _. true) (further P) (further U) F (AfterList F) (read_further p) further_part further_opens
      (λ rest f. f.1) may (λ rest f. f.0) further_opened y (first ∷ []) last rest h f)

-- a part's reader leaves no more tokens than it is given
pub part_keeps : {A : Type 0} {P U : List Token → A → Type 0} {F : List Token → Type 0} {p : List Token → Outcome Token A} → Part IsReal P U F p → Keeps p
part_keeps part ts v rest was =
    let a = (part.reads ts).sound v rest was in
    omega (arith, ap length a.1, length-append a.0 rest)
