-- The loop over a list's items with commas between.
use Rattle.std.proofs.Common.{◌≡◌, ◌<◌, true, List, [], ◌∷◌, ◌++◌, length, refl, ap, ◌∙◌}
use Rattle.sd_lex.specs.declared.token.Span.{Span}
use Rattle.sd_lex.specs.declared.token.Token.{Token}
use Rattle.sd_lex.specs.declared.token.Sign.TheVariants as signs
use Rattle.grammar.specs.Reading.{Outcome, Read, Stuck, Past, and_then, starts, iterate}
use Rattle.grammar.proofs.Loop.{goes_on}
use Rattle.token_reader.specs.declared.halt.Halt.{Halt}
use Rattle.token_reader.specs.declared.halt.Halt.TheVariants.{Expected, TooDeep, NoMemory}
use Rattle.token_reader.specs.Terminals.{is_sign}
use Rattle.token_reader.specs.Gives.{Fails}
use Rattle.struql_text.specs.Terminals.{sign_value}
use Rattle.struql_text.specs.Reading.{read_sign, read_next, read_further}
use Rattle.struql_text.proofs.Shorter.{Keeps, give_keeps, one_takes, then_takes, then_keeps}
use Rattle.struql_text.proofs.Loops.{ends}

module _ {A : Type 0} {p : List Token → Outcome Token A} (keeps : Keeps p) where
  pub list_shrinks : (items : List A) (ts : List Token) (next : List A) (rest : List Token) → starts (is_sign signs.Comma) ts ≡ true → read_further p items ts ≡ Read next rest → length rest < length ts
  unfolding read_further
  list_shrinks items ts next rest is was = then_takes _ _ (λ comma. then_keeps _ _ (λ item. give_keeps (items ++ item ∷ [])) keeps) (one_takes (sign_value signs.Comma)) ts next rest was

  -- a step is the next item, kept behind the others
  step_is : (items : List A) (ts : List Token) → read_further p items ts ≡ and_then (read_next p ts) (λ item rest. Read (items ++ item ∷ []) rest)
  unfolding read_further read_next
  step_is items ts = behind (read_sign signs.Comma ts)
    where
      behind : (o : Outcome Token Span) → and_then o (λ _ r. and_then (p r) (λ item rest. Read (items ++ item ∷ []) rest)) ≡ and_then (and_then o (λ _. p)) (λ item rest. Read (items ++ item ∷ []) rest)
      behind (Read place rest) = refl
      behind (Stuck rest) = refl
      behind (Past rest) = refl

  pub list_step : (items : List A) (ts : List Token) (item : A) (rest : List Token) → read_next p ts ≡ Read item rest → read_further p items ts ≡ Read (items ++ item ∷ []) rest
  list_step items ts item rest was = step_is items ts ∙ ap (λ o. and_then o (λ item rest. Read (items ++ item ∷ []) rest)) was

  step_fails : (e : Halt Token) (items : List A) (ts : List Token) → Fails e (read_next p ts) → Fails e (read_further p items ts)
  step_fails NoMemory items ts was = tt
  step_fails (Expected rest) items ts was = step_is items ts ∙ ap (λ o. and_then o (λ item rest. Read (items ++ item ∷ []) rest)) was
  step_fails (TooDeep rest) items ts was = step_is items ts ∙ ap (λ o. and_then o (λ item rest. Read (items ++ item ∷ []) rest)) was

  pub list_ends : (e : Halt Token) (items : List A) (ts : List Token) (total : Outcome Token (List A)) → starts (is_sign signs.Comma) ts ≡ true → Fails e (read_next p ts)
      → iterate (is_sign signs.Comma) (read_further p) items ts ≡ total → Fails e total
  list_ends e items ts total is was so_far = ends (is_sign signs.Comma) (read_further p) list_shrinks e items ts total is (step_fails e items ts was) so_far

  pub list_goes_on : (items : List A) (ts : List Token) (item : A) (after : List Token) (total : Outcome Token (List A)) → starts (is_sign signs.Comma) ts ≡ true → read_next p ts ≡ Read item after
      → iterate (is_sign signs.Comma) (read_further p) items ts ≡ total → iterate (is_sign signs.Comma) (read_further p) (items ++ item ∷ []) after ≡ total
  list_goes_on items ts item after total is was so_far = goes_on (is_sign signs.Comma) (read_further p) list_shrinks items ts (items ++ item ∷ []) after total is (list_step items ts item after was) so_far

  pub list_smaller : (ts : List Token) (item : A) (after : List Token) → starts (is_sign signs.Comma) ts ≡ true → read_next p ts ≡ Read item after → length after < length ts
  list_smaller ts item after is was = list_shrinks [] ts (item ∷ []) after is (list_step [] ts item after was)
