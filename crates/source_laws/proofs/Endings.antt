-- Tokens spell a value within the limits, leave the grammar, or pass a limit: whichever the reader of the whole finds.
use Rattle.std.proofs.Common.{◌≡◌, List, [], ◌∷◌, ◌++◌, refl, sym, ap, subst, ◌∙◌}
use Rattle.std.proofs.lemmas.List.{append-nil}
use Rattle.grammar.specs.Fault.{FirstFault, FirstPast}
use Rattle.grammar.specs.Reading.{Outcome, Read, Stuck, Past, and_then, ◌>>=◌, finish}
use Rattle.grammar.proofs.Exact.{is_first_fault, is_first_past}
use Rattle.grammar.proofs.Laws.{Reads, AtEnd}

-- how tokens end
pub data Ending {T A : Type 0} (Real : T → Type 0) (P U : List T → A → Type 0) (tokens : List T) : Type 0 where
  spelled : (value : A) → P tokens value → Ending Real P U tokens
  stuck : (rest : List T) → FirstFault Real P U tokens rest → Ending Real P U tokens
  past : (rest : List T) → FirstPast Real P U tokens rest → Ending Real P U tokens

-- what is read is all of the tokens
abbrev pub Closes : {T A : Type 0} → (List T → Outcome T A) → Type 0
Closes {T} {A} read = (tokens : List T) (value : A) (rest : List T) → read tokens ≡ Read value rest → rest ≡ []

pub finish_closes : {T A : Type 0} (v : A) → Closes {T = T} (finish v)
finish_closes v [] w rest e = cc
finish_closes v (t ∷ tokens) w rest e = absurd cc

pub then_closes : {T A B : Type 0} (read : List T → Outcome T B) (next : B → List T → Outcome T A) → ((v : B) → Closes (next v))
    → Closes (read >>= next)
then_closes {T} {A} {B} read next closes tokens w rest e = by (read tokens) e
  where
    by : (o : Outcome T B) → and_then o next ≡ Read w rest → rest ≡ []
    by (Read v later) is = closes v later w rest is
    by (Stuck later) is = absurd cc
    by (Past later) is = absurd cc

module _ {T A : Type 0} (Real : T → Type 0) (P U : List T → A → Type 0) (read : List T → Outcome T A)
    (reads : (tokens : List T) → Reads Real P U AtEnd read tokens)
    (closes : Closes read) where
  pub ending : (tokens : List T) → Ending Real P U tokens
  ending tokens = by (read tokens) refl
    where
      by : (o : Outcome T A) → read tokens ≡ o → Ending Real P U tokens
      by (Read v rest) is =
          let s = (reads tokens).sound v rest is in
          let whole : tokens ≡ s.0 = s.1 ∙ ap (λ x. s.0 ++ x) (closes tokens v rest is) ∙ append-nil s.0 in
          spelled v (subst (λ x. P x v) (sym whole) s.2)
      by (Stuck rest) is = stuck rest (is_first_fault Real P U read reads tokens rest is)
      by (Past rest) is = past rest (is_first_past Real P U read reads tokens rest is)
