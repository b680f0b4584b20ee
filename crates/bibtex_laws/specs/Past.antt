-- Where a limit is passed, and by which word.
use Rattle.std.specs.Prelude.{◌≡◌, Bool, false, List, ◌∷◌, ◌++◌}
use Rattle.grammar.specs.Fault.{Every}
use Rattle.grammar.specs.Reading.{Outcome, Past, starts}

-- The reader has passed a limit where `rest` begins, by the word there. What stands before goes on to a phrase of `W`;
-- with the word it goes on to one of `U`, with a token first that may stand behind the word; and wherever the word
-- stands there and such a token behind it, the limit is passed.
pub record IsPastAt {T A : Type 0} (Real : T → Type 0) (Why : List T → (T → Bool) → Type 0)
    (W U : List T → A → Type 0) (read : List T → Outcome T A) (tokens rest : List T) : Type 0 where
  pub front : List T
  pub more : List T
  pub value : A
  pub parts : tokens ≡ front ++ rest
  pub fits : W (front ++ more) value
  pub goes_on : Every Real more
  pub head : T
  pub tail : List T
  pub later : List T
  pub stops : T → Bool
  pub is : rest ≡ head ∷ (tail ++ later)
  pub ends : starts stops later ≡ false
  pub next : T
  pub others : List T
  pub found : A
  pub spelled : U (front ++ (head ∷ (tail ++ (next ∷ others)))) found
  pub parted : stops next ≡ false
  pub real : Every Real (next ∷ others)
  pub why : Why (head ∷ tail) stops
  pub again : (s : List T) → starts stops s ≡ false
      → read (front ++ (head ∷ (tail ++ s))) ≡ Past (head ∷ (tail ++ s))
