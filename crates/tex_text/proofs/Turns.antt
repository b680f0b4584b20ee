-- The elements of a text, one after the other.
use Rattle.std.proofs.Common.{◌≡◌, ◌≤◌, ℕ, zero, suc, List, [], ◌∷◌, ◌++◌, length, refl, sym, ap, ◌∙◌, append_assoc, arith}
use Rattle.std.proofs.lemmas.List.{append-nil}
use Rattle.tex_text.specs.declared.accents.Accents.{Accents}
use Rattle.tex_text.specs.declared.accents.Accents.TheVariants.{Nothing}
use Rattle.tex_text.specs.Elements.{element}
use Rattle.tex_text.specs.Shown.{shown_within, shown, IsShown}

-- what was read shows `text`, and `rest` is still to be read
pub record IsReached (bytes text : List ℕ) (accents : Accents) (rest : List ℕ) : Type 0 where
  pub turns : ℕ
  pub enough : length rest ≤ turns
  pub goes_on : text ++ shown_within turns accents rest ≡ shown bytes

pub begins : (bytes : List ℕ) → IsReached bytes [] Nothing bytes
begins bytes = record { turns = length bytes; enough = omega arith; goes_on = refl }

pub one_more : (bytes text now : List ℕ) (accents next : Accents) (rest later left : List ℕ) (b : ℕ) → rest ≡ b ∷ later → IsShown (element accents b later) text now next left
    → length left ≤ length later → IsReached bytes text accents rest → IsReached bytes now next left
one_more bytes text now accents next rest later left b split (out, waits, leaves) less reached = by reached.turns reached.enough reached.goes_on
  where
    by : (n : ℕ) → length rest ≤ n → text ++ shown_within n accents rest ≡ shown bytes → IsReached bytes now next left
    by zero few e = absurd (omega (arith, few, ap length split))
    by (suc n) enough e = record {
      turns = n;
      enough = omega (arith, enough, ap length split, less);
      goes_on =
          ap (λ x. x ++ shown_within n next left) out
          ∙ append_assoc text (element accents b later).out (shown_within n next left)
          ∙ ap (λ x. text ++ ((element accents b later).out ++ shown_within n x left)) waits
          ∙ ap (λ x. text ++ ((element accents b later).out ++ shown_within n (element accents b later).accents x)) leaves
          ∙ ap (λ x. text ++ shown_within (suc n) accents x) (sym split) ∙ e;
    }

nothing_left : (n : ℕ) (accents : Accents) → shown_within n accents [] ≡ []
nothing_left zero accents = refl
nothing_left (suc n) accents = refl

pub ends : (bytes text : List ℕ) (accents : Accents) (rest : List ℕ) → length rest ≡ 0 → IsReached bytes text accents rest → text ≡ shown bytes
ends bytes text accents (b ∷ rest) none reached = absurd (omega (arith, none))
ends bytes text accents [] none reached =
    sym (append-nil text) ∙ ap (λ x. text ++ x) (sym (nothing_left reached.turns accents)) ∙ reached.goes_on
