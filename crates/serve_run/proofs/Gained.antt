-- One piece after another.
use Rattle.std.proofs.Common.{◌≡◌, ℕ, ◌+◌, List, ◌++◌, length, take, inl, inr, sym, ap, ◌∙◌, append_assoc}
use Rattle.std.specs.Prelude.{Option, Some}
use Rattle.std.proofs.Math.Seq.{take-append-add, take-append_seam}
use Rattle.edge_io.specs.Sink.{Gains, GainsPart}
use Rattle.serve_run.specs.Puts.{IsPut}

-- four pieces, one behind another
pub four_pieces : (t a b c d : List ℕ) (t1 t2 t3 t4 : List ℕ) → t1 ≡ t ++ a → t2 ≡ t1 ++ b → t3 ≡ t2 ++ c → t4 ≡ t3 ++ d → t4 ≡ t ++ (a ++ (b ++ (c ++ d)))
four_pieces t a b c d t1 t2 t3 t4 e1 e2 e3 e4 =
    e4 ∙ ap (λ x. x ++ d) (e3 ∙ ap (λ x. x ++ c) (e2 ∙ ap (λ x. x ++ b) e1))
    ∙ append_assoc ((t ++ a) ++ b) c d ∙ append_assoc (t ++ a) b (c ++ d) ∙ append_assoc t a (b ++ (c ++ d))

module _ (a b c : Option (List ℕ)) (x y : List ℕ) where
  pub gains_then : Gains a b x → Gains b c y → Gains a c (x ++ y)
  gains_then whole more = λ before is. more (before ++ x) (whole before is) ∙ ap Some (append_assoc before x y)

  pub part_then : Gains a b x → GainsPart b c y → GainsPart a c (x ++ y)
  part_then whole (n, more) =
      (length x + n, λ before is. more (before ++ x) (whole before is) ∙ ap Some (append_assoc before x (take n y) ∙ ap (λ t. before ++ t) (sym (take-append-add x y n))))

  pub put_then : (P Q : Type 0) → (P → Q) → Gains a b x → IsPut P b c y → IsPut Q a c (x ++ y)
  put_then P Q to whole (inl more) = inl (gains_then whole more)
  put_then P Q to whole (inr (p, part)) = inr (to p, part_then whole part)

  -- nothing behind the first piece
  pub first_part : Gains a b x → c ≡ b → GainsPart a c (x ++ y)
  first_part whole same = (length x, λ before is. same ∙ whole before is ∙ ap (λ t. Some (before ++ t)) (sym (take-append_seam x y)))
