-- The parts of a list, of which the first has begun.
use Rattle.std.specs.Prelude.{◌≡◌, ℕ, Bool, true, false, List, [], ◌∷◌, ◌++◌}
use Rattle.std.proofs.Common.{refl, ap, append_assoc, sym}
use Rattle.text_source.specs.Values.{grown, parts_from, quoting_after}

-- the parts with these bytes at the front of the first
abbrev pub after_part : List ℕ → List (List ℕ) → List (List ℕ)
after_part front [] = front ∷ []
after_part front (part ∷ parts) = (front ++ part) ∷ parts

pub after_more : (front : List ℕ) (b : ℕ) (parts : List (List ℕ)) → after_part front (grown b parts) ≡ after_part (front ++ b ∷ []) parts
after_more front b [] = refl
after_more front b (part ∷ parts) = ap (λ x. x ∷ parts) (sym (append_assoc front (b ∷ []) part))
