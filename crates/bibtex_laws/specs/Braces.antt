-- Texts between an opening byte and the one that closes, with braces in pairs.
use Rattle.std.specs.Prelude.{◌≡◌, ◌+◌, ◌≤◌, ◌<◌, ℕ, List, [], ◌∷◌, ◌++◌, nat_eq, if◌then◌else◌}

-- one where the bytes are the same
abbrev pub single : ℕ → ℕ → ℕ
single mark b = if nat_eq b mark then 1 else 0

-- how often a byte stands in a text
abbrev pub count : ℕ → List ℕ → ℕ
count mark [] = 0
count mark (b ∷ text) = single mark b + count mark text

-- Where `outer` braces are open before it: no front of the text closes more braces than are open, all are closed at
-- its end, and the byte that closes the text stands in it only where a brace is open.
pub record IsEnclosed (outer close : ℕ) (text : List ℕ) : Type 0 where
  pub fronts : (front back : List ℕ) → text ≡ front ++ back
      → count 125 front ≤ outer + count 123 front
  pub whole : count 125 text ≡ outer + count 123 text
  pub inner : (front back : List ℕ) → text ≡ front ++ (close ∷ back)
      → count 125 front < outer + count 123 front

-- No more than 63 braces are open within it: with the byte that opens the text, 64.
abbrev pub IsShallow : ℕ → List ℕ → Type 0
IsShallow outer text =
    (front back : List ℕ) → text ≡ front ++ back → outer + count 123 front ≤ count 125 front + 63
