-- How code goes over the lines of a text: a line at a time, and what is left.
use Rattle.std.specs.Prelude.{◌≡◌, ◌-◌, ◌&&◌, ℕ, Bool, true, false, nat_eq, List, [], ◌∷◌, length}
use Rattle.std.specs.Prelude.{Option, Some, None, if◌then◌else◌}
use Rattle.std.specs.List.{list_any}
use Rattle.text_source.specs.Lines.{Line, line, is_at_feed, lines_of, joined, is_fence, before_fence, after_fence, front_lines, text_lines}

-- what follows the first line feed
abbrev pub after_feed : List ℕ → Option (List ℕ)
after_feed [] = None
after_feed (b ∷ bytes) = if nat_eq b 10 then Some bytes else after_feed bytes

-- what stands before it, or all
abbrev pub before_feed : List ℕ → List ℕ
before_feed [] = []
before_feed (b ∷ bytes) = if nat_eq b 10 then [] else b ∷ before_feed bytes

-- without a carriage return at its end
abbrev pub without_return : List ℕ → List ℕ
without_return [] = []
without_return (b ∷ []) = if nat_eq b 13 then [] else b ∷ []
without_return (b ∷ c ∷ bytes) = b ∷ without_return (c ∷ bytes)

-- with each CR LF as LF
abbrev pub plain : List ℕ → List ℕ
plain [] = []
plain (b ∷ bytes) = if nat_eq b 13 && is_at_feed bytes then plain bytes else b ∷ plain bytes

module _ (size : ℕ) where
  -- the lines of what is left, if anything is
  abbrev pub lines_left : Option (List ℕ) → List Line
  lines_left None = []
  lines_left (Some rest) = lines_of size rest

  -- the first line of a text, and what is left after its end
  abbrev pub Cuts : List ℕ → List ℕ → Option (List ℕ) → Type 0
  Cuts text first rest =
      lines_of size text ≡ line (size - length text) first ∷ lines_left rest

  -- what follows the first fence of the lines, or that there is none
  abbrev pub Closes : List ℕ → Option (Option (List ℕ)) → Type 0
  Closes text None = list_any is_fence (lines_of size text) ≡ false
  Closes text (Some rest) =
      (list_any is_fence (lines_of size text) ≡ true)
      × (after_fence (lines_of size text) ≡ lines_left rest)

  -- the lines up to the closing fence of these lines, if there are such
  abbrev pub front_left : Option (List ℕ) → List Line
  front_left None = []
  front_left (Some lines) = before_fence (lines_of size lines)

  -- the text's front matter is in these lines, and this is the text itself
  abbrev pub Splits : List ℕ → Option (List ℕ) → List ℕ → Type 0
  Splits text front own =
      (front_lines (lines_of size text) ≡ front_left front)
      × (joined (text_lines (lines_of size text)) ≡ plain own)
