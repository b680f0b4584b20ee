-- The lines of a text.
use Rattle.std.specs.Prelude.{◌-◌, ◌&&◌, ◌||◌, ℕ, Bool, true, false, nat_eq, List, [], ◌∷◌, ◌++◌, length, codes}
use Rattle.std.specs.Prelude.{if◌then◌else◌}
use Rattle.std.specs.List.{list_any}
use Rattle.std.specs.Str.{bytes_eq}

-- a line: the place of its first byte, and its bytes without its end
pub record Line : Type 0 where
  pub at : ℕ
  pub text : List ℕ

abbrev pub line : ℕ → List ℕ → Line
line at text = record { at = at; text = text }

-- whether a line feed is next
abbrev pub is_at_feed : List ℕ → Bool
is_at_feed [] = false
is_at_feed (b ∷ bytes) = nat_eq b 10

-- the lines, of which the first begins here and with these bytes
abbrev pub begun : ℕ → List ℕ → List Line → List Line
begun at front [] = line at front ∷ []
begun at front (l ∷ lines) = line at (front ++ l.text) ∷ lines

-- The lines of the last bytes of a file of so many. CR LF ends a line as LF does.
abbrev pub lines_of : (size : ℕ) → List ℕ → List Line
lines_of size [] = line size [] ∷ []
lines_of size (b ∷ bytes) =
    if nat_eq b 10 then line (size - length (b ∷ bytes)) [] ∷ lines_of size bytes
    else if nat_eq b 13 && is_at_feed bytes
    then begun (size - length (b ∷ bytes)) [] (lines_of size bytes)
    else begun (size - length (b ∷ bytes)) (b ∷ []) (lines_of size bytes)

-- the lines as one text, with a line feed between each two
abbrev pub joined : List Line → List ℕ
joined [] = []
joined (l ∷ []) = l.text
joined (l ∷ m ∷ lines) = l.text ++ (10 ∷ joined (m ∷ lines))

-- ---- front matter

-- a line of three signs, as they stand before and after front matter
abbrev pub is_fence : Line → Bool
is_fence l = bytes_eq l.text (codes "---")

-- the lines before the first fence, and those after it
abbrev pub before_fence : List Line → List Line
before_fence [] = []
before_fence (l ∷ lines) = if is_fence l then [] else l ∷ before_fence lines

abbrev pub after_fence : List Line → List Line
after_fence [] = []
after_fence (l ∷ lines) = if is_fence l then lines else after_fence lines

-- whether the first line is a fence, and a later one too
abbrev pub has_front : List Line → Bool
has_front [] = false
has_front (l ∷ lines) = is_fence l && list_any is_fence lines

-- all but the first
abbrev pub later : List Line → List Line
later [] = []
later (l ∷ lines) = lines

-- the lines of the front matter, where there is one
abbrev pub front_lines : List Line → List Line
front_lines lines = if has_front lines then before_fence (later lines) else []

-- the lines of the text itself
abbrev pub text_lines : List Line → List Line
text_lines lines = if has_front lines then after_fence (later lines) else lines
