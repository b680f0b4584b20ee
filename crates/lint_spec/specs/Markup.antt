-- Where in HTML a place of a template is, by the text that its template has before it.
use Rattle.std.specs.Prelude.{ℕ, Bool, true, false, ◌==◌, ◌&&◌, ◌||◌, List, [], ◌∷◌}
use Rattle.std.specs.Prelude.{if◌then◌else◌, codes}
use Rattle.std.specs.Char.{to_ascii_lowercase}
use Rattle.sd_lex.specs.Bytes.{is_blank, is_letter}
use Rattle.lint_spec.specs.declared.Markup.{Markup}
use Rattle.lint_spec.specs.declared.Markup.TheVariants.{Content, Tag, Value, Unquoted, Quoted, Raw}

-- the bytes begin with this word, in letters of either case
abbrev pub begins_word : List ℕ → List ℕ → Bool
begins_word [] bytes = true
begins_word (w ∷ word) [] = false
begins_word (w ∷ word) (b ∷ bytes) = to_ascii_lowercase b == w && begins_word word bytes

-- a tag of this name is one whose content is a script or a style sheet
abbrev pub is_raw : List ℕ → Bool
is_raw bytes = begins_word (codes "script") bytes || begins_word (codes "style") bytes

-- the content of such a tag ends
abbrev pub ends_raw : List ℕ → Bool
ends_raw bytes = begins_word (codes "/script") bytes || begins_word (codes "/style") bytes

-- the value of an attribute that begins so is a script or a style
abbrev pub is_run : List ℕ → Bool
is_run bytes = begins_word (codes "on") bytes || begins_word (codes "style") bytes

-- a tag's name, a `/` or a `!` stands after `<`
abbrev pub starts_tag : List ℕ → Bool
starts_tag [] = false
starts_tag (b ∷ bytes) = is_letter b || b == 47 || b == 33

-- what follows the end of a tag
abbrev pub inside : Bool → Markup
inside true = Raw
inside false = Content

-- where a byte leads, with the bytes after it
abbrev pub step : Markup → ℕ → List ℕ → Markup
step Content b bytes =
    if b == 60 && starts_tag bytes then Tag (is_raw bytes) false else Content
step Raw b bytes =
    if b == 60 && ends_raw bytes then Tag false false else Raw
step (Tag raw runs) b bytes =
    if b == 62 then inside raw
    else if b == 61 then Value raw runs
    else if is_blank b || b == 47 then Tag raw (is_run bytes)
    else Tag raw runs
step (Value raw runs) b bytes =
    if b == 62 then inside raw
    else if is_blank b then Value raw runs
    else if b == 34 then Quoted raw runs true
    else if b == 39 then Quoted raw runs false
    else Unquoted raw
step (Unquoted raw) b bytes =
    if b == 62 then inside raw
    else if is_blank b then Tag raw (is_run bytes)
    else Unquoted raw
step (Quoted raw runs double) b bytes =
    if b == (if double then 34 else 39) then Tag raw false else Quoted raw runs double

-- where a text leads
abbrev pub after_text : Markup → List ℕ → Markup
after_text place [] = place
after_text place (b ∷ bytes) = after_text (step place b bytes) bytes

-- where a value leads that is shown there
abbrev pub after_value : Markup → Markup
after_value (Value raw runs) = Unquoted raw
after_value place = place

-- what is shown there may be read as more than text, though it is escaped: within a tag, in an attribute
-- without quotes, in one whose value is a script or a style, and in a script or a style sheet
abbrev pub is_unsafe : Markup → Bool
is_unsafe Content = false
is_unsafe (Quoted raw runs double) = runs
is_unsafe place = true
