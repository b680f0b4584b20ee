-- What a text that is written can open in HTML.
use Rattle.std.specs.Prelude.{◌≡◌, ℕ, ◌==◌, ◌&&◌, ◌||◌, not, Bool, true, List, [], ◌∷◌, codes}
use Rattle.std.specs.List.{list_all, starts_with}
use Rattle.tmpl.specs.declared.Writing.{Writing}
use Rattle.tmpl.specs.declared.Writing.TheVariants.{Escaped, Raw, Lines, Url, Json}

-- no byte is `<`
abbrev pub has_no_tag : List ℕ → Bool
has_no_tag = list_all (λ b. not (b == 60))

-- behind each `<` is `br>` and LF
abbrev pub has_breaks_alone : List ℕ → Bool
has_breaks_alone [] = true
has_breaks_alone (b ∷ behind) =
    (not (b == 60) || starts_with ◌==◌ behind (codes "br>\n")) && has_breaks_alone behind

-- it opens no tag, of lines none but their breaks; what stands as it is may open any
abbrev pub IsSafe : Writing → List ℕ → Type 0
IsSafe Escaped text = has_no_tag text ≡ true
IsSafe Raw text = Unit {0}
IsSafe Lines text = has_breaks_alone text ≡ true
IsSafe Url text = has_no_tag text ≡ true
IsSafe Json text = has_no_tag text ≡ true
