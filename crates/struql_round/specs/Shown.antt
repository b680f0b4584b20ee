-- The tokens of an expression's canonical text, wherever they are, and when they are within the limits.
use Rattle.std.specs.Prelude.{◌≡◌, ℕ, zero, suc, ◌+◌, Bool, true, false, List, [], ◌∷◌, ◌++◌, nat_lt}
use Rattle.sd_lex.specs.declared.token.Token.{Token}
use Rattle.sd_lex.specs.declared.token.TokenKind.TheVariants as kinds
use Rattle.sd_lex.specs.declared.token.Sign.TheVariants as signs
use Rattle.rpe.specs.Regex.{Regex, label, any, empty, seq, alt, star}
use Rattle.token_reader.specs.Terminals.{is_sign}
use Rattle.struql_text.specs.Expression.{stars}
use Rattle.struql_print.specs.Texts.{is_alt, is_alt_or_seq}

-- in parentheses, or not
abbrev pub Wrapped : Bool → (List Token → Type 0) → List Token → Type 0
Wrapped false shows tokens = shows tokens
Wrapped true shows tokens =
    (opening : Token) × (inner : List Token) × (close : Token)
    × (tokens ≡ opening ∷ (inner ++ close ∷ [])) × (is_sign signs.OpenParen opening ≡ true)
    × shows inner × (is_sign signs.CloseParen close ≡ true)

abbrev pub Shows : Regex → List Token → Type 0
Shows (label l) tokens = (t : Token) × (tokens ≡ t ∷ []) × (t.kind ≡ kinds.Quoted l)
Shows any tokens =
    (t : Token) × (tokens ≡ t ∷ []) × (t.kind ≡ kinds.Name (116 ∷ 114 ∷ 117 ∷ 101 ∷ []))
Shows empty tokens =
    (opening : Token) × (close : Token) × (tokens ≡ opening ∷ close ∷ [])
    × (is_sign signs.OpenParen opening ≡ true) × (is_sign signs.CloseParen close ≡ true)
Shows (seq r s) tokens =
    (front : List Token) × (dot : Token) × (back : List Token) × (tokens ≡ front ++ dot ∷ back)
    × Wrapped (is_alt r) (Shows r) front × (is_sign signs.Dot dot ≡ true)
    × Wrapped (is_alt_or_seq s) (Shows s) back
Shows (alt r s) tokens =
    (front : List Token) × (bar : Token) × (back : List Token) × (tokens ≡ front ++ bar ∷ back)
    × Shows r front × (is_sign signs.Bar bar ≡ true) × Wrapped (is_alt s) (Shows s) back
Shows (star r) tokens =
    (front : List Token) × (star : Token) × (tokens ≡ front ++ star ∷ [])
    × Wrapped (is_alt_or_seq r) (Shows r) front × (is_sign signs.Star star ≡ true)

-- how many signs `.` and `|` are up to the end of the expression, where `n` are before it
abbrev pub signs_after : ℕ → Regex → ℕ
signs_after n (label l) = n
signs_after n any = n
signs_after n empty = n
signs_after n (seq r s) = signs_after (signs_after n r + 1) s
signs_after n (alt r s) = signs_after (signs_after n r + 1) s
signs_after n (star r) = signs_after n r

-- within this many open parentheses: one fewer within parentheses
abbrev pub FitsIn : Bool → (ℕ → Type 0) → ℕ → Type 0
FitsIn false fits depth = fits depth
FitsIn true fits zero = ⊥
FitsIn true fits (suc depth) = fits depth

-- The expression fits the limits, with this many parentheses still to open, behind `n` signs.
abbrev pub Fits : Regex → ℕ → ℕ → Type 0
Fits (label l) n depth = Unit {0}
Fits any n depth = Unit {0}
Fits empty n depth = FitsIn true (λ _. Unit {0}) depth
Fits (seq r s) n depth =
    FitsIn (is_alt r) (Fits r n) depth × (nat_lt (signs_after n r) 1023 ≡ true)
    × FitsIn (is_alt_or_seq s) (Fits s (signs_after n r + 1)) depth
Fits (alt r s) n depth =
    Fits r n depth × (nat_lt (signs_after n r) 1023 ≡ true)
    × FitsIn (is_alt s) (Fits s (signs_after n r + 1)) depth
Fits (star r) n depth = FitsIn (is_alt_or_seq r) (Fits r n) depth × (nat_lt (stars r) 64 ≡ true)
