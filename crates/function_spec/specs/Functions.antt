-- What the functions of a query's conditions give.
use Rattle.std.specs.Prelude.{◌≡◌, ◌<◌, ◌≤◌, ℕ, ℤ, pos, negsuc, ◌+ℤ◌, ◌-ℤ◌, ◌*ℤ◌, List, [], ◌∷◌, length, map, Contains, Option, Some, None, IsSomeAnd}
use Rattle.std.specs.Fmt.{option_append}
use Rattle.std.specs.Int.{w64}
use Rattle.std.specs.Int.RustNames.{FitsSigned}
use Rattle.std.specs.List.{join_by}
use Rattle.std.specs.Option.{option_zip}
use Rattle.std.specs.StrCase.Lower.{str_to_lowercase}
use Rattle.std.specs.StrCase.Upper.{str_to_uppercase}
use Rattle.sd_value.specs.declared.Datum.TheVariants.{Int, Text, Url, File, Node}
use Rattle.sd_value.specs.declared.Value.{Value}
use Rattle.sd_value.specs.declared.Value.TheVariants.{Data, Page}
use Rattle.value_texts.specs.Texts.{text_of}
use Rattle.function_spec.specs.declared.Function.{Function}
use Rattle.function_spec.specs.declared.Function.TheVariants.{Lower, Upper, Fold, Slug, Trim, First, Last, Rest, Before, After, Replace, Join, Length, Number, Decimal, Plus, Minus, Times, Div, Mod, Split}
use Rattle.function_spec.specs.Characters.{count, first, last, rest}
use Rattle.function_spec.specs.Cuts.{IsFirstAt, AreParts}
use Rattle.function_spec.specs.Folding.{fold}
use Rattle.function_spec.specs.Numbers.{Spells, IsMark, IsDecimal, quotient, remainder}
use Rattle.function_spec.specs.Words.{trim, dashed}

-- ---- arguments: none where their number or a kind is another one

-- the number of a value: only an Int has one
abbrev pub number_of : Value → Option ℤ
number_of (Data (Int n)) = Some n
number_of (Data (Text s)) = None
number_of (Data (Url s)) = None
number_of (Data (File s)) = None
number_of (Data (Node s)) = None
number_of (Page t) = None

-- a number that is not below 0
abbrev pub natural : Option ℤ → Option ℕ
natural None = None
natural (Some (pos n)) = Some n
natural (Some (negsuc n)) = None

-- the number of a value that counts something
abbrev pub count_of : Value → Option ℕ
count_of v = natural (number_of v)

-- the text of one value
abbrev pub one_text : List Value → Option (List ℕ)
one_text (a ∷ []) = text_of a
one_text [] = None
one_text (a ∷ b ∷ vs) = None

-- what the first and the second of two values are read as
abbrev pub two : {X Y : Type 0}
    → (Value → Option X) → (Value → Option Y) → List Value → Option (X × Y)
two f g (a ∷ b ∷ []) = option_zip (f a) (g b)
two f g [] = None
two f g (a ∷ []) = None
two f g (a ∷ b ∷ c ∷ vs) = None

-- two texts and what the third of three values is read as
abbrev pub three : {X : Type 0} → (Value → Option X) → List Value → Option ((List ℕ × List ℕ) × X)
three f (a ∷ b ∷ c ∷ []) = option_zip (option_zip (text_of a) (text_of b)) (f c)
three f [] = None
three f (a ∷ []) = None
three f (a ∷ b ∷ []) = None
three f (a ∷ b ∷ c ∷ d ∷ vs) = None

-- the texts of all values, one after another
abbrev pub joined : List Value → Option (List ℕ)
joined [] = Some []
joined (a ∷ vs) = option_append (text_of a) (joined vs)

-- ---- results

-- how many bytes a Text has at most that a function gives
abbrev pub longest : ℕ
longest = 1048576

-- v is the Text t, which is not too long
abbrev pub IsText : List ℕ → Value → Type 0
IsText t v = (length t ≤ longest) × (v ≡ Data (Text t))

-- the same, of a text that is not empty
abbrev pub IsFilledText : List ℕ → Value → Type 0
IsFilledText t v = (0 < length t) × IsText t v

-- v is the Int n of 64 bits
abbrev pub IsInt : ℤ → Value → Type 0
IsInt n v = FitsSigned w64 n × (v ≡ Data (Int n))

-- ---- functions

-- what a function of one text gives
abbrev pub OfText : Function → List ℕ → Value → Type 0
OfText Lower t = IsText (str_to_lowercase t)
OfText Upper t = IsText (str_to_uppercase t)
OfText Fold t = IsText (fold t)
OfText Slug t = IsFilledText (dashed (fold t))
OfText Trim t = IsText (trim t)
OfText Length t = IsInt (pos (count t))
OfText Number t = λ v. (n : ℤ) × Spells (trim t) n × IsInt n v
OfText f t = λ v. ⊥

-- what a function of a text and a count gives
abbrev pub OfCount : Function → List ℕ × ℕ → Value → Type 0
OfCount First p = IsText (first p.0 p.1)
OfCount Last p = IsText (last p.0 p.1)
OfCount Rest p = IsText (rest p.0 p.1)
OfCount f p = λ v. ⊥

-- what a function of a text and one to look for gives, which is not empty
abbrev pub OfTexts : Function → List ℕ × List ℕ → Value → Type 0
OfTexts Before p = λ v. (front back : List ℕ) × IsFirstAt p.1 p.0 front back × IsText front v
OfTexts After p = λ v. (front back : List ℕ) × IsFirstAt p.1 p.0 front back × IsText back v
OfTexts Split p = λ v.
    (parts : List (List ℕ)) × AreParts p.1 p.0 parts
    × ((part : List ℕ) × Contains parts part × IsFilledText (trim part) v)
OfTexts f p = λ v. ⊥

-- what a function of two numbers gives
abbrev pub OfNumbers : Function → ℤ × ℤ → Value → Type 0
OfNumbers Plus p = IsInt (p.0 +ℤ p.1)
OfNumbers Minus p = IsInt (p.0 -ℤ p.1)
OfNumbers Times p = IsInt (p.0 *ℤ p.1)
OfNumbers Div p = λ v. (p.1 ≡ pos 0 → ⊥) × IsInt (quotient p.0 p.1) v
OfNumbers Mod p = λ v. (p.1 ≡ pos 0 → ⊥) × IsInt (remainder p.0 p.1) v
OfNumbers f p = λ v. ⊥

-- what `replace` makes of a text, one in it and another in its place
abbrev pub Replaced : (List ℕ × List ℕ) × List ℕ → Value → Type 0
Replaced p v =
    (parts : List (List ℕ)) × AreParts p.0.1 p.0.0 parts × IsText (join_by (λ t. t) p.1 parts) v

-- what `decimal` makes of a text, the mark in it and how far the mark moves
abbrev pub Decimals : (List ℕ × List ℕ) × ℕ → Value → Type 0
Decimals p v =
    IsMark p.0.1 × (p.1 ≤ 18) × ((n : ℤ) × IsDecimal p.0.0 p.0.1 p.1 n × IsInt n v)

-- v is a value of the call f(vs)
unfoldable pub Gives : Function → List Value → Value → Type 0
Gives Lower vs v = IsSomeAnd (one_text vs) (λ t. OfText Lower t v)
Gives Upper vs v = IsSomeAnd (one_text vs) (λ t. OfText Upper t v)
Gives Fold vs v = IsSomeAnd (one_text vs) (λ t. OfText Fold t v)
Gives Slug vs v = IsSomeAnd (one_text vs) (λ t. OfText Slug t v)
Gives Trim vs v = IsSomeAnd (one_text vs) (λ t. OfText Trim t v)
Gives Length vs v = IsSomeAnd (one_text vs) (λ t. OfText Length t v)
Gives Number vs v = IsSomeAnd (one_text vs) (λ t. OfText Number t v)
Gives First vs v = IsSomeAnd (two text_of count_of vs) (λ p. OfCount First p v)
Gives Last vs v = IsSomeAnd (two text_of count_of vs) (λ p. OfCount Last p v)
Gives Rest vs v = IsSomeAnd (two text_of count_of vs) (λ p. OfCount Rest p v)
Gives Before vs v = IsSomeAnd (two text_of text_of vs) (λ p. (0 < length p.1) × OfTexts Before p v)
Gives After vs v = IsSomeAnd (two text_of text_of vs) (λ p. (0 < length p.1) × OfTexts After p v)
Gives Split vs v = IsSomeAnd (two text_of text_of vs) (λ p. (0 < length p.1) × OfTexts Split p v)
Gives Plus vs v = IsSomeAnd (two number_of number_of vs) (λ p. OfNumbers Plus p v)
Gives Minus vs v = IsSomeAnd (two number_of number_of vs) (λ p. OfNumbers Minus p v)
Gives Times vs v = IsSomeAnd (two number_of number_of vs) (λ p. OfNumbers Times p v)
Gives Div vs v = IsSomeAnd (two number_of number_of vs) (λ p. OfNumbers Div p v)
Gives Mod vs v = IsSomeAnd (two number_of number_of vs) (λ p. OfNumbers Mod p v)
Gives Replace vs v = IsSomeAnd (three text_of vs) (λ p. (0 < length p.0.1) × Replaced p v)
Gives Decimal vs v = IsSomeAnd (three count_of vs) (λ p. Decimals p v)
Gives Join vs v = (2 ≤ length vs) × (length vs ≤ 16) × IsSomeAnd (joined vs) (λ t. IsText t v)
