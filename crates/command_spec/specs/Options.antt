-- What the words behind a command's name say: its options, and the other words.
use Rattle.std.specs.Prelude.{ℕ, ◌+◌, List, [], ◌∷◌, take, drop, position, Bool, true, false}
use Rattle.std.specs.Prelude.{nat_eq, Option, None, Some, option_map, if◌then◌else◌, codes}
use Rattle.std.specs.Str.{bytes_eq}

-- an option with its value
pub record Setting : Type 0 where
  pub name : List ℕ
  pub value : List ℕ

-- What a word is: no option, the `--` behind which no word is an option, an option with its value, an option whose value
-- is the next word, or a word that can't be here.
pub data Role : Type 0 where
  Plain : Role
  Dashes : Role
  Complete : Setting → Role
  Open : Role
  Misplaced : Role

-- the options with their values, and the words that are no options, each in order
pub record Parts : Type 0 where
  pub settings : List Setting
  pub words : List (List ℕ)

-- a word of two bytes or more that begins with a dash
abbrev pub is_option : List ℕ → Bool
is_option (first ∷ second ∷ rest) = bytes_eq (first ∷ []) (codes "-")
is_option word = false

-- whether there are no bytes
abbrev pub is_empty : List ℕ → Bool
is_empty [] = true
is_empty (byte ∷ bytes) = false

-- whether the byte is `=`
abbrev pub is_equals : ℕ → Bool
is_equals byte = nat_eq byte 61

-- `--name=value`, where the value is not empty
abbrev pub joined : List ℕ → List ℕ → Role
joined name value =
    if is_empty value then Misplaced else Complete (record { name = name; value = value })

-- an option, which may have its value behind a `=`
abbrev pub option_role : Option ℕ → List ℕ → Role
option_role None word = Open
option_role (Some at) word = joined (take at word) (drop (at + 1) word)

-- A word behind an option without `=` is its value, unless it is an option itself.
abbrev pub value_role : List ℕ → List ℕ → Role
value_role name word =
    if is_option word then Misplaced else Complete (record { name = name; value = word })

-- what the word is, where no option wants a value
abbrev pub word_role : List ℕ → Role
word_role word =
    if bytes_eq word (codes "--") then Dashes
    else if is_option word then option_role (position is_equals word) word
    else Plain

-- what the word is, where an option of this name may still want its value
abbrev pub role_of : Option (List ℕ) → List ℕ → Role
role_of None word = word_role word
role_of (Some name) word = value_role name word

-- the parts with this option first
abbrev pub with_setting : Setting → Option Parts → Option Parts
with_setting setting rest =
    option_map (λ parts. record { settings = setting ∷ parts.settings; words = parts.words }) rest

-- the parts with this word first
abbrev pub with_word : List ℕ → Option Parts → Option Parts
with_word word rest =
    option_map (λ parts. record { settings = parts.settings; words = word ∷ parts.words }) rest

-- no words are left: an option that still wants its value has none
abbrev pub at_end : Option (List ℕ) → Option Parts
at_end None = Some (record { settings = []; words = [] })
at_end (Some name) = None

-- What the words say, where an option of this name may still want its value. A first `--` is dropped, and no word
-- behind it is an option.
abbrev pub parts_of : Option (List ℕ) → List (List ℕ) → Option Parts
parts_of wanted [] = at_end wanted
parts_of wanted (word ∷ words) = elim (role_of wanted word) [
  | Plain ↦ with_word word (parts_of None words)
  | Dashes ↦ Some (record { settings = []; words = words })
  | Complete setting ↦ with_setting setting (parts_of None words)
  | Open ↦ parts_of (Some word) words
  | Misplaced ↦ None
]
