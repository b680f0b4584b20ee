-- What settings say of an option, with more of them behind.
use Rattle.std.proofs.Common.{◌≡◌, ◌∙◌, Bool, true, false, cond, refl, sym, ap, subst, inl, inr, List, [], ◌∷◌, ◌++◌, Option, None, Some, ◌&&◌, append_assoc}
use Rattle.std.specs.Str.{bytes_eq}
use Rattle.clap.specs.Walk.{Text}
use Rattle.command_spec.specs.declared.options.ValueOption.{ValueOption}
use Rattle.command_spec.specs.Values.{are_among, is_among, option_word, values_of}
use Rattle.command_spec.specs.Options.{Parts, Setting, Role, Plain, Dashes, Complete, Open, Misplaced, is_option, parts_of, role_of, value_role, with_setting, with_word}
use Rattle.command_words.proofs.Lookups.{IsIn, two}

-- what was read, before what the later words say
abbrev pub carried : List Setting → List Text → Option Parts → Option Parts
carried settings words None = None
carried settings words (Some rest) = Some (record { settings = settings ++ rest.settings; words = words ++ rest.words })

pub with_setting_carried : (settings : List Setting) (words : List Text) (setting : Setting) (rest : Option Parts) → carried settings words (with_setting setting rest) ≡ carried (settings ++ setting ∷ []) words rest
with_setting_carried settings words setting None = refl
with_setting_carried settings words setting (Some rest) = rw (append_assoc settings (setting ∷ []) rest.settings) refl

pub with_word_carried : (settings : List Setting) (words : List Text) (word : Text) (rest : Option Parts) → carried settings words (with_word word rest) ≡ carried settings (words ++ word ∷ []) rest
with_word_carried settings words word None = refl
with_word_carried settings words word (Some rest) = rw (append_assoc words (word ∷ []) rest.words) refl

pub values_more : (o : ValueOption) (xs ys : List Setting) → values_of o (xs ++ ys) ≡ values_of o xs ++ values_of o ys
values_more o [] ys = refl
values_more o (x ∷ xs) ys = elim (two (bytes_eq x.name (option_word o))) [
  | inl t ↦ rw t (ap (λ vs. x.value ∷ vs) (values_more o xs ys))
  | inr f ↦ rw f (values_more o xs ys)
]

pub among_more : (options : List ValueOption) (xs ys : List Setting) → are_among options (xs ++ ys) ≡ (are_among options xs && are_among options ys)
among_more options [] ys = refl
among_more options (x ∷ xs) ys = go (is_among options x.name) (among_more options xs ys)
  where
    go : (b : Bool) → are_among options (xs ++ ys) ≡ (are_among options xs && are_among options ys) → (b && are_among options (xs ++ ys)) ≡ ((b && are_among options xs) && are_among options ys)
    go true e = e
    go false e = refl

-- settings that no command has: one is unknown, or an option stands twice
pub data AreUnfit : List ValueOption → List Setting → Type 0 where
  unknown : {options : List ValueOption} {settings : List Setting} → are_among options settings ≡ false → AreUnfit options settings
  twice : {options : List ValueOption} {settings : List Setting} → (o : ValueOption) → IsIn options o → (a b : Text) (rest : List Text) → values_of o settings ≡ a ∷ b ∷ rest → AreUnfit options settings

abbrev pub IsUnfit : List ValueOption → Option Parts → Type 0
IsUnfit options None = Unit {0}
IsUnfit options (Some parts) = AreUnfit options parts.settings

pub unfit_more : (options : List ValueOption) (settings : List Setting) (words : List Text) (rest : Option Parts) → AreUnfit options settings → IsUnfit options (carried settings words rest)
unfit_more options settings words None u = tt
unfit_more options settings words (Some rest) (unknown f) = unknown (among_more options settings rest.settings ∙ ap (λ b. b && are_among options rest.settings) f)
unfit_more options settings words (Some rest) (twice o i a b more e) = twice o i a b (more ++ values_of o rest.settings) (values_more o settings rest.settings ∙ ap (λ vs. vs ++ values_of o rest.settings) e)

pub unknown_last : (options : List ValueOption) (settings : List Setting) (setting : Setting) → is_among options setting.name ≡ false → AreUnfit options (settings ++ setting ∷ [])
unknown_last options settings setting f = unknown (among_more options settings (setting ∷ []) ∙ (rw f (false_last (are_among options settings))))
  where
    false_last : (b : Bool) → (b && false) ≡ false
    false_last true = refl
    false_last false = refl

pub known_last : (options : List ValueOption) (settings : List Setting) (setting : Setting) → are_among options settings ≡ true → is_among options setting.name ≡ true → are_among options (settings ++ setting ∷ []) ≡ true
known_last options settings setting all one = among_more options settings (setting ∷ []) ∙ rw (all, one) refl

pub value_last : (o : ValueOption) (settings : List Setting) (setting : Setting) (b : Bool) → bytes_eq setting.name (option_word o) ≡ b → values_of o (settings ++ setting ∷ []) ≡ values_of o settings ++ cond b (setting.value ∷ []) []
value_last o settings setting true t = values_more o settings (setting ∷ []) ∙ rw t refl
value_last o settings setting false f = values_more o settings (setting ∷ []) ∙ rw f refl

-- what the words say, where the first of them is this
abbrev pub by_role : Role → Text → List Text → Option Parts
by_role Plain word later = with_word word (parts_of None later)
by_role Dashes word later = Some (record { settings = []; words = later })
by_role (Complete setting) word later = with_setting setting (parts_of None later)
by_role Open word later = parts_of (Some word) later
by_role Misplaced word later = None

opened_role : (r : Role) (word : Text) (later : List Text) → (elim r [
  | Plain ↦ with_word word (parts_of None later)
  | Dashes ↦ Some (record { settings = []; words = later })
  | Complete setting ↦ with_setting setting (parts_of None later)
  | Open ↦ parts_of (Some word) later
  | Misplaced ↦ None
]) ≡ by_role r word later
opened_role Plain word later = refl
opened_role Dashes word later = refl
opened_role (Complete setting) word later = refl
opened_role Open word later = refl
opened_role Misplaced word later = refl

pub in_role : (settings : List Setting) (words : List Text) (wanted : Option Text) (word : Text) (later : List Text) (r : Role) → role_of wanted word ≡ r
    → carried settings words (parts_of wanted (word ∷ later)) ≡ carried settings words (by_role r word later)
in_role settings words wanted word later r is = ap (carried settings words) (opened_role (role_of wanted word) word later ∙ ap (λ x. by_role x word later) is)

-- an unknown name
pub data UnknownRole : List ValueOption → Text → Role → Type 0 where
  opens_unknown : {options : List ValueOption} {word : Text} → is_among options word ≡ false → UnknownRole options word Open
  stands_unknown : {options : List ValueOption} {word : Text} → (setting : Setting) → is_among options setting.name ≡ false → UnknownRole options word (Complete setting)
  has_no_place : {options : List ValueOption} {word : Text} → UnknownRole options word Misplaced

complete_unknown : (options : List ValueOption) (settings : List Setting) (words : List Text) (setting : Setting) (rest : Option Parts) → is_among options setting.name ≡ false → IsUnfit options (carried settings words (with_setting setting rest))
complete_unknown options settings words setting rest f = subst (IsUnfit options) (sym (with_setting_carried settings words setting rest)) (unfit_more options (settings ++ setting ∷ []) words rest (unknown_last options settings setting f))

open_unknown : (options : List ValueOption) (settings : List Setting) (words : List Text) (name : Text) (later : List Text) → is_among options name ≡ false → IsUnfit options (carried settings words (parts_of (Some name) later))
open_unknown options settings words name [] f = tt
open_unknown options settings words name (w ∷ ws) f = subst (IsUnfit options) (sym (in_role settings words (Some name) w ws (value_role name w) refl)) (at_test (is_option w))
  where
    at_test : (b : Bool) → IsUnfit options (carried settings words (by_role (cond b Misplaced (Complete (record { name = name; value = w }))) w ws))
    at_test true = tt
    at_test false = complete_unknown options settings words (record { name = name; value = w }) (parts_of None ws) f

pub unfit_unknown : (options : List ValueOption) (settings : List Setting) (words : List Text) (word : Text) (later : List Text) (r : Role) → UnknownRole options word r → IsUnfit options (carried settings words (by_role r word later))
unfit_unknown options settings words word later _ (opens_unknown f) = open_unknown options settings words word later f
unfit_unknown options settings words word later _ (stands_unknown setting f) = complete_unknown options settings words setting (parts_of None later) f
unfit_unknown options settings words word later _ has_no_place = tt
