-- What a word is, for the parse and for the definition.
use Rattle.std.proofs.Common.{◌≡◌, ◌∙◌, ℕ, zero, suc, ◌+◌, ◌<◌, arith, Bool, true, false, cond, refl, sym, ap, subst, inl, inr, List, [], ◌∷◌, length, take, Option, None, Some, true≢false, ◌||◌}
use Rattle.std.specs.Prelude.{◌⊎◌, not, position, nat_eq, nat_lt, is_some, unwrap_or, slice_get}
use Rattle.std.specs.List.{position_or_len}
use Rattle.std.specs.Str.{IsUtf8, bytes_eq, chars, encode_utf8_all}
use Rattle.std.specs.Cmp.{unsigned_Decides}
use Prim.Native.Nat.compare
use lib.Dec.{is_le}
use Rattle.std.proofs.Common.{lt-ltb}
use Rattle.std.proofs.lemmas.Str.{encodes-chars}
use Rattle.std.specs.Char.{encode_utf8}
use Rattle.clap.specs.Walk.{Text}
use Rattle.clap.specs.Lexer.{has_byte, long_of, name_and_value, short_of}
use Rattle.command_spec.specs.declared.options.ValueOption.{ValueOption}
use Rattle.command_spec.specs.declared.numbers.NumberOption.TheVariants.{Port, Connections, Requests, Turns, Cache, CacheBytes, Idle, Stall, OpenAtOnce, Every}
use Rattle.command_spec.specs.declared.options.TextOption.TheVariants.{Host, Watch, Log, Over}
use Rattle.command_spec.specs.declared.options.ValueOption.TheVariants.{Number, Text as Texted}
use Rattle.command_spec.specs.Values.{option_word, is_among}
use Rattle.command_spec.specs.Options.{Setting, Role, Complete, Open, Misplaced, is_equals, is_option, joined, option_role, word_role}
use Rattle.command_words.proofs.Lookups.{two}

-- a name that no option has
abbrev pub IsNoOption : Text → Type 0
IsNoOption name = (options : List ValueOption) → is_among options name ≡ false

pub data RoleOfUnknown : Text → Role → Type 0 where
  opens : {word : Text} → IsNoOption word → RoleOfUnknown word Open
  stands : {word : Text} → (setting : Setting) → IsNoOption setting.name → RoleOfUnknown word (Complete setting)
  misplaced : {word : Text} → RoleOfUnknown word Misplaced

pub record IsPlainWord (word : Text) : Type 0 where
  pub no_dashes : bytes_eq word (45 ∷ 45 ∷ []) ≡ false
  pub no_long : long_of word ≡ None
  pub no_short : short_of word ≡ None
  pub no_option : is_option word ≡ false

-- what the definition makes of a long option
abbrev pub long_role : Text → Option Text → Role
long_role name None = Open
long_role name (Some value) = joined (45 ∷ 45 ∷ name) value

pub record IsLongWord (word : Text) : Type 0 where
  pub name : Text
  pub value : Option Text
  pub no_dashes : bytes_eq word (45 ∷ 45 ∷ []) ≡ false
  pub long : long_of word ≡ Some (name, value)
  pub option : is_option word ≡ true
  pub role : word_role word ≡ long_role name value
  pub whole : value ≡ None → word ≡ 45 ∷ 45 ∷ name

pub record IsShortWord (word : Text) : Type 0 where
  pub first : ℕ
  pub rest : Text
  pub no_dashes : bytes_eq word (45 ∷ 45 ∷ []) ≡ false
  pub no_long : long_of word ≡ None
  pub short : short_of word ≡ Some (first ∷ rest)
  pub spelt : word ≡ 45 ∷ first ∷ rest
  pub option : is_option word ≡ true
  pub role : RoleOfUnknown word (word_role word)

pub data View : Text → Type 0 where
  is_plain : {word : Text} → IsPlainWord word → View word
  is_dashes : View (45 ∷ 45 ∷ [])
  is_long : {word : Text} → IsLongWord word → View word
  is_short : {word : Text} → IsShortWord word → View word

-- ---- where the `=` stands

pub lt_suc : (a b : ℕ) → nat_lt (suc a) (suc b) ≡ nat_lt a b
lt_suc a b = ap is_le (compare.suc-suc (suc a) b)

pub positive : (n : ℕ) → nat_lt 0 (suc n) ≡ true
positive n = lt-ltb 0 (suc n) (omega arith)

abbrev at : Text → ℕ
at text = position_or_len is_equals text

within : (text : Text) → has_byte 61 text ≡ nat_lt (at text) (length text)
within [] = refl
within (x ∷ xs) = go (nat_eq x 61) (within xs)
  where
    go : (b : Bool) → has_byte 61 xs ≡ nat_lt (at xs) (length xs) → (b || has_byte 61 xs) ≡ nat_lt (cond (not b) (1 + at xs) 0) (suc (length xs))
    go true e = sym (positive (length xs))
    go false e = let n : 1 + at xs ≡ suc (at xs) = omega arith in e ∙ sym (lt_suc (at xs) (length xs)) ∙ ap (λ k. nat_lt k (suc (length xs))) (sym n)

all_before : (text : Text) → has_byte 61 text ≡ false → take (at text) text ≡ text
all_before [] none = refl
all_before (x ∷ xs) none = go (nat_eq x 61) none (all_before xs)
  where
    go : (b : Bool) → (b || has_byte 61 xs) ≡ false → (has_byte 61 xs ≡ false → take (at xs) xs ≡ xs) → take (cond (not b) (1 + at xs) 0) (x ∷ xs) ≡ x ∷ xs
    go true e h = absurd (true≢false e)
    go false e h = let n : 1 + at xs ≡ suc (at xs) = omega arith in rw n (ap (λ ys. x ∷ ys) (h e))

found_at : (word : Text) (n : ℕ) → at word ≡ n → (b : Bool) → nat_lt n (length word) ≡ b → position is_equals word ≡ cond b (Some n) None
found_at word n e b l = rw (e, l) refl

no_value : (b : Bool) (value : Text) → cond b (Some value) None ≡ None → b ≡ false
no_value true value e = absurd (true≢false (ap is_some e))
no_value false value e = refl

module _ (e : ℕ) (r : Text) where
  abbrev behind : Text
  behind = e ∷ r

  abbrev dashed_word : Text
  dashed_word = 45 ∷ 45 ∷ behind

  word_at : at dashed_word ≡ suc (suc (at behind))
  word_at = let n : 1 + (1 + at behind) ≡ suc (suc (at behind)) = omega arith in n

  inside : nat_lt (suc (suc (at behind))) (length dashed_word) ≡ has_byte 61 behind
  inside = lt_suc (suc (at behind)) (suc (length behind)) ∙ lt_suc (at behind) (length behind) ∙ sym (within behind)

  long_word_role : (b : Bool) → has_byte 61 behind ≡ b → word_role dashed_word ≡ long_role (name_and_value behind).0 (name_and_value behind).1
  long_word_role true h =
      let n : suc (suc (at behind)) + 1 ≡ suc (suc (at behind + 1)) = omega arith in
      rw (found_at dashed_word (suc (suc (at behind))) word_at true (inside ∙ h), h, n) refl
  long_word_role false h = rw (found_at dashed_word (suc (suc (at behind))) word_at false (inside ∙ h), h) refl

  whole_name : (name_and_value behind).1 ≡ None → dashed_word ≡ 45 ∷ 45 ∷ (name_and_value behind).0
  whole_name e = ap (λ t. 45 ∷ 45 ∷ t) (sym (all_before behind (no_value (has_byte 61 behind) _ e)))

-- ---- a word with one dash names no option

no_option : (name : Text) → ((o : ValueOption) → bytes_eq name (option_word o) ≡ false) → IsNoOption name
no_option name none [] = refl
no_option name none (o ∷ os) = rw (none o) (no_option name none os)

one_dash : (first : ℕ) (rest : Text) → nat_eq first 45 ≡ false → (o : ValueOption) → bytes_eq (45 ∷ first ∷ rest) (option_word o) ≡ false
one_dash first rest d (Number Port) = rw d refl
one_dash first rest d (Texted Host) = rw d refl
one_dash first rest d (Number Connections) = rw d refl
one_dash first rest d (Number Requests) = rw d refl
one_dash first rest d (Number Turns) = rw d refl
one_dash first rest d (Number Cache) = rw d refl
one_dash first rest d (Number CacheBytes) = rw d refl
one_dash first rest d (Number Idle) = rw d refl
one_dash first rest d (Number Stall) = rw d refl
one_dash first rest d (Number OpenAtOnce) = rw d refl
one_dash first rest d (Texted Watch) = rw d refl
one_dash first rest d (Number Every) = rw d refl
one_dash first rest d (Texted Log) = rw d refl
one_dash first rest d (Texted Over) = rw d refl

dash_alone : (o : ValueOption) → bytes_eq (45 ∷ []) (option_word o) ≡ false
dash_alone (Number Port) = refl
dash_alone (Texted Host) = refl
dash_alone (Number Connections) = refl
dash_alone (Number Requests) = refl
dash_alone (Number Turns) = refl
dash_alone (Number Cache) = refl
dash_alone (Number CacheBytes) = refl
dash_alone (Number Idle) = refl
dash_alone (Number Stall) = refl
dash_alone (Number OpenAtOnce) = refl
dash_alone (Texted Watch) = refl
dash_alone (Number Every) = refl
dash_alone (Texted Log) = refl
dash_alone (Texted Over) = refl

dash_before : (first : ℕ) (rest : Text) → nat_eq first 45 ≡ false → (n : ℕ) → IsNoOption (take n (first ∷ rest)) → IsNoOption (45 ∷ take n (first ∷ rest))
dash_before first rest d zero h = no_option (45 ∷ []) dash_alone
dash_before first rest d (suc n) h = no_option (45 ∷ first ∷ take n rest) (one_dash first (take n rest) d)

joined_unknown : (word name value : Text) → IsNoOption name → RoleOfUnknown word (joined name value)
joined_unknown word name [] h = misplaced
joined_unknown word name (v ∷ vs) h = stands _ h

short_role : (first : ℕ) (rest : Text) → nat_eq first 45 ≡ false → (p : Option ℕ) → ((n : ℕ) → p ≡ Some n → IsNoOption (take n (45 ∷ first ∷ rest))) → RoleOfUnknown (45 ∷ first ∷ rest) (option_role p (45 ∷ first ∷ rest))
short_role first rest d None h = opens (no_option (45 ∷ first ∷ rest) (one_dash first rest d))
short_role first rest d (Some n) h = joined_unknown _ _ _ (h n refl)

dash_take : (first : ℕ) (rest : Text) → nat_eq first 45 ≡ false → (n : ℕ) → 0 < n → IsNoOption (take n (45 ∷ first ∷ rest))
dash_take first rest d zero lt = absurd (omega arith)
dash_take first rest d (suc zero) lt = no_option (45 ∷ []) dash_alone
dash_take first rest d (suc (suc n)) lt = no_option (45 ∷ first ∷ take n rest) (one_dash first (take n rest) d)

some_at : (word : Text) (n : ℕ) → position is_equals word ≡ Some n → at word ≡ n
some_at word n = go (nat_lt (at word) (length word))
  where
    go : (b : Bool) → cond b (Some (at word)) None ≡ Some n → at word ≡ n
    go true e = ap (λ o. unwrap_or o 0) e
    go false e = absurd (true≢false (sym (ap (λ o. is_some o) e)))

pub view : (first : ℕ) (rest : Text) → View (first ∷ rest)
view first [] = elim (two (nat_eq first 45)) [
  | inl t ↦ is_plain (record { no_dashes = rw t refl; no_long = rw t refl; no_short = rw t refl; no_option = refl })
  | inr f ↦ is_plain (record { no_dashes = rw f refl; no_long = rw f refl; no_short = rw f refl; no_option = refl })
]
view first (second ∷ rest) = elim (two (nat_eq first 45)) [
  | inr f ↦ is_plain (record { no_dashes = rw f refl; no_long = rw f refl; no_short = rw f refl; no_option = rw f refl })
  | inl t ↦ subst (λ x. View (x ∷ second ∷ rest)) (sym ((unsigned_Decides first 45).0 t)) (dashed second rest (two (nat_eq second 45)))
]
  where
    long : (rest : Text) → View (45 ∷ 45 ∷ rest)
    long [] = is_dashes
    long (e ∷ r) = is_long (record {
      name = (name_and_value (e ∷ r)).0;
      value = (name_and_value (e ∷ r)).1;
      no_dashes = refl;
      long = refl;
      option = refl;
      role = long_word_role e r (has_byte 61 (e ∷ r)) refl;
      whole = whole_name e r;
    })

    dashed : (second : ℕ) (rest : Text) → (nat_eq second 45 ≡ true) ⊎ (nat_eq second 45 ≡ false) → View (45 ∷ second ∷ rest)
    dashed second rest (inl t) = subst (λ x. View (45 ∷ x ∷ rest)) (sym ((unsigned_Decides second 45).0 t)) (long rest)
    dashed second rest (inr f) = is_short (record {
      first = second;
      rest = rest;
      no_dashes = rw f refl;
      no_long = rw f refl;
      short = rw f refl;
      spelt = refl;
      option = refl;
      role = subst (RoleOfUnknown (45 ∷ second ∷ rest)) (rw f refl) (short_role second rest f (position is_equals (45 ∷ second ∷ rest)) (λ n e. dash_take second rest f n (let k = some_at (45 ∷ second ∷ rest) n e in omega (arith, k))));
    })

-- a text behind a dash has a first character
pub first_char : (first : ℕ) (rest : Text) → IsUtf8 (45 ∷ first ∷ rest) → (x : ℕ) × (slice_get (chars (first ∷ rest)) 0 ≡ Some x)
unfolding chars encode_utf8
first_char first rest text = go (chars (first ∷ rest)) refl
  where
    go : (cs : List ℕ) → cs ≡ chars (first ∷ rest) → (x : ℕ) × (slice_get (chars (first ∷ rest)) 0 ≡ Some x)
    go [] e =
        let one : encode_utf8_all (45 ∷ []) ≡ 45 ∷ first ∷ rest = ap (λ cs. encode_utf8_all (45 ∷ cs)) e ∙ encodes-chars (45 ∷ first ∷ rest) text in
        let n : 1 ≡ suc (suc (length rest)) = ap length one in
        absurd (omega (arith, n))
    go (x ∷ xs) e = (x, ap (λ ys. slice_get ys 0) (sym e))
