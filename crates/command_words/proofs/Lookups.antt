-- What a parse finds among the arguments of a command: its options by their names, and the words.
use Rattle.std.proofs.Common.{◌≡◌, ◌∙◌, ℕ, Bool, true, false, refl, sym, ap, inl, inr, List, [], ◌∷◌, map, None, Some, true≢false, ◌&&◌, ◌||◌}
use Rattle.std.specs.Prelude.{◌⊎◌, codes, find, not, is_some, Option, unwrap_or, if◌then◌else◌}
use Rattle.std.specs.Str.{bytes_eq}
use Rattle.std.proofs.lemmas.Slice.Eq.{bytes_eq-Decides}
use Rattle.clap.specs.Walk.{Rule, Text, arg_by_id, arg_by_long, arg_by_short, has_short}
use Rattle.clap.specs.declared.builder.value_parser.ValueParser.TheVariants.{String}
use Rattle.command_spec.specs.declared.options.ValueOption.{ValueOption}
use Rattle.command_spec.specs.declared.numbers.NumberOption.TheVariants.{Port, Connections, Requests, Turns, Cache, CacheBytes, Idle, Stall, OpenAtOnce, Every}
use Rattle.command_spec.specs.declared.options.TextOption.TheVariants.{Host, Watch, Log, Over}
use Rattle.command_spec.specs.declared.options.ValueOption.TheVariants.{Number, Text as Texted}
use Rattle.command_spec.specs.Values.{option_name, option_word, is_among}
use Rattle.command_words.specs.Parsed.{option_rule, words_rule}

-- the arguments as building leaves them
abbrev pub option_built : Text → Rule
option_built name = record (option_rule name) { range = Some (record { start_inclusive = 1; end_inclusive = 1 }) }

abbrev pub words_built : Rule
words_built = record words_rule {
  index = Some 1;
  range = Some (record { start_inclusive = 1; end_inclusive = 1 });
  parser = Some String;
}

abbrev pub built_option : ValueOption → Rule
built_option option = option_built (option_name option)

abbrev pub built_rules : List ValueOption → List Rule
built_rules options = words_built ∷ map built_option options

pub two : (b : Bool) → (b ≡ true) ⊎ (b ≡ false)
two true = inl refl
two false = inr refl

pub same : (a b : Text) → bytes_eq a b ≡ true → a ≡ b
same a b = (bytes_eq-Decides a b).0

pub equal : (a : Text) → bytes_eq a a ≡ true
equal a = (bytes_eq-Decides a a).1 refl

pub not_true : (b : Bool) → (b ≡ true → ⊥) → b ≡ false
not_true true never = absurd (never refl)
not_true false never = refl

pub false_is : (b : Bool) → b ≡ false → b ≡ true → ⊥
false_is b f t = true≢false (sym t ∙ f)

pub turned : (a b : Text) → bytes_eq a b ≡ bytes_eq b a
turned a b = elim (two (bytes_eq b a)) [
  | inl t ↦ (bytes_eq-Decides a b).1 (sym (same b a t)) ∙ sym t
  | inr f ↦ not_true (bytes_eq a b) (λ t. false_is (bytes_eq b a) f ((bytes_eq-Decides b a).1 (sym (same a b t)))) ∙ sym f
]

pub dashed : (option : ValueOption) → option_word option ≡ 45 ∷ 45 ∷ option_name option
dashed (Number Port) = refl
dashed (Texted Host) = refl
dashed (Number Connections) = refl
dashed (Number Requests) = refl
dashed (Number Turns) = refl
dashed (Number Cache) = refl
dashed (Number CacheBytes) = refl
dashed (Number Idle) = refl
dashed (Number Stall) = refl
dashed (Number OpenAtOnce) = refl
dashed (Texted Watch) = refl
dashed (Number Every) = refl
dashed (Texted Log) = refl
dashed (Texted Over) = refl

pub own_name : (option : ValueOption) → bytes_eq (codes "words") (option_name option) ≡ false
own_name (Number Port) = refl
own_name (Texted Host) = refl
own_name (Number Connections) = refl
own_name (Number Requests) = refl
own_name (Number Turns) = refl
own_name (Number Cache) = refl
own_name (Number CacheBytes) = refl
own_name (Number Idle) = refl
own_name (Number Stall) = refl
own_name (Number OpenAtOnce) = refl
own_name (Texted Watch) = refl
own_name (Number Every) = refl
own_name (Texted Log) = refl
own_name (Texted Over) = refl

-- the option of a name
which : Text → Option ValueOption
which name =
    if bytes_eq name (codes "port") then Some (Number Port)
    else if bytes_eq name (codes "host") then Some (Texted Host)
    else if bytes_eq name (codes "connections") then Some (Number Connections)
    else if bytes_eq name (codes "requests") then Some (Number Requests)
    else if bytes_eq name (codes "turns") then Some (Number Turns)
    else if bytes_eq name (codes "cache") then Some (Number Cache)
    else if bytes_eq name (codes "cache-bytes") then Some (Number CacheBytes)
    else if bytes_eq name (codes "idle") then Some (Number Idle)
    else if bytes_eq name (codes "stall") then Some (Number Stall)
    else if bytes_eq name (codes "open") then Some (Number OpenAtOnce)
    else if bytes_eq name (codes "watch") then Some (Texted Watch)
    else if bytes_eq name (codes "every") then Some (Number Every)
    else if bytes_eq name (codes "log") then Some (Texted Log)
    else if bytes_eq name (codes "over") then Some (Texted Over)
    else None

which_own : (option : ValueOption) → which (option_name option) ≡ Some option
unfolding which
which_own (Number Port) = refl
which_own (Texted Host) = refl
which_own (Number Connections) = refl
which_own (Number Requests) = refl
which_own (Number Turns) = refl
which_own (Number Cache) = refl
which_own (Number CacheBytes) = refl
which_own (Number Idle) = refl
which_own (Number Stall) = refl
which_own (Number OpenAtOnce) = refl
which_own (Texted Watch) = refl
which_own (Number Every) = refl
which_own (Texted Log) = refl
which_own (Texted Over) = refl

-- options of one name are one
pub one_option : (a b : ValueOption) → option_name a ≡ option_name b → a ≡ b
one_option a b e = ap (λ found. unwrap_or found a) (sym (which_own a) ∙ ap which e ∙ which_own b)

-- one of the options
abbrev pub IsIn : List ValueOption → ValueOption → Type 0
IsIn options option = is_among options (option_word option) ≡ true

-- what a long name finds
pub record IsFound (options : List ValueOption) (name : Text) : Type 0 where
  pub option : ValueOption
  pub named : name ≡ option_name option
  pub found : arg_by_long (built_rules options) name ≡ Some (built_option option)
  pub in_it : IsIn options option

pub record IsUnknown (options : List ValueOption) (name : Text) : Type 0 where
  pub found : arg_by_long (built_rules options) name ≡ None
  pub not_in : is_among options (45 ∷ 45 ∷ name) ≡ false

word_test : (option : ValueOption) (name : Text) → bytes_eq (45 ∷ 45 ∷ name) (option_word option) ≡ bytes_eq (option_name option) name
word_test option name = ap (bytes_eq (45 ∷ 45 ∷ name)) (dashed option) ∙ turned name (option_name option)

pub by_long : (options : List ValueOption) (name : Text) → IsFound options name ⊎ IsUnknown options name
by_long [] name = inr (record { found = refl; not_in = refl })
by_long (o ∷ os) name = elim (two (bytes_eq (option_name o) name)) [
  | inl t ↦ inl (record {
    option = o;
    named = sym (same (option_name o) name t);
    found = rw t refl;
    in_it = ap (λ b. b || is_among os (option_word o)) (equal (option_word o));
  })
  | inr f ↦ elim (by_long os name) [
    | inl h ↦ inl (record {
      option = h.option;
      named = h.named;
      found = rw f h.found;
      in_it = or_right (bytes_eq (option_word h.option) (option_word o)) _ h.in_it;
    })
    | inr h ↦ inr (record { found = rw f h.found; not_in = rw (word_test o name, f) h.not_in })
  ]
]
  where
    or_right : (a b : Bool) → b ≡ true → (a || b) ≡ true
    or_right true b e = refl
    or_right false b e = e

by_id_in : (options : List ValueOption) (option : ValueOption) → IsIn options option → find (λ a. bytes_eq a.id (option_name option)) (map built_option options) ≡ Some (built_option option)
by_id_in [] option i = absurd (true≢false (sym i))
by_id_in (o ∷ os) option i = elim (two (bytes_eq (option_name o) (option_name option))) [
  | inl t ↦ rw t (ap (λ x. Some (built_option x)) (one_option o option (same _ _ t)))
  | inr f ↦ rw f (by_id_in os option (rest (sym (ap (λ b. b || is_among os (option_word option)) (miss f)) ∙ i)))
]
  where
    miss : bytes_eq (option_name o) (option_name option) ≡ false → bytes_eq (option_word option) (option_word o) ≡ false
    miss f = ap (λ w. bytes_eq w (option_word o)) (dashed option) ∙ word_test o (option_name option) ∙ f

    rest : {b : Bool} → (false || b) ≡ true → b ≡ true
    rest e = e

pub by_id : (options : List ValueOption) (option : ValueOption) → IsIn options option → arg_by_id (built_rules options) (option_name option) ≡ Some (built_option option)
by_id options option i = rw (own_name option) (by_id_in options option i)

no_short : (options : List ValueOption) (x : ℕ) → find (λ a. not (is_some a.index) && has_short a x) (map built_option options) ≡ None
no_short [] x = refl
no_short (o ∷ os) x = no_short os x

-- no option has a short name
pub by_short : (options : List ValueOption) (x : ℕ) → arg_by_short (built_rules options) x ≡ None
by_short options x = no_short options x
