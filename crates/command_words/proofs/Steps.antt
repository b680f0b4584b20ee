-- One word of a command, as the parse takes it.
use Rattle.std.proofs.Common.{◌≡◌, ◌∙◌, ℕ, Bool, true, false, cond, refl, ap, ap₂, List, [], ◌∷◌, length, None, Some, ◌&&◌}
use Rattle.std.specs.Prelude.{codes, slice_get, fold}
use Rattle.std.specs.Str.{chars}
use Rattle.clap.specs.Walk.{Held, Row, Rule, Text, Waiting, Walk, arg_by_long, has_row, idle, is_pending, option, plain_word, positional, settled, subcommand_met, used, value, walked}
use Rattle.clap.specs.Simple.{Shape, new_shape}
use Rattle.clap.specs.Kinds.{Kinds, or_else, value_kinds}
use Rattle.clap.specs.Values.{refused_kind}
use Rattle.clap.specs.declared.builder.value_parser.ValueParser.TheVariants.{NonEmptyString}
use Rattle.clap.specs.Faults.{flags_fault, settle_fault, turn_fault, use_fault, walk_fault}
use Rattle.clap.specs.declared.error.kind.ErrorKind.{ErrorKind}
use Rattle.command_spec.specs.declared.options.ValueOption.{ValueOption}
use Rattle.command_spec.specs.Values.{option_name}
use Rattle.command_words.proofs.Lookups.{IsIn, built_option, built_rules, by_id, by_short, equal, words_built}
use Rattle.command_words.proofs.Views.{IsLongWord, IsPlainWord, IsShortWord, positive}

-- an error comes
pub record Fails (kinds : Kinds) : Type 0 where
  pub kind : ErrorKind
  pub more : Kinds
  pub are : kinds ≡ kind ∷ more

pub fails_first : (a b : Kinds) → Fails a → Fails (or_else a b)
fails_first a b f = record { kind = f.kind; more = f.more; are = ap (λ x. or_else x b) f.are }

pub fails_next : (a b : Kinds) → a ≡ [] → Fails b → Fails (or_else a b)
fails_next a b none f = record { kind = f.kind; more = f.more; are = ap (λ x. or_else x b) none ∙ f.are }

pub fails_as : (a b : Kinds) → a ≡ b → Fails b → Fails a
fails_as a b e f = record { kind = f.kind; more = f.more; are = e ∙ f.are }

and_false : (b : Bool) → (b && false) ≡ false
and_false true = refl
and_false false = refl

pub no_subcommand : (waiting : Waiting) (word : Text) → subcommand_met [] waiting word ≡ None
no_subcommand idle word = refl
no_subcommand (option id) word = refl
no_subcommand positional word = refl

abbrev pub leaf_shape : Text → List ValueOption → Shape
leaf_shape name options = record (new_shape name) {
  rules = built_rules options;
  no_binary_name = true;
  disable_help_flag = true;
  disable_help_subcommand = true;
  disable_version_flag = true;
  is_built = true;
}

-- where a walk stands: among options, and behind `--`
abbrev pub walk_at : Held → Waiting → Walk
walk_at h waiting = record { held = h; waiting = waiting; position = 1; is_trailing = false; stopped = None }

abbrev pub trailing_at : Held → Waiting → Walk
trailing_at h waiting = record { held = h; waiting = waiting; position = 1; is_trailing = true; stopped = None }

-- no option waits for its value
abbrev pub IsFree : List ValueOption → Waiting → Type 0
IsFree options waiting = (word : Text) (h : Held) → plain_word (built_rules options) waiting word h ≡ (h, value)

module _ (name : Text) (options : List ValueOption) where
  abbrev pub shape : Shape
  shape = leaf_shape name options

  abbrev pub rules : List Rule
  rules = built_rules options

  -- the errors from here on, but for those of the last checks, and what is found in the end
  abbrev pub faults : Walk → List Text → Kinds
  faults w words = or_else (walk_fault shape [] w words) (settle_fault rules false (fold (walked rules []) w words).held)

  abbrev pub found : Walk → List Text → List Row
  found w words = (settled rules (fold (walked rules []) w words).held).rows

  pub at_end : (w : Walk) → faults w [] ≡ settle_fault rules false w.held
  unfolding walk_fault
  at_end w = refl

  abbrev after : Walk → List Text → Kinds → Kinds
  after w words turn = or_else (or_else turn (walk_fault shape [] w words)) (settle_fault rules false (fold (walked rules []) w words).held)

  one_turn : (w : Walk) (word : Text) (words : List Text) → faults w (word ∷ words) ≡ after (walked rules [] w word) words (turn_fault shape [] w word)
  unfolding walk_fault
  one_turn w word words = refl

  pub goes_on : (w next : Walk) (word : Text) (words : List Text) → turn_fault shape [] w word ≡ [] → walked rules [] w word ≡ next → faults w (word ∷ words) ≡ faults next words
  goes_on w next word words none is = one_turn w word words ∙ ap₂ (λ x turn. after x words turn) is none

  pub finds : (w next : Walk) (word : Text) (words : List Text) → walked rules [] w word ≡ next → found w (word ∷ words) ≡ found next words
  finds w next word words is = ap (λ x. found x words) is

  pub stops : (w : Walk) (word : Text) (words : List Text) → Fails (turn_fault shape [] w word) → Fails (faults w (word ∷ words))
  stops w word words f = fails_as _ _ (one_turn w word words) (fails_first _ _ (fails_first _ _ f))

  -- ---- a word that is no option

  abbrev pub with_word_held : Held → Text → Held
  with_word_held h word = record { rows = (settled rules h).rows; pending = Some (codes "words", word ∷ []); skip = h.skip }

  pub plain_turn : (h : Held) (waiting : Waiting) (word : Text) → IsFree options waiting → IsPlainWord word → turn_fault shape [] (walk_at h waiting) word ≡ settle_fault rules false h
  plain_turn h waiting word free p = rw (no_subcommand waiting word, p.no_dashes, p.no_long, p.no_short, free word h, and_false (is_pending words_built h.pending)) refl

  pub plain_next : (h : Held) (waiting : Waiting) (word : Text) → IsFree options waiting → IsPlainWord word → walked rules [] (walk_at h waiting) word ≡ walk_at (with_word_held h word) positional
  unfolding walked
  plain_next h waiting word free p = rw (no_subcommand waiting word, p.no_dashes, p.no_long, p.no_short, free word h, and_false (is_pending words_built h.pending)) refl

  pub trailing_turn : (h : Held) (waiting : Waiting) (word : Text) → turn_fault shape [] (trailing_at h waiting) word ≡ settle_fault rules false h
  trailing_turn h waiting word = rw (and_false (is_pending words_built h.pending)) refl

  pub trailing_next : (h : Held) (waiting : Waiting) (word : Text) → walked rules [] (trailing_at h waiting) word ≡ trailing_at (with_word_held h word) positional
  unfolding walked
  trailing_next h waiting word = rw (and_false (is_pending words_built h.pending)) refl

  -- ---- `--`

  pub dashes_turn : (h : Held) (waiting : Waiting) → turn_fault shape [] (walk_at h waiting) (45 ∷ 45 ∷ []) ≡ []
  dashes_turn h waiting = rw (no_subcommand waiting (45 ∷ 45 ∷ [])) refl

  pub dashes_next : (h : Held) (waiting : Waiting) → walked rules [] (walk_at h waiting) (45 ∷ 45 ∷ []) ≡ trailing_at h waiting
  unfolding walked
  dashes_next h waiting = rw (no_subcommand waiting (45 ∷ 45 ∷ [])) refl

  -- ---- an option

  abbrev pub given : Held → ValueOption → Text → Held
  given h o text = record { rows = used (built_option o) (text ∷ []) (settled rules h).rows; pending = None; skip = h.skip }

  abbrev pub opened : Held → ValueOption → Held
  opened h o = record { rows = (settled rules h).rows; pending = Some (option_name o, []); skip = h.skip }

  abbrev pub used_kinds : ValueOption → Text → Held → Kinds
  used_kinds o text h = use_fault false (built_option o) (text ∷ []) (settled rules h).rows

  pub value_turn : (h : Held) (waiting : Waiting) (word : Text) (l : IsLongWord word) (o : ValueOption) (text : Text) → l.value ≡ Some text → arg_by_long rules l.name ≡ Some (built_option o)
      → turn_fault shape [] (walk_at h waiting) word ≡ or_else (or_else (settle_fault rules false h) (used_kinds o text h)) []
  value_turn h waiting word l o text v is = rw (no_subcommand waiting word, l.no_dashes, l.long, v, is) refl

  pub value_next : (h : Held) (waiting : Waiting) (word : Text) (l : IsLongWord word) (o : ValueOption) (text : Text) → l.value ≡ Some text → arg_by_long rules l.name ≡ Some (built_option o)
      → walked rules [] (walk_at h waiting) word ≡ walk_at (given h o text) idle
  unfolding walked
  value_next h waiting word l o text v is = rw (no_subcommand waiting word, l.no_dashes, l.long, v, is) refl

  pub open_turn : (h : Held) (waiting : Waiting) (word : Text) (l : IsLongWord word) (o : ValueOption) → l.value ≡ None → arg_by_long rules l.name ≡ Some (built_option o)
      → turn_fault shape [] (walk_at h waiting) word ≡ or_else (settle_fault rules false h) []
  open_turn h waiting word l o v is = rw (no_subcommand waiting word, l.no_dashes, l.long, v, is) refl

  pub open_next : (h : Held) (waiting : Waiting) (word : Text) (l : IsLongWord word) (o : ValueOption) → l.value ≡ None → arg_by_long rules l.name ≡ Some (built_option o)
      → walked rules [] (walk_at h waiting) word ≡ walk_at (opened h o) (option (option_name o))
  unfolding walked
  open_next h waiting word l o v is = rw (no_subcommand waiting word, l.no_dashes, l.long, v, is) refl

  pub unknown_turn : (h : Held) (waiting : Waiting) (word : Text) (l : IsLongWord word) → arg_by_long rules l.name ≡ None → Fails (turn_fault shape [] (walk_at h waiting) word)
  unknown_turn h waiting word l is = rw (no_subcommand waiting word, l.no_dashes, l.long, is) (record { kind = _; more = _; are = refl })

  pub short_turn : (h : Held) (waiting : Waiting) (word : Text) (s : IsShortWord word) (x : ℕ) → slice_get (chars (s.first ∷ s.rest)) 0 ≡ Some x → h.skip ≡ 0 → Fails (turn_fault shape [] (walk_at h waiting) word)
  unfolding flags_fault
  short_turn h waiting word s x char none = rw (no_subcommand waiting word, s.no_dashes, s.no_long, s.short, none, char, by_short options x) (record { kind = _; more = _; are = refl })

  -- ---- the value of an option that waits for it

  abbrev pub valued : List Row → ℕ → ValueOption → Text → Held
  valued rows skip o word = record { rows = rows; pending = Some (option_name o, word ∷ []); skip = skip }

  abbrev pub waits : List Row → ℕ → ValueOption → Held
  waits rows skip o = record { rows = rows; pending = Some (option_name o, []); skip = skip }

  pub taken_turn : (rows : List Row) (skip : ℕ) (o : ValueOption) (word : Text) → IsIn options o → IsPlainWord word → turn_fault shape [] (walk_at (waits rows skip o) (option (option_name o))) word ≡ []
  taken_turn rows skip o word i p = rw (p.no_dashes, p.no_long, p.no_short) refl

  pub taken_next : (rows : List Row) (skip : ℕ) (o : ValueOption) (word : Text) → IsIn options o → IsPlainWord word → walked rules [] (walk_at (waits rows skip o) (option (option_name o))) word ≡ walk_at (valued rows skip o word) idle
  unfolding walked
  taken_next rows skip o word i p = rw (p.no_dashes, p.no_long, p.no_short, by_id options o i, equal (option_name o)) refl

  -- ---- one use of an option

  pub waits_fails : (rows : List Row) (skip : ℕ) (o : ValueOption) → IsIn options o → Fails (settle_fault rules false (waits rows skip o))
  waits_fails rows skip o i = rw (by_id options o i) (record { kind = _; more = _; are = refl })

  pub valued_fault : (rows : List Row) (skip : ℕ) (o : ValueOption) (word : Text) → IsIn options o → settle_fault rules false (valued rows skip o word) ≡ use_fault false (built_option o) (word ∷ []) rows
  valued_fault rows skip o word i = rw (by_id options o i) refl

  pub valued_rows : (rows : List Row) (skip : ℕ) (o : ValueOption) (word : Text) → IsIn options o → (settled rules (valued rows skip o word)).rows ≡ used (built_option o) (word ∷ []) rows
  valued_rows rows skip o word i = rw (by_id options o i) refl

taken : (x : ℕ) (xs : Text) → value_kinds false NonEmptyString (x ∷ xs) ≡ []
taken x xs = ap (λ b. cond b [] (refused_kind NonEmptyString ∷ [])) (positive (length xs))

pub use_once : (o : ValueOption) (x : ℕ) (xs : Text) (rows : List Row) → has_row (option_name o) rows ≡ false → use_fault false (built_option o) ((x ∷ xs) ∷ []) rows ≡ []
use_once o x xs rows none = rw (none, taken x xs) refl

pub use_twice : (o : ValueOption) (text : Text) (rows : List Row) → has_row (option_name o) rows ≡ true → Fails (use_fault false (built_option o) (text ∷ []) rows)
use_twice o text rows some = rw some (record { kind = _; more = _; are = refl })

pub use_empty : (o : ValueOption) (rows : List Row) (b : Bool) → has_row (option_name o) rows ≡ b → Fails (use_fault false (built_option o) ([] ∷ []) rows)
use_empty o rows true some = rw some (record { kind = _; more = _; are = refl })
use_empty o rows false none = rw none (record { kind = _; more = _; are = refl })
