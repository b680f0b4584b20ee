-- The words behind a command's name: the parse finds what the definition says, and fails where this gives no command.
use Rattle.std.proofs.Common.{◌≡◌, ◌∙◌, ℕ, true, false, refl, sym, ap, ap₂, subst, inl, inr, List, [], ◌∷◌, ◌++◌, Option, None, Some, append-nil, append_assoc}
use Rattle.std.specs.Prelude.{◌⊎◌, codes, option_and_then, option_map, slice_get, unwrap_or, is_some}
use Rattle.std.specs.Str.{IsUtf8, bytes_eq}
use Rattle.clap.specs.Walk.{Held, Row, Text, Waiting, Walk, arg_by_long, first_of, has_row, idle, option, positional, settled, used, walked, without}
use Rattle.clap.specs.Kinds.{Kinds, or_else}
use Rattle.clap.specs.declared.builder.value_parser.Reading.TheVariants.{AsWritten}
use Rattle.clap.specs.declared.parser.matches.ValueSource.TheVariants.{CommandLine}
use Rattle.clap.specs.Faults.{settle_fault, turn_fault}
use Rattle.command_spec.specs.declared.options.ValueOption.{ValueOption}
use Rattle.command_spec.specs.Values.{are_among, is_among, option_name, option_word, values_of}
use Rattle.command_spec.specs.Options.{Parts, Setting, Role, Plain, Dashes, Complete, Open, Misplaced, parts_of, role_of}
use Rattle.command_words.proofs.Lookups.{IsIn, built_option, built_rules, by_long, dashed, equal, one_option, own_name, same, turned, two}
use Rattle.command_words.proofs.Found.{at, more_at, new_at, none_out, other_at, row_found, values_at}
use Rattle.command_words.proofs.Views.{IsLongWord, IsPlainWord, IsShortWord, RoleOfUnknown, View, first_char, is_dashes, is_long, is_plain, is_short, long_role, misplaced, opens, stands, view}
use Rattle.command_words.proofs.Settings.{AreUnfit, IsUnfit, UnknownRole, by_role, carried, has_no_place, in_role, known_last, opens_unknown, stands_unknown, twice, unfit_more, unfit_unknown, value_last, with_setting_carried, with_word_carried}
use Rattle.command_words.proofs.Steps as step
use Rattle.command_words.proofs.Steps.{Fails, IsFree, fails_as, fails_first, fails_next, faults, found, trailing_at, use_empty, use_once, use_twice, walk_at}

abbrev pub IsWord : Text → Type 0
IsWord [] = ⊥
IsWord (x ∷ xs) = IsUtf8 (x ∷ xs)

abbrev pub AreWords : List Text → Type 0
AreWords [] = Unit {0}
AreWords (word ∷ words) = IsWord word × AreWords words

-- an option's value among the rows
pub data Slot (o : ValueOption) (rows : List Row) (settings : List Setting) : Type 0 where
  unset : values_of o settings ≡ [] → has_row (option_name o) rows ≡ false → first_of (option_name o) rows ≡ None → Slot o rows settings
  set : (text : Text) → values_of o settings ≡ text ∷ [] → has_row (option_name o) rows ≡ true → first_of (option_name o) rows ≡ Some text → Slot o rows settings

pub record Agrees (options : List ValueOption) (rows : List Row) (settings : List Setting) (words : List Text) : Type 0 where
  pub known : are_among options settings ≡ true
  pub words_are : values_at (codes "words") rows ≡ words
  pub options_are : (o : ValueOption) → Slot o rows settings

pub record Holds (options : List ValueOption) (h : Held) (settings : List Setting) (words : List Text) : Type 0 where
  pub fine : settle_fault (built_rules options) false h ≡ []
  pub skips : h.skip ≡ 0
  pub agrees : Agrees options (settled (built_rules options) h).rows settings words

pub data Outcome (options : List ValueOption) (kinds : Kinds) (rows : List Row) (parts : Option Parts) : Type 0 where
  accepted : (p : Parts) → kinds ≡ [] → parts ≡ Some p → Agrees options rows p.settings p.words → Outcome options kinds rows parts
  refused : Fails kinds → IsUnfit options parts → Outcome options kinds rows parts

outcome_as : (options : List ValueOption) (k k2 : Kinds) (r r2 : List Row) (p p2 : Option Parts) → k ≡ k2 → r ≡ r2 → p ≡ p2 → Outcome options k2 r2 p2 → Outcome options k r p
outcome_as options k k2 r r2 p p2 ek er ep o =
    subst (λ x. Outcome options x r p) (sym ek) (subst (λ x. Outcome options k2 x p) (sym er) (subst (λ x. Outcome options k2 r2 x) (sym ep) o))

has_as : (id : Text) (rows rows2 : List Row) → at id rows2 ≡ at id rows → has_row id rows2 ≡ has_row id rows
has_as id rows rows2 e = row_found id rows2 ∙ ap is_some e ∙ sym (row_found id rows)

first_as : (id : Text) (rows rows2 : List Row) → at id rows2 ≡ at id rows → first_of id rows2 ≡ first_of id rows
first_as id rows rows2 e = ap (option_and_then (λ (r : Row). slice_get r.values 0)) e

slot_as : (o : ValueOption) (rows rows2 : List Row) (settings settings2 : List Setting) → at (option_name o) rows2 ≡ at (option_name o) rows → values_of o settings2 ≡ values_of o settings → Slot o rows settings → Slot o rows2 settings2
slot_as o rows rows2 s s2 e v (unset a b c) = unset (v ∙ a) (has_as (option_name o) rows rows2 e ∙ b) (first_as (option_name o) rows rows2 e ∙ c)
slot_as o rows rows2 s s2 e v (set t a b c) = set t (v ∙ a) (has_as (option_name o) rows rows2 e ∙ b) (first_as (option_name o) rows rows2 e ∙ c)

pub free_idle : (options : List ValueOption) → IsFree options idle
free_idle options word h = refl

free_positional : (options : List ValueOption) → IsFree options positional
free_positional options word h = refl

option_view : (o : Option Text) → (o ≡ None) ⊎ ((t : Text) × (o ≡ Some t))
option_view None = inl refl
option_view (Some t) = inr (t, refl)

abbrev pub setting_of : ValueOption → Text → Setting
setting_of o text = record { name = 45 ∷ 45 ∷ option_name o; value = text }

module _ (name : Text) (options : List ValueOption) where
  -- ---- what is held fails

  pub bad_trailing : (words : List Text) (h : Held) (waiting : Waiting) → Fails (settle_fault (built_rules options) false h) → Fails (faults name options (trailing_at h waiting) words)
  bad_trailing [] h waiting f = fails_as _ _ (step.at_end name options (trailing_at h waiting)) f
  bad_trailing (w ∷ ws) h waiting f = step.stops name options (trailing_at h waiting) w ws (fails_as _ _ (step.trailing_turn name options h waiting w) f)

  bad_long : (word : Text) (l : IsLongWord word) (words : List Text) (h : Held) (waiting : Waiting) → Fails (settle_fault (built_rules options) false h) → Fails (faults name options (walk_at h waiting) (word ∷ words))
  bad_long word l words h waiting f = elim (by_long options l.name) [
    | inl is ↦ elim (option_view l.value) [
      | inl none ↦ step.stops name options (walk_at h waiting) word words (fails_as _ _ (step.open_turn name options h waiting word l is.option none is.found) (fails_first _ _ f))
      | inr some ↦ step.stops name options (walk_at h waiting) word words (fails_as _ _ (step.value_turn name options h waiting word l is.option some.0 some.1 is.found) (fails_first _ _ (fails_first _ _ f)))
    ]
    | inr is ↦ step.stops name options (walk_at h waiting) word words (step.unknown_turn name options h waiting word l is.found)
  ]

  short_stops : (word : Text) (s : IsShortWord word) (words : List Text) (h : Held) (waiting : Waiting) → IsWord word → h.skip ≡ 0 → Fails (faults name options (walk_at h waiting) (word ∷ words))
  short_stops word s words h waiting is none =
      let x = first_char s.first s.rest (subst IsWord s.spelt is) in
      step.stops name options (walk_at h waiting) word words (step.short_turn name options h waiting word s x.0 x.1 none)

  bad_word : (word : Text) (v : View word) (words : List Text) (h : Held) (waiting : Waiting) → IsFree options waiting → IsWord word → h.skip ≡ 0 → Fails (settle_fault (built_rules options) false h) → Fails (faults name options (walk_at h waiting) (word ∷ words))
  bad_word word (is_plain p) words h waiting free is none f = step.stops name options (walk_at h waiting) word words (fails_as _ _ (step.plain_turn name options h waiting word free p) f)
  bad_word _ is_dashes words h waiting free is none f =
      fails_as _ _ (step.goes_on name options (walk_at h waiting) (trailing_at h waiting) (45 ∷ 45 ∷ []) words (step.dashes_turn name options h waiting) (step.dashes_next name options h waiting)) (bad_trailing words h waiting f)
  bad_word word (is_long l) words h waiting free is none f = bad_long word l words h waiting f
  bad_word word (is_short s) words h waiting free is none f = short_stops word s words h waiting is none

  pub bad_walk : (words : List Text) (h : Held) (waiting : Waiting) → IsFree options waiting → AreWords words → h.skip ≡ 0 → Fails (settle_fault (built_rules options) false h) → Fails (faults name options (walk_at h waiting) words)
  bad_walk [] h waiting free are none f = fails_as _ _ (step.at_end name options (walk_at h waiting)) f
  bad_walk ([] ∷ ws) h waiting free are none f = absurd are.0
  bad_walk ((x ∷ xs) ∷ ws) h waiting free are none f = bad_word (x ∷ xs) (view x xs) ws h waiting free are.0 none f

  -- ---- what is held, after one more use

  with_word : (h : Held) (settings : List Setting) (words : List Text) (word : Text) → Holds options h settings words → Holds options (step.with_word_held name options h word) settings (words ++ word ∷ [])
  with_word h settings words word good = record {
    fine = refl;
    skips = good.skips;
    agrees = record {
      known = good.agrees.known;
      words_are = ap (λ o. unwrap_or o []) (more_at (codes "words") _ _ (word ∷ []) (settled (built_rules options) h).rows) ∙ ap (λ ws. ws ++ word ∷ []) good.agrees.words_are;
      options_are = λ o. slot_as o (settled (built_rules options) h).rows _ settings settings (other_at (codes "words") (option_name o) _ _ (word ∷ []) (settled (built_rules options) h).rows (own_name o)) refl (good.agrees.options_are o);
    };
  }

  with_option : (rows : List Row) (settings : List Setting) (words : List Text) (o : ValueOption) (text : Text) → IsIn options o → Agrees options rows settings words
      → values_of o settings ≡ [] → has_row (option_name o) rows ≡ false → Agrees options (used (built_option o) (text ∷ []) rows) (settings ++ setting_of o text ∷ []) words
  with_option rows settings words o text i a empty none = record {
    known = known_last options settings (setting_of o text) a.known (subst (λ w. is_among options w ≡ true) (dashed o) i);
    words_are = ap (λ r. unwrap_or (option_map (λ (x : Row). x.values) r) []) (other (codes "words") (turned (option_name o) (codes "words") ∙ own_name o)) ∙ a.words_are;
    options_are = λ p. elim (two (bytes_eq (option_name o) (option_name p))) [
      | inl t ↦ subst (λ q. Slot q (used (built_option o) (text ∷ []) rows) (settings ++ setting_of o text ∷ [])) (one_option o p (same _ _ t)) mine
      | inr f ↦ slot_as p rows _ settings (settings ++ setting_of o text ∷ []) (other (option_name p) f) (value_last p settings (setting_of o text) false (ap (bytes_eq (setting_of o text).name) (dashed p) ∙ f) ∙ append-nil (values_of p settings)) (a.options_are p)
    ];
  }
    where
      out : without (option_name o) rows ≡ rows
      out = none_out (option_name o) rows none

      other : (id : Text) → bytes_eq (option_name o) id ≡ false → at id (used (built_option o) (text ∷ []) rows) ≡ at id rows
      other id f = other_at (option_name o) id _ _ (text ∷ []) (without (option_name o) rows) f ∙ ap (at id) out

      new : at (option_name o) (used (built_option o) (text ∷ []) rows) ≡ Some (record { id = option_name o; values = text ∷ []; count = None; source = Some CommandLine; reading = AsWritten })
      new = new_at (option_name o) _ _ (text ∷ []) (without (option_name o) rows) (ap (has_row (option_name o)) out ∙ none)

      mine : Slot o (used (built_option o) (text ∷ []) rows) (settings ++ setting_of o text ∷ [])
      mine = set text (value_last o settings (setting_of o text) true (ap (λ w. bytes_eq w (option_word o)) (sym (dashed o)) ∙ equal (option_word o)) ∙ ap (λ vs. vs ++ text ∷ []) empty) (row_found (option_name o) _ ∙ ap is_some new) (ap (option_and_then (λ (r : Row). slice_get r.values 0)) new)

  stands_twice : (settings : List Setting) (o : ValueOption) (text before : Text) → IsIn options o → values_of o settings ≡ before ∷ [] → AreUnfit options (settings ++ setting_of o text ∷ [])
  stands_twice settings o text before i one = twice o i before text [] (value_last o settings (setting_of o text) true (ap (λ w. bytes_eq w (option_word o)) (sym (dashed o)) ∙ equal (option_word o)) ∙ ap (λ vs. vs ++ text ∷ []) one)

  -- ---- behind `--`

  pub trailing : (later : List Text) (h : Held) (waiting : Waiting) (settings : List Setting) (words : List Text) → Holds options h settings words
      → Outcome options (faults name options (trailing_at h waiting) later) (found name options (trailing_at h waiting) later) (Some (record { settings = settings; words = words ++ later }))
  trailing [] h waiting settings words good =
      accepted (record { settings = settings; words = words }) (step.at_end name options (trailing_at h waiting) ∙ good.fine) (ap (λ ws. Some (record { settings = settings; words = ws })) (append-nil words)) good.agrees
  trailing (w ∷ ws) h waiting settings words good =
      outcome_as options _ _ _ _ _ _
      (step.goes_on name options (trailing_at h waiting) (trailing_at (step.with_word_held name options h w) positional) w ws (step.trailing_turn name options h waiting w ∙ good.fine) (step.trailing_next name options h waiting w))
      (step.finds name options (trailing_at h waiting) (trailing_at (step.with_word_held name options h w) positional) w ws (step.trailing_next name options h waiting w))
      (ap (λ xs. Some (record { settings = settings; words = xs })) (sym (append_assoc words (w ∷ []) ws)))
      (trailing ws (step.with_word_held name options h w) positional settings (words ++ w ∷ []) (with_word h settings words w good))

  -- ---- among options

  pub record Reads (later : List Text) : Type 0 where
    pub free : (h : Held) (waiting : Waiting) (settings : List Setting) (words : List Text) → IsFree options waiting → AreWords later → Holds options h settings words
        → Outcome options (faults name options (walk_at h waiting) later) (found name options (walk_at h waiting) later) (carried settings words (parts_of None later))
    pub waits : (rows : List Row) (skip : ℕ) (o : ValueOption) (settings : List Setting) (words : List Text) → skip ≡ 0 → IsIn options o → AreWords later → Agrees options rows settings words
        → Outcome options (faults name options (walk_at (step.waits name options rows skip o) (option (option_name o))) later) (found name options (walk_at (step.waits name options rows skip o) (option (option_name o))) later)
        (carried settings words (parts_of (Some (45 ∷ 45 ∷ option_name o)) later))

  no_unknown : (word : Text) (r : Role) → RoleOfUnknown word r → UnknownRole options word r
  no_unknown word _ (opens f) = opens_unknown (f options)
  no_unknown word _ (stands setting f) = stands_unknown setting (f options)
  no_unknown word _ misplaced = has_no_place

  unknown_long : (word : Text) (n : Text) (v : Option Text) → is_among options (45 ∷ 45 ∷ n) ≡ false → (v ≡ None → word ≡ 45 ∷ 45 ∷ n) → UnknownRole options word (long_role n v)
  unknown_long word n None f is = opens_unknown (subst (λ w. is_among options w ≡ false) (sym (is refl)) f)
  unknown_long word n (Some []) f is = has_no_place
  unknown_long word n (Some (x ∷ xs)) f is = stands_unknown (record { name = 45 ∷ 45 ∷ n; value = x ∷ xs }) f

  refused_word : (word : Text) (later : List Text) (w : Walk) (settings : List Setting) (words : List Text) (wanted : Option Text) (r : Role) → role_of wanted word ≡ r → Fails (faults name options w (word ∷ later)) → IsUnfit options (carried settings words (by_role r word later))
      → Outcome options (faults name options w (word ∷ later)) (found name options w (word ∷ later)) (carried settings words (parts_of wanted (word ∷ later)))
  refused_word word later w settings words wanted r is fails unfit = refused fails (subst (IsUnfit options) (sym (in_role settings words wanted word later r is)) unfit)

  next_word : (word : Text) (later : List Text) (w next : Walk) (settings settings2 : List Setting) (words words2 : List Text) (wanted : Option Text) (parts : Option Parts) → turn_fault (step.shape name options) [] w word ≡ [] → walked (built_rules options) [] w word ≡ next
      → carried settings words (parts_of wanted (word ∷ later)) ≡ parts → Outcome options (faults name options next later) (found name options next later) parts
      → Outcome options (faults name options w (word ∷ later)) (found name options w (word ∷ later)) (carried settings words (parts_of wanted (word ∷ later)))
  next_word word later w next settings settings2 words words2 wanted parts none is same o =
      outcome_as options _ _ _ _ _ _ (step.goes_on name options w next word later none is) (step.finds name options w next word later is) same o

  -- an option with its value in one word
  joined_word : (word : Text) (l : IsLongWord word) (later : List Text) (ih : Reads later) (h : Held) (waiting : Waiting) (settings : List Setting) (words : List Text) → AreWords later → Holds options h settings words
      → (o : ValueOption) → l.name ≡ option_name o → IsIn options o → arg_by_long (built_rules options) l.name ≡ Some (built_option o) → (text : Text) → l.value ≡ Some text → Slot o (settled (built_rules options) h).rows settings
      → Outcome options (faults name options (walk_at h waiting) (word ∷ later)) (found name options (walk_at h waiting) (word ∷ later)) (carried settings words (parts_of None (word ∷ later)))
  joined_word word l later ih h waiting settings words are good o named i is [] v slot =
      refused_word word later (walk_at h waiting) settings words None Misplaced (l.role ∙ ap (long_role l.name) v)
      (step.stops name options (walk_at h waiting) word later (fails_as _ _ (step.value_turn name options h waiting word l o [] v is) (fails_first _ _ (fails_next _ _ good.fine (use_empty o (settled (built_rules options) h).rows _ refl)))))
      tt
  joined_word word l later ih h waiting settings words are good o named i is (x ∷ xs) v (unset empty none first) =
      let role : role_of None word ≡ Complete (setting_of o (x ∷ xs)) = l.role ∙ ap₂ long_role named v in
      next_word word later (walk_at h waiting) (walk_at (step.given name options h o (x ∷ xs)) idle) settings (settings ++ setting_of o (x ∷ xs) ∷ []) words words None _
      (step.value_turn name options h waiting word l o (x ∷ xs) v is ∙ ap₂ (λ a b. or_else (or_else a b) []) good.fine (use_once o x xs (settled (built_rules options) h).rows none))
      (step.value_next name options h waiting word l o (x ∷ xs) v is)
      (in_role settings words None word later _ role ∙ with_setting_carried settings words (setting_of o (x ∷ xs)) (parts_of None later))
      (ih.free (step.given name options h o (x ∷ xs)) idle (settings ++ setting_of o (x ∷ xs) ∷ []) words (free_idle options) are (record {
        fine = refl;
        skips = good.skips;
        agrees = with_option (settled (built_rules options) h).rows settings words o (x ∷ xs) i good.agrees empty none;
      }))
  joined_word word l later ih h waiting settings words are good o named i is (x ∷ xs) v (set before one some first) =
      let role : role_of None word ≡ Complete (setting_of o (x ∷ xs)) = l.role ∙ ap₂ long_role named v in
      refused_word word later (walk_at h waiting) settings words None _ role
      (step.stops name options (walk_at h waiting) word later (fails_as _ _ (step.value_turn name options h waiting word l o (x ∷ xs) v is) (fails_first _ _ (fails_next _ _ good.fine (use_twice o (x ∷ xs) (settled (built_rules options) h).rows some)))))
      (subst (IsUnfit options) (sym (with_setting_carried settings words (setting_of o (x ∷ xs)) (parts_of None later))) (unfit_more options (settings ++ setting_of o (x ∷ xs) ∷ []) words (parts_of None later) (stands_twice settings o (x ∷ xs) before i one)))

  long_word : (word : Text) (l : IsLongWord word) (later : List Text) (ih : Reads later) (h : Held) (waiting : Waiting) (settings : List Setting) (words : List Text) → AreWords later → Holds options h settings words
      → Outcome options (faults name options (walk_at h waiting) (word ∷ later)) (found name options (walk_at h waiting) (word ∷ later)) (carried settings words (parts_of None (word ∷ later)))
  long_word word l later ih h waiting settings words are good = elim (by_long options l.name) [
    | inl is ↦ elim (option_view l.value) [
      | inl none ↦ (
          let role : role_of None word ≡ Open = l.role ∙ ap (long_role l.name) none in
          let whole : word ≡ 45 ∷ 45 ∷ option_name is.option = l.whole none ∙ ap (λ n. 45 ∷ 45 ∷ n) is.named in
          next_word word later (walk_at h waiting) (walk_at (step.opened name options h is.option) (option (option_name is.option))) settings settings words words None _
          (step.open_turn name options h waiting word l is.option none is.found ∙ ap (λ a. or_else a []) good.fine)
          (step.open_next name options h waiting word l is.option none is.found)
          (in_role settings words None word later _ role ∙ ap (λ w. carried settings words (parts_of (Some w) later)) whole)
          (ih.waits (settled (built_rules options) h).rows h.skip is.option settings words good.skips is.in_it are good.agrees))
      | inr some ↦ joined_word word l later ih h waiting settings words are good is.option is.named is.in_it is.found some.0 some.1 (good.agrees.options_are is.option)
    ]
    | inr is ↦ refused_word word later (walk_at h waiting) settings words None (long_role l.name l.value) l.role
        (step.stops name options (walk_at h waiting) word later (step.unknown_turn name options h waiting word l is.found))
        (unfit_unknown options settings words word later _ (unknown_long word l.name l.value is.not_in l.whole))
  ]

  free_word : (word : Text) (v : View word) (later : List Text) (ih : Reads later) (h : Held) (waiting : Waiting) (settings : List Setting) (words : List Text) → IsFree options waiting → IsWord word → AreWords later → Holds options h settings words
      → Outcome options (faults name options (walk_at h waiting) (word ∷ later)) (found name options (walk_at h waiting) (word ∷ later)) (carried settings words (parts_of None (word ∷ later)))
  free_word word (is_plain p) later ih h waiting settings words free is are good =
      let role : role_of None word ≡ Plain = rw (p.no_dashes, p.no_option) refl in
      next_word word later (walk_at h waiting) (walk_at (step.with_word_held name options h word) positional) settings settings words (words ++ word ∷ []) None _
      (step.plain_turn name options h waiting word free p ∙ good.fine) (step.plain_next name options h waiting word free p)
      (in_role settings words None word later _ role ∙ with_word_carried settings words word (parts_of None later))
      (ih.free (step.with_word_held name options h word) positional settings (words ++ word ∷ []) (free_positional options) are (with_word h settings words word good))
  free_word _ is_dashes later ih h waiting settings words free is are good =
      next_word (45 ∷ 45 ∷ []) later (walk_at h waiting) (trailing_at h waiting) settings settings words words None _
      (step.dashes_turn name options h waiting) (step.dashes_next name options h waiting)
      (in_role settings words None (45 ∷ 45 ∷ []) later Dashes refl ∙ ap (λ xs. Some (record { settings = xs; words = words ++ later })) (append-nil settings))
      (trailing later h waiting settings words good)
  free_word word (is_long l) later ih h waiting settings words free is are good = long_word word l later ih h waiting settings words are good
  free_word word (is_short s) later ih h waiting settings words free is are good =
      refused_word word later (walk_at h waiting) settings words None _ refl (short_stops word s later h waiting is good.skips) (unfit_unknown options settings words word later _ (no_unknown word _ s.role))

  -- ---- the value of an option

  valued_word : (word : Text) (p : IsPlainWord word) (later : List Text) (ih : Reads later) (rows : List Row) (skip : ℕ) (o : ValueOption) (settings : List Setting) (words : List Text) → skip ≡ 0 → IsIn options o → IsWord word → AreWords later → Agrees options rows settings words → Slot o rows settings
      → Outcome options (faults name options (walk_at (step.waits name options rows skip o) (option (option_name o))) (word ∷ later)) (found name options (walk_at (step.waits name options rows skip o) (option (option_name o))) (word ∷ later))
      (carried settings words (parts_of (Some (45 ∷ 45 ∷ option_name o)) (word ∷ later)))
  valued_word [] p later ih rows skip o settings words none i is are a slot = absurd is
  valued_word (x ∷ xs) p later ih rows skip o settings words none i is are a (unset empty no_row first) =
      let role : role_of (Some (45 ∷ 45 ∷ option_name o)) (x ∷ xs) ≡ Complete (setting_of o (x ∷ xs)) = rw p.no_option refl in
      next_word (x ∷ xs) later (walk_at (step.waits name options rows skip o) (option (option_name o))) (walk_at (step.valued name options rows skip o (x ∷ xs)) idle) settings (settings ++ setting_of o (x ∷ xs) ∷ []) words words (Some (45 ∷ 45 ∷ option_name o)) _
      (step.taken_turn name options rows skip o (x ∷ xs) i p) (step.taken_next name options rows skip o (x ∷ xs) i p)
      (in_role settings words (Some (45 ∷ 45 ∷ option_name o)) (x ∷ xs) later _ role ∙ with_setting_carried settings words (setting_of o (x ∷ xs)) (parts_of None later))
      (ih.free (step.valued name options rows skip o (x ∷ xs)) idle (settings ++ setting_of o (x ∷ xs) ∷ []) words (free_idle options) are (record {
        fine = step.valued_fault name options rows skip o (x ∷ xs) i ∙ use_once o x xs rows no_row;
        skips = none;
        agrees = subst (λ rs. Agrees options rs (settings ++ setting_of o (x ∷ xs) ∷ []) words) (sym (step.valued_rows name options rows skip o (x ∷ xs) i)) (with_option rows settings words o (x ∷ xs) i a empty no_row);
      }))
  valued_word (x ∷ xs) p later ih rows skip o settings words none i is are a (set before one some first) =
      let role : role_of (Some (45 ∷ 45 ∷ option_name o)) (x ∷ xs) ≡ Complete (setting_of o (x ∷ xs)) = rw p.no_option refl in
      refused_word (x ∷ xs) later (walk_at (step.waits name options rows skip o) (option (option_name o))) settings words (Some (45 ∷ 45 ∷ option_name o)) _ role
      (fails_as _ _ (step.goes_on name options (walk_at (step.waits name options rows skip o) (option (option_name o))) (walk_at (step.valued name options rows skip o (x ∷ xs)) idle) (x ∷ xs) later (step.taken_turn name options rows skip o (x ∷ xs) i p) (step.taken_next name options rows skip o (x ∷ xs) i p))
      (bad_walk later (step.valued name options rows skip o (x ∷ xs)) idle (free_idle options) are none (fails_as _ _ (step.valued_fault name options rows skip o (x ∷ xs) i) (use_twice o (x ∷ xs) rows some))))
      (subst (IsUnfit options) (sym (with_setting_carried settings words (setting_of o (x ∷ xs)) (parts_of None later))) (unfit_more options (settings ++ setting_of o (x ∷ xs) ∷ []) words (parts_of None later) (stands_twice settings o (x ∷ xs) before i one)))

  waits_word : (word : Text) (v : View word) (later : List Text) (ih : Reads later) (rows : List Row) (skip : ℕ) (o : ValueOption) (settings : List Setting) (words : List Text) → skip ≡ 0 → IsIn options o → IsWord word → AreWords later → Agrees options rows settings words
      → Outcome options (faults name options (walk_at (step.waits name options rows skip o) (option (option_name o))) (word ∷ later)) (found name options (walk_at (step.waits name options rows skip o) (option (option_name o))) (word ∷ later))
      (carried settings words (parts_of (Some (45 ∷ 45 ∷ option_name o)) (word ∷ later)))
  waits_word word (is_plain p) later ih rows skip o settings words none i is are a = valued_word word p later ih rows skip o settings words none i is are a (a.options_are o)
  waits_word _ is_dashes later ih rows skip o settings words none i is are a =
      refused_word (45 ∷ 45 ∷ []) later (walk_at (step.waits name options rows skip o) (option (option_name o))) settings words (Some (45 ∷ 45 ∷ option_name o)) Misplaced refl
      (fails_as _ _ (step.goes_on name options (walk_at (step.waits name options rows skip o) (option (option_name o))) (trailing_at (step.waits name options rows skip o) (option (option_name o))) (45 ∷ 45 ∷ []) later (step.dashes_turn name options (step.waits name options rows skip o) (option (option_name o))) (step.dashes_next name options (step.waits name options rows skip o) (option (option_name o))))
      (bad_trailing later (step.waits name options rows skip o) (option (option_name o)) (step.waits_fails name options rows skip o i)))
      tt
  waits_word word (is_long l) later ih rows skip o settings words none i is are a =
      refused_word word later (walk_at (step.waits name options rows skip o) (option (option_name o))) settings words (Some (45 ∷ 45 ∷ option_name o)) Misplaced (rw l.option refl)
      (bad_long word l later (step.waits name options rows skip o) (option (option_name o)) (step.waits_fails name options rows skip o i)) tt
  waits_word word (is_short s) later ih rows skip o settings words none i is are a =
      refused_word word later (walk_at (step.waits name options rows skip o) (option (option_name o))) settings words (Some (45 ∷ 45 ∷ option_name o)) Misplaced (rw s.option refl)
      (short_stops word s later (step.waits name options rows skip o) (option (option_name o)) is none) tt

  pub reads : (later : List Text) → Reads later
  reads [] = record {
    free = λ h waiting settings words free are good.
        accepted (record { settings = settings; words = words }) (step.at_end name options (walk_at h waiting) ∙ good.fine) (ap₂ (λ xs ws. Some (record { settings = xs; words = ws })) (append-nil settings) (append-nil words)) good.agrees;
    waits = λ rows skip o settings words none i are a.
        refused (fails_as _ _ (step.at_end name options (walk_at (step.waits name options rows skip o) (option (option_name o)))) (step.waits_fails name options rows skip o i)) tt;
  }
  reads ([] ∷ later) = record {
    free = λ h waiting settings words free are good. absurd are.0;
    waits = λ rows skip o settings words none i are a. absurd are.0;
  }
  reads ((x ∷ xs) ∷ later) = record {
    free = λ h waiting settings words free are good. free_word (x ∷ xs) (view x xs) later (reads later) h waiting settings words free are.0 are.1 good;
    waits = λ rows skip o settings words none i are a. waits_word (x ∷ xs) (view x xs) later (reads later) rows skip o settings words none i are.0 are.1 a;
  }
