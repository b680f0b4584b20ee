-- The parts of a tag's settings.
use Rattle.std.proofs.Common.{◌-◌, arith, ◌≡◌, ℕ, zero, suc, Bool, true, false, List, [], ◌∷◌, ◌++◌, Option, Some, None, refl, sym, ap, ◌∙◌, subst, inl, inr}
use Rattle.std.proofs.Math.Numerals.{sub-one}
use Rattle.std.specs.Prelude.{◌||◌}
use Rattle.grammar.specs.Grammar.{nothing, one, either}
use Rattle.grammar.specs.Grammar as grammar
use Rattle.grammar.specs.Reading.{starts, Outcome}
use Rattle.grammar.specs.Reading as reading
use Rattle.grammar.proofs.Laws.{Always, Stops}
use Rattle.grammar.proofs.Parts.{Part, Opens, ◌>>=◌, give_part, then_part, then_opens, weaken_part, choose_part, opens_one, opens_then, opens_either, first_is}
use Rattle.template_items.specs.declared.item.Item.{Item}
use Rattle.template_items.specs.declared.item.Mark.TheVariants as marks
use Rattle.tmpl.specs.declared.Mode.TheVariants.{Written, Embed, Link, Labelled}
use Rattle.template_tags.specs.declared.settings.Setting.{Setting}
use Rattle.template_tags.specs.declared.settings.Setting.TheVariants as setting
use Rattle.template_tags.specs.declared.settings.Settings.{Settings}
use Rattle.template_tags.specs.declared.settings.Showing.TheVariants.{Each, HowMany}
use Rattle.template_tags.specs.Terminals.{is_mark, is_equals, equals_value, has_keyword, setting_value, is_setting, is_any_setting, is_fold, fold_value, is_descend, descend_value, IsReal}
use Rattle.template_tags.specs.Tag.{mark, with_mode, with_key, with_order, with_limit, with_delimiter, flag, ways, setting_key, setting_order, setting_limit, setting_delimiter, setting_found, setting_label, set, no_more_settings, settings}
use Rattle.template_tags.specs.Reading.{read_fold, read_descend, read_ways, read_key, read_order, read_limit, read_delimiter, read_found, read_link, read_label, read_set, read_close, read_next, read_settings}
use Rattle.template_tags.proofs.Known.{known_or}
use Rattle.template_tags.proofs.ItemFacts.{guard, has_value, some_value, mark_part, equals_part, direction_part, limit_part, quoted_part, mark_opens, mark_no_dot, mark_no_equals, keyword_no_dot, keyword_no_equals, mark_is_no_setting, setting_is_any, any_is_keyword, any_is_no_fold, any_is_no_descend, fold_is_keyword, descend_is_keyword, descend_is_no_fold, mark_is_no_fold, mark_is_no_descend}
use Rattle.template_tags.proofs.WordParts.{AfterWord, word_part}

-- a keyword, or the end of the tag
abbrev pub ends_setting : Item → Bool
ends_setting i = has_keyword i || is_mark marks.Close i

abbrev pub AfterSetting : List Item → Type 0
AfterSetting rest = starts ends_setting rest ≡ true

pub or_left : (a b : Bool) → a ≡ true → (a || b) ≡ true
or_left a b e = rw e refl

pub or_right : (a b : Bool) → b ≡ true → (a || b) ≡ true
or_right true b e = refl
or_right false b e = e

pub or_either : {W : Type 0} (a b : Bool) → (a || b) ≡ true → (a ≡ true → W) → (b ≡ true → W) → W
or_either true b e f g = f refl
or_either false b e f g = g e

pub setting_no_dot : (rest : List Item) → AfterSetting rest → AfterWord rest
setting_no_dot [] e = refl
setting_no_dot (i ∷ rest) e = or_either (has_keyword i) (is_mark marks.Close i) e (keyword_no_dot i) (mark_no_dot marks.Close i)

setting_no_equals : (rest : List Item) → AfterSetting rest → Stops is_equals rest
setting_no_equals [] e = refl
setting_no_equals (i ∷ rest) e = or_either (has_keyword i) (is_mark marks.Close i) e (keyword_no_equals i) (mark_no_equals marks.Close i)

-- a word of settings, or the end of the tag
abbrev ends_key : Item → Bool
ends_key i = is_any_setting i || is_mark marks.Close i

abbrev AfterKey : List Item → Type 0
AfterKey rest = starts ends_key rest ≡ true

key_ends_setting : (i : Item) → ends_key i ≡ true → ends_setting i ≡ true
key_ends_setting i e =
    or_either (is_any_setting i) (is_mark marks.Close i) e (λ k. or_left (has_keyword i) (is_mark marks.Close i) (any_is_keyword i k))
    (or_right (has_keyword i) (is_mark marks.Close i))

key_no_fold : (rest : List Item) → AfterKey rest → Stops is_fold rest
key_no_fold [] e = refl
key_no_fold (i ∷ rest) e = or_either (is_any_setting i) (is_mark marks.Close i) e (any_is_no_fold i) (mark_is_no_fold marks.Close i)

key_no_descend : (s : Settings) (rest : List Item) → AfterKey rest → Stops (is_descend s) rest
key_no_descend s [] e = refl
key_no_descend s (i ∷ rest) e =
    or_either (is_any_setting i) (is_mark marks.Close i) e (any_is_no_descend s i) (mark_is_no_descend marks.Close s i)

key_no_dot : (rest : List Item) → AfterKey rest → AfterWord rest
key_no_dot [] e = refl
key_no_dot (i ∷ rest) e = setting_no_dot (i ∷ rest) (key_ends_setting i e)

key_is_setting : (rest : List Item) → AfterKey rest → AfterSetting rest
key_is_setting [] e = absurd cc
key_is_setting (i ∷ rest) e = key_ends_setting i e

-- a word that may be left out, before what has none
module _ (value : Item → Option ℕ) (is : Item → Bool) (known : (i : Item) (n : ℕ) → value i ≡ Some n → is i ≡ true) (some : (i : Item) → is i ≡ true → (n : ℕ) × (value i ≡ Some n)) where
  flag_part : Part IsReal (flag value) (flag value) (Stops is) (reading.choose is (reading.◌>>=◌ (reading.take_one true value) (λ _. reading.give true)) (reading.give false))
  flag_part =
      known_or value is known some (λ _. weaken_part (Stops is) (λ _ _. tt) (give_part true)) (weaken_part (Stops is) (λ _ _. tt) (give_part false))
      (λ x v rest h f. subst (λ y. Stops is (y ++ rest)) (sym h.0) f)

  flag_opens : (W : Item → Type 0) → ((i : Item) → is i ≡ true → W i) → Opens (grammar.◌>>=◌ (one value) (λ _. nothing true)) W
  flag_opens W holds = opens_then (one value) (λ _. nothing true) W (opens_one value W (λ i n e. holds i (known i n e)))

fold_known : (i : Item) (n : ℕ) → fold_value i ≡ Some n → is_fold i ≡ true
fold_known i n e = guard (is_fold i) i.loops n e

fold_some : (i : Item) → is_fold i ≡ true → (n : ℕ) × (fold_value i ≡ Some n)
fold_some i e = (i.loops, rw e refl)

descend_known : (s : Settings) (i : Item) (n : ℕ) → descend_value s i ≡ Some n → is_descend s i ≡ true
descend_known s i n e = guard (is_descend s i) i.loops n e

descend_some : (s : Settings) (i : Item) → is_descend s i ≡ true → (n : ℕ) × (descend_value s i ≡ Some n)
descend_some s i e = (i.loops, rw e refl)

fold_flag : Part IsReal (flag fold_value) (flag fold_value) (Stops is_fold) read_fold
unfolding read_fold
fold_flag = flag_part fold_value is_fold fold_known fold_some

descend_flag : (s : Settings) → Part IsReal (flag (descend_value s)) (flag (descend_value s)) (Stops (is_descend s)) (read_descend s)
unfolding read_descend
descend_flag s = flag_part (descend_value s) (is_descend s) (descend_known s) (descend_some s)

module _ (s : Settings) (w : List (List ℕ)) where
  abbrev keyed : Bool → Bool → Settings
  keyed f d = with_key s (record { word = w; fold = f; descend = d })

  abbrev way_down : Bool → List Item → Settings → Type 0
  way_down f = grammar.◌>>=◌ (flag (descend_value s)) (λ d. nothing (keyed f d))

  -- what is behind FOLD is no FOLD
  down_no_fold : (f : Bool) (y : List Item) (v : Settings) (rest : List Item) → way_down f y v → AfterKey rest → Stops is_fold (y ++ rest)
  down_no_fold f y v rest (a, b, d, e, inl h, g) k =
      let o = flag_opens (descend_value s) (is_descend s) (descend_known s) (descend_some s) (λ i. is_fold i ≡ false) (descend_is_no_fold s) a d h in
      subst (λ x. Stops is_fold (x ++ rest)) (sym (e ∙ ap (λ z. z ++ b) o.2)) o.3
  down_no_fold f y v rest (a, b, d, e, inr h, g) k =
      let none : y ≡ [] = e ∙ ap (λ z. z ++ b) h.0 ∙ g.0 in subst (λ x. Stops is_fold (x ++ rest)) (sym none) (key_no_fold rest k)

  -- what is behind the word of a key is a keyword, or the end of the tag
  down_ends : (f : Bool) (y : List Item) (v : Settings) (rest : List Item) → way_down f y v → AfterKey rest → AfterSetting (y ++ rest)
  down_ends f y v rest (a, b, d, e, inl h, g) k =
      let o = flag_opens (descend_value s) (is_descend s) (descend_known s) (descend_some s) (λ i. ends_setting i ≡ true) (λ i is. or_left (has_keyword i) (is_mark marks.Close i) (descend_is_keyword s i is)) a d h in
      subst (λ x. AfterSetting (x ++ rest)) (sym (e ∙ ap (λ z. z ++ b) o.2)) o.3
  down_ends f y v rest (a, b, d, e, inr h, g) k =
      let none : y ≡ [] = e ∙ ap (λ z. z ++ b) h.0 ∙ g.0 in subst (λ x. AfterSetting (x ++ rest)) (sym none) (key_is_setting rest k)

  ways_end : (y : List Item) (v : Settings) (rest : List Item) → ways s w y v → AfterKey rest → AfterSetting (y ++ rest)
  ways_end y v rest (a, b, f, e, inl h, g) k =
      let o = flag_opens fold_value is_fold fold_known fold_some (λ i. ends_setting i ≡ true) (λ i is. or_left (has_keyword i) (is_mark marks.Close i) (fold_is_keyword i is)) a f h in
      subst (λ x. AfterSetting (x ++ rest)) (sym (e ∙ ap (λ z. z ++ b) o.2)) o.3
  ways_end y v rest (a, b, f, e, inr h, g) k =
      let same : y ≡ b = e ∙ ap (λ z. z ++ b) h.0 in subst (λ x. AfterSetting (x ++ rest)) (sym same) (down_ends f b v rest g k)

  ways_part : Part IsReal (ways s w) (ways s w) AfterKey (read_ways s w)
  unfolding read_ways
  ways_part =
      then_part fold_flag
      (λ f. then_part (descend_flag s) (λ d. weaken_part AfterKey (λ _ _. tt) (give_part (keyed f d))) (λ d y v rest h k. subst (λ x. Stops (is_descend s) (x ++ rest)) (sym h.0) (key_no_descend s rest k)))
      (λ f y v rest h k. down_no_fold f y v rest h k)

key_part : (s : Settings) → Part IsReal (setting_key s) (setting_key s) AfterKey (read_key s)
unfolding read_key
key_part s = do
  _ ← equals_part
  then_part word_part (λ w. ways_part s w) (λ w y v rest h k. setting_no_dot (y ++ rest) (ways_end s w y v rest h k))

order_part : (s : Settings) → Part IsReal (setting_order s) (setting_order s) Always (read_order s)
unfolding read_order
order_part s = do
  _ ← equals_part
  d ← direction_part
  give_part (with_order s d)

setting_limit_part : (s : Settings) → Part IsReal (setting_limit s) (setting_limit s) Always (read_limit s)
unfolding read_limit
setting_limit_part s = do
  _ ← equals_part
  n ← limit_part
  give_part (with_limit s n)

delimiter_part : (s : Settings) → Part IsReal (setting_delimiter s) (setting_delimiter s) Always (read_delimiter s)
unfolding read_delimiter
delimiter_part s = do
  _ ← equals_part
  q ← quoted_part
  give_part (with_delimiter s q)

found_part : (s : Settings) → Part IsReal (setting_found s) (setting_found s) AfterWord (read_found s)
unfolding read_found
found_part s = do
  _ ← equals_part
  then_part word_part (λ w. weaken_part AfterWord (λ _ _. tt) (give_part (with_mode s (Each (Link (Some w)))))) (λ w y v rest h f. subst (λ x. AfterWord (x ++ rest)) (sym h.0) f)

label_part : (s : Settings) → Part IsReal (setting_label s) (setting_label s) Always (read_label s)
unfolding read_label
label_part s = do
  _ ← equals_part
  q ← quoted_part
  give_part (with_mode s (Each (Labelled q)))

abbrev bare_link : Settings → Settings
bare_link s = with_mode s (Each (Link None))

link_part : (s : Settings) → Part IsReal (either (setting_found s) (nothing (bare_link s))) (either (setting_found s) (nothing (bare_link s))) AfterSetting (read_link s)
unfolding read_link
link_part s =
    choose_part is_equals (weaken_part AfterSetting setting_no_dot (found_part s)) (weaken_part AfterSetting (λ _ _. tt) (give_part (bare_link s)))
    (opens_then (one equals_value) _ _ (opens_one equals_value _ (λ i n e. guard (is_equals i) i.loops n e)))
    (λ x v rest h f. subst (λ y. Stops is_equals (y ++ rest)) (sym h.0) (setting_no_equals rest f))

-- what may be before any setting
anywhere : {P V : List Item → Settings → Type 0} {p : List Item → Outcome Item Settings} → Part IsReal P V Always p → Part IsReal P V AfterKey p
anywhere part = weaken_part AfterKey (λ _ _. tt) part

set_part : (s : Settings) (x : Setting) → Part IsReal (set s x) (set s x) AfterKey (read_set s x)
set_part s setting.Key = key_part s
set_part s setting.Order = anywhere (order_part s)
set_part s setting.Delimiter = anywhere (delimiter_part s)
set_part s setting.Limit = anywhere (setting_limit_part s)
set_part s setting.Embed = anywhere (give_part (with_mode s (Each Embed)))
set_part s setting.Link = weaken_part AfterKey key_is_setting (link_part s)
set_part s setting.Label = anywhere (label_part s)
set_part s setting.Count = anywhere (give_part (with_mode s HowMany))
set_part s (setting.Writing w) = anywhere (give_part (with_mode s (Each (Written w))))

close_part : (s : Settings) → Part IsReal (no_more_settings s) (no_more_settings s) Always (read_close s)
unfolding read_close
close_part s = do
  _ ← mark_part marks.Close refl
  give_part s

close_opens : (s : Settings) (W : Item → Type 0) → ((i : Item) → is_mark marks.Close i ≡ true → W i) → Opens (no_more_settings s) W
close_opens s W holds = opens_then (mark marks.Close) (λ _. nothing s) W (mark_opens marks.Close W holds)

abbrev next : ℕ → Settings → List Item → Settings → Type 0
next n s = grammar.◌>>=◌ (one (setting_value s)) (λ x. grammar.◌>>=◌ (set s x) (settings n))

next_opens : (n : ℕ) (s : Settings) (W : Item → Type 0) → ((i : Item) → is_any_setting i ≡ true → W i) → Opens (next n s) W
next_opens n s W holds =
    opens_then (one (setting_value s)) (λ x. grammar.◌>>=◌ (set s x) (settings n)) W
    (opens_one (setting_value s) W (λ i x e. holds i (setting_is_any s i (has_value (setting_value s i) x e))))

settings_open_with : (n : ℕ) (s : Settings) (W : Item → Type 0) → ((i : Item) → is_any_setting i ≡ true → W i) → ((i : Item) → is_mark marks.Close i ≡ true → W i) → Opens (settings n s) W
settings_open_with zero s W holds closes = close_opens s W closes
settings_open_with (suc n) s W holds closes = opens_either (next n s) (no_more_settings s) W (next_opens n s W holds) (close_opens s W closes)

pub settings_open : (n : ℕ) (s : Settings) → Opens (settings n s) (λ i. ends_setting i ≡ true)
settings_open n s =
    settings_open_with n s (λ i. ends_setting i ≡ true) (λ i e. or_left (has_keyword i) (is_mark marks.Close i) (any_is_keyword i e))
    (λ i. or_right (has_keyword i) (is_mark marks.Close i))

keys_open : (n : ℕ) (s : Settings) → Opens (settings n s) (λ i. ends_key i ≡ true)
keys_open n s =
    settings_open_with n s (λ i. ends_key i ≡ true) (λ i. or_left (is_any_setting i) (is_mark marks.Close i))
    (λ i. or_right (is_any_setting i) (is_mark marks.Close i))

pub settings_part : (n : ℕ) (s : Settings) → Part IsReal (settings n s) (settings n s) Always (read_settings n s)
unfolding read_settings read_next
settings_part zero s = close_part s
settings_part (suc n) s =
    known_or (setting_value s) (is_setting s) (λ i x e. has_value (setting_value s i) x e) (λ i e. some_value (setting_value s i) e)
    (λ x. then_opens (λ i. ends_key i ≡ true) (set_part s x) (λ t. settings_part n t) (λ t. keys_open n t) (λ i later e. e))
    (close_part s)
    (λ x v rest h _. first_is (no_more_settings s) (is_setting s) false (close_opens s (λ i. is_setting s i ≡ false) (mark_is_no_setting marks.Close s)) x v rest h)

-- ---- the turns of the program

pub none_left : (turns : ℕ) (s : Settings) (items : List Item) → turns ≡ 0 → read_settings turns s items ≡ read_close s items
unfolding read_settings
none_left zero s items e = refl
none_left (suc n) s items e = absurd (omega (arith, e))

pub some_left : (turns : ℕ) (s : Settings) (items : List Item) → (turns ≡ 0 → ⊥) → read_settings turns s items ≡ reading.choose (is_setting s) (read_next (read_settings (turns - 1)) s) (read_close s) items
unfolding read_settings
some_left zero s items e = absurd (e refl)
some_left (suc n) s items e = rw sub-one refl
