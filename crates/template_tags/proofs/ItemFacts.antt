-- Which items a part may begin with, and the parts of single items.
use Rattle.std.proofs.Common.{◌≡◌, ℕ, Bool, true, false, cond, List, [], ◌∷◌, Option, Some, None, refl, ap, ◌∙◌, inl}
use Rattle.std.specs.Prelude.{nat_eq, not, ◌&&◌, codes, pos}
use Rattle.std.specs.Option.{is_some, is_none}
use Rattle.std.proofs.lemmas.Bool.{eqb-true}
use Rattle.sd_lex.specs.declared.token.TokenKind.{TokenKind}
use Rattle.sd_lex.specs.declared.token.TokenKind.TheVariants as tokens
use Rattle.sd_lex.specs.declared.token.Sign.TheVariants as signs
use Rattle.sd_lex.specs.Lexing.{spells_nothing}
use Rattle.template_items.specs.declared.item.Mark.{Mark}
use Rattle.template_items.specs.declared.item.Mark.TheVariants as marks
use Rattle.template_items.specs.declared.item.ItemKind.{ItemKind}
use Rattle.template_items.specs.declared.item.ItemKind.TheVariants as kinds
use Rattle.template_items.specs.declared.item.Item.{Item}
use Rattle.grammar.specs.Grammar.{one}
use Rattle.grammar.specs.Reading.{take_one}
use Rattle.grammar.proofs.Laws.{Always}
use Rattle.grammar.proofs.Parts.{Part, Opens, one_part, opens_one}
use Rattle.sd_value.specs.declared.Datum.TheVariants as datum
use Rattle.sd_value.specs.declared.Value.TheVariants.{Data}
use Rattle.template_tags.specs.declared.words.Bound.{Bound}
use Rattle.template_tags.specs.declared.words.Keyword.{Keyword}
use Rattle.template_tags.specs.declared.words.Keyword.TheVariants as words
use Rattle.template_tags.specs.declared.settings.Setting.{Setting}
use Rattle.template_tags.specs.declared.settings.Settings.{Settings}
use Rattle.template_tags.specs.Terminals.{keyword_of, compare_word, setting_word, mode_word, writing_word, is_later_word, number, is_mark_kind, is_mark, mark_value, text_value, is_text, is_text_kind, token_of, name_of, name_value, quoted_value, label_value, joined_value, is_sign_of, is_dot, dot_value, is_equals, equals_value, constant_value, limit_value, direction_value, word_of, keyword_at, has_keyword, is_not_word, is_not, not_value, in_value, compare_of, is_compare, setting_of, is_setting, if_allowed, is_any_setting, is_fold_word, is_fold, fold_value, is_descend_word, is_descend, is_same_word, is_same, same_value, is_count_word, is_count, count_value, int_value, free_name, unless_keyword, variable_value, number_of, known_value, is_known, is_unknown, IsReal}
use Rattle.template_tags.specs.Tag.{mark}
use Rattle.template_tags.specs.Reading.{read_mark}

-- an item of this kind, at the start of a text
abbrev pub made : ItemKind → Item
made k = record { kind = k; place = 0; apart = false; loops = 0 }

abbrev pub named : List ℕ → Item
named n = made (kinds.Token (tokens.Name n))

abbrev pub marked : Mark → Item
marked m = made (kinds.Mark m)

pub same_number : (m : Mark) → nat_eq (number m) (number m) ≡ true
same_number marks.OpenTemplate = refl
same_number marks.OpenFormat = refl
same_number marks.OpenChoice = refl
same_number marks.OpenRepeat = refl
same_number marks.Close = refl
same_number marks.Otherwise = refl
same_number marks.EndChoice = refl
same_number marks.EndRepeat = refl
same_number marks.EndTemplate = refl
same_number marks.Here = refl
same_number marks.HereOf = refl
same_number marks.Hash = refl
same_number marks.Fault = refl
same_number marks.OpenNote = refl
same_number marks.EndNote = refl
same_number marks.OpenLayout = refl
same_number marks.OpenFragment = refl
same_number marks.OpenInclude = refl
same_number marks.Hole = refl
same_number marks.EndLayout = refl
same_number marks.EndFragment = refl

-- ---- the parts of single items

pub mark_part : (m : Mark) → is_mark_kind marks.Fault (kinds.Mark m) ≡ false → Part IsReal (mark m) (mark m) Always (read_mark m)
unfolding read_mark
mark_part m real = one_part (mark_value m) (marked m) 0 (rw (same_number m) refl) real

pub text_item_part : Part IsReal (one text_value) (one text_value) Always (take_one true text_value)
text_item_part = one_part text_value (made (kinds.Text (0 ∷ []))) (0 ∷ []) refl (λ e. absurd cc)

abbrev v : List ℕ
v = codes "v"

real_v : IsReal (named v)
real_v = (v, (refl, (refl, tt)))

pub name_part : Part IsReal (one name_value) (one name_value) Always (take_one true name_value)
name_part = one_part name_value (named v) v refl real_v

pub quoted_part : Part IsReal (one quoted_value) (one quoted_value) Always (take_one true quoted_value)
quoted_part = one_part quoted_value (made (kinds.Token (tokens.Quoted []))) [] refl (34 ∷ 34 ∷ [], ([], refl, spells_nothing refl refl))

pub label_part : Part IsReal (one label_value) (one label_value) Always (take_one true label_value)
label_part = one_part label_value (named v) v refl real_v

pub joined_part : Part IsReal (one joined_value) (one joined_value) Always (take_one true joined_value)
joined_part = one_part joined_value (named v) v refl real_v

pub dot_part : Part IsReal (one dot_value) (one dot_value) Always (take_one true dot_value)
dot_part = one_part dot_value (made (kinds.Token (tokens.Sign signs.Dot))) 0 refl (codes ".", refl)

pub equals_part : Part IsReal (one equals_value) (one equals_value) Always (take_one true equals_value)
equals_part = one_part equals_value (made (kinds.Token (tokens.Sign signs.Eq))) 0 refl (codes "=", refl)

pub constant_part : Part IsReal (one constant_value) (one constant_value) Always (take_one true constant_value)
constant_part = one_part constant_value (made (kinds.Token (tokens.Int (pos 0)))) (Data (datum.Int (pos 0))) refl (48 ∷ [], (inl (refl, tt), refl))

pub direction_part : Part IsReal (one direction_value) (one direction_value) Always (take_one true direction_value)
direction_part = one_part direction_value (named (codes "ascend")) false refl (codes "ascend", (refl, (refl, (refl, (refl, (refl, (refl, (refl, tt))))))))

pub limit_part : Part IsReal (one limit_value) (one limit_value) Always (take_one true limit_value)
limit_part = one_part limit_value (made (kinds.Token (tokens.Int (pos 1)))) 1 refl (49 ∷ [], (inl (refl, tt), refl))

pub not_part : Part IsReal (one not_value) (one not_value) Always (take_one true not_value)
unfolding keyword_of
not_part = one_part not_value (named (codes "NOT")) 0 refl (codes "NOT", (refl, (refl, (refl, (refl, tt)))))

pub in_part : Part IsReal (one in_value) (one in_value) Always (take_one true in_value)
unfolding keyword_of
in_part = one_part in_value (named (codes "IN")) 0 refl (codes "IN", (refl, (refl, (refl, tt))))

pub same_part : Part IsReal (one same_value) (one same_value) Always (take_one true same_value)
unfolding keyword_of
same_part = one_part same_value (named (codes "SAME")) 0 refl (codes "SAME", (refl, (refl, (refl, (refl, (refl, tt))))))

pub count_part : Part IsReal (one count_value) (one count_value) Always (take_one true count_value)
unfolding keyword_of compare_word setting_word mode_word
count_part = one_part count_value (named (codes "COUNT")) 0 refl (codes "COUNT", (refl, (refl, (refl, (refl, (refl, (refl, tt)))))))

pub fold_part : Part IsReal (one fold_value) (one fold_value) Always (take_one true fold_value)
unfolding keyword_of compare_word setting_word
fold_part = one_part fold_value (named (codes "FOLD")) 0 refl (codes "FOLD", (refl, (refl, (refl, (refl, (refl, tt))))))

pub int_part : Part IsReal (one int_value) (one int_value) Always (take_one true int_value)
int_part = one_part int_value (made (kinds.Token (tokens.Int (pos 0)))) (pos 0) refl (48 ∷ [], (inl (refl, tt), refl))

pub variable_part : Part IsReal (one variable_value) (one variable_value) Always (take_one true variable_value)
unfolding keyword_of compare_word setting_word mode_word writing_word is_later_word
variable_part = one_part variable_value (named v) v refl real_v

-- ---- what an item that has a value is

pub guard : (b : Bool) (p q : ℕ) → cond b (Some p) None ≡ Some q → b ≡ true
guard true p q e = refl
guard false p q e = absurd cc

pub has_value : {A : Type 0} (o : Option A) (v : A) → o ≡ Some v → is_some o ≡ true
has_value o v e = rw e refl

pub some_value : {A : Type 0} (o : Option A) → is_some o ≡ true → (v : A) × (o ≡ Some v)
some_value (Some v) is = (v, refl)
some_value None is = absurd cc

pub mark_opens : (m : Mark) (W : Item → Type 0) → ((i : Item) → is_mark m i ≡ true → W i) → Opens (mark m) W
mark_opens m W holds = opens_one (mark_value m) W (λ i n e. holds i (guard (is_mark m i) i.loops n e))

pub text_opens : Opens (one text_value) (λ i. is_text i ≡ true)
text_opens = opens_one text_value (λ i. is_text i ≡ true) (λ i t e. is i.kind t e)
  where
    is : (k : ItemKind) (t : List ℕ) → text_value (made k) ≡ Some t → is_text_kind k ≡ true
    is (kinds.Mark m) t e = absurd cc
    is (kinds.Text s) t e = refl
    is (kinds.Token s) t e = absurd cc

-- ---- one item is no other

pub other_mark : (m r : Mark) → nat_eq (number m) (number r) ≡ false → (i : Item) → is_mark m i ≡ true → is_mark r i ≡ false
other_mark m r d i = by i.kind
  where
    by : (k : ItemKind) → is_mark_kind m k ≡ true → is_mark_kind r k ≡ false
    by (kinds.Mark n) e = ap (λ x. nat_eq x (number r)) (eqb-true (number n) (number m) e) ∙ d
    by (kinds.Text t) e = absurd cc
    by (kinds.Token k) e = absurd cc

pub mark_no_token : (m : Mark) (i : Item) → is_mark m i ≡ true → token_of i.kind ≡ None
mark_no_token m i = by i.kind
  where
    by : (k : ItemKind) → is_mark_kind m k ≡ true → token_of k ≡ None
    by (kinds.Mark n) e = refl
    by (kinds.Text t) e = absurd cc
    by (kinds.Token k) e = absurd cc

pub mark_no_text : (m : Mark) (i : Item) → is_mark m i ≡ true → is_text i ≡ false
mark_no_text m i = by i.kind
  where
    by : (k : ItemKind) → is_mark_kind m k ≡ true → is_text_kind k ≡ false
    by (kinds.Mark n) e = refl
    by (kinds.Text t) e = absurd cc
    by (kinds.Token k) e = absurd cc

pub text_no_mark : (m : Mark) (i : Item) → is_text i ≡ true → is_mark m i ≡ false
text_no_mark m i = by i.kind
  where
    by : (k : ItemKind) → is_text_kind k ≡ true → is_mark_kind m k ≡ false
    by (kinds.Mark n) e = absurd cc
    by (kinds.Text t) e = refl
    by (kinds.Token k) e = absurd cc

and_false : (a b : Bool) → b ≡ false → (a && b) ≡ false
and_false true b e = e
and_false false b e = refl

pub mark_no_dot : (m : Mark) (i : Item) → is_mark m i ≡ true → is_dot i ≡ false
mark_no_dot m i e = and_false (not i.apart) (is_sign_of signs.Dot (token_of i.kind)) (ap (is_sign_of signs.Dot) (mark_no_token m i e))

pub mark_no_equals : (m : Mark) (i : Item) → is_mark m i ≡ true → is_equals i ≡ false
mark_no_equals m i e = ap (is_sign_of signs.Eq) (mark_no_token m i e)

pub mark_no_keyword : (m : Mark) (i : Item) → is_mark m i ≡ true → keyword_at i ≡ None
mark_no_keyword m i e = ap (λ k. word_of (name_of k)) (mark_no_token m i e)

pub mark_no_variable : (m : Mark) (i : Item) → is_mark m i ≡ true → variable_value i ≡ None
mark_no_variable m i e = ap (λ k. free_name (name_of k)) (mark_no_token m i e)

-- a keyword is a name
keyword_no_sign : (s : _) (k : Option TokenKind) → is_some (word_of (name_of k)) ≡ true → is_sign_of s k ≡ false
keyword_no_sign s None e = refl
keyword_no_sign s (Some (tokens.Name n)) e = refl
keyword_no_sign s (Some (tokens.Quoted n)) e = refl
keyword_no_sign s (Some (tokens.Int n)) e = refl
keyword_no_sign s (Some (tokens.Sign n)) e = absurd cc

pub keyword_no_dot : (i : Item) → has_keyword i ≡ true → is_dot i ≡ false
keyword_no_dot i e = and_false (not i.apart) (is_sign_of signs.Dot (token_of i.kind)) (keyword_no_sign signs.Dot (token_of i.kind) e)

pub keyword_no_equals : (i : Item) → has_keyword i ≡ true → is_equals i ≡ false
keyword_no_equals i e = keyword_no_sign signs.Eq (token_of i.kind) e

-- a variable is no keyword
pub variable_no_keyword : (i : Item) → is_some (variable_value i) ≡ true → keyword_at i ≡ None
variable_no_keyword i = by (name_value i)
  where
    unless : (k : Option Keyword) (n : List ℕ) → is_some (unless_keyword k n) ≡ true → k ≡ None
    unless None n e = refl
    unless (Some k) n e = absurd cc

    by : (o : Option (List ℕ)) → is_some (free_name o) ≡ true → word_of o ≡ None
    by None e = absurd cc
    by (Some n) e = unless (keyword_of n) n e

pub known_is_variable : (scope : List Bound) (i : Item) → is_known scope i ≡ true → is_some (variable_value i) ≡ true
known_is_variable scope i = by (variable_value i)
  where
    by : (o : Option (List ℕ)) → is_some (number_of scope o) ≡ true → is_some o ≡ true
    by None e = absurd cc
    by (Some n) e = refl

and_true : (a b : Bool) → (a && b) ≡ true → (a ≡ true) × (b ≡ true)
and_true true b e = (refl, e)
and_true false b e = absurd cc

pub unknown_is_variable : (scope : List Bound) (i : Item) → is_unknown scope i ≡ true → is_some (variable_value i) ≡ true
unknown_is_variable scope i e = (and_true (is_some (variable_value i)) (is_none (known_value scope i)) e).0

not_false : (b : Bool) → not b ≡ true → b ≡ false
not_false true e = absurd cc
not_false false e = refl

pub known_is_not_unknown : (scope : List Bound) (i : Item) → is_known scope i ≡ true → is_unknown scope i ≡ false
known_is_not_unknown scope i e = and_false (is_some (variable_value i)) (is_none (known_value scope i)) (ap not e)

pub mark_is_not_known : (m : Mark) (scope : List Bound) (i : Item) → is_mark m i ≡ true → is_known scope i ≡ false
mark_is_not_known m scope i e = ap (λ o. is_some (number_of scope o)) (mark_no_variable m i e)

pub mark_is_not_unknown : (m : Mark) (scope : List Bound) (i : Item) → is_mark m i ≡ true → is_unknown scope i ≡ false
mark_is_not_unknown m scope i e = ap (λ o. is_some o && is_none (number_of scope o)) (mark_no_variable m i e)

-- a comparison's or a setting's word is a keyword
pub compare_is_keyword : (i : Item) → is_compare i ≡ true → has_keyword i ≡ true
compare_is_keyword i = by (keyword_at i)
  where
    by : (k : Option Keyword) → is_some (compare_of k) ≡ true → is_some k ≡ true
    by None e = absurd cc
    by (Some k) e = refl

pub setting_is_keyword : (s : Settings) (i : Item) → is_setting s i ≡ true → has_keyword i ≡ true
setting_is_keyword s i = by (keyword_at i)
  where
    by : (k : Option Keyword) → is_some (if_allowed s (setting_of k)) ≡ true → is_some k ≡ true
    by None e = absurd cc
    by (Some k) e = refl

pub mark_is_no_setting : (m : Mark) (s : Settings) (i : Item) → is_mark m i ≡ true → is_setting s i ≡ false
mark_is_no_setting m s i e = ap (λ k. is_some (if_allowed s (setting_of k))) (mark_no_keyword m i e)

pub setting_is_any : (s : Settings) (i : Item) → is_setting s i ≡ true → is_any_setting i ≡ true
setting_is_any s i = by (setting_of (keyword_at i))
  where
    by : (o : Option Setting) → is_some (if_allowed s o) ≡ true → is_some o ≡ true
    by None e = absurd cc
    by (Some x) e = refl

pub any_is_keyword : (i : Item) → is_any_setting i ≡ true → has_keyword i ≡ true
any_is_keyword i = by (keyword_at i)
  where
    by : (k : Option Keyword) → is_some (setting_of k) ≡ true → is_some k ≡ true
    by None e = absurd cc
    by (Some k) e = refl

pub any_is_no_fold : (i : Item) → is_any_setting i ≡ true → is_fold i ≡ false
any_is_no_fold i = by (keyword_at i)
  where
    by : (k : Option Keyword) → is_some (setting_of k) ≡ true → is_fold_word k ≡ false
    by (Some words.Fold) e = absurd cc
    by k e = refl

pub any_is_no_descend : (s : Settings) (i : Item) → is_any_setting i ≡ true → is_descend s i ≡ false
any_is_no_descend s i e = and_false (is_none s.descend) (is_descend_word (keyword_at i)) (by (keyword_at i) e)
  where
    by : (k : Option Keyword) → is_some (setting_of k) ≡ true → is_descend_word k ≡ false
    by (Some words.Descend) e = absurd cc
    by k e = refl

pub fold_is_no_descend : (s : Settings) (i : Item) → is_fold i ≡ true → is_descend s i ≡ false
fold_is_no_descend s i e = and_false (is_none s.descend) (is_descend_word (keyword_at i)) (by (keyword_at i) e)
  where
    by : (k : Option Keyword) → is_fold_word k ≡ true → is_descend_word k ≡ false
    by (Some words.Descend) e = absurd cc
    by k e = refl

pub fold_is_keyword : (i : Item) → is_fold i ≡ true → has_keyword i ≡ true
fold_is_keyword i = by (keyword_at i)
  where
    by : (k : Option Keyword) → is_fold_word k ≡ true → is_some k ≡ true
    by None e = absurd cc
    by (Some k) e = refl

pub descend_is_keyword : (s : Settings) (i : Item) → is_descend s i ≡ true → has_keyword i ≡ true
descend_is_keyword s i e = by (keyword_at i) (and_true (is_none s.descend) (is_descend_word (keyword_at i)) e).1
  where
    by : (k : Option Keyword) → is_descend_word k ≡ true → is_some k ≡ true
    by None e = absurd cc
    by (Some k) e = refl

pub descend_is_no_fold : (s : Settings) (i : Item) → is_descend s i ≡ true → is_fold i ≡ false
descend_is_no_fold s i e = by (keyword_at i) (and_true (is_none s.descend) (is_descend_word (keyword_at i)) e).1
  where
    by : (k : Option Keyword) → is_descend_word k ≡ true → is_fold_word k ≡ false
    by (Some words.Fold) e = absurd cc
    by k e = refl

pub mark_is_no_fold : (m : Mark) (i : Item) → is_mark m i ≡ true → is_fold i ≡ false
mark_is_no_fold m i e = ap is_fold_word (mark_no_keyword m i e)

pub mark_is_no_descend : (m : Mark) (s : Settings) (i : Item) → is_mark m i ≡ true → is_descend s i ≡ false
mark_is_no_descend m s i e =
    and_false (is_none s.descend) (is_descend_word (keyword_at i)) (ap is_descend_word (mark_no_keyword m i e))

pub mark_is_no_same : (m : Mark) (i : Item) → is_mark m i ≡ true → is_same i ≡ false
mark_is_no_same m i e = ap is_same_word (mark_no_keyword m i e)

pub same_is_keyword : (i : Item) → is_same i ≡ true → has_keyword i ≡ true
same_is_keyword i = by (keyword_at i)
  where
    by : (k : Option Keyword) → is_same_word k ≡ true → is_some k ≡ true
    by None e = absurd cc
    by (Some k) e = refl

pub same_is_no_compare : (i : Item) → is_same i ≡ true → is_compare i ≡ false
same_is_no_compare i = by (keyword_at i)
  where
    by : (k : Option Keyword) → is_same_word k ≡ true → is_some (compare_of k) ≡ false
    by (Some words.Same) e = refl
    by k e = absurd cc

pub no_keyword_no_not : (i : Item) → keyword_at i ≡ None → is_not i ≡ false
no_keyword_no_not i e = ap is_not_word e

pub no_keyword_no_count : (i : Item) → keyword_at i ≡ None → is_count i ≡ false
no_keyword_no_count i e = ap is_count_word e

pub count_is_no_not : (i : Item) → is_count i ≡ true → is_not i ≡ false
count_is_no_not i = by (keyword_at i)
  where
    by : (k : Option Keyword) → is_count_word k ≡ true → is_not_word k ≡ false
    by (Some words.Count) e = refl
    by k e = absurd cc

pub mark_is_no_compare : (m : Mark) (i : Item) → is_mark m i ≡ true → is_compare i ≡ false
mark_is_no_compare m i e = ap (λ k. is_some (compare_of k)) (mark_no_keyword m i e)
