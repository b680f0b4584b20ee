-- The parts of bodies.
use Rattle.std.proofs.Common.{◌≡◌, ℕ, zero, suc, ◌<◌, ◌≤◌, arith, Bool, true, false, List, [], ◌∷◌, ◌++◌, Option, Some, None, refl, sym, subst, inl, inr}
use Rattle.std.specs.Prelude.{◌||◌, nat_eq, codes}
use Rattle.grammar.specs.Fault.{Every}
use Rattle.grammar.specs.Grammar.{nothing, one, either, many}
use Rattle.grammar.specs.Grammar as grammar
use Rattle.grammar.specs.Reading.{Outcome, give}
use Rattle.grammar.specs.Reading as reading
use Rattle.grammar.proofs.Laws.{Always, Stops}
use Rattle.grammar.proofs.Parts.{Part, Opens, ◌>>=◌, give_part, one_part, then_part, then_opens, weaken_part, part_within, either_part, many_part, bar_part, opens_one, opens_then, opens_either, first_is}
use Rattle.template_items.specs.declared.item.Item.{Item}
use Rattle.template_items.specs.declared.item.Mark.{Mark}
use Rattle.template_items.specs.declared.item.Mark.TheVariants as marks
use Rattle.tmpl.specs.Body.{Body, done, text, choice, repeat}
use Rattle.tmpl.specs.declared.Test.{Test}
use Rattle.tmpl.specs.declared.Test.TheVariants.{Any, Compares, Counts, Same}
use Rattle.tmpl.specs.declared.Cmp.TheVariants.{Eq}
use Rattle.tmpl.specs.declared.Cmp.{Cmp}
use Rattle.tmpl.specs.declared.Expr.{Expr}
use Rattle.template_tags.specs.declared.words.Bound.{Bound}
use Rattle.template_tags.specs.Terminals.{keyword_of, compare_word, keyword_at, number, is_mark, is_text, text_value, is_compare, compare_value, is_same, same_value, is_count, count_value, is_not, not_value, has_keyword, order_of, shown, no_settings, loop_settings, IsReal}
use Rattle.template_tags.specs.Tag.{mark, expr, any_expr, settings}
use Rattle.template_reader.specs.Template.{text_part, format_part, same, of_values, of_count, leaf, chain, compared, not_compared, comparison, other_branch, no_other, branches, tested, negated_test, choice_rest, repeat_rest, block, body_of, body}
use Rattle.template_reader.specs.Reading.{read_text, read_format, read_leaf, read_compared, read_not_compared, read_comparing, read_same, read_no_comparison, read_comparison, read_of_values, read_of_count, read_test, read_other_branch, read_no_other, read_ending, read_branches, read_tested, read_negated, read_choice_rest, read_repeated, read_repeat_rest, read_choice, read_repeat, read_block, is_block, is_part, read_part, read_body_of, read_body, read_block_at}
use Rattle.template_tags.proofs.Known.{known_or}
use Rattle.template_tags.proofs.ItemFacts.{named, guard, has_value, some_value, mark_part, text_item_part, constant_part, int_part, not_part, in_part, same_part, count_part, variable_part, mark_opens, text_opens, other_mark, mark_no_text, text_no_mark, compare_is_keyword, same_is_keyword, same_is_no_compare, mark_is_no_same, mark_is_no_compare, no_keyword_no_not, no_keyword_no_count, count_is_no_not}
use Rattle.template_tags.proofs.WordParts.{expr_part, expr_is_no_keyword}
use Rattle.template_tags.proofs.SettingParts.{ends_setting, setting_no_dot, or_left, or_right, or_either, settings_open, settings_part}

-- ---- leaves

text_part_part : Part IsReal text_part text_part Always read_text
unfolding read_text
text_part_part = do
  t ← text_item_part
  give_part (text t done)

format_part_part : (scope : List Bound) → Part IsReal (format_part expr scope) (format_part any_expr scope) Always (read_format scope)
unfolding read_format
format_part_part scope = do
  _ ← mark_part marks.OpenFormat refl
  then_opens (λ i. ends_setting i ≡ true) (expr_part scope)
      (λ e. do
        s ← settings_part 8 no_settings
        give_part (shown e s))
      (λ e. opens_then (settings 8 no_settings) _ _ (settings_open 8 no_settings))
      (λ i later e. setting_no_dot (i ∷ later) e)

text_part_opens : (W : Item → Type 0) → ((i : Item) → is_text i ≡ true → W i) → Opens text_part W
text_part_opens W holds = opens_then (one text_value) (λ t. nothing (text t done)) W (λ x v h. let o = text_opens x v h in (o.0, o.1, o.2, holds o.0 o.3))

format_opens : (scope : List Bound) (W : Item → Type 0) → ((i : Item) → is_mark marks.OpenFormat i ≡ true → W i) → Opens (format_part any_expr scope) W
format_opens scope W holds = opens_then (mark marks.OpenFormat) _ W (mark_opens marks.OpenFormat W holds)

leaf_part : (scope : List Bound) → Part IsReal (leaf expr scope) (leaf any_expr scope) Always (read_leaf scope)
unfolding read_leaf
leaf_part scope = either_part is_text text_part_part (format_part_part scope) (text_part_opens _ (λ i e. e)) (format_opens scope _ (mark_no_text marks.OpenFormat))

-- ---- comparisons

compared_part : (c : Cmp) → Part IsReal (compared c) (compared c) Always (read_compared c)
unfolding read_compared
compared_part c = do
  k ← constant_part
  _ ← mark_part marks.Close refl
  give_part (Compares (record { compare = c; constant = k }))

not_compared_part : Part IsReal not_compared not_compared Always read_not_compared
unfolding read_not_compared
not_compared_part = do
  _ ← mark_part marks.Close refl
  give_part Any

not_compared_opens : (W : Item → Type 0) → ((i : Item) → is_mark marks.Close i ≡ true → W i) → Opens not_compared W
not_compared_opens W holds = opens_then (mark marks.Close) (λ _. nothing Any) W (mark_opens marks.Close W holds)

-- the end of a tag may stand behind an expression
close_ends : (i : Item) → is_mark marks.Close i ≡ true → ends_setting i ≡ true
close_ends i = or_right (has_keyword i) (is_mark marks.Close i)

keyword_ends : (i : Item) → has_keyword i ≡ true → ends_setting i ≡ true
keyword_ends i = or_left (has_keyword i) (is_mark marks.Close i)

same_values_part : (scope : List Bound) → Part IsReal (same expr scope) (same any_expr scope) Always (read_same scope)
unfolding read_same
same_values_part scope = do
  _ ← same_part
  then_opens (λ i. ends_setting i ≡ true) (expr_part scope)
      (λ e. do
        _ ← mark_part marks.Close refl
        give_part (Same e))
      (λ e. opens_then (mark marks.Close) _ _ (mark_opens marks.Close _ close_ends))
      (λ i later e. setting_no_dot (i ∷ later) e)

same_opens : (scope : List Bound) (W : Item → Type 0) → ((i : Item) → is_same i ≡ true → W i) → Opens (same any_expr scope) W
same_opens scope W holds = opens_then (one same_value) _ W (opens_one same_value W (λ i n e. holds i (guard (is_same i) i.loops n e)))

no_comparison_part : (scope : List Bound) → Part IsReal (either (same expr scope) not_compared) (either (same any_expr scope) not_compared) Always (read_no_comparison scope)
unfolding read_no_comparison
no_comparison_part scope =
    either_part is_same (same_values_part scope) not_compared_part (same_opens scope _ (λ i e. e)) (not_compared_opens _ (mark_is_no_same marks.Close))

no_comparison_opens : (scope : List Bound) (W : Item → Type 0) → ((i : Item) → is_same i ≡ true → W i) → ((i : Item) → is_mark marks.Close i ≡ true → W i) → Opens (either (same any_expr scope) not_compared) W
no_comparison_opens scope W first last =
    opens_either (same any_expr scope) not_compared W (same_opens scope W first) (not_compared_opens W last)

comparison_part : (scope : List Bound) → Part IsReal (comparison expr scope) (comparison any_expr scope) Always (read_comparison scope)
unfolding read_comparison read_comparing
comparison_part scope =
    known_or compare_value is_compare (λ i c e. has_value (compare_value i) c e) (λ i e. some_value (compare_value i) e) compared_part (no_comparison_part scope)
    (λ x v rest h _. first_is (either (same any_expr scope) not_compared) is_compare false (no_comparison_opens scope (λ i. is_compare i ≡ false) same_is_no_compare (mark_is_no_compare marks.Close)) x v rest h)

compare_opens : (W : Item → Type 0) → ((i : Item) → is_compare i ≡ true → W i) → Opens (one compare_value) W
compare_opens W holds = opens_one compare_value W (λ i c e. holds i (has_value (compare_value i) c e))

comparison_opens : (scope : List Bound) → Opens (comparison any_expr scope) (λ i. ends_setting i ≡ true)
comparison_opens scope =
    opens_either (grammar.◌>>=◌ (one compare_value) compared) (either (same any_expr scope) not_compared) (λ i. ends_setting i ≡ true)
    (opens_then (one compare_value) compared (λ i. ends_setting i ≡ true) (compare_opens (λ i. ends_setting i ≡ true) (λ i e. keyword_ends i (compare_is_keyword i e))))
    (no_comparison_opens scope (λ i. ends_setting i ≡ true) (λ i e. keyword_ends i (same_is_keyword i e)) close_ends)

-- ---- tests

of_values_part : (scope : List Bound) → Part IsReal (of_values expr scope) (of_values any_expr scope) Always (read_of_values scope)
unfolding read_of_values
of_values_part scope =
    then_opens (λ i. ends_setting i ≡ true) (expr_part scope)
    (λ e. do
      t ← comparison_part scope
      give_part (e, t))
    (λ e. opens_then (comparison any_expr scope) _ _ (comparison_opens scope))
    (λ i later e. setting_no_dot (i ∷ later) e)

compare_part : Part IsReal (one compare_value) (one compare_value) Always (reading.take_one true compare_value)
unfolding keyword_of compare_word
compare_part = one_part compare_value (named (codes "EQ")) Eq refl (codes "EQ", (refl, (refl, (refl, tt))))

of_count_part : (scope : List Bound) → Part IsReal (of_count expr scope) (of_count any_expr scope) Always (read_of_count scope)
unfolding read_of_count
of_count_part scope = do
  _ ← count_part
  then_opens (λ i. ends_setting i ≡ true) (expr_part scope)
      (λ e. do
        c ← compare_part
        n ← int_part
        _ ← mark_part marks.Close refl
        give_part (e, Counts (record { compare = c; constant = n })))
      (λ e. opens_then (one compare_value) _ _ (compare_opens _ (λ i is. keyword_ends i (compare_is_keyword i is))))
      (λ i later e. setting_no_dot (i ∷ later) e)

of_count_opens : (scope : List Bound) (W : Item → Type 0) → ((i : Item) → is_count i ≡ true → W i) → Opens (of_count any_expr scope) W
of_count_opens scope W holds = opens_then (one count_value) _ W (opens_one count_value W (λ i n e. holds i (guard (is_count i) i.loops n e)))

of_values_opens : (scope : List Bound) (W : Item → Type 0) → ((i : Item) → keyword_at i ≡ None → W i) → Opens (of_values any_expr scope) W
of_values_opens scope W holds = opens_then (any_expr scope) _ W (expr_is_no_keyword scope W holds)

test_part : (scope : List Bound) → Part IsReal (either (of_count expr scope) (of_values expr scope)) (either (of_count any_expr scope) (of_values any_expr scope)) Always (read_test scope)
unfolding read_test
test_part scope = either_part is_count (of_count_part scope) (of_values_part scope) (of_count_opens scope _ (λ i e. e)) (of_values_opens scope _ no_keyword_no_count)

test_is_no_not : (scope : List Bound) → Opens (either (of_count any_expr scope) (of_values any_expr scope)) (λ i. is_not i ≡ false)
test_is_no_not scope = opens_either (of_count any_expr scope) (of_values any_expr scope) _ (of_count_opens scope _ count_is_no_not) (of_values_opens scope _ no_keyword_no_not)

-- ---- tags that hold bodies

-- no part follows
abbrev pub AfterBody : List Item → Type 0
AfterBody = Stops is_part

pub ends_body : (m : Mark) → nat_eq (number m) 1 ≡ false → nat_eq (number m) 2 ≡ false → nat_eq (number m) 3 ≡ false → (i : Item) → is_mark m i ≡ true → is_part i ≡ false
ends_body m a b c i e = rw (other_mark m marks.OpenChoice b i e, other_mark m marks.OpenRepeat c i e, other_mark m marks.OpenFormat a i e, mark_no_text m i e) refl

no_other_part : Part IsReal no_other no_other Always read_no_other
unfolding read_no_other
no_other_part = do
  _ ← mark_part marks.EndChoice refl
  give_part done

no_other_opens : (W : Item → Type 0) → ((i : Item) → is_mark marks.EndChoice i ≡ true → W i) → Opens no_other W
no_other_opens W holds = opens_then (mark marks.EndChoice) (λ _. nothing done) W (mark_opens marks.EndChoice W holds)

other_branch_opens : (V : List Item → Body → Type 0) (W : Item → Type 0) → ((i : Item) → is_mark marks.Otherwise i ≡ true → W i) → Opens (other_branch V) W
other_branch_opens V W holds = opens_then (mark marks.Otherwise) _ W (mark_opens marks.Otherwise W holds)

module _ {I V : List Item → Body → Type 0} {read : List Item → Outcome Item Body} (inner : Part IsReal I V AfterBody read) where
  other_branch_part : Part IsReal (other_branch I) (other_branch V) Always (read_other_branch read)
  unfolding read_other_branch
  other_branch_part = do
    _ ← mark_part marks.Otherwise refl
    then_opens (λ i. is_mark marks.EndChoice i ≡ true) inner
        (λ b. do
          _ ← mark_part marks.EndChoice refl
          give_part b)
        (λ b. opens_then (mark marks.EndChoice) _ _ (mark_opens marks.EndChoice _ (λ i e. e)))
        (λ i later e. ends_body marks.EndChoice refl refl refl i e)

  ending_part : Part IsReal (either (other_branch I) no_other) (either (other_branch V) no_other) Always (read_ending read)
  unfolding read_ending
  ending_part =
      either_part (is_mark marks.Otherwise) other_branch_part no_other_part (other_branch_opens V _ (λ i e. e))
      (no_other_opens _ (other_mark marks.EndChoice marks.Otherwise refl))

  branches_part : (negated : Bool) (t : Expr × Test) → Part IsReal (branches I negated t) (branches V negated t) Always (read_branches read negated t)
  unfolding read_branches
  branches_part negated t =
      then_opens (λ i. is_part i ≡ false) inner
      (λ taken. do
        other ← ending_part
        give_part (choice negated t.0 t.1 taken other done))
      (λ taken. opens_then (either (other_branch V) no_other) _ _
      (opens_either (other_branch V) no_other _ (other_branch_opens V _ (ends_body marks.Otherwise refl refl refl)) (no_other_opens _ (ends_body marks.EndChoice refl refl refl))))
      (λ i later e. e)

module _ {I V : List Bound → List Item → Body → Type 0} {read : List Bound → List Item → Outcome Item Body} (inner : (scope : List Bound) → Part IsReal (I scope) (V scope) AfterBody (read scope)) where
  tested_part : (scope : List Bound) (negated : Bool) → Part IsReal (tested expr I scope negated) (tested any_expr V scope negated) Always (read_tested read scope negated)
  unfolding read_tested
  tested_part scope negated = do
    t ← test_part scope
    branches_part (inner scope) negated t

  negated_part : (scope : List Bound) → Part IsReal (negated_test expr I scope) (negated_test any_expr V scope) Always (read_negated read scope)
  unfolding read_negated
  negated_part scope = do
    _ ← not_part
    tested_part scope true

  choice_rest_part : (scope : List Bound) → Part IsReal (choice_rest expr I scope) (choice_rest any_expr V scope) Always (read_choice_rest read scope)
  unfolding read_choice_rest
  choice_rest_part scope =
      either_part is_not (negated_part scope) (tested_part scope false)
      (opens_then (one not_value) _ _ (opens_one not_value _ (λ i n e. guard (is_not i) i.loops n e)))
      (opens_then (either (of_count any_expr scope) (of_values any_expr scope)) _ _ (test_is_no_not scope))

  repeat_rest_part : (scope : List Bound) (n : ℕ) → Part IsReal (repeat_rest expr I scope n) (repeat_rest any_expr V scope n) Always (read_repeat_rest read scope n)
  unfolding read_repeat_rest read_repeated
  repeat_rest_part scope n = do
    name ← variable_part
    _ ← in_part
    then_opens (λ i. ends_setting i ≡ true) (expr_part scope)
        (λ e. do
          s ← settings_part 6 loop_settings
          then_opens (λ i. is_mark marks.EndRepeat i ≡ true) (inner (scope ++ record { name = name; number = n } ∷ []))
              (λ b. do
                _ ← mark_part marks.EndRepeat refl
                give_part (repeat n e (order_of s) b done))
              (λ b. opens_then (mark marks.EndRepeat) _ _ (mark_opens marks.EndRepeat _ (λ i e. e)))
              (λ i later e. ends_body marks.EndRepeat refl refl refl i e))
        (λ e. opens_then (settings 6 loop_settings) _ _ (settings_open 6 loop_settings))
        (λ i later e. setting_no_dot (i ∷ later) e)

  choice_part : (scope : List Bound) → Part IsReal (grammar.◌>>=◌ (mark marks.OpenChoice) (λ _. choice_rest expr I scope)) (grammar.◌>>=◌ (mark marks.OpenChoice) (λ _. choice_rest any_expr V scope)) Always (read_choice read scope)
  unfolding read_choice
  choice_part scope = do
    _ ← mark_part marks.OpenChoice refl
    choice_rest_part scope

  repeat_part : (scope : List Bound) → Part IsReal (grammar.◌>>=◌ (mark marks.OpenRepeat) (repeat_rest expr I scope)) (grammar.◌>>=◌ (mark marks.OpenRepeat) (repeat_rest any_expr V scope)) Always (read_repeat read scope)
  unfolding read_repeat
  repeat_part scope = do
    n ← mark_part marks.OpenRepeat refl
    repeat_rest_part scope n

  block_part : (scope : List Bound) → Part IsReal (block expr I scope) (block any_expr V scope) Always (read_block read scope)
  unfolding read_block
  block_part scope =
      either_part (is_mark marks.OpenChoice) (choice_part scope) (repeat_part scope)
      (opens_then (mark marks.OpenChoice) _ _ (mark_opens marks.OpenChoice _ (λ i e. e)))
      (opens_then (mark marks.OpenRepeat) _ _ (mark_opens marks.OpenRepeat _ (other_mark marks.OpenRepeat marks.OpenChoice refl)))

-- ---- what parts open with

block_opens : (V : List Bound → List Item → Body → Type 0) (scope : List Bound) → Opens (block any_expr V scope) (λ i. is_block i ≡ true)
block_opens V scope =
    opens_either (grammar.◌>>=◌ (mark marks.OpenChoice) (λ _. choice_rest any_expr V scope)) (grammar.◌>>=◌ (mark marks.OpenRepeat) (repeat_rest any_expr V scope)) _
    (opens_then (mark marks.OpenChoice) _ _ (mark_opens marks.OpenChoice _ (λ i. or_left (is_mark marks.OpenChoice i) (is_mark marks.OpenRepeat i))))
    (opens_then (mark marks.OpenRepeat) _ _ (mark_opens marks.OpenRepeat _ (λ i. or_right (is_mark marks.OpenChoice i) (is_mark marks.OpenRepeat i))))

text_no_block : (i : Item) → is_text i ≡ true → is_block i ≡ false
text_no_block i e = rw (text_no_mark marks.OpenChoice i e, text_no_mark marks.OpenRepeat i e) refl

format_no_block : (i : Item) → is_mark marks.OpenFormat i ≡ true → is_block i ≡ false
format_no_block i e = rw (other_mark marks.OpenFormat marks.OpenChoice refl i e, other_mark marks.OpenFormat marks.OpenRepeat refl i e) refl

leaf_no_block : (scope : List Bound) → Opens (leaf any_expr scope) (λ i. is_block i ≡ false)
leaf_no_block scope = opens_either text_part (format_part any_expr scope) _ (text_part_opens _ text_no_block) (format_opens scope _ format_no_block)

leaf_opens : (scope : List Bound) → Opens (leaf any_expr scope) (λ i. is_part i ≡ true)
leaf_opens scope =
    opens_either text_part (format_part any_expr scope) _
    (text_part_opens _ (λ i e. or_right (is_block i) (is_text i || is_mark marks.OpenFormat i) (or_left (is_text i) (is_mark marks.OpenFormat i) e)))
    (format_opens scope _ (λ i e. or_right (is_block i) (is_text i || is_mark marks.OpenFormat i) (or_right (is_text i) (is_mark marks.OpenFormat i) e)))

-- ---- more spell more

module _ (I J : List Bound → List Item → Body → Type 0) (more : (s : List Bound) (x : List Item) (v : Body) → I s x v → J s x v) where
  ending_map : (s : List Bound) (x : List Item) (v : Body) → either (other_branch (I s)) no_other x v → either (other_branch (J s)) no_other x v
  ending_map s x v (inl h) = let k = h.5 in inl (h.0, h.1, h.2, h.3, h.4, (k.0, k.1, k.2, k.3, more s k.0 k.2 k.4, k.5))
  ending_map s x v (inr h) = inr h

  branches_map : (s : List Bound) (n : Bool) (t : Expr × Test) (x : List Item) (v : Body) → branches (I s) n t x v → branches (J s) n t x v
  branches_map s n t x v h = let k = h.5 in (h.0, h.1, h.2, h.3, more s h.0 h.2 h.4, (k.0, k.1, k.2, k.3, ending_map s k.0 k.2 k.4, k.5))

  tested_map : (s : List Bound) (n : Bool) (x : List Item) (v : Body) → tested any_expr I s n x v → tested any_expr J s n x v
  tested_map s n x v h = (h.0, h.1, h.2, h.3, h.4, branches_map s n h.2 h.1 v h.5)

  choice_rest_map : (s : List Bound) (x : List Item) (v : Body) → choice_rest any_expr I s x v → choice_rest any_expr J s x v
  choice_rest_map s x v (inl h) = inl (h.0, h.1, h.2, h.3, h.4, tested_map s true h.1 v h.5)
  choice_rest_map s x v (inr h) = inr (tested_map s false x v h)

  repeat_rest_map : (s : List Bound) (n : ℕ) (x : List Item) (v : Body) → repeat_rest any_expr I s n x v → repeat_rest any_expr J s n x v
  repeat_rest_map s n x v h =
      let h1 = h.5 in let h2 = h1.5 in let h3 = h2.5 in let h4 = h3.5 in (
        h.0,
        h.1,
        h.2,
        h.3,
        h.4,
        (
          h1.0,
          h1.1,
          h1.2,
          h1.3,
          h1.4,
          (
            h2.0,
            h2.1,
            h2.2,
            h2.3,
            h2.4,
            (
              h3.0,
              h3.1,
              h3.2,
              h3.3,
              h3.4,
              (h4.0, h4.1, h4.2, h4.3, more (s ++ record { name = h.2; number = n } ∷ []) h4.0 h4.2 h4.4, h4.5),
            ),
          ),
        ),
      )

  block_map : (s : List Bound) (x : List Item) (v : Body) → block any_expr I s x v → block any_expr J s x v
  block_map s x v (inl h) = inl (h.0, h.1, h.2, h.3, h.4, choice_rest_map s h.1 v h.5)
  block_map s x v (inr h) = inr (h.0, h.1, h.2, h.3, h.4, repeat_rest_map s h.2 h.1 v h.5)

pub many_map : {A : Type 0} (P Q : List Item → A → Type 0) → ((x : List Item) (v : A) → P x v → Q x v) → (x : List Item) (vs : List A) → many P x vs → many Q x vs
many_map P Q more x [] h = h
many_map P Q more x (v ∷ vs) h = (h.0, h.1, h.2, more h.0 v h.3, many_map P Q more h.1 vs h.4)

body_of_map : (P Q : List Item → Body → Type 0) → ((x : List Item) (v : Body) → P x v → Q x v) → (x : List Item) (v : Body) → body_of P x v → body_of Q x v
body_of_map P Q more x v h = (h.0, h.1, h.2, h.3, many_map P Q more h.0 h.2 h.4, h.5)

either_map : (P Q R : List Item → Body → Type 0) → ((x : List Item) (v : Body) → P x v → Q x v) → (x : List Item) (v : Body) → either P R x v → either Q R x v
either_map P Q R more x v (inl h) = inl (more x v h)
either_map P Q R more x v (inr h) = inr h

pub body_grows : (d e : ℕ) (s : List Bound) (x : List Item) (v : Body) → d ≤ e → body any_expr d s x v → body any_expr e s x v
body_grows zero zero s x v le h = h
body_grows zero (suc e) s x v le h = body_of_map (leaf any_expr s) (either (block any_expr (body any_expr e) s) (leaf any_expr s)) (λ x v k. inr k) x v h
body_grows (suc d) zero s x v le h = absurd (omega arith)
body_grows (suc d) (suc e) s x v le h =
    body_of_map (either (block any_expr (body any_expr d) s) (leaf any_expr s)) (either (block any_expr (body any_expr e) s) (leaf any_expr s))
    (either_map (block any_expr (body any_expr d) s) (block any_expr (body any_expr e) s) (leaf any_expr s) (block_map (body any_expr d) (body any_expr e) (λ t y w k. body_grows d e t y w (omega arith) k) s)) x v h

nothing_in : (e : ℕ) (s : List Bound) (x : List Item) (v : Body) → nothing done x v → body any_expr e s x v
nothing_in zero s x v h = ([], [], [], h.0, refl, (refl, h.1))
nothing_in (suc e) s x v h = ([], [], [], h.0, refl, (refl, h.1))

-- ---- blocks where no more may be open

no_body : (scope : List Bound) → Part IsReal (nothing done) (nothing done) AfterBody (give done)
no_body scope = weaken_part AfterBody (λ _ _. tt) (give_part done)

block_opened : (e : ℕ) (scope : List Bound) (i : Item) → is_block i ≡ true → (x : List Item) × (v : Body) × block any_expr (body any_expr e) scope (i ∷ x) v × Every IsReal x
block_opened e scope i is = or_either (is_mark marks.OpenChoice i) (is_mark marks.OpenRepeat i) is choice_opened repeat_opened
  where
    choice_opened : is_mark marks.OpenChoice i ≡ true → (x : List Item) × (v : Body) × block any_expr (body any_expr e) scope (i ∷ x) v × Every IsReal x
    choice_opened here =
        let part = choice_rest_part {I = λ _. nothing done} {V = λ _. nothing done} {read = λ _. give done} no_body scope in
        let p = part.phrase in
        let inside = choice_rest_map (λ _. nothing done) (body any_expr e) (nothing_in e) scope p.0 p.1 (part_within part p.0 p.1 p.2) in
        (p.0, p.1, inl (i ∷ [], p.0, i.loops, refl, (i, refl, rw here refl), inside), p.3)

    repeat_opened : is_mark marks.OpenRepeat i ≡ true → (x : List Item) × (v : Body) × block any_expr (body any_expr e) scope (i ∷ x) v × Every IsReal x
    repeat_opened here =
        let part = repeat_rest_part {I = λ _. nothing done} {V = λ _. nothing done} {read = λ _. give done} no_body scope i.loops in
        let p = part.phrase in
        let inside = repeat_rest_map (λ _. nothing done) (body any_expr e) (nothing_in e) scope i.loops p.0 p.1 (part_within part p.0 p.1 p.2) in
        (p.0, p.1, inr (i ∷ [], p.0, i.loops, refl, (i, refl, rw here refl), inside), p.3)

-- ---- bodies at a depth

-- a part of a body
abbrev pub part_of : (List Bound → List Item → Expr → Type 0) → ℕ → List Bound → List Item → Body → Type 0
part_of E zero scope = leaf E scope
part_of E (suc depth) scope = either (block E (body E depth) scope) (leaf E scope)

pub part_opens : (e : ℕ) (scope : List Bound) → Opens (part_of any_expr e scope) (λ i. is_part i ≡ true)
part_opens zero scope = leaf_opens scope
part_opens (suc e) scope =
    opens_either (block any_expr (body any_expr e) scope) (leaf any_expr scope) _
    (λ x v h. let o = block_opens (body any_expr e) scope x v h in (o.0, o.1, o.2, or_left (is_block o.0) (is_text o.0 || is_mark marks.OpenFormat o.0) o.3))
    (leaf_opens scope)

body_of_part : {P U : List Item → Body → Type 0} {read : List Item → Outcome Item Body} → Part IsReal P U Always read → Opens U (λ i. is_part i ≡ true) → Part IsReal (body_of P) (body_of U) AfterBody (read_body_of read)
unfolding read_body_of
body_of_part part opens =
    then_part (many_part is_part part opens)
    (λ ps. weaken_part AfterBody (λ _ _. tt) (give_part (chain ps)))
    (λ ps y w rest h f. subst (λ x. AfterBody (x ++ rest)) (sym h.0) f)

pub body_part : (d e : ℕ) → d < e → (scope : List Bound) → Part IsReal (body expr d scope) (body any_expr e scope) AfterBody (read_body d scope)
unfolding read_body read_part
body_part zero zero less scope = absurd (omega arith)
body_part (suc d) zero less scope = absurd (omega arith)
body_part zero (suc e) less scope =
    body_of_part (bar_part is_block (block any_expr (body any_expr e) scope) (leaf_part scope) (block_opens (body any_expr e) scope) (leaf_no_block scope) (block_opened e scope)) (part_opens (suc e) scope)
body_part (suc d) (suc e) less scope =
    body_of_part (either_part is_block (block_part (λ s. body_part d e (omega arith) s) scope) (leaf_part scope) (block_opens (body any_expr e) scope) (leaf_no_block scope)) (part_opens (suc e) scope)

pub part_part : (d e : ℕ) → d < e → (scope : List Bound) → Part IsReal (part_of expr d scope) (part_of any_expr e scope) Always (read_part (read_block_at d) scope)
unfolding read_part read_block_at
part_part zero zero less scope = absurd (omega arith)
part_part (suc d) zero less scope = absurd (omega arith)
part_part zero (suc e) less scope = bar_part is_block (block any_expr (body any_expr e) scope) (leaf_part scope) (block_opens (body any_expr e) scope) (leaf_no_block scope) (block_opened e scope)
part_part (suc d) (suc e) less scope = either_part is_block (block_part (λ s. body_part d e (omega arith) s) scope) (leaf_part scope) (block_opens (body any_expr e) scope) (leaf_no_block scope)
