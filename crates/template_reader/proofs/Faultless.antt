-- What spells templates has no item that marks a fault.
use Rattle.std.proofs.Common.{◌≡◌, inl, inr, ℕ, zero, suc, Bool, true, false, cond, List, [], ◌∷◌, ◌++◌, Option, Some, None, refl, sym, ap, subst, ◌∙◌}
use Rattle.std.specs.Prelude.{nat_eq, ◌&&◌}
use Rattle.std.specs.Option.{is_none}
use Rattle.std.proofs.lemmas.Bool.{eqb-true}
use Rattle.grammar.specs.Grammar.{nothing, one, either, many}
use Rattle.grammar.specs.Grammar as grammar
use Rattle.grammar.specs.Fault.{Every}
use Rattle.grammar.proofs.Laws.{every_append}
use Rattle.template_items.specs.declared.item.Item.{Item}
use Rattle.template_items.specs.declared.item.ItemKind.{ItemKind}
use Rattle.template_items.specs.declared.item.ItemKind.TheVariants as kinds
use Rattle.template_items.specs.declared.item.Mark.{Mark}
use Rattle.template_items.specs.declared.item.Mark.TheVariants as marks
use Rattle.tmpl.specs.Body.{Body, done, text, choice, repeat}
use Rattle.tmpl.specs.declared.Test.{Test}
use Rattle.tmpl.specs.declared.Test.TheVariants.{Any, Compares, Counts, Same}
use Rattle.tmpl.specs.declared.Cmp.{Cmp}
use Rattle.tmpl.specs.declared.Expr.{Expr}
use Rattle.tmpl.specs.declared.Mode.TheVariants.{Written, Embed, Link, Labelled}
use Rattle.tmpl.specs.declared.WordRoot.TheVariants.{Here, Loop, Collection}
use Rattle.template_tags.specs.declared.words.Bound.{Bound}
use Rattle.template_tags.specs.declared.settings.Setting.{Setting}
use Rattle.template_tags.specs.declared.settings.Setting.TheVariants as setting
use Rattle.template_tags.specs.declared.settings.Settings.{Settings}
use Rattle.template_tags.specs.declared.settings.Showing.TheVariants.{Each, HowMany}
use Rattle.template_tags.specs.Terminals.{number, is_mark_kind, text_value, dot_value, equals_value, name_value, quoted_value, label_value, joined_value, constant_value, direction_value, not_value, in_value, compare_value, same_value, count_value, int_value, fold_value, descend_value, limit_value, setting_value, order_of, shown, no_settings, loop_settings, variable_value, known_value}
use Rattle.template_tags.specs.Tag.{mark, dotted, word, joined_word, from, here, here_of, collection, of_loop, expr, with_mode, with_key, with_order, with_limit, with_delimiter, flag, setting_key, setting_order, setting_limit, setting_delimiter, setting_found, setting_label, set, no_more_settings, settings}
use Rattle.template_reader.specs.Template.{text_part, chain, body_of, compared, not_compared, same, comparison, of_values, of_count, no_other, other_branch, branches, format_part, leaf, tested, negated_test, choice_rest, repeat_rest, block, body, Entry, is_sort, named_value, collection_head, function_head, head_rest, template, within}

-- an item that marks no fault
abbrev pub IsNoFault : Item → Type 0
IsNoFault i = is_mark_kind marks.Fault i.kind ≡ false

-- whatever spells a value has no other items
record Keeps {A : Type 0} (P : List Item → A → Type 0) : Type 0 where
  every : (items : List Item) (v : A) → P items v → Every IsNoFault items

give : {A : Type 0} (value : A) → Keeps (nothing value)
give value = record { every = λ items v h. subst (Every IsNoFault) (sym h.0) tt }

infixl 10 ◌>>=◌
◌>>=◌ : {A B : Type 0} {P : List Item → A → Type 0} {Q : A → List Item → B → Type 0} → Keeps P → ((v : A) → Keeps (Q v)) → Keeps (grammar.◌>>=◌ P Q)
p >>= q = record { every = λ items v h. subst (Every IsNoFault) (sym h.3) (every_append IsNoFault h.0 h.1 (p.every h.0 h.2 h.4) ((q h.2).every h.1 v h.5)) }

or : {A : Type 0} {P Q : List Item → A → Type 0} → Keeps P → Keeps Q → Keeps (either P Q)
or {P = P} {Q = Q} p q = record { every = λ items v h. by items v h }
  where
    by : (items : List Item) (v : _) → either P Q items v → Every IsNoFault items
    by items v (inl h) = p.every items v h
    by items v (inr h) = q.every items v h

all : {A : Type 0} {P : List Item → A → Type 0} → Keeps P → Keeps (many P)
all {A} {P} p = record { every = by }
  where
    by : (items : List Item) (vs : List A) → many P items vs → Every IsNoFault items
    by items [] h = subst (Every IsNoFault) (sym h) tt
    by items (v ∷ vs) h = subst (Every IsNoFault) (sym h.2) (every_append IsNoFault h.0 h.1 (p.every h.0 v h.3) (by h.1 vs h.4))

-- ---- single items

-- an item that is a mark of no fault, or none
no_fault : {X : Type 0} (value : ItemKind → Option X) → ((m : Mark) → value (kinds.Mark m) ≡ None) → (k : ItemKind) (v : X) → value k ≡ Some v → is_mark_kind marks.Fault k ≡ false
no_fault value none (kinds.Mark m) v e = let n = none m in absurd cc
no_fault value none (kinds.Text t) v e = refl
no_fault value none (kinds.Token t) v e = refl

-- a value that no mark has
single : {X : Type 0} (value : Item → Option X) → ((i : Item) (m : Mark) → value (record i { kind = kinds.Mark m }) ≡ None) → Keeps (one value)
single value none = record {
  every = λ items v h. subst (Every IsNoFault) (sym h.1) (no_fault (λ k. value (record h.0 { kind = k })) (none h.0) h.0.kind v h.2, tt);
}

none_both : {X : Type 0} (b : Bool) → ◌≡◌ {A = Option X} (cond b None None) None
none_both true = refl
none_both false = refl

and_false : {X : Type 0} (b : Bool) (x : X) → ◌≡◌ {A = Option X} (cond (b && false) (Some x) None) None
and_false true x = refl
and_false false x = refl

mark_kept : (m r : Mark) (n v : ℕ) → nat_eq (number m) (number marks.Fault) ≡ false → cond (nat_eq (number r) (number m)) (Some n) None ≡ Some v → nat_eq (number r) (number marks.Fault) ≡ false
mark_kept m r n v other e = by (nat_eq (number r) (number m)) refl e
  where
    by : (b : Bool) → nat_eq (number r) (number m) ≡ b → cond b (Some n) None ≡ Some v → nat_eq (number r) (number marks.Fault) ≡ false
    by true is h = ap (λ x. nat_eq x (number marks.Fault)) (eqb-true (number r) (number m) is) ∙ other
    by false is h = absurd cc

of_mark : (m : Mark) (k : ItemKind) (n v : ℕ) → nat_eq (number m) (number marks.Fault) ≡ false → cond (is_mark_kind m k) (Some n) None ≡ Some v → is_mark_kind marks.Fault k ≡ false
of_mark m (kinds.Mark r) n v other e = mark_kept m r n v other e
of_mark m (kinds.Text t) n v other e = refl
of_mark m (kinds.Token t) n v other e = refl

marked : (m : Mark) → nat_eq (number m) (number marks.Fault) ≡ false → Keeps (mark m)
marked m other = record { every = λ items v h. subst (Every IsNoFault) (sym h.1) (of_mark m h.0.kind h.0.loops v other h.2, tt) }

dot : Keeps (one dot_value)
dot = single dot_value (λ i m. by i.apart i.loops)
  where
    by : (b : Bool) (n : ℕ) → ◌≡◌ {A = Option ℕ} (cond (Rattle.std.specs.Prelude.not b && false) (Some n) None) None
    by true n = refl
    by false n = refl

joined_label : Keeps (one joined_value)
joined_label = single joined_value (λ i m. none_both i.apart)

label : Keeps (one label_value)
label = single label_value (λ i m. refl)

equals : Keeps (one equals_value)
equals = single equals_value (λ i m. refl)

name_kept : Keeps (one name_value)
name_kept = single name_value (λ i m. refl)

-- ---- words and expressions

dotted_kept : Keeps dotted
dotted_kept = do
  _ ← dot
  joined_label

word_kept : Keeps word
word_kept = do
  first ← label
  others ← all dotted_kept
  give (first ∷ others)

joined_word_kept : Keeps joined_word
joined_word_kept = do
  first ← joined_label
  others ← all dotted_kept
  give (first ∷ others)

here_kept : Keeps here
here_kept = do
  _ ← marked marks.Here refl
  give (from Here [])

here_of_kept : Keeps here_of
here_of_kept = do
  _ ← marked marks.HereOf refl
  labels ← joined_word_kept
  give (from Here labels)

collection_kept : Keeps collection
collection_kept = do
  _ ← marked marks.Hash refl
  name ← joined_label
  labels ← all dotted_kept
  give (from (Collection name) labels)

of_loop_kept : (n : ℕ) → Keeps (of_loop n)
of_loop_kept n = do
  labels ← all dotted_kept
  give (from (Loop n) labels)

expr_kept : (scope : List Bound) → Keeps (expr scope)
expr_kept scope = or (single (known_value scope) (λ i m. refl) >>= of_loop_kept) (or here_kept (or here_of_kept collection_kept))

-- ---- settings

flag_kept : (value : Item → Option ℕ) → ((i : Item) (m : Mark) → value (record i { kind = kinds.Mark m }) ≡ None) → Keeps (flag value)
flag_kept value none = or (single value none >>= λ _. give true) (give false)

no_descend : (s : Settings) (i : Item) (m : Mark) → descend_value s (record i { kind = kinds.Mark m }) ≡ None
no_descend s i m = and_false (is_none s.descend) i.loops

key_kept : (s : Settings) → Keeps (setting_key s)
key_kept s = do
  _ ← equals
  w ← word_kept
  f ← flag_kept fold_value (λ i m. refl)
  d ← flag_kept (descend_value s) (no_descend s)
  give (with_key s (record { word = w; fold = f; descend = d }))

order_kept : (s : Settings) → Keeps (setting_order s)
order_kept s = do
  _ ← equals
  d ← single direction_value (λ i m. refl)
  give (with_order s d)

limit_kept : (s : Settings) → Keeps (setting_limit s)
limit_kept s = do
  _ ← equals
  n ← single limit_value (λ i m. refl)
  give (with_limit s n)

delimiter_kept : (s : Settings) → Keeps (setting_delimiter s)
delimiter_kept s = do
  _ ← equals
  q ← single quoted_value (λ i m. refl)
  give (with_delimiter s q)

found_kept : (s : Settings) → Keeps (setting_found s)
found_kept s = do
  _ ← equals
  w ← word_kept
  give (with_mode s (Each (Link (Some w))))

label_kept : (s : Settings) → Keeps (setting_label s)
label_kept s = do
  _ ← equals
  q ← single quoted_value (λ i m. refl)
  give (with_mode s (Each (Labelled q)))

set_kept : (s : Settings) (x : Setting) → Keeps (set s x)
set_kept s setting.Key = key_kept s
set_kept s setting.Order = order_kept s
set_kept s setting.Delimiter = delimiter_kept s
set_kept s setting.Limit = limit_kept s
set_kept s setting.Embed = give (with_mode s (Each Embed))
set_kept s setting.Link = or (found_kept s) (give (with_mode s (Each (Link None))))
set_kept s setting.Label = label_kept s
set_kept s setting.Count = give (with_mode s HowMany)
set_kept s (setting.Writing w) = give (with_mode s (Each (Written w)))

close_kept : (s : Settings) → Keeps (no_more_settings s)
close_kept s = do
  _ ← marked marks.Close refl
  give s

settings_kept : (n : ℕ) (s : Settings) → Keeps (settings n s)
settings_kept zero s = close_kept s
settings_kept (suc n) s = or (single (setting_value s) (λ i m. refl) >>= λ x. set_kept s x >>= λ t. settings_kept n t) (close_kept s)

-- ---- bodies

text_kept : Keeps text_part
text_kept = do
  t ← single text_value (λ i m. refl)
  give (text t done)

format_kept : (scope : List Bound) → Keeps (format_part expr scope)
format_kept scope = do
  _ ← marked marks.OpenFormat refl
  e ← expr_kept scope
  s ← settings_kept 8 no_settings
  give (shown e s)

leaf_kept : (scope : List Bound) → Keeps (leaf expr scope)
leaf_kept scope = or text_kept (format_kept scope)

body_of_kept : {P : List Item → Body → Type 0} → Keeps P → Keeps (body_of P)
body_of_kept p = do
  parts ← all p
  give (chain parts)

compared_kept : (c : Cmp) → Keeps (compared c)
compared_kept c = do
  k ← single constant_value (λ i m. refl)
  _ ← marked marks.Close refl
  give (Compares (record { compare = c; constant = k }))

not_compared_kept : Keeps not_compared
not_compared_kept = do
  _ ← marked marks.Close refl
  give Any

same_kept : (scope : List Bound) → Keeps (same expr scope)
same_kept scope = do
  _ ← single same_value (λ i m. refl)
  e ← expr_kept scope
  _ ← marked marks.Close refl
  give (Same e)

comparison_kept : (scope : List Bound) → Keeps (comparison expr scope)
comparison_kept scope =
    or (single compare_value (λ i m. refl) >>= compared_kept) (or (same_kept scope) not_compared_kept)

of_values_kept : (scope : List Bound) → Keeps (of_values expr scope)
of_values_kept scope = do
  e ← expr_kept scope
  t ← comparison_kept scope
  give (e, t)

of_count_kept : (scope : List Bound) → Keeps (of_count expr scope)
of_count_kept scope = do
  _ ← single count_value (λ i m. refl)
  e ← expr_kept scope
  c ← single compare_value (λ i m. refl)
  n ← single int_value (λ i m. refl)
  _ ← marked marks.Close refl
  give (e, Counts (record { compare = c; constant = n }))

no_other_kept : Keeps no_other
no_other_kept = do
  _ ← marked marks.EndChoice refl
  give done

module _ (B : List Item → Body → Type 0) (kept : Keeps B) where
  other_kept : Keeps (other_branch B)
  other_kept = do
    _ ← marked marks.Otherwise refl
    other ← kept
    _ ← marked marks.EndChoice refl
    give other

  branches_kept : (negated : Bool) (t : Expr × Test) → Keeps (branches B negated t)
  branches_kept negated t = do
    taken ← kept
    other ← or other_kept no_other_kept
    give (choice negated t.0 t.1 taken other done)

module _ (B : List Bound → List Item → Body → Type 0) (kept : (scope : List Bound) → Keeps (B scope)) where
  tested_kept : (scope : List Bound) (negated : Bool) → Keeps (tested expr B scope negated)
  tested_kept scope negated = do
    t ← or (of_count_kept scope) (of_values_kept scope)
    branches_kept (B scope) (kept scope) negated t

  negated_kept : (scope : List Bound) → Keeps (negated_test expr B scope)
  negated_kept scope = do
    _ ← single not_value (λ i m. refl)
    tested_kept scope true

  choice_kept : (scope : List Bound) → Keeps (choice_rest expr B scope)
  choice_kept scope = or (negated_kept scope) (tested_kept scope false)

  repeat_kept : (scope : List Bound) (number : ℕ) → Keeps (repeat_rest expr B scope number)
  repeat_kept scope number = do
    name ← single variable_value (λ i m. refl)
    _ ← single in_value (λ i m. refl)
    e ← expr_kept scope
    s ← settings_kept 6 loop_settings
    inner ← kept (scope ++ record { name = name; number = number } ∷ [])
    _ ← marked marks.EndRepeat refl
    give (repeat number e (order_of s) inner done)

  block_kept : (scope : List Bound) → Keeps (block expr B scope)
  block_kept scope = or (marked marks.OpenChoice refl >>= λ _. choice_kept scope) (marked marks.OpenRepeat refl >>= λ n. repeat_kept scope n)

body_kept : (depth : ℕ) (scope : List Bound) → Keeps (body expr depth scope)
body_kept zero scope = body_of_kept (leaf_kept scope)
body_kept (suc depth) scope = body_of_kept (or (block_kept (body expr depth) (λ s. body_kept depth s) scope) (leaf_kept scope))

-- ---- templates

collection_head_kept : (name : List ℕ) → Keeps (collection_head name)
collection_head_kept name = do
  _ ← marked marks.Close refl
  give (record { of_collection = true; name = name })

function_head_kept : (name : List ℕ) → Keeps (function_head name)
function_head_kept name = do
  _ ← marked marks.Close refl
  give (record { of_collection = false; name = name })

head_kept : (n : List ℕ) → Keeps (head_rest n)
head_kept n = or (single (named_value n) (λ i m. none_both (is_sort n)) >>= collection_head_kept) (function_head_kept n)

template_kept : (B : List Item → Body → Type 0) → Keeps B → Keeps (template B)
template_kept B kept = do
  _ ← marked marks.OpenTemplate refl
  n ← name_kept
  h ← head_kept n
  b ← kept
  _ ← marked marks.EndTemplate refl
  give (record { of_collection = h.of_collection; name = h.name; body = b })

pub spelled_no_faults : (items : List Item) (entries : List Entry) → within items entries → Every IsNoFault items
spelled_no_faults items entries h = (all (template_kept (body expr 32 []) (body_kept 32 []))).every items entries h
