-- The parts of words and expressions.
use Rattle.std.proofs.Common.{◌≡◌, ℕ, true, false, None, List, [], ◌∷◌, ◌++◌, refl, sym, subst}
use Rattle.grammar.specs.Grammar.{nothing, one, either}
use Rattle.grammar.specs.Grammar as grammar
use Rattle.grammar.specs.Fault.{Every}
use Rattle.grammar.specs.Reading.{take_one}
use Rattle.grammar.specs.Reading as reading
use Rattle.grammar.proofs.Laws.{Always, Stops}
use Rattle.grammar.proofs.Parts.{Part, Opens, ◌>>=◌, give_part, then_part, weaken_part, either_part, many_part, bar_part, opens_one, opens_then, opens_either, first_is}
use Rattle.template_items.specs.declared.item.Item.{Item}
use Rattle.template_items.specs.declared.item.Mark.{Mark}
use Rattle.template_items.specs.declared.item.Mark.TheVariants as marks
use Rattle.tmpl.specs.declared.Expr.{Expr}
use Rattle.tmpl.specs.declared.WordRoot.TheVariants.{Here, Loop, Collection}
use Rattle.template_tags.specs.declared.words.Bound.{Bound}
use Rattle.template_tags.specs.Terminals.{is_mark, is_dot, dot_value, known_value, is_known, unknown_value, is_unknown, keyword_at, IsReal}
use Rattle.template_tags.specs.Tag.{mark, dotted, word, joined_word, from, here, here_of, collection, of_loop, expr, any_expr}
use Rattle.template_tags.specs.Reading.{read_dotted, read_word, read_joined_word, read_here, read_here_of, read_collection, read_of_loop, read_loop, read_place, read_expr}
use Rattle.template_tags.proofs.Known.{known_or}
use Rattle.template_tags.proofs.ItemFacts.{guard, has_value, some_value, mark_part, label_part, joined_part, dot_part, mark_opens, other_mark, mark_is_not_known, mark_is_not_unknown, known_is_not_unknown, known_is_variable, unknown_is_variable, mark_no_keyword, variable_no_keyword}

-- no dot follows
abbrev pub AfterWord : List Item → Type 0
AfterWord = Stops is_dot

pub dotted_part : Part IsReal dotted dotted Always read_dotted
unfolding read_dotted
dotted_part = do
  _ ← dot_part
  joined_part

pub dotted_opens : Opens dotted (λ i. is_dot i ≡ true)
dotted_opens = opens_then (one dot_value) _ _ (opens_one dot_value _ (λ i n e. guard (is_dot i) i.loops n e))

abbrev labels : Part IsReal (grammar.many dotted) (grammar.many dotted) AfterWord (reading.repeat is_dot read_dotted)
labels = many_part is_dot dotted_part dotted_opens

-- what is given behind labels
module _ {A : Type 0} (f : List (List ℕ) → A) where
  labels_then : Part IsReal (grammar.◌>>=◌ (grammar.many dotted) (λ ls. nothing (f ls))) (grammar.◌>>=◌ (grammar.many dotted) (λ ls. nothing (f ls))) AfterWord (reading.◌>>=◌ (reading.repeat is_dot read_dotted) (λ ls. reading.give (f ls)))
  labels_then = then_part labels (λ ls. weaken_part AfterWord (λ _ _. tt) (give_part (f ls))) (λ ls y w rest h g. subst (λ x. AfterWord (x ++ rest)) (sym h.0) g)

pub word_part : Part IsReal word word AfterWord read_word
unfolding read_word
word_part = do
  first ← label_part
  labels_then (λ ls. first ∷ ls)

joined_word_part : Part IsReal joined_word joined_word AfterWord read_joined_word
unfolding read_joined_word
joined_word_part = do
  first ← joined_part
  labels_then (λ ls. first ∷ ls)

here_part : Part IsReal here here Always read_here
unfolding read_here
here_part = do
  _ ← mark_part marks.Here refl
  give_part (from Here [])

here_of_part : Part IsReal here_of here_of AfterWord read_here_of
unfolding read_here_of
here_of_part = do
  _ ← mark_part marks.HereOf refl
  then_part joined_word_part (λ ls. weaken_part AfterWord (λ _ _. tt) (give_part (from Here ls))) (λ ls y w rest h g. subst (λ x. AfterWord (x ++ rest)) (sym h.0) g)

collection_part : Part IsReal collection collection AfterWord read_collection
unfolding read_collection
collection_part = do
  _ ← mark_part marks.Hash refl
  name ← joined_part
  labels_then (λ ls. from (Collection name) ls)

of_loop_part : (n : ℕ) → Part IsReal (of_loop n) (of_loop n) AfterWord (read_of_loop n)
unfolding read_of_loop
of_loop_part n = labels_then (λ ls. from (Loop n) ls)

-- ---- expressions

abbrev place : List Item → Expr → Type 0
place = either here (either here_of collection)

place_opens : (W : Item → Type 0) → ((m : Mark) (i : Item) → is_mark m i ≡ true → W i) → Opens place W
place_opens W holds =
    opens_either here (either here_of collection) W (opens_then (mark marks.Here) _ W (mark_opens marks.Here W (holds marks.Here)))
    (opens_either here_of collection W (opens_then (mark marks.HereOf) _ W (mark_opens marks.HereOf W (holds marks.HereOf)))
    (opens_then (mark marks.Hash) _ W (mark_opens marks.Hash W (holds marks.Hash))))

place_part : Part IsReal place place AfterWord read_place
unfolding read_place
place_part =
    either_part (is_mark marks.Here) (weaken_part AfterWord (λ _ _. tt) here_part)
    (either_part (is_mark marks.HereOf) here_of_part collection_part
    (opens_then (mark marks.HereOf) _ _ (mark_opens marks.HereOf _ (λ i e. e)))
    (opens_then (mark marks.Hash) _ _ (mark_opens marks.Hash _ (other_mark marks.Hash marks.HereOf refl))))
    (opens_then (mark marks.Here) _ _ (mark_opens marks.Here _ (λ i e. e)))
    (opens_either here_of collection _
    (opens_then (mark marks.HereOf) _ _ (mark_opens marks.HereOf _ (other_mark marks.HereOf marks.Here refl)))
    (opens_then (mark marks.Hash) _ _ (mark_opens marks.Hash _ (other_mark marks.Hash marks.Here refl))))

known_opens : (scope : List Bound) (W : Item → Type 0) → ((i : Item) → is_known scope i ≡ true → W i) → Opens (grammar.◌>>=◌ (one (known_value scope)) of_loop) W
known_opens scope W holds = opens_then (one (known_value scope)) of_loop W (opens_one (known_value scope) W (λ i n e. holds i (has_value (known_value scope i) n e)))

unknown_opens : (scope : List Bound) (W : Item → Type 0) → ((i : Item) → is_unknown scope i ≡ true → W i) → Opens (grammar.◌>>=◌ (one (unknown_value scope)) of_loop) W
unknown_opens scope W holds = opens_then (one (unknown_value scope)) of_loop W (opens_one (unknown_value scope) W (λ i n e. holds i (guard (is_unknown scope i) 0 n e)))

known_part : (scope : List Bound) → Part IsReal (expr scope) (expr scope) AfterWord (reading.choose (is_known scope) (read_loop scope) read_place)
unfolding read_loop
known_part scope =
    known_or (known_value scope) (is_known scope) (λ i n e. has_value (known_value scope i) n e) (λ i e. some_value (known_value scope i) e) of_loop_part place_part
    (λ x e rest h _. first_is place (is_known scope) false (place_opens (λ i. is_known scope i ≡ false) (λ m i is. mark_is_not_known m scope i is)) x e rest h)

-- a variable of no loop round it begins an expression all the same
unknown_begun : (scope : List Bound) (i : Item) → is_unknown scope i ≡ true → (x : List Item) × (e : Expr) × grammar.◌>>=◌ (one (unknown_value scope)) of_loop (i ∷ x) e × Every IsReal x
unknown_begun scope i is = ([], from (Loop 0) [], (i ∷ [], [], 0, refl, (i, refl, rw is refl), ([], [], [], refl, refl, (refl, refl))), tt)

pub expr_part : (scope : List Bound) → Part IsReal (expr scope) (any_expr scope) AfterWord (read_expr scope)
unfolding read_expr
expr_part scope =
    bar_part (is_unknown scope) (grammar.◌>>=◌ (one (unknown_value scope)) of_loop) (known_part scope)
    (unknown_opens scope _ (λ i e. e))
    (opens_either (grammar.◌>>=◌ (one (known_value scope)) of_loop) place _ (known_opens scope _ (known_is_not_unknown scope)) (place_opens _ (λ m i is. mark_is_not_unknown m scope i is)))
    (unknown_begun scope)

pub expr_is_no_keyword : (scope : List Bound) (W : Item → Type 0) → ((i : Item) → keyword_at i ≡ None → W i) → Opens (any_expr scope) W
expr_is_no_keyword scope W holds =
    opens_either (grammar.◌>>=◌ (one (unknown_value scope)) of_loop) (expr scope) W (unknown_opens scope W (λ i e. holds i (variable_no_keyword i (unknown_is_variable scope i e))))
    (opens_either (grammar.◌>>=◌ (one (known_value scope)) of_loop) place W (known_opens scope W (λ i e. holds i (variable_no_keyword i (known_is_variable scope i e)))) (place_opens W (λ m i is. holds i (mark_no_keyword m i is))))
