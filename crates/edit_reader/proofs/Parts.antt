-- Each part of an edit with its reader.
use Rattle.std.proofs.Common.{◌≡◌, true, refl}
use Rattle.std.specs.Prelude.{codes}
use Rattle.sd_lex.specs.declared.token.Token.{Token}
use Rattle.grammar.specs.Grammar.{either}
use Rattle.grammar.specs.Reading.{choose}
use Rattle.grammar.proofs.Laws.{Always, AtEnd}
use Rattle.grammar.proofs.Parts.{Part, Opens, ◌>>=◌, give_part, whole_part, either_part, opens_then, opens_either}
use Rattle.token_reader.specs.Gives.{IsReal}
use Rattle.token_reader.specs.Terminals.{is_word, word}
use Rattle.token_reader.proofs.Terminals.{name_part, word_part, other_word, word_opens}
use Rattle.ddl_text.proofs.Parts.{field_part}
use Rattle.edit_spec.specs.declared.Edit.TheVariants.{Add, Remove, Enter, Leave}
use Rattle.edit_reader.specs.EditText.{edge_of, member_of, adding, removing, entering, leaving, action, edit}
use Rattle.edit_reader.specs.Reading.{read_adding, read_removing, read_entering, read_leaving, read_action, read_phrase, read_whole}

adding_part : Part IsReal adding adding Always read_adding
unfolding read_adding
adding_part = do
  _ ← word_part (codes "add") (refl, (refl, (refl, tt)))
  from ← name_part
  f ← field_part
  give_part (Add (edge_of from f))

removing_part : Part IsReal removing removing Always read_removing
unfolding read_removing
removing_part = do
  _ ← word_part (codes "remove") (refl, (refl, (refl, (refl, (refl, (refl, tt))))))
  from ← name_part
  f ← field_part
  give_part (Remove (edge_of from f))

entering_part : Part IsReal entering entering Always read_entering
unfolding read_entering
entering_part = do
  _ ← word_part (codes "enter") (refl, (refl, (refl, (refl, (refl, tt)))))
  n ← name_part
  collection ← name_part
  give_part (Enter (member_of n collection))

leaving_part : Part IsReal leaving leaving Always read_leaving
unfolding read_leaving
leaving_part = do
  _ ← word_part (codes "leave") (refl, (refl, (refl, (refl, (refl, tt)))))
  n ← name_part
  collection ← name_part
  give_part (Leave (member_of n collection))

-- which tokens a part may open with

adding_opens : (W : Token → Type 0) → ((t : Token) → is_word (codes "add") t ≡ true → W t) → Opens adding W
adding_opens W known = opens_then (word (codes "add")) _ W (word_opens (codes "add") W known)

removing_opens : (W : Token → Type 0) → ((t : Token) → is_word (codes "remove") t ≡ true → W t) → Opens removing W
removing_opens W known = opens_then (word (codes "remove")) _ W (word_opens (codes "remove") W known)

entering_opens : (W : Token → Type 0) → ((t : Token) → is_word (codes "enter") t ≡ true → W t) → Opens entering W
entering_opens W known = opens_then (word (codes "enter")) _ W (word_opens (codes "enter") W known)

leaving_opens : (W : Token → Type 0) → ((t : Token) → is_word (codes "leave") t ≡ true → W t) → Opens leaving W
leaving_opens W known = opens_then (word (codes "leave")) _ W (word_opens (codes "leave") W known)

entering_or_leaving_part : Part IsReal (either entering leaving) (either entering leaving) Always
    (choose (is_word (codes "enter")) read_entering read_leaving)
entering_or_leaving_part = either_part (is_word (codes "enter")) entering_part leaving_part
    (entering_opens _ (λ t e. e))
    (leaving_opens _ (λ t. other_word (codes "leave") (codes "enter") t.kind refl))

removing_or_later_part : Part IsReal (either removing (either entering leaving))
    (either removing (either entering leaving)) Always
    (choose (is_word (codes "remove")) read_removing (choose (is_word (codes "enter")) read_entering read_leaving))
removing_or_later_part = either_part (is_word (codes "remove")) removing_part entering_or_leaving_part
    (removing_opens _ (λ t e. e))
    (opens_either entering leaving _
    (entering_opens _ (λ t. other_word (codes "enter") (codes "remove") t.kind refl))
    (leaving_opens _ (λ t. other_word (codes "leave") (codes "remove") t.kind refl)))

action_part : Part IsReal action action Always read_action
unfolding read_action
action_part = either_part (is_word (codes "add")) adding_part removing_or_later_part
    (adding_opens _ (λ t e. e))
    (opens_either removing (either entering leaving) _
    (removing_opens _ (λ t. other_word (codes "remove") (codes "add") t.kind refl))
    (opens_either entering leaving _
    (entering_opens _ (λ t. other_word (codes "enter") (codes "add") t.kind refl))
    (leaving_opens _ (λ t. other_word (codes "leave") (codes "add") t.kind refl))))

phrase_part : Part IsReal edit edit Always read_phrase
unfolding read_phrase
phrase_part = do
  _ ← word_part (codes "edit") (refl, (refl, (refl, (refl, tt))))
  action_part

-- behind the edit the text ends
pub edit_part : Part IsReal edit edit AtEnd read_whole
unfolding read_whole
edit_part = whole_part phrase_part tt
