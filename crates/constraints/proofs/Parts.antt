-- Each part of a constraint with its reader.
use Rattle.std.proofs.Common.{◌≡◌, Bool, true, false, [], ◌∷◌, refl}
use Rattle.std.specs.Prelude.{codes, ◌||◌}
use Rattle.sd_lex.specs.declared.token.TokenKind.TheVariants as kinds
use Rattle.sd_lex.specs.declared.token.Token.{Token}
use Rattle.grammar.specs.Grammar.{either}
use Rattle.grammar.specs.Reading.{choose}
use Rattle.grammar.proofs.Laws.{Always, AtEnd}
use Rattle.grammar.proofs.Parts.{Part, Opens, ◌>>=◌, give_part, one_part, whole_part, either_part, many_part, opens_then, opens_either}
use Rattle.token_reader.specs.Gives.{IsReal}
use Rattle.token_reader.specs.Terminals.{is_word, word}
use Rattle.token_reader.proofs.Terminals.{made, quoted_part, word_part, other_word, word_opens}
use Rattle.constraints.specs.declared.reading.Phrase.TheVariants.{Reachable, Each, Only, Never, One}
use Rattle.constraints.specs.Terminals.{bare, bare_value, read_bare}
use Rattle.constraints.specs.ConstraintText.{reachable, each, only, never, one_link, phrase, phrases}
use Rattle.constraints.specs.Reading.{read_reachable, read_each, read_only, read_never, read_one, read_phrase, begins_phrase, read_phrases}

bare_part : Part IsReal bare bare Always read_bare
bare_part = one_part bare_value (made (kinds.Name (65 ∷ []))) (record { text = 65 ∷ []; place = 0 }) refl (65 ∷ [], (refl, (refl, tt)))

reachable_part : Part IsReal reachable reachable Always read_reachable
unfolding read_reachable
reachable_part = do
  _ ← word_part (codes "REACHABLE") (refl, (refl, (refl, (refl, (refl, (refl, (refl, (refl, (refl, tt)))))))))
  function ← bare_part
  _ ← word_part (codes "FROM") (refl, (refl, (refl, (refl, tt))))
  root ← bare_part
  give_part (Reachable function root)

each_part : Part IsReal each each Always read_each
unfolding read_each
each_part = do
  _ ← word_part (codes "EACH") (refl, (refl, (refl, (refl, tt))))
  function ← bare_part
  _ ← word_part (codes "LINKS") (refl, (refl, (refl, (refl, (refl, tt)))))
  label ← quoted_part
  _ ← word_part (codes "TO") (refl, (refl, tt))
  target ← bare_part
  give_part (Each function label.text target)

only_part : Part IsReal only only Always read_only
unfolding read_only
only_part = do
  _ ← word_part (codes "ONLY") (refl, (refl, (refl, (refl, tt))))
  function ← bare_part
  _ ← word_part (codes "LINKS") (refl, (refl, (refl, (refl, (refl, tt)))))
  label ← quoted_part
  _ ← word_part (codes "TO") (refl, (refl, tt))
  target ← bare_part
  give_part (Only function label.text target)

never_part : Part IsReal never never Always read_never
unfolding read_never
never_part = do
  _ ← word_part (codes "NONE") (refl, (refl, (refl, (refl, tt))))
  function ← bare_part
  _ ← word_part (codes "LINKS") (refl, (refl, (refl, (refl, (refl, tt)))))
  label ← quoted_part
  give_part (Never function label.text)

one_link_part : Part IsReal one_link one_link Always read_one
unfolding read_one
one_link_part = do
  _ ← word_part (codes "ONE") (refl, (refl, (refl, tt)))
  function ← bare_part
  _ ← word_part (codes "LINKS") (refl, (refl, (refl, (refl, (refl, tt)))))
  label ← quoted_part
  give_part (One function label.text)

-- which tokens a part may open with

reachable_opens : (W : Token → Type 0) → ((t : Token) → is_word (codes "REACHABLE") t ≡ true → W t) → Opens reachable W
reachable_opens W known = opens_then (word (codes "REACHABLE")) _ W (word_opens (codes "REACHABLE") W known)

each_opens : (W : Token → Type 0) → ((t : Token) → is_word (codes "EACH") t ≡ true → W t) → Opens each W
each_opens W known = opens_then (word (codes "EACH")) _ W (word_opens (codes "EACH") W known)

only_opens : (W : Token → Type 0) → ((t : Token) → is_word (codes "ONLY") t ≡ true → W t) → Opens only W
only_opens W known = opens_then (word (codes "ONLY")) _ W (word_opens (codes "ONLY") W known)

never_opens : (W : Token → Type 0) → ((t : Token) → is_word (codes "NONE") t ≡ true → W t) → Opens never W
never_opens W known = opens_then (word (codes "NONE")) _ W (word_opens (codes "NONE") W known)

one_link_opens : (W : Token → Type 0) → ((t : Token) → is_word (codes "ONE") t ≡ true → W t) → Opens one_link W
one_link_opens W known = opens_then (word (codes "ONE")) _ W (word_opens (codes "ONE") W known)

later_3_part : Part IsReal (either never one_link) (either never one_link) Always (choose (is_word (codes "NONE")) read_never read_one)
later_3_part = either_part (is_word (codes "NONE")) never_part one_link_part
    (never_opens _ (λ t e. e))
    (one_link_opens _ (λ t. other_word (codes "ONE") (codes "NONE") t.kind refl))

later_2_part : Part IsReal (either only (either never one_link)) (either only (either never one_link)) Always (choose (is_word (codes "ONLY")) read_only (choose (is_word (codes "NONE")) read_never read_one))
later_2_part = either_part (is_word (codes "ONLY")) only_part later_3_part
    (only_opens _ (λ t e. e))
    (opens_either never one_link _
    (never_opens _ (λ t. other_word (codes "NONE") (codes "ONLY") t.kind refl))
    (one_link_opens _ (λ t. other_word (codes "ONE") (codes "ONLY") t.kind refl)))

later_1_part : Part IsReal (either each (either only (either never one_link))) (either each (either only (either never one_link))) Always (choose (is_word (codes "EACH")) read_each (choose (is_word (codes "ONLY")) read_only (choose (is_word (codes "NONE")) read_never read_one)))
later_1_part = either_part (is_word (codes "EACH")) each_part later_2_part
    (each_opens _ (λ t e. e))
    (opens_either only (either never one_link) _
    (only_opens _ (λ t. other_word (codes "ONLY") (codes "EACH") t.kind refl))
    (opens_either never one_link _
    (never_opens _ (λ t. other_word (codes "NONE") (codes "EACH") t.kind refl))
    (one_link_opens _ (λ t. other_word (codes "ONE") (codes "EACH") t.kind refl))))

pub phrase_part : Part IsReal phrase phrase Always read_phrase
unfolding read_phrase
phrase_part = either_part (is_word (codes "REACHABLE")) reachable_part later_1_part
    (reachable_opens _ (λ t e. e))
    (opens_either each (either only (either never one_link)) _
    (each_opens _ (λ t. other_word (codes "EACH") (codes "REACHABLE") t.kind refl))
    (opens_either only (either never one_link) _
    (only_opens _ (λ t. other_word (codes "ONLY") (codes "REACHABLE") t.kind refl))
    (opens_either never one_link _
    (never_opens _ (λ t. other_word (codes "NONE") (codes "REACHABLE") t.kind refl))
    (one_link_opens _ (λ t. other_word (codes "ONE") (codes "REACHABLE") t.kind refl)))))

or_left : (a b : Bool) → a ≡ true → (a || b) ≡ true
or_left a b e = rw e refl

or_right : (a b : Bool) → b ≡ true → (a || b) ≡ true
or_right true b e = refl
or_right false b e = e

pub phrase_opens : Opens phrase (λ t. begins_phrase t ≡ true)
phrase_opens = opens_either reachable (either each (either only (either never one_link))) _
    (reachable_opens _ (λ t e. or_left (is_word (codes "REACHABLE") t) _ e))
    (opens_either each (either only (either never one_link)) _
    (each_opens _ (λ t e. or_right (is_word (codes "REACHABLE") t) _ (or_left (is_word (codes "EACH") t) _ e)))
    (opens_either only (either never one_link) _
    (only_opens _ (λ t e. or_right (is_word (codes "REACHABLE") t) _ (or_right (is_word (codes "EACH") t) _ (or_left (is_word (codes "ONLY") t) _ e))))
    (opens_either never one_link _
    (never_opens _ (λ t e. or_right (is_word (codes "REACHABLE") t) _ (or_right (is_word (codes "EACH") t) _ (or_right (is_word (codes "ONLY") t) _ (or_left (is_word (codes "NONE") t) _ e)))))
    (one_link_opens _ (λ t e. or_right (is_word (codes "REACHABLE") t) _ (or_right (is_word (codes "EACH") t) _ (or_right (is_word (codes "ONLY") t) _ (or_right (is_word (codes "NONE") t) _ (e)))))))))

-- behind the last constraint the text ends
pub phrases_part : Part IsReal phrases phrases AtEnd read_phrases
unfolding read_phrases
phrases_part = whole_part (many_part begins_phrase phrase_part phrase_opens) refl
