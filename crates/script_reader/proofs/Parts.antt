-- Each part of a script with its reader.
use Rattle.std.proofs.Common.{◌≡◌, Bool, true, false, [], ◌∷◌, refl, inl}
use Rattle.std.specs.Prelude.{codes, ◌||◌, pos}
use Rattle.sd_lex.specs.declared.token.TokenKind.TheVariants as kinds
use Rattle.sd_lex.specs.declared.token.Token.{Token}
use Rattle.grammar.specs.Grammar.{either}
use Rattle.grammar.specs.Reading.{choose}
use Rattle.grammar.proofs.Laws.{Always, AtEnd}
use Rattle.grammar.proofs.Parts.{Part, Opens, ◌>>=◌, give_part, one_part, whole_part, either_part, many_part, opens_then, opens_either}
use Rattle.token_reader.specs.Gives.{IsReal}
use Rattle.token_reader.specs.Terminals.{is_word, word}
use Rattle.token_reader.proofs.Terminals.{made, quoted_part, word_part, other_word, word_opens}
use Rattle.happenings.specs.declared.event.WireEvent.TheVariants.{Opened, Bytes, Ended, Lost, Change}
use Rattle.script_reader.specs.Terminals.{connection, connection_value, read_connection}
use Rattle.script_reader.specs.ScriptText.{opening, piece, ending, loss, change, phrase, script}
use Rattle.script_reader.specs.Reading.{read_opening, read_piece, read_ending, read_loss, read_change, read_phrase, begins_phrase, read_phrases}

connection_part : Part IsReal connection connection Always read_connection
connection_part = one_part connection_value (made (kinds.Int (pos 1))) 1 refl (49 ∷ [], (inl (refl, tt), refl))

opening_part : Part IsReal opening opening Always read_opening
unfolding read_opening
opening_part = do
  _ ← word_part (codes "open") (refl, (refl, (refl, (refl, tt))))
  number ← connection_part
  give_part (Opened number)

piece_part : Part IsReal piece piece Always read_piece
unfolding read_piece
piece_part = do
  _ ← word_part (codes "bytes") (refl, (refl, (refl, (refl, (refl, tt)))))
  number ← connection_part
  bytes ← quoted_part
  give_part (Bytes number bytes.text)

ending_part : Part IsReal ending ending Always read_ending
unfolding read_ending
ending_part = do
  _ ← word_part (codes "end") (refl, (refl, (refl, tt)))
  number ← connection_part
  give_part (Ended number)

loss_part : Part IsReal loss loss Always read_loss
unfolding read_loss
loss_part = do
  _ ← word_part (codes "lost") (refl, (refl, (refl, (refl, tt))))
  number ← connection_part
  give_part (Lost number)

change_part : Part IsReal change change Always read_change
unfolding read_change
change_part = do
  _ ← word_part (codes "change") (refl, (refl, (refl, (refl, (refl, (refl, tt))))))
  text ← quoted_part
  give_part (Change text.text)

-- which tokens a part may open with

opening_opens : (W : Token → Type 0) → ((t : Token) → is_word (codes "open") t ≡ true → W t) → Opens opening W
opening_opens W known = opens_then (word (codes "open")) _ W (word_opens (codes "open") W known)

piece_opens : (W : Token → Type 0) → ((t : Token) → is_word (codes "bytes") t ≡ true → W t) → Opens piece W
piece_opens W known = opens_then (word (codes "bytes")) _ W (word_opens (codes "bytes") W known)

ending_opens : (W : Token → Type 0) → ((t : Token) → is_word (codes "end") t ≡ true → W t) → Opens ending W
ending_opens W known = opens_then (word (codes "end")) _ W (word_opens (codes "end") W known)

loss_opens : (W : Token → Type 0) → ((t : Token) → is_word (codes "lost") t ≡ true → W t) → Opens loss W
loss_opens W known = opens_then (word (codes "lost")) _ W (word_opens (codes "lost") W known)

change_opens : (W : Token → Type 0) → ((t : Token) → is_word (codes "change") t ≡ true → W t) → Opens change W
change_opens W known = opens_then (word (codes "change")) _ W (word_opens (codes "change") W known)

loss_or_change_part : Part IsReal (either loss change) (either loss change) Always (choose (is_word (codes "lost")) read_loss read_change)
loss_or_change_part = either_part (is_word (codes "lost")) loss_part change_part
    (loss_opens _ (λ t e. e))
    (change_opens _ (λ t. other_word (codes "change") (codes "lost") t.kind refl))

end_or_later_part : Part IsReal (either ending (either loss change)) (either ending (either loss change)) Always (choose (is_word (codes "end")) read_ending (choose (is_word (codes "lost")) read_loss read_change))
end_or_later_part = either_part (is_word (codes "end")) ending_part loss_or_change_part
    (ending_opens _ (λ t e. e))
    (opens_either loss change _
    (loss_opens _ (λ t. other_word (codes "lost") (codes "end") t.kind refl))
    (change_opens _ (λ t. other_word (codes "change") (codes "end") t.kind refl)))

piece_or_later_part : Part IsReal (either piece (either ending (either loss change))) (either piece (either ending (either loss change))) Always
    (choose (is_word (codes "bytes")) read_piece (choose (is_word (codes "end")) read_ending (choose (is_word (codes "lost")) read_loss read_change)))
piece_or_later_part = either_part (is_word (codes "bytes")) piece_part end_or_later_part
    (piece_opens _ (λ t e. e))
    (opens_either ending (either loss change) _
    (ending_opens _ (λ t. other_word (codes "end") (codes "bytes") t.kind refl))
    (opens_either loss change _
    (loss_opens _ (λ t. other_word (codes "lost") (codes "bytes") t.kind refl))
    (change_opens _ (λ t. other_word (codes "change") (codes "bytes") t.kind refl))))

pub phrase_part : Part IsReal phrase phrase Always read_phrase
unfolding read_phrase
phrase_part = either_part (is_word (codes "open")) opening_part piece_or_later_part
    (opening_opens _ (λ t e. e))
    (opens_either piece (either ending (either loss change)) _
    (piece_opens _ (λ t. other_word (codes "bytes") (codes "open") t.kind refl))
    (opens_either ending (either loss change) _
    (ending_opens _ (λ t. other_word (codes "end") (codes "open") t.kind refl))
    (opens_either loss change _
    (loss_opens _ (λ t. other_word (codes "lost") (codes "open") t.kind refl))
    (change_opens _ (λ t. other_word (codes "change") (codes "open") t.kind refl)))))

or_left : (a b : Bool) → a ≡ true → (a || b) ≡ true
or_left a b e = rw e refl

or_right : (a b : Bool) → b ≡ true → (a || b) ≡ true
or_right true b e = refl
or_right false b e = e

pub phrase_opens : Opens phrase (λ t. begins_phrase t ≡ true)
phrase_opens = opens_either opening (either piece (either ending (either loss change))) _
    (opening_opens _ (λ t e. or_left (is_word (codes "open") t) _ e))
    (opens_either piece (either ending (either loss change)) _
    (piece_opens _ (λ t e. or_right (is_word (codes "open") t) _ (or_left (is_word (codes "bytes") t) _ e)))
    (opens_either ending (either loss change) _
    (ending_opens _ (λ t e. or_right (is_word (codes "open") t) _ (or_right (is_word (codes "bytes") t) _ (or_left (is_word (codes "end") t) _ e))))
    (opens_either loss change _
    (loss_opens _ (λ t e. or_right (is_word (codes "open") t) _ (or_right (is_word (codes "bytes") t) _ (or_right (is_word (codes "end") t) _ (or_left (is_word (codes "lost") t) _ e)))))
    (change_opens _ (λ t e. or_right (is_word (codes "open") t) _ (or_right (is_word (codes "bytes") t) _ (or_right (is_word (codes "end") t) _ (or_right (is_word (codes "lost") t) _ e))))))))

-- behind the last phrase the text ends
pub script_part : Part IsReal script script AtEnd read_phrases
unfolding read_phrases
script_part = whole_part (many_part begins_phrase phrase_part phrase_opens) refl
