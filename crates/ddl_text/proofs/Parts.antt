-- Each part of the data text with its reader.
use Rattle.std.proofs.Common.{◌≡◌, ℕ, Bool, true, false, List, [], ◌∷◌, ◌++◌, Some, refl, subst, sym}
use Rattle.std.specs.Prelude.{codes, ◌||◌}
use Rattle.sd_lex.specs.declared.token.Token.{Token}
use Rattle.sd_lex.specs.declared.token.TokenKind.{TokenKind}
use Rattle.sd_lex.specs.declared.token.TokenKind.TheVariants as kinds
use Rattle.sd_lex.specs.declared.token.Sign.{Sign}
use Rattle.sd_lex.specs.declared.token.Sign.TheVariants as signs
use Rattle.grammar.specs.Grammar.{nothing, one, either}
use Rattle.grammar.specs.Reading.{take_one}
use Rattle.grammar.proofs.Laws.{Always, AtEnd, Stops}
use Rattle.grammar.proofs.Parts.{Part, Opens, ◌>>=◌, give_part, one_part, then_part, then_opens, whole_part, stop_then, weaken_part, choose_part, either_part, many_part, opens_one, opens_then, opens_either}
use Rattle.token_reader.specs.Gives.{IsReal}
use Rattle.token_reader.specs.Terminals.{is_sign_kind, is_name, is_sign, is_word, name, sign, word}
use Rattle.token_reader.proofs.Terminals.{made, real_quoted, name_part, quoted_part, sign_part, word_part, name_opens, sign_no_name, sign_no_word, other_sign, other_word, sign_opens, word_opens}
use Rattle.ddl_text.specs.Terminals.{kind_word, kind_at, kind_value, plain_content, plain_value, is_plain_kind, is_plain}
use Rattle.ddl_text.specs.DataText.{entry, directive, kinded, node, value, field, further_name, collections, object, statement, file}
use Rattle.ddl_text.specs.Reading.{read_entry, read_directive, read_kinded, read_node, read_value, read_field, read_further_name, read_collections, read_in, read_object, read_statement, begins_statement, read_file}
use Rattle.ddl_text.specs.declared.tree.Statement.TheVariants.{Collection, Object}
use Rattle.ddl_text.specs.declared.tree.Kind.TheVariants as kind
use Rattle.ddl_text.specs.declared.tree.Content.TheVariants as content
use Rattle.ddl_text.specs.declared.tree.KindWord.{KindWord}
use Rattle.ddl_text.specs.declared.tree.Given.{Given}

kind_part : Part IsReal (one kind_value) (one kind_value) Always (take_one true kind_value)
kind_part = one_part kind_value (made (kinds.Name (codes "text"))) (record { kind = kind.Text; place = 0 }) refl (codes "text", (refl, (refl, (refl, (refl, (refl, tt))))))

plain_part : Part IsReal (one plain_value) (one plain_value) Always (take_one true plain_value)
plain_part = one_part plain_value (made (kinds.Quoted [])) (record { content = content.Plain []; place = 0 }) refl real_quoted

-- which tokens a part may open with

sign_no_plain : (s : Sign) (k : TokenKind) → is_sign_kind s k ≡ true → is_plain_kind k ≡ false
sign_no_plain s (kinds.Name n) e = absurd cc
sign_no_plain s (kinds.Quoted n) e = absurd cc
sign_no_plain s (kinds.Int n) e = absurd cc
sign_no_plain s (kinds.Sign n) e = refl

plain_is : (place : ℕ) (k : TokenKind) (v : Given) → plain_content place k ≡ Some v → is_plain_kind k ≡ true
plain_is place (kinds.Name n) v e = absurd cc
plain_is place (kinds.Quoted n) v e = refl
plain_is place (kinds.Int n) v e = refl
plain_is place (kinds.Sign n) v e = absurd cc

kind_no_plain : (place : ℕ) (k : TokenKind) (v : KindWord) → kind_at place (kind_word k) ≡ Some v → is_plain_kind k ≡ false
kind_no_plain place (kinds.Name n) v e = refl
kind_no_plain place (kinds.Quoted n) v e = absurd cc
kind_no_plain place (kinds.Int n) v e = absurd cc
kind_no_plain place (kinds.Sign n) v e = refl

kind_no_sign : (s : Sign) (place : ℕ) (k : TokenKind) (v : KindWord) → kind_at place (kind_word k) ≡ Some v → is_sign_kind s k ≡ false
kind_no_sign s place (kinds.Name n) v e = refl
kind_no_sign s place (kinds.Quoted n) v e = absurd cc
kind_no_sign s place (kinds.Int n) v e = absurd cc
kind_no_sign s place (kinds.Sign n) v e = absurd cc

pub entry_opens : Opens entry (λ t. is_name t ≡ true)
entry_opens = opens_then name _ (λ t. is_name t ≡ true) name_opens

pub entry_part : Part IsReal entry entry Always read_entry
unfolding read_entry
entry_part = do
  n ← name_part
  k ← kind_part
  give_part (record { name = n; kind = k })

directive_part : Part IsReal directive directive Always read_directive
unfolding read_directive
directive_part = do
  _ ← word_part (codes "collection") (refl, (refl, (refl, (refl, (refl, (refl, (refl, (refl, (refl, (refl, tt))))))))))
  collection ← name_part
  _ ← sign_part signs.OpenBrace
  stop_then is_name (many_part is_name entry_part entry_opens)
      (λ entries. do
        _ ← sign_part signs.CloseBrace
        give_part (Collection collection entries))
      (λ entries. opens_then (sign signs.CloseBrace) _ _ (sign_opens signs.CloseBrace _ (λ t. sign_no_name signs.CloseBrace t.kind)))

kinded_part : Part IsReal kinded kinded Always read_kinded
unfolding read_kinded
kinded_part = do
  k ← kind_part
  text ← quoted_part
  give_part (record { content = content.Kinded k.kind text.text; place = k.place })

node_part : Part IsReal node node Always read_node
unfolding read_node
node_part = do
  place ← sign_part signs.Amp
  n ← name_part
  give_part (record { content = content.Node n.text; place = place })

value_part : Part IsReal value value Always read_value
unfolding read_value
value_part =
    either_part is_plain plain_part
    (either_part (is_sign signs.Amp) node_part kinded_part
    (opens_then (sign signs.Amp) _ _ (sign_opens signs.Amp _ (λ t e. e)))
    (opens_then (one kind_value) _ _ (opens_one kind_value _ (λ t v e. kind_no_sign signs.Amp t.span.start t.kind v e))))
    (opens_one plain_value _ (λ t v e. plain_is t.span.start t.kind v e))
    (opens_either node kinded _
    (opens_then (sign signs.Amp) _ _ (sign_opens signs.Amp _ (λ t. sign_no_plain signs.Amp t.kind)))
    (opens_then (one kind_value) _ _ (opens_one kind_value _ (λ t v e. kind_no_plain t.span.start t.kind v e))))

pub field_opens : Opens field (λ t. is_name t ≡ true)
field_opens = opens_then name _ (λ t. is_name t ≡ true) name_opens

pub field_part : Part IsReal field field Always read_field
unfolding read_field
field_part = do
  n ← name_part
  v ← value_part
  give_part (record { name = n; value = v })

pub further_name_opens : Opens further_name (λ t. is_sign signs.Comma t ≡ true)
further_name_opens = opens_then (sign signs.Comma) _ _ (sign_opens signs.Comma _ (λ t e. e))

pub further_name_part : Part IsReal further_name further_name Always read_further_name
unfolding read_further_name
further_name_part = do
  _ ← sign_part signs.Comma
  name_part

collections_part : Part IsReal collections collections (Stops (is_sign signs.Comma)) read_collections
unfolding read_collections
collections_part = do
  _ ← word_part (codes "in") (refl, (refl, tt))
  first ← name_part
  then_part (many_part (is_sign signs.Comma) further_name_part further_name_opens)
      (λ others. weaken_part _ (λ _ _. tt) (give_part (first ∷ others)))
      (λ v y w rest h f. subst (λ x. Stops (is_sign signs.Comma) (x ++ rest)) (sym h.0) f)

-- neither a comma nor `in` stands behind the names of `in`
abbrev AfterNames : List Token → Type 0
AfterNames rest = Stops (is_sign signs.Comma) rest × Stops (is_word (codes "in")) rest

in_names_part : Part IsReal (either collections (nothing [])) (either collections (nothing [])) AfterNames read_in
unfolding read_in
in_names_part =
    choose_part (is_word (codes "in")) (weaken_part AfterNames (λ _ f. f.0) collections_part) (weaken_part AfterNames (λ _ _. tt) (give_part []))
    (opens_then (word (codes "in")) _ _ (word_opens (codes "in") _ (λ t e. e)))
    (λ x v rest h f. subst (λ y. Stops (is_word (codes "in")) (y ++ rest)) (sym h.0) f.1)

object_part : Part IsReal object object Always read_object
unfolding read_object
object_part = do
  _ ← word_part (codes "object") (refl, (refl, (refl, (refl, (refl, (refl, tt))))))
  n ← name_part
  then_opens (λ t. is_sign signs.OpenBrace t ≡ true) in_names_part
      (λ cs. do
        _ ← sign_part signs.OpenBrace
        stop_then is_name (many_part is_name field_part field_opens)
            (λ fields. do
              _ ← sign_part signs.CloseBrace
              give_part (Object n cs fields))
            (λ fields. opens_then (sign signs.CloseBrace) _ _ (sign_opens signs.CloseBrace _ (λ t. sign_no_name signs.CloseBrace t.kind))))
      (λ cs. opens_then (sign signs.OpenBrace) _ _ (sign_opens signs.OpenBrace _ (λ t e. e)))
      (λ t later e. (other_sign signs.OpenBrace signs.Comma t.kind refl e, sign_no_word signs.OpenBrace (codes "in") t.kind e))

pub statement_part : Part IsReal statement statement Always read_statement
unfolding read_statement
statement_part =
    either_part (is_word (codes "collection")) directive_part object_part
    (opens_then (word (codes "collection")) _ _ (word_opens (codes "collection") _ (λ t e. e)))
    (opens_then (word (codes "object")) _ _ (word_opens (codes "object") _ (λ t. other_word (codes "object") (codes "collection") t.kind refl)))

or_left : (a b : Bool) → a ≡ true → (a || b) ≡ true
or_left a b e = rw e refl

or_right : (a b : Bool) → b ≡ true → (a || b) ≡ true
or_right true b e = refl
or_right false b e = e

pub statement_opens : Opens statement (λ t. begins_statement t ≡ true)
statement_opens = opens_either directive object _
    (opens_then (word (codes "collection")) _ _ (word_opens (codes "collection") _ (λ t e. or_left (is_word (codes "collection") t) (is_word (codes "object") t) e)))
    (opens_then (word (codes "object")) _ _ (word_opens (codes "object") _ (λ t e. or_right (is_word (codes "collection") t) (is_word (codes "object") t) e)))

-- behind the last statement the text ends
pub file_part : Part IsReal file file AtEnd read_file
unfolding read_file
file_part = whole_part (many_part begins_statement statement_part statement_opens) refl
