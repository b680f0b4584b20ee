-- The reader of edits, and what reading a text gives.
use Rattle.std.proofs.Common.{◌≡◌, ◌≢◌, inl, inr, ℕ, List, [], ◌∷◌, refl, sym, ap, subst, ◌∙◌, Result, Ok, Err}
use Rattle.std.specs.Prelude.{Option, Some, None}
use Rattle.sd_value.specs.declared.Term.{Term}
use Rattle.sd_value.specs.declared.Value.TheVariants.{Page}
use Rattle.sd_lex.specs.declared.refusal.LexRefusal.{LexRefusal}
use Rattle.sd_lex.specs.declared.token.Token.{Token}
use Rattle.sd_lex.specs.Lexing.{IsTextOrFault}
use Rattle.grammar.specs.Reading.{Outcome, Read, Stuck, Past}
use Rattle.grammar.proofs.Exact.{read_again}
use Rattle.token_reader.specs.Gives.{IsReal}
use Rattle.token_reader.proofs.Tokens.{one_token_list}
use Rattle.ddl_text.specs.declared.tree.Content.{Content}
use Rattle.ddl_text.specs.declared.tree.Content.TheVariants as content
use Rattle.ddl_text.specs.declared.tree.Kind.TheVariants as kind
use Rattle.command_spec.specs.Limits.{data_limit}
use Rattle.data_texts.proofs.Lexed.{lexed_text}
use Rattle.edit_spec.specs.declared.Edit.{Edit}
use Rattle.edit_spec.specs.Edited.{IsOfData}
use Rattle.token_reader.specs.declared.refusal.TextRefusal.{TextRefusal}
use Rattle.token_reader.specs.declared.refusal.TextRefusal.TheVariants.{TooLong, BadByte, OpenString, IntOutOfRange, Expected, NoMemory}
use Rattle.edit_reader.specs.EditText.{value_of, action, edit}
use Rattle.edit_reader.specs.Reading.{read_whole}
use Rattle.edit_reader.specs.Reads.{Reads, IsEditText, IsSettled}
use Rattle.edit_reader.proofs.Parts.{edit_part}
use Rattle.edit_reader.proofs.Whole.{is_spelled}
use Rattle.edit_reader.proofs.Once.{one_answer}
use Rattle.data_texts.specs.Edits.{IsSpelled, EditReader}

-- ---- an edit that is spelled puts no page into the data

no_page : (c : Content) (p : Term) → value_of c ≡ Page p → ⊥
no_page (content.Number n) p e = cc
no_page (content.Plain t) p e = cc
no_page (content.Kinded kind.Text t) p e = cc
no_page (content.Kinded kind.Url t) p e = cc
no_page (content.Kinded kind.File t) p e = cc
no_page (content.Node n) p e = cc

is_of_data : (e f : Edit) → e ≡ f → IsOfData f → IsOfData e
is_of_data e f is h = subst IsOfData (sym is) h

of_action : (tokens : List Token) (e : Edit) → action tokens e → IsOfData e
of_action tokens e (inl (w0, r0, v0, s0, h0, (w1, r1, from, s1, h1, (w2, r2, f, s2, h2, (none, is))))) =
    is_of_data e _ is (λ p. no_page f.value.content p)
of_action tokens e (inr (inl (w0, r0, v0, s0, h0, (w1, r1, from, s1, h1, (w2, r2, f, s2, h2, (none, is)))))) =
    is_of_data e _ is tt
of_action tokens e (inr (inr (inl (w0, r0, v0, s0, h0, (w1, r1, n, s1, h1, (w2, r2, c, s2, h2, (none, is))))))) =
    is_of_data e _ is tt
of_action tokens e (inr (inr (inr (w0, r0, v0, s0, h0, (w1, r1, n, s1, h1, (w2, r2, c, s2, h2, (none, is))))))) =
    is_of_data e _ is tt

of_edit : (tokens : List Token) (e : Edit) → edit tokens e → IsOfData e
of_edit tokens e (front, back, v, s, w, h) = of_action back e h

-- ---- whether a text spells an edit, and which

Spelling : List ℕ → Type 0
Spelling text = (o : Option Edit) × IsSpelled text o

pub same_tokens : (text : List ℕ) (tokens others : List Token) → IsTextOrFault data_limit text (Ok tokens)
    → IsTextOrFault data_limit text (Ok others) → tokens ≡ others
same_tokens text tokens others l m =
    let both : Ok tokens ≡ Ok others = one_token_list data_limit text (Ok tokens) (Ok others) l m in cc

no_tokens : (text : List ℕ) (tokens : List Token) (e : LexRefusal) → IsTextOrFault data_limit text (Ok tokens)
    → IsTextOrFault data_limit text (Err e) → ⊥
no_tokens text tokens e l m =
    let both : Ok tokens ≡ Err e = one_token_list data_limit text (Ok tokens) (Err e) l m in absurd cc

-- what the reader of tokens doesn't read whole is no edit
no_edit : (tokens : List Token) (o : Outcome Token Edit) → read_whole tokens ≡ o
    → ((e : Edit) → o ≡ Read e [] → ⊥) → (e : Edit) → edit tokens e → ⊥
no_edit tokens o is never e h = never e (sym is ∙ read_again IsReal edit edit read_whole edit_part.reads tokens e h)

spelling : (text : List ℕ) → Spelling text
unfolding Spelling
spelling text = by (lexed_text data_limit text)
  where
    by : (r : Result (List Token) LexRefusal) × IsTextOrFault data_limit text r → Spelling text
    by (Err e, fault) = (None, λ f h. no_tokens text h.0 e h.1 fault)
    by (Ok tokens, lexed) = by_reading (read_whole tokens) refl
      where
        none : ((e : Edit) → edit tokens e → ⊥) → Spelling text
        none never = (None, λ f h. never f (subst (λ x. edit x f) (same_tokens text h.0 tokens h.1 lexed) h.2))

        by_reading : (o : Outcome Token Edit) → read_whole tokens ≡ o → Spelling text
        by_reading (Read e []) is =
            let h = is_spelled tokens e is in
            (Some e, ((tokens, lexed, h), of_edit tokens e h))
        by_reading (Read e (t ∷ rest)) is = none (no_edit tokens (Read e (t ∷ rest)) is (λ f same. cc))
        by_reading (Stuck rest) is = none (no_edit tokens (Stuck rest) is (λ f same. cc))
        by_reading (Past rest) is = none (no_edit tokens (Past rest) is (λ f same. cc))

pub the_edits : EditReader
unfolding Spelling
the_edits = record { edit_in = λ text. (spelling text).0; spells = λ text. (spelling text).1 }

-- ---- what reading a text gives

ok_edit : (text : List ℕ) (e f : Edit) → IsEditText data_limit text e → IsEditText data_limit text f → e ≡ f
ok_edit text e f h k =
    let same : Ok e ≡ Ok f = one_answer data_limit text (Ok e) (Ok f) h k tt tt in cc

-- a text spells one edit or none
pub one_spelled : (text : List ℕ) (o p : Option Edit) → IsSpelled text o → IsSpelled text p → o ≡ p
one_spelled text None None h k = refl
one_spelled text None (Some f) h k = absurd (h f k.0)
one_spelled text (Some e) None h k = absurd (k e h.0)
one_spelled text (Some e) (Some f) h k = ap (λ (x : Edit). Some x) (ok_edit text e f h.0 k.0)

settled : (r : TextRefusal) → r ≢ NoMemory → IsSettled (Err r)
settled (TooLong at) other = tt
settled (BadByte at) other = tt
settled (OpenString at) other = tt
settled (IntOutOfRange at) other = tt
settled (Expected at) other = tt
settled NoMemory other = other refl

pub read_some : (text bytes : List ℕ) (e : Edit) → bytes ≡ text → Reads data_limit bytes (Ok e) → IsSpelled text (Some e)
read_some text bytes e is (tokens, lexed, h) =
    subst (λ (t : List ℕ). IsEditText data_limit t e × IsOfData e) is ((tokens, lexed, h), of_edit tokens e h)

pub read_none : (text bytes : List ℕ) (r : TextRefusal) → bytes ≡ text → Reads data_limit bytes (Err r) → r ≢ NoMemory
    → IsSpelled text None
read_none text bytes r is reads other e h =
    let here : Reads data_limit text (Err r) = subst (λ (t : List ℕ). Reads data_limit t (Err r)) is reads in
    let same : ◌≡◌ {A = Result Edit TextRefusal} (Ok e) (Err r) = one_answer data_limit text (Ok e) (Err r) h here tt (settled r other) in
    absurd cc
