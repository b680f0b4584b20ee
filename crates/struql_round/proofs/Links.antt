-- The canonical texts of links, collections and clauses spell them.
use Rattle.std.proofs.Common.{◌≡◌, ℕ, true, List, [], ◌∷◌, ◌++◌, Some, refl, sym, ap, ◌∙◌, inl, inr}
use Rattle.std.specs.Prelude.{map}
use Rattle.std.proofs.lemmas.List.{append-nil}
use Rattle.sd_lex.specs.declared.token.Token.{Token}
use Rattle.sd_lex.specs.declared.token.TokenKind.TheVariants as kinds
use Rattle.sd_lex.specs.declared.token.Sign.{Sign as AnySign}
use Rattle.sd_lex.specs.declared.token.Sign.TheVariants as signs
use Rattle.sd_lex.specs.Lexing.{IsName}
use Rattle.token_reader.specs.Terminals.{is_sign}
use Rattle.query_spec.specs.Query.{LinkLabel, quoted, label_variable, Link, Collect}
use Rattle.struql_ast.specs.declared.LinkLabel as declared
use Rattle.struql_ast.specs.declared.LinkLabel.TheVariants as label
use Rattle.struql_ast.specs.Reading.{label_of}
use Rattle.struql_ast.specs.Written as tree
use Rattle.struql_text.specs.declared.keyword.Keyword.{Keyword}
use Rattle.struql_text.specs.Terminals.{from_to, is_keyword, label_value}
use Rattle.struql_text.specs.Expression.{keyword}
use Rattle.struql_text.specs.Grammar as text
use Rattle.struql_text.proofs.TokenParts.{is_that}
use Rattle.struql_parse.specs.Blocks as blocks
use Rattle.struql_print.specs.Texts.{label_text, link_text, collect_text, clause_text}
use Rattle.struql_round.specs.ShownParts.{ShowsCollection}
use Rattle.struql_round.proofs.Conditions.{collection_is}
use Rattle.struql_round.specs.Spellable.{Every, IsLabel, IsLink, IsCollect}
use Rattle.struql_round.specs.Kept.{target_kept, link_kept, collect_kept}
use Rattle.struql_round.proofs.Lexing.{Lexing, Safe, Nil, Cons, Both, shown, nothing_more, gap, both, cons_shown, sign_then, sign_last}
use Rattle.struql_round.proofs.Texts.{word_then, name_then, collection_then, quoted_then}
use Rattle.struql_round.proofs.QueryTerms.{Spelt, source_lexing, target_lexing, listed_lexing}

-- a token that is this label
abbrev IsLabelToken : ℕ → LinkLabel → Token → Type 0
IsLabelToken version l t = (w : declared.LinkLabel) × (label_value version t ≡ Some w) × (label_of w ≡ l)

label_then : (version : ℕ) → {T : List Token → Type 0} {W : List ℕ → Type 0} {others : List ℕ} (l : LinkLabel) → IsLabel version l → ((later : List ℕ) → W later → Safe (others ++ later)) → Lexing T W others
    → Lexing (Cons (IsLabelToken version l) T) W (label_text l ++ others)
label_then version (quoted s) is ends h = cons_shown (λ t e. (label.Quoted s, rw e refl, refl)) (quoted_then s h)
label_then version (label_variable x) is ends h = cons_shown (λ t shows. (label.Variable x t.span, rw (shows.0, shows.1) refl, refl)) (name_then version x is ends h)

abbrev Arrow : Token → Type 0
Arrow t = is_sign signs.Arrow t ≡ true

link_spelt : (version : ℕ) → (k : Link) (tokens : List Token) → Both (Spelt (text.source version) target_kept k.source) (Cons Arrow (Cons (IsLabelToken version k.label) (Cons Arrow (Spelt (text.target version) target_kept k.target)))) tokens → Spelt (text.link version) link_kept k tokens
link_spelt version k tokens (front, back, parts, (s, source, same_source), (a, rest, is, arrow, (l, rest2, is2, (w, label, same_label), (b, rest3, is3, arrow2, (t, target, same_target))))) =
    let whole : tree.Link = record { source = s; label = w; target = t; span = from_to (text.target_span s) (text.target_span t) } in (
      whole,
      (
        front,
        back,
        s,
        parts,
        source,
        (
          a ∷ [],
          rest,
          a.span,
          is,
          is_that signs.Arrow a arrow,
          (
            l ∷ [],
            rest2,
            w,
            is2,
            (l, refl, label),
            (b ∷ [], rest3, b.span, is3, is_that signs.Arrow b arrow2, (rest3, [], t, sym (append-nil rest3), target, (refl, refl))),
          ),
        ),
      ),
      (λ i. record { source = same_source i; label = same_label i; target = same_target i }),
    )

pub link_lexing : (version : ℕ) → (k : Link) → IsLink version k → Lexing (Spelt (text.link version) link_kept k) Safe (link_text k)
link_lexing version k is =
    shown (link_spelt version k)
    (both (source_lexing version k.source is.0) (λ later w. (refl, refl, refl)) (gap 32 refl (sign_then signs.Arrow (λ later w. tt) (gap 32 refl
    (label_then version k.label is.1 (λ later w. (refl, refl, refl)) (gap 32 refl (sign_then signs.Arrow (λ later w. tt) (gap 32 refl (target_lexing version k.target is.2)))))))))

abbrev Sign : AnySign → Token → Type 0
Sign s t = is_sign s t ≡ true

collect_spelt : (version : ℕ) → (c : Collect) (tokens : List Token) → Cons (ShowsCollection version c.collection) (Cons (Sign signs.OpenParen) (Both (Spelt (text.source version) target_kept c.target) (Cons (Sign signs.CloseParen) Nil))) tokens → Spelt (text.collect version) collect_kept c tokens
collect_spelt version c tokens (n, rest, is, shows, (o, rest2, is2, opening, (front, back, parts, (t, target, same), (x, rest3, is3, closing, none)))) =
    let whole : tree.Collect = record { collection = c.collection; target = t; span = from_to n.span x.span } in (
      whole,
      (
        n ∷ [],
        rest,
        record { text = c.collection; span = n.span },
        is,
        (n, refl, collection_is version c.collection n shows),
        (
          o ∷ [],
          rest2,
          o.span,
          is2,
          is_that signs.OpenParen o opening,
          (front, back, t, parts, target, (x ∷ [], [], x.span, is3 ∙ ap (λ y. x ∷ y) none, is_that signs.CloseParen x closing, (refl, refl))),
        ),
      ),
      (λ i. record { collection = c.collection; target = same i }),
    )

pub collect_lexing : (version : ℕ) → (c : Collect) → IsCollect version c → Lexing (Spelt (text.collect version) collect_kept c) Safe (collect_text version c)
collect_lexing version c is =
    shown (collect_spelt version c)
    (collection_then version c.collection (λ later w. (refl, refl, refl)) (sign_then signs.OpenParen (λ later w. tt) (both (source_lexing version c.target is) (λ later w. (refl, refl, refl)) (sign_last signs.CloseParen (λ later w. tt)))))

-- ---- clauses

pub keyword_is : (k : Keyword) (t : Token) → is_keyword k t ≡ true → keyword k (t ∷ []) t.span
keyword_is k t is = (t, refl, rw is refl)

-- a clause is behind a blank, and is left out where it has no items
module _ {A B : Type 0} (k : Keyword) (word : List ℕ) (name : IsName word) (known : (t : Token) → t.kind ≡ kinds.Name word → is_keyword k t ≡ true)
    (P : List Token → A → Type 0) (kept : A → B) (f : B → List ℕ) (Is : B → Type 0) (each : (x : B) → Is x → Lexing (Spelt P kept x) Safe (f x)) where
  pub clause_lexing : (xs : List B) → Every Is xs → Lexing (Spelt (blocks.optional k P) (map kept) xs) Safe (clause_text word (map f xs))
  clause_lexing [] is = shown (λ tokens none. ([], inr (none, refl), refl)) nothing_more
  clause_lexing (x ∷ xs) is =
      shown (λ tokens h. (h.4.0, inl (h.0 ∷ [], h.1, h.0.span, h.2, keyword_is k h.0 (known h.0 h.3), h.4.1), h.4.2))
      (gap 32 refl (word_then word name (λ later w. (refl, refl, refl)) (gap 32 refl (listed_lexing P kept f Is each x xs is.0 is.1))))
