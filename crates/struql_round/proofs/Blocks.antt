-- The canonical texts of blocks spell them.
use Rattle.std.proofs.Common.{◌≡◌, ℕ, zero, suc, Bool, true, false, List, [], ◌∷◌, ◌++◌, refl, sym, ap, subst, ◌∙◌, append_assoc}
use Rattle.std.specs.Prelude.{codes, map}
use Rattle.std.specs.List.{flat_map}
use Rattle.std.proofs.lemmas.List.{append-nil}
use Rattle.sd_lex.specs.declared.token.Token.{Token}
use Rattle.sd_lex.specs.declared.token.TokenKind.TheVariants as kinds
use Rattle.sd_lex.specs.declared.token.Span.{Span}
use Rattle.sd_lex.specs.declared.token.Sign.{Sign as AnySign}
use Rattle.sd_lex.specs.declared.token.Sign.TheVariants as signs
use Rattle.token_reader.specs.Terminals.{is_sign}
use Rattle.grammar.specs.Grammar.{iterated, guarded, never}
use Rattle.query_spec.specs.Query.{Condition, SkolemTerm, Body, Blocks, no_blocks, block}
use Rattle.struql_ast.specs.Written as tree
use Rattle.struql_text.specs.declared.keyword.Keyword.TheVariants as words
use Rattle.struql_text.specs.Terminals.{from_to, is_keyword, keyword_of}
use Rattle.struql_text.specs.Expression.{expression_within, sign}
use Rattle.struql_text.specs.Grammar as text
use Rattle.struql_text.proofs.TokenParts.{is_that}
use Rattle.struql_parse.specs.Blocks as blocks
use Rattle.struql_print.specs.Texts.{condition_text, term_text, link_text, collect_text, clause_text, body_text, block_texts}
use Rattle.struql_round.specs.ShownParts.{condition_kept, term_kept}
use Rattle.struql_round.proofs.Conditions.{condition_spelt}
use Rattle.struql_round.specs.Spellable.{IsCondition, IsTerm, IsLink, IsCollect, IsBody, AreBlocks}
use Rattle.struql_round.specs.Kept.{link_kept, collect_kept, clauses_kept, blocks_kept}
use Rattle.struql_round.proofs.Lexing.{Lexing, Any, Safe, Nil, Cons, Both, shown, before, same_text, nothing_more, gap, both, sign_then, sign_last}
use Rattle.struql_round.proofs.Texts.{condition_lexing}
use Rattle.struql_round.proofs.QueryTerms.{Spelt, term_lexing}
use Rattle.struql_round.proofs.Links.{link_lexing, collect_lexing, clause_lexing}

-- ---- the clauses of a block

where_shown : (t : Token) → t.kind ≡ kinds.Name (codes "WHERE") → is_keyword words.Where t ≡ true
unfolding keyword_of
where_shown t e = rw e refl

create_shown : (t : Token) → t.kind ≡ kinds.Name (codes "CREATE") → is_keyword words.Create t ≡ true
unfolding keyword_of
create_shown t e = rw e refl

link_shown : (t : Token) → t.kind ≡ kinds.Name (codes "LINK") → is_keyword words.Link t ≡ true
unfolding keyword_of
link_shown t e = rw e refl

collect_shown : (t : Token) → t.kind ≡ kinds.Name (codes "COLLECT") → is_keyword words.Collect t ≡ true
unfolding keyword_of
collect_shown t e = rw e refl

-- no text, or one whose first byte makes no token longer
abbrev IsGapped : List ℕ → Type 0
IsGapped [] = Unit {0}
IsGapped (b ∷ bytes) = Safe (b ∷ [])

gapped : (xs later : List ℕ) → IsGapped xs → Safe later → Safe (xs ++ later)
gapped [] later g w = w
gapped (b ∷ xs) later g w = g

gapped_both : (xs ys : List ℕ) → IsGapped xs → IsGapped ys → IsGapped (xs ++ ys)
gapped_both [] ys g h = h
gapped_both (b ∷ xs) ys g h = g

clause_gapped : (word : List ℕ) (texts : List (List ℕ)) → IsGapped (clause_text word texts)
clause_gapped word [] = tt
clause_gapped word (text ∷ texts) = (refl, refl, refl)

abbrev inner_text : ℕ → Blocks → List ℕ
inner_text version bs = flat_map (λ text. codes " " ++ text) (block_texts version bs)

inner_gapped : (texts : List (List ℕ)) → IsGapped (flat_map (λ text. codes " " ++ text) texts)
inner_gapped [] = tt
inner_gapped (text ∷ texts) = (refl, refl, refl)

expr_condition : (version : ℕ) (c : Condition) → IsCondition version c → Lexing (Spelt (text.condition version expression_within) condition_kept c) Safe (condition_text version c)
expr_condition version c is = shown (λ tokens h. condition_spelt version c tokens h) (condition_lexing version c is)

expr_term : (version : ℕ) → (t : SkolemTerm) → IsTerm version t → Lexing (Spelt (text.term version) term_kept t) Safe (term_text t)
expr_term version t is = before (λ later w. tt) (term_lexing version t is)

-- ---- blocks one after another

-- these blocks behind others
abbrev pub appended : Blocks → Blocks → Blocks
appended no_blocks bs = bs
appended (block b inner after) bs = block b inner (appended after bs)

appended_one : (xs : Blocks) (b : Body) (inner ys : Blocks) → appended (appended xs (block b inner no_blocks)) ys ≡ appended xs (block b inner ys)
appended_one no_blocks b inner ys = refl
appended_one (block c i after) b inner ys = ap (block c i) (appended_one after b inner ys)

pub end_kept : (done : tree.Blocks) (b : blocks.Body) (span : Span) → blocks_kept (blocks.onto_end done b span) ≡ appended (blocks_kept done) (block (clauses_kept b.clauses) (blocks_kept b.blocks) no_blocks)
end_kept tree.no_blocks b span = refl
end_kept (tree.block c inner place after) b span = ap (block (clauses_kept c) (blocks_kept inner)) (end_kept after b span)

pub one_kept : (done : tree.Blocks) (w : blocks.Body) (span : Span) (b : Body) (inner ys : Blocks) → clauses_kept w.clauses ≡ b → blocks_kept w.blocks ≡ inner
    → appended (blocks_kept (blocks.onto_end done w span)) ys ≡ appended (blocks_kept done) (block b inner ys)
one_kept done w span b inner ys e f = ap (λ x. appended x ys) (end_kept done w span) ∙ (appended_one (blocks_kept done) (clauses_kept w.clauses) (blocks_kept w.blocks) ys ∙ rw (e, f) refl)

pub none_behind : (xs : Blocks) → appended xs no_blocks ≡ xs
none_behind no_blocks = refl
none_behind (block b inner after) = ap (block b inner) (none_behind after)

abbrev room : ℕ → Bool
room zero = false
room (suc depth) = true

abbrev Is : AnySign → Token → Type 0
Is s t = is_sign s t ≡ true

-- its text
abbrev pub braced_text : ℕ → Body → Blocks → List ℕ
braced_text version b inner = codes "{" ++ (body_text version b ++ (flat_map (λ text. codes " " ++ text) (block_texts version inner) ++ codes " }"))

module _ (version : ℕ) where
  abbrev inner_of : ℕ → List Token → blocks.Body → Type 0
  inner_of zero = never
  inner_of (suc depth) = blocks.body version expression_within depth

  -- one more block in a body with room for so many, one within another
  abbrev step : ℕ → tree.Blocks → List Token → tree.Blocks → Type 0
  step depth so_far = guarded (room depth) (blocks.braces (inner_of depth) so_far)

  -- the tokens spell these blocks behind others
  abbrev Behind : ℕ → Blocks → List Token → Type 0
  Behind depth bs tokens = (done : tree.Blocks) → (last : tree.Blocks) × iterated (step depth) done tokens last × (blocks_kept last ≡ appended (blocks_kept done) bs)

  -- and a body with such clauses and blocks
  abbrev pub IsBodyOf : ℕ → Body → Blocks → List Token → Type 0
  IsBodyOf depth b inner tokens = (w : blocks.Body) × blocks.body version expression_within depth tokens w × (clauses_kept w.clauses ≡ b) × (blocks_kept w.blocks ≡ inner)

  body_by_depth : (depth : ℕ) (tokens : List Token) (w : blocks.Body) → blocks.body_of version expression_within (room depth) (inner_of depth) tokens w → blocks.body version expression_within depth tokens w
  body_by_depth zero tokens w h = h
  body_by_depth (suc depth) tokens w h = h

  body_spelt : (depth : ℕ) (b : Body) (inner : Blocks) (tokens : List Token)
      → Both (Spelt (blocks.optional words.Where (text.condition version expression_within)) (map condition_kept) b.conditions)
      (Both (Spelt (blocks.optional words.Create (text.term version)) (map term_kept) b.creates)
      (Both (Spelt (blocks.optional words.Link (text.link version)) (map link_kept) b.links)
      (Both (Spelt (blocks.optional words.Collect (text.collect version)) (map collect_kept) b.collects) (Behind depth inner)))) tokens
      → IsBodyOf depth b inner tokens
  body_spelt depth b inner tokens (f1, b1, e1, (cs, c, kept1), (f2, b2, e2, (ts, t, kept2), (f3, b3, e3, (ks, k, kept3), (f4, b4, e4, (os, o, kept4), behind)))) =
      let all = behind tree.no_blocks in
      let w : blocks.Body = record { clauses = record { conditions = cs; creates = ts; links = ks; collects = os }; blocks = all.0 } in (
        w,
        body_by_depth depth tokens w (f1, b1, cs, e1, c, (f2, b2, ts, e2, t, (f3, b3, ks, e3, k, (f4, b4, os, e4, o, (b4, [], all.0, sym (append-nil b4), all.1, (refl, refl)))))),
        (λ i. record { conditions = kept1 i; creates = kept2 i; links = kept3 i; collects = kept4 i }),
        all.2,
      )

  body_lexing : (depth : ℕ) (b : Body) (inner : Blocks) → IsBody version b → Lexing (Behind depth inner) Safe (inner_text version inner) → Lexing (IsBodyOf depth b inner) Safe (body_text version b ++ inner_text version inner)
  body_lexing depth b inner is within =
      let wheres = clause_text (codes "WHERE") (map (condition_text version) b.conditions) in
      let creates = clause_text (codes "CREATE") (map term_text b.creates) in
      let links = clause_text (codes "LINK") (map link_text b.links) in
      let collects = clause_text (codes "COLLECT") (map (collect_text version) b.collects) in
      let last = inner_text version inner in
      let gap4 : IsGapped (collects ++ last) = gapped_both collects last (clause_gapped (codes "COLLECT") (map (collect_text version) b.collects)) (inner_gapped (block_texts version inner)) in
      let gap3 : IsGapped (links ++ (collects ++ last)) = gapped_both links (collects ++ last) (clause_gapped (codes "LINK") (map link_text b.links)) gap4 in
      let gap2 : IsGapped (creates ++ (links ++ (collects ++ last))) = gapped_both creates (links ++ (collects ++ last)) (clause_gapped (codes "CREATE") (map term_text b.creates)) gap3 in
      let text_is : wheres ++ (creates ++ (links ++ (collects ++ last))) ≡ (wheres ++ (creates ++ (links ++ collects))) ++ last =
      sym (append_assoc wheres (creates ++ (links ++ collects)) last ∙ ap (λ x. wheres ++ x) (append_assoc creates (links ++ collects) last ∙ ap (λ x. creates ++ x) (append_assoc links collects last))) in
      same_text (body_text version b ++ inner_text version inner) text_is
      (shown (body_spelt depth b inner)
      (both (clause_lexing words.Where (codes "WHERE") (refl, (refl, (refl, (refl, (refl, tt))))) where_shown (text.condition version expression_within) condition_kept (condition_text version) (IsCondition version) (expr_condition version) b.conditions is.0) (λ later w. gapped (creates ++ (links ++ (collects ++ last))) later gap2 w)
      (both (clause_lexing words.Create (codes "CREATE") (refl, (refl, (refl, (refl, (refl, (refl, tt)))))) create_shown (text.term version) term_kept term_text (IsTerm version) (expr_term version) b.creates is.1) (λ later w. gapped (links ++ (collects ++ last)) later gap3 w)
      (both (clause_lexing words.Link (codes "LINK") (refl, (refl, (refl, (refl, tt)))) link_shown (text.link version) link_kept link_text (IsLink version) (link_lexing version) b.links is.2) (λ later w. gapped (collects ++ last) later gap4 w)
      (both (clause_lexing words.Collect (codes "COLLECT") (refl, (refl, (refl, (refl, (refl, (refl, (refl, tt))))))) collect_shown (text.collect version) collect_kept (collect_text version) (IsCollect version) (collect_lexing version) b.collects is.3) (λ later w. gapped (inner_text version inner) later (inner_gapped (block_texts version inner)) w)
      within)))))

  -- a block in braces
  abbrev pub Braced : ℕ → Body → Blocks → List Token → Type 0
  Braced depth b inner = Cons (Is signs.OpenBrace) (Both (IsBodyOf depth b inner) (Cons (Is signs.CloseBrace) Nil))

  braced_lexing : (depth : ℕ) (b : Body) (inner : Blocks) → IsBody version b → Lexing (Behind depth inner) Safe (inner_text version inner) → Lexing (Braced depth b inner) Any (braced_text version b inner)
  braced_lexing depth b inner is within =
      same_text (braced_text version b inner) (ap (λ x. codes "{" ++ x) (append_assoc (body_text version b) (inner_text version inner) (codes " }")))
      (sign_then signs.OpenBrace (λ later w. tt) (both (body_lexing depth b inner is within) (λ later w. (refl, refl, refl)) (gap 32 refl (sign_last signs.CloseBrace (λ later w. tt)))))

  one_behind : (depth : ℕ) (b : Body) (inner after : Blocks) (tokens : List Token) → Both (Braced depth b inner) (Behind (suc depth) after) tokens → Behind (suc depth) (block b inner after) tokens
  one_behind depth b inner after tokens (front, back, parts, (o, rest, is, opening, (f, k, cut, (w, body, same_clauses, same_blocks), (c, rest2, is2, closing, none))), later) done =
      let span = from_to o.span c.span in
      let next = blocks.onto_end done w span in
      let more = later next in (
        more.0,
        (
          suc more.1.0,
          (
            front,
            back,
            next,
            parts,
            (o ∷ [], rest, o.span, is, is_that signs.OpenBrace o opening, (f, k, w, cut, body, (k, [], c.span, sym (append-nil k), subst (λ ts. sign signs.CloseBrace ts c.span) (sym (is2 ∙ ap (λ y. c ∷ y) none)) (is_that signs.CloseBrace c closing), (refl, refl)))),
            more.1.1,
          ),
        ),
        more.2 ∙ one_kept done w span b inner after same_clauses same_blocks,
      )

  pub behind_lexing : (depth : ℕ) (bs : Blocks) → AreBlocks version depth bs → Lexing (Behind depth bs) Safe (inner_text version bs)
  behind_lexing depth no_blocks is = shown (λ tokens none done. (done, (0, (none, refl)), sym (none_behind (blocks_kept done)))) nothing_more
  behind_lexing zero (block b inner after) is = absurd is
  behind_lexing (suc depth) (block b inner after) is =
      gap 32 refl (shown (one_behind depth b inner after)
      (both (braced_lexing depth b inner is.0 (behind_lexing depth inner is.1)) (λ later w. tt) (behind_lexing (suc depth) after is.2)))

  pub block_lexing : (depth : ℕ) (b : Body) (inner : Blocks) → IsBody version b → AreBlocks version depth inner → Lexing (Braced depth b inner) Any (braced_text version b inner)
  block_lexing depth b inner is within = braced_lexing depth b inner is (behind_lexing depth inner within)
