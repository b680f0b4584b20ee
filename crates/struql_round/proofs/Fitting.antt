-- An expression that was read within the limits keeps them in its canonical text: it has no parentheses there but those
-- that it was written with.
use Rattle.std.proofs.Common.{◌≡◌, ℕ, zero, suc, ◌+◌, Bool, true, false, List, refl, sym, subst, inl, inr}
use Rattle.std.specs.Prelude.{nat_lt, Some}
use Rattle.sd_lex.specs.declared.token.Span.{Span}
use Rattle.sd_lex.specs.declared.token.Token.{Token}
use Rattle.sd_lex.specs.declared.token.TokenKind.{TokenKind}
use Rattle.sd_lex.specs.declared.token.TokenKind.TheVariants as kinds
use Rattle.sd_lex.specs.declared.token.Sign.TheVariants as signs
use Rattle.rpe.specs.Regex.{Regex, label, any, empty, seq as seq_of, alt as alt_of, star as star_of}
use Rattle.grammar.specs.Grammar.{one, steps, guarded}
use Rattle.token_reader.specs.Terminals.{is_sign_kind}
use Rattle.struql_text.specs.declared.keyword.Keyword.TheVariants as words
use Rattle.struql_text.specs.Terminals.{keyword_of, is_found}
use Rattle.struql_text.specs.Expression.{Counted, Leaf, leaf_kind, leaf_value, bounded, leaf, star_step, post, dot_step, seq, bar_step, alt, expression, expression_within}
use Rattle.struql_text.proofs.ExpressionParts.{atoms}
use Rattle.struql_print.specs.Texts.{is_alt, is_alt_or_seq}
use Rattle.struql_round.specs.Shown.{signs_after, FitsIn, Fits}

-- ---- more room

fits_in_more : (b : Bool) (fits : ℕ → Type 0) → ((d : ℕ) → fits d → fits (suc d)) → (depth : ℕ) → FitsIn b fits depth → FitsIn b fits (suc depth)
fits_in_more false fits more depth h = more depth h
fits_in_more true fits more zero h = absurd h
fits_in_more true fits more (suc depth) h = more depth h

fits_more : (r : Regex) (n depth : ℕ) → Fits r n depth → Fits r n (suc depth)
fits_more (label l) n depth h = tt
fits_more any n depth h = tt
fits_more empty n depth h = tt
fits_more (seq_of r s) n depth h =
    (fits_in_more (is_alt r) (Fits r n) (fits_more r n) depth h.0, h.1, fits_in_more (is_alt_or_seq s) (Fits s (signs_after n r + 1)) (fits_more s (signs_after n r + 1)) depth h.2)
fits_more (alt_of r s) n depth h =
    (fits_more r n depth h.0, h.1, fits_in_more (is_alt s) (Fits s (signs_after n r + 1)) (fits_more s (signs_after n r + 1)) depth h.2)
fits_more (star_of r) n depth h = (fits_in_more (is_alt_or_seq r) (Fits r n) (fits_more r n) depth h.0, h.1)

-- in parentheses or not, it fits where there is room for them
fits_closed : (b : Bool) (r : Regex) (n depth : ℕ) → Fits r n depth → FitsIn b (Fits r n) (suc depth)
fits_closed false r n depth h = fits_more r n depth h
fits_closed true r n depth h = h

fits_open : (b : Bool) (r : Regex) (n depth : ℕ) → FitsIn b (Fits r n) depth → Fits r n depth
fits_open false r n depth h = h
fits_open true r n zero h = absurd h
fits_open true r n (suc depth) h = fits_more r n depth h

fits_looser : (r : Regex) (n depth : ℕ) → FitsIn (is_alt_or_seq r) (Fits r n) depth → FitsIn (is_alt r) (Fits r n) depth
fits_looser (label l) n depth h = h
fits_looser any n depth h = h
fits_looser empty n depth h = h
fits_looser (star_of r) n depth h = h
fits_looser (alt_of r s) n depth h = h
fits_looser (seq_of r s) n depth h = fits_open true (seq_of r s) n depth h

-- ---- what was read fits

-- as a phrase that stands without parentheses of its own beside stars, beside dots, and beside bars
abbrev AsPost : ℕ → ℕ → Counted → Type 0
AsPost depth n e = FitsIn (is_alt_or_seq e.tree) (Fits e.tree n) depth × (e.signs ≡ signs_after n e.tree)

abbrev AsSeq : ℕ → ℕ → Counted → Type 0
AsSeq depth n e = FitsIn (is_alt e.tree) (Fits e.tree n) depth × (e.signs ≡ signs_after n e.tree)

abbrev AsAlt : ℕ → ℕ → Counted → Type 0
AsAlt depth n e = Fits e.tree n depth × (e.signs ≡ signs_after n e.tree)

guard_open : {T A : Type 0} (P : List T → A → Type 0) (b : Bool) (ts : List T) (v : A) → guarded b P ts v → (b ≡ true) × P ts v
guard_open P true ts v h = (refl, h)
guard_open P false ts v h = absurd h

steps_kept : {T S : Type 0} (P : S → List T → S → Type 0) (Inv : S → Type 0) → ((s : S) (ts : List T) (s2 : S) → Inv s → P s ts s2 → Inv s2)
    → (k : ℕ) (s : S) (ts : List T) (s2 : S) → Inv s → steps P k s ts s2 → Inv s2
steps_kept P Inv keep zero s ts s2 is h = subst Inv (sym h.1) is
steps_kept P Inv keep (suc k) s ts s2 is (front, back, mid, e, p, q) = steps_kept P Inv keep k mid back s2 (keep s front mid is p) q

module _ (depth : ℕ) (atom_fits : (n : ℕ) (ts : List Token) (e : Counted) → atoms bounded depth n ts e → AsPost depth n e) where
  star_keeps : (n : ℕ) (s : Counted) (ts : List Token) (s2 : Counted) → AsPost depth n s → guarded (bounded.star s.tree) (star_step s) ts s2 → AsPost depth n s2
  star_keeps n s ts s2 is h =
      let g = guard_open (star_step s) (bounded.star s.tree) ts s2 h in
      subst (AsPost depth n) (sym g.1.5.1) ((is.0, g.0), is.1)

  post_fits : (n : ℕ) (ts : List Token) (e : Counted) → post bounded (atoms bounded depth) n ts e → AsPost depth n e
  post_fits n ts e (front, back, a, cut, first, (k, more)) =
      steps_kept (λ s. guarded (bounded.star s.tree) (star_step s)) (AsPost depth n) (star_keeps n) k a back e (atom_fits n front a first) more

  dot_keeps : (n : ℕ) (s : Counted) (ts : List Token) (s2 : Counted) → AsSeq depth n s → guarded (bounded.sign s.signs) (dot_step bounded (atoms bounded depth) s) ts s2 → AsSeq depth n s2
  dot_keeps n s ts s2 is h =
      let g = guard_open (dot_step bounded (atoms bounded depth) s) (bounded.sign s.signs) ts s2 h in
      let step = g.1.5 in
      let right = post_fits (s.signs + 1) step.0 step.2 step.4 in
      let room : nat_lt (signs_after n s.tree) 1023 ≡ true = subst (λ m. nat_lt m 1023 ≡ true) is.1 g.0 in
      let there : AsPost depth (signs_after n s.tree + 1) step.2 = subst (λ m. AsPost depth (m + 1) step.2) is.1 right in
      subst (AsSeq depth n) (sym step.5.1) ((is.0, room, there.0), there.1)

  seq_fits : (n : ℕ) (ts : List Token) (e : Counted) → seq bounded (atoms bounded depth) n ts e → AsSeq depth n e
  seq_fits n ts e (front, back, a, cut, first, (k, more)) =
      let begun = post_fits n front a first in
      steps_kept (λ s. guarded (bounded.sign s.signs) (dot_step bounded (atoms bounded depth) s)) (AsSeq depth n) (dot_keeps n) k a back e (fits_looser a.tree n depth begun.0, begun.1) more

  bar_keeps : (n : ℕ) (s : Counted) (ts : List Token) (s2 : Counted) → AsAlt depth n s → guarded (bounded.sign s.signs) (bar_step bounded (atoms bounded depth) s) ts s2 → AsAlt depth n s2
  bar_keeps n s ts s2 is h =
      let g = guard_open (bar_step bounded (atoms bounded depth) s) (bounded.sign s.signs) ts s2 h in
      let step = g.1.5 in
      let right = seq_fits (s.signs + 1) step.0 step.2 step.4 in
      let room : nat_lt (signs_after n s.tree) 1023 ≡ true = subst (λ m. nat_lt m 1023 ≡ true) is.1 g.0 in
      let there : AsSeq depth (signs_after n s.tree + 1) step.2 = subst (λ m. AsSeq depth (m + 1) step.2) is.1 right in
      subst (AsAlt depth n) (sym step.5.1) ((is.0, room, there.0), there.1)

  alt_fits : (n : ℕ) (ts : List Token) (e : Counted) → alt bounded (atoms bounded depth) n ts e → AsAlt depth n e
  alt_fits n ts e (front, back, a, cut, first, (k, more)) =
      let begun = seq_fits n front a first in
      steps_kept (λ s. guarded (bounded.sign s.signs) (bar_step bounded (atoms bounded depth) s)) (AsAlt depth n) (bar_keeps n) k a back e (fits_open (is_alt a.tree) a.tree n depth begun.0, begun.1) more

-- a leaf needs no parentheses
abbrev IsBare : Regex → Type 0
IsBare r = (n depth : ℕ) → FitsIn (is_alt_or_seq r) (Fits r n) depth × (n ≡ signs_after n r)

leaf_bare : (span : Span) (k : TokenKind) (l : Leaf) → leaf_kind span k ≡ Some l → IsBare l.tree
leaf_bare span (kinds.Name w) l h = named (is_found words.True (keyword_of w)) refl
  where
    named : (b : Bool) → is_found words.True (keyword_of w) ≡ b → IsBare l.tree
    named true e =
        let same : record { tree = any; span = span } ≡ l = (let g = rw e at h in cc) in
        subst (λ x. IsBare x.tree) same (λ n depth. (tt, refl))
    named false e = absurd (let g = rw e at h in cc)
leaf_bare span (kinds.Quoted q) l h =
    let same : record { tree = label q; span = span } ≡ l = cc in
    subst (λ x. IsBare x.tree) same (λ n depth. (tt, refl))
leaf_bare span (kinds.Int i) l h = absurd cc
leaf_bare span (kinds.Sign s) l h = starred (is_sign_kind signs.Star (kinds.Sign s)) refl
  where
    starred : (b : Bool) → is_sign_kind signs.Star (kinds.Sign s) ≡ b → IsBare l.tree
    starred true e =
        let same : record { tree = star_of any; span = span } ≡ l = (let g = rw e at h in cc) in
        subst (λ x. IsBare x.tree) same (λ n depth. ((tt, refl), refl))
    starred false e = absurd (let g = rw e at h in cc)

one_leaf : (ts : List Token) (l : Leaf) → one leaf_value ts l → IsBare l.tree
one_leaf ts l h = leaf_bare h.0.span h.0.kind l h.2

leaf_fits : (depth n : ℕ) (ts : List Token) (e : Counted) → leaf n ts e → AsPost depth n e
leaf_fits depth n ts e (front, back, l, cut, is, (none, same)) = subst (AsPost depth n) (sym same) (one_leaf front l is n depth)

in_atoms : (depth n : ℕ) (ts : List Token) (e : Counted) → expression bounded depth n ts e → alt bounded (atoms bounded depth) n ts e
in_atoms zero n ts e h = h
in_atoms (suc depth) n ts e h = h

atom_fits : (depth n : ℕ) (ts : List Token) (e : Counted) → atoms bounded depth n ts e → AsPost depth n e
atom_fits zero n ts e h = leaf_fits zero n ts e h
atom_fits (suc depth) n ts e (inr h) = leaf_fits (suc depth) n ts e h
atom_fits (suc depth) n ts e (inl (front, back, opening, cut, is, inl (f, b, close, cut2, is2, (none, same)))) =
    subst (AsPost (suc depth) n) (sym same) (tt, refl)
atom_fits (suc depth) n ts e (inl (front, back, opening, cut, is, inr (f, b, inner, cut2, read, (f2, b2, close, cut3, is3, (none, same))))) =
    let fits = alt_fits depth (atom_fits depth) n f inner (in_atoms depth n f inner read) in
    subst (AsPost (suc depth) n) (sym same) (fits_closed (is_alt_or_seq inner.tree) inner.tree n depth fits.0, fits.1)

pub expression_fits : (ts : List Token) (e : Counted) → expression_within ts e → Fits e.tree 0 64
expression_fits ts e h = (alt_fits 64 (atom_fits 64) 0 ts e (in_atoms 64 0 ts e h)).0
