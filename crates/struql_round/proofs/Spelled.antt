-- The tokens of an expression's canonical text spell it.
use Rattle.std.proofs.Common.{◌≡◌, ℕ, zero, suc, ◌+◌, Bool, true, false, List, [], ◌∷◌, ◌++◌, refl, sym, ap, subst, ◌∙◌, append_assoc, inl, inr}
use Rattle.std.specs.Prelude.{nat_lt, Some}
use Rattle.std.proofs.lemmas.List.{append-nil}
use Rattle.sd_lex.specs.declared.token.Span.{Span}
use Rattle.sd_lex.specs.declared.token.Token.{Token}
use Rattle.sd_lex.specs.declared.token.Sign.TheVariants as signs
use Rattle.sd_lex.specs.declared.token.TokenKind.TheVariants as kinds
use Rattle.rpe.specs.Regex.{Regex, label, any, empty, seq as seq_of, alt as alt_of, star as star_of}
use Rattle.grammar.specs.Grammar.{steps, guarded}
use Rattle.token_reader.specs.Terminals.{is_sign}
use Rattle.struql_text.specs.Terminals.{from_to, keyword_of}
use Rattle.struql_text.specs.Expression.{Counted, leaf_value, bounded, leaf, star_step, post, dot_step, seq, bar_step, alt, expression, stars}
use Rattle.struql_text.proofs.ExpressionParts.{atoms}
use Rattle.struql_text.proofs.TokenParts.{is_that}
use Rattle.struql_print.specs.Texts.{is_alt, is_alt_or_seq}
use Rattle.struql_round.specs.Shown.{Wrapped, Shows, signs_after, FitsIn, Fits}

-- one step more behind others
steps_snoc : {T S : Type 0} (P : S → List T → S → Type 0) (k : ℕ) (s : S) (x : List T) (v : S) (y : List T) (w : S) → steps P k s x v → P v y w → steps P (suc k) s (x ++ y) w
steps_snoc P zero s x v y w h p = (y, [], w, ap (λ z. z ++ y) h.0 ∙ sym (append-nil y), subst (λ z. P z y w) h.1 p, (refl, refl))
steps_snoc P (suc k) s x v y w h p =
    (h.0, h.1 ++ y, h.2, ap (λ z. z ++ y) h.3 ∙ append_assoc h.0 h.1 y, h.4, steps_snoc P k h.2 h.1 v y w h.5 p)

guarded_in : {T A : Type 0} (P : List T → A → Type 0) (b : Bool) (x : List T) (v : A) → b ≡ true → P x v → guarded b P x v
guarded_in P true x v e h = h
guarded_in P false x v e h = absurd cc

-- the tokens spell the expression, as one of these kinds of phrases
abbrev Spells : (ℕ → List Token → Counted → Type 0) → ℕ → Regex → List Token → Type 0
Spells P n r tokens = (span : Span) × P n tokens (record { tree = r; span = span; signs = signs_after n r })

module _ (depth : ℕ) where
  abbrev Post : ℕ → List Token → Counted → Type 0
  Post = post bounded (atoms bounded depth)

  abbrev Seq : ℕ → List Token → Counted → Type 0
  Seq = seq bounded (atoms bounded depth)

  abbrev Alt : ℕ → List Token → Counted → Type 0
  Alt = alt bounded (atoms bounded depth)

  atom_post : (n : ℕ) (r : Regex) (ts : List Token) → Spells (atoms bounded depth) n r ts → Spells Post n r ts
  atom_post n r ts h = (h.0, (ts, [], record { tree = r; span = h.0; signs = signs_after n r }, sym (append-nil ts), h.1, (0, (refl, refl))))

  post_seq : (n : ℕ) (r : Regex) (ts : List Token) → Spells Post n r ts → Spells Seq n r ts
  post_seq n r ts h = (h.0, (ts, [], record { tree = r; span = h.0; signs = signs_after n r }, sym (append-nil ts), h.1, (0, (refl, refl))))

  seq_alt : (n : ℕ) (r : Regex) (ts : List Token) → Spells Seq n r ts → Spells Alt n r ts
  seq_alt n r ts h = (h.0, (ts, [], record { tree = r; span = h.0; signs = signs_after n r }, sym (append-nil ts), h.1, (0, (refl, refl))))

  -- one star, dot or bar more
  starred : (n : ℕ) (r : Regex) (xs : List Token) (t : Token) → nat_lt (stars r) 64 ≡ true → is_sign signs.Star t ≡ true → Spells Post n r xs → Spells Post n (star_of r) (xs ++ t ∷ [])
  starred n r xs t room is h =
      let p = h.1 in
      let last : Counted = record { tree = r; span = h.0; signs = signs_after n r } in
      let next : Counted = record { tree = star_of r; span = from_to h.0 t.span; signs = signs_after n r } in
      let step : star_step last (t ∷ []) next = (t ∷ [], [], t.span, refl, is_that signs.Star t is, (refl, refl)) in (
        from_to h.0 t.span,
        (
          p.0,
          p.1 ++ t ∷ [],
          p.2,
          ap (λ z. z ++ t ∷ []) p.3 ∙ append_assoc p.0 p.1 (t ∷ []),
          p.4,
          (suc p.5.0, steps_snoc (λ e. guarded (bounded.star e.tree) (star_step e)) p.5.0 p.2 p.1 last (t ∷ []) next p.5.1 (guarded_in (star_step last) (nat_lt (stars r) 64) (t ∷ []) next room step)),
        ),
      )

  dotted : (n : ℕ) (r s : Regex) (xs : List Token) (t : Token) (ys : List Token) → nat_lt (signs_after n r) 1023 ≡ true → is_sign signs.Dot t ≡ true → Spells Seq n r xs → Spells Post (signs_after n r + 1) s ys → Spells Seq n (seq_of r s) (xs ++ t ∷ ys)
  dotted n r s xs t ys room is h k =
      let p = h.1 in
      let last : Counted = record { tree = r; span = h.0; signs = signs_after n r } in
      let right : Counted = record { tree = s; span = k.0; signs = signs_after (signs_after n r + 1) s } in
      let next : Counted = record { tree = seq_of r s; span = from_to h.0 k.0; signs = signs_after (signs_after n r + 1) s } in
      let step : dot_step bounded (atoms bounded depth) last (t ∷ ys) next = (t ∷ [], ys, t.span, refl, is_that signs.Dot t is, (ys, [], right, sym (append-nil ys), k.1, (refl, refl))) in (
        from_to h.0 k.0,
        (
          p.0,
          p.1 ++ t ∷ ys,
          p.2,
          ap (λ z. z ++ t ∷ ys) p.3 ∙ append_assoc p.0 p.1 (t ∷ ys),
          p.4,
          (suc p.5.0, steps_snoc (λ e. guarded (bounded.sign e.signs) (dot_step bounded (atoms bounded depth) e)) p.5.0 p.2 p.1 last (t ∷ ys) next p.5.1 (guarded_in (dot_step bounded (atoms bounded depth) last) (nat_lt (signs_after n r) 1023) (t ∷ ys) next room step)),
        ),
      )

  barred : (n : ℕ) (r s : Regex) (xs : List Token) (t : Token) (ys : List Token) → nat_lt (signs_after n r) 1023 ≡ true → is_sign signs.Bar t ≡ true → Spells Alt n r xs → Spells Seq (signs_after n r + 1) s ys → Spells Alt n (alt_of r s) (xs ++ t ∷ ys)
  barred n r s xs t ys room is h k =
      let p = h.1 in
      let last : Counted = record { tree = r; span = h.0; signs = signs_after n r } in
      let right : Counted = record { tree = s; span = k.0; signs = signs_after (signs_after n r + 1) s } in
      let next : Counted = record { tree = alt_of r s; span = from_to h.0 k.0; signs = signs_after (signs_after n r + 1) s } in
      let step : bar_step bounded (atoms bounded depth) last (t ∷ ys) next = (t ∷ [], ys, t.span, refl, is_that signs.Bar t is, (ys, [], right, sym (append-nil ys), k.1, (refl, refl))) in (
        from_to h.0 k.0,
        (
          p.0,
          p.1 ++ t ∷ ys,
          p.2,
          ap (λ z. z ++ t ∷ ys) p.3 ∙ append_assoc p.0 p.1 (t ∷ ys),
          p.4,
          (suc p.5.0, steps_snoc (λ e. guarded (bounded.sign e.signs) (bar_step bounded (atoms bounded depth) e)) p.5.0 p.2 p.1 last (t ∷ ys) next p.5.1 (guarded_in (bar_step bounded (atoms bounded depth) last) (nat_lt (signs_after n r) 1023) (t ∷ ys) next room step)),
        ),
      )

-- an expression by its atoms
in_atoms : (depth n : ℕ) (ts : List Token) (v : Counted) → alt bounded (atoms bounded depth) n ts v → expression bounded depth n ts v
in_atoms zero n ts v h = h
in_atoms (suc depth) n ts v h = h

leaf_atom : (depth n : ℕ) (ts : List Token) (v : Counted) → leaf n ts v → atoms bounded depth n ts v
leaf_atom zero n ts v h = h
leaf_atom (suc depth) n ts v h = inr h

-- in parentheses
closed : (depth n : ℕ) (r : Regex) (o : Token) (xs : List Token) (c : Token) → is_sign signs.OpenParen o ≡ true → is_sign signs.CloseParen c ≡ true → Spells (Alt depth) n r xs → Spells (atoms bounded (suc depth)) n r (o ∷ (xs ++ c ∷ []))
closed depth n r o xs c is ends h = (
  from_to o.span c.span,
  inl (
    o ∷ [],
    xs ++ c ∷ [],
    o.span,
    refl,
    is_that signs.OpenParen o is,
    inr (xs, c ∷ [], record { tree = r; span = h.0; signs = signs_after n r }, refl, in_atoms depth n xs _ h.1, (c ∷ [], [], c.span, refl, is_that signs.CloseParen c ends, (refl, refl))),
  ),
)

-- as the tightest phrase that it is
abbrev Tight : Regex → ℕ → ℕ → List Token → Type 0
Tight (label l) depth n ts = Spells (Post depth) n (label l) ts
Tight any depth n ts = Spells (Post depth) n any ts
Tight empty depth n ts = Spells (Post depth) n empty ts
Tight (star_of r) depth n ts = Spells (Post depth) n (star_of r) ts
Tight (seq_of r s) depth n ts = Spells (Seq depth) n (seq_of r s) ts
Tight (alt_of r s) depth n ts = Spells (Alt depth) n (alt_of r s) ts

abbrev Spelt : Regex → Type 0
Spelt r = (depth n : ℕ) (ts : List Token) → Fits r n depth → Shows r ts → Tight r depth n ts

tight_alt : (r : Regex) (depth n : ℕ) (ts : List Token) → Tight r depth n ts → Spells (Alt depth) n r ts
tight_alt (label l) depth n ts h = seq_alt depth n (label l) ts (post_seq depth n (label l) ts h)
tight_alt any depth n ts h = seq_alt depth n any ts (post_seq depth n any ts h)
tight_alt empty depth n ts h = seq_alt depth n empty ts (post_seq depth n empty ts h)
tight_alt (star_of r) depth n ts h = seq_alt depth n (star_of r) ts (post_seq depth n (star_of r) ts h)
tight_alt (seq_of r s) depth n ts h = seq_alt depth n (seq_of r s) ts h
tight_alt (alt_of r s) depth n ts h = h

wrapped : (r : Regex) → Spelt r → (depth n : ℕ) (ts : List Token) → FitsIn true (Fits r n) depth → Wrapped true (Shows r) ts → Spells (Post depth) n r ts
wrapped r spelt zero n ts fits w = absurd fits
wrapped r spelt (suc depth) n ts fits w =
    subst (λ x. Spells (Post (suc depth)) n r x) (sym w.3)
    (atom_post (suc depth) n r (w.0 ∷ (w.1 ++ w.2 ∷ [])) (closed depth n r w.0 w.1 w.2 w.4 w.6 (tight_alt r depth n w.1 (spelt depth n w.1 fits w.5))))

as_seq : (r : Regex) → Spelt r → (depth n : ℕ) (ts : List Token) → FitsIn (is_alt r) (Fits r n) depth → Wrapped (is_alt r) (Shows r) ts → Spells (Seq depth) n r ts
as_seq (label l) spelt depth n ts fits w = post_seq depth n (label l) ts (spelt depth n ts fits w)
as_seq any spelt depth n ts fits w = post_seq depth n any ts (spelt depth n ts fits w)
as_seq empty spelt depth n ts fits w = post_seq depth n empty ts (spelt depth n ts fits w)
as_seq (star_of r) spelt depth n ts fits w = post_seq depth n (star_of r) ts (spelt depth n ts fits w)
as_seq (seq_of r s) spelt depth n ts fits w = spelt depth n ts fits w
as_seq (alt_of r s) spelt depth n ts fits w = post_seq depth n (alt_of r s) ts (wrapped (alt_of r s) spelt depth n ts fits w)

as_post : (r : Regex) → Spelt r → (depth n : ℕ) (ts : List Token) → FitsIn (is_alt_or_seq r) (Fits r n) depth → Wrapped (is_alt_or_seq r) (Shows r) ts → Spells (Post depth) n r ts
as_post (label l) spelt depth n ts fits w = spelt depth n ts fits w
as_post any spelt depth n ts fits w = spelt depth n ts fits w
as_post empty spelt depth n ts fits w = spelt depth n ts fits w
as_post (star_of r) spelt depth n ts fits w = spelt depth n ts fits w
as_post (seq_of r s) spelt depth n ts fits w = wrapped (seq_of r s) spelt depth n ts fits w
as_post (alt_of r s) spelt depth n ts fits w = wrapped (alt_of r s) spelt depth n ts fits w

true_is : (t : Token) → t.kind ≡ kinds.Name (116 ∷ 114 ∷ 117 ∷ 101 ∷ []) → leaf_value t ≡ Some (record { tree = any; span = t.span })
unfolding keyword_of
true_is t e = rw e refl

label_is : (t : Token) (l : List ℕ) → t.kind ≡ kinds.Quoted l → leaf_value t ≡ Some (record { tree = label l; span = t.span })
label_is t l e = rw e refl

pub spelt : (r : Regex) → Spelt r
spelt (label l) depth n ts fits h =
    atom_post depth n (label l) ts (h.0.span, leaf_atom depth n ts _ (ts, [], record { tree = label l; span = h.0.span }, sym (append-nil ts), (h.0, h.1, label_is h.0 l h.2), (refl, refl)))
spelt any depth n ts fits h =
    atom_post depth n any ts (h.0.span, leaf_atom depth n ts _ (ts, [], record { tree = any; span = h.0.span }, sym (append-nil ts), (h.0, h.1, true_is h.0 h.2), (refl, refl)))
spelt empty zero n ts fits h = absurd fits
spelt empty (suc depth) n ts fits h =
    subst (λ x. Spells (Post (suc depth)) n empty x) (sym h.2)
    (atom_post (suc depth) n empty (h.0 ∷ h.1 ∷ [])
    (from_to h.0.span h.1.span, inl (h.0 ∷ [], h.1 ∷ [], h.0.span, refl, is_that signs.OpenParen h.0 h.3, inl (h.1 ∷ [], [], h.1.span, refl, is_that signs.CloseParen h.1 h.4, (refl, refl)))))
spelt (star_of r) depth n ts fits h =
    subst (λ x. Spells (Post depth) n (star_of r) x) (sym h.2) (starred depth n r h.0 h.1 fits.1 h.4 (as_post r (spelt r) depth n h.0 fits.0 h.3))
spelt (seq_of r s) depth n ts fits h =
    subst (λ x. Spells (Seq depth) n (seq_of r s) x) (sym h.3)
    (dotted depth n r s h.0 h.1 h.2 fits.1 h.5 (as_seq r (spelt r) depth n h.0 fits.0 h.4) (as_post s (spelt s) depth (signs_after n r + 1) h.2 fits.2 h.6))
spelt (alt_of r s) depth n ts fits h =
    subst (λ x. Spells (Alt depth) n (alt_of r s) x) (sym h.3)
    (barred depth n r s h.0 h.1 h.2 fits.1 h.5 (tight_alt r depth n h.0 (spelt r depth n h.0 fits.0 h.4)) (as_seq s (spelt s) depth (signs_after n r + 1) h.2 fits.2 h.6))

pub spelt_within : (r : Regex) (ts : List Token) → Fits r 0 64 → Shows r ts → (span : Span) × expression bounded 64 0 ts (record { tree = r; span = span; signs = signs_after 0 r })
spelt_within r ts fits h = let s = tight_alt r 64 0 ts (spelt r 64 0 ts fits h) in (s.0, in_atoms 64 0 ts _ s.1)
