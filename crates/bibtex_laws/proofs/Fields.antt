-- The part for the fields of an entry.
use Rattle.std.proofs.Common.{◌≡◌, ◌<◌, ◌≤◌, ℕ, zero, suc, Bool, true, false, List, [], ◌∷◌, ◌++◌, length, length-append, refl, sym, ap, subst, ◌∙◌, append_assoc, inl, inr, arith}
use Rattle.std.specs.Prelude.{◌⊎◌, nat_eq}
use Rattle.std.proofs.lemmas.List.{append-nil}
use Rattle.grammar.specs.Grammar.{nothing, ◌>>=◌, ◌>>◌, either, many}
use Rattle.grammar.specs.Reading.{Outcome, Read, Stuck, Past, and_then, starts, choose}
use Rattle.grammar.proofs.Parts.{Opens, opens_then, first_is}
use Rattle.bibtex_laws.proofs.Laws.{Reads, weaken, restate, give_reads, then_reads, choose_reads}
use Rattle.bibtex_laws.proofs.Parts.{Part, part_within}
use Rattle.bibtex_spec.specs.declared.Field.{Field}
use Rattle.bibtex_spec.specs.Bytes.{is_name_byte, begins_name}
use Rattle.bibtex_spec.specs.Macros.{MacroTexts}
use Rattle.bibtex_spec.specs.Reading.{read_mark, read_field, listed, read_fields}
use Rattle.bibtex_laws.specs.Grammar.{Rules, strict, free, mark, field, fields}
use Rattle.bibtex_laws.specs.Limits.{IsByte, IsLimit, none}
use Rattle.bibtex_laws.proofs.Words.{Clear}
use Rattle.bibtex_laws.proofs.Marks.{mark_part, mark_opens, not_blank, begin_apart, begins_in_name}
use Rattle.bibtex_laws.proofs.Pieces.{not_in, starts_none}
use Rattle.bibtex_laws.proofs.Values.{Done, next_to, field_part, field_opens}

-- what may stand behind fields: as behind a value, and no comma
abbrev pub Shut : Bool → List ℕ → Type 0
Shut wide rest = Done wide rest × (starts (nat_eq 44) rest ≡ false)

module _ (macros : MacroTexts) where
  abbrev after_comma : (List ℕ → Outcome ℕ (List Field)) → List ℕ → Outcome ℕ (List Field)
  after_comma again = choose (begins_name macros.stand) (λ ts. and_then (read_field macros ts) (λ f rest. and_then (again rest) (λ fs last. Read (f ∷ fs) last))) (λ ts. Read [] ts)

  -- a comma, and behind it a field or nothing
  abbrev turn : (List ℕ → Outcome ℕ (List Field)) → List ℕ → Outcome ℕ (List Field)
  turn again = choose (nat_eq 44) (λ ts. and_then (read_mark 44 ts) (λ _ rest. after_comma again rest)) (λ ts. Read [] ts)

  comma : Part IsByte (IsLimit macros) (mark 44) (mark 44) (Clear none) (read_mark 44)
  comma = mark_part 44 (omega arith)

  comma_shrinks : (ts : List ℕ) (v : ℕ) (rest : List ℕ) → read_mark 44 ts ≡ Read v rest → length rest < length ts
  comma_shrinks ts v rest e =
      let a = (comma.reads ts).core.sound v rest e in
      let o = mark_opens 44 (λ t. Unit {0}) tt a.0 v a.2 in
      omega (arith, ap length a.1, ap length o.2, length-append a.0 rest)

  field_shrinks : (ts : List ℕ) (v : Field) (rest : List ℕ) → read_field macros ts ≡ Read v rest → length rest ≤ length ts
  field_shrinks ts v rest e =
      let a = ((field_part macros).reads ts).core.sound v rest e in
      omega (arith, ap length a.1, length-append a.0 rest)

  same_field : (n m : List ℕ → Outcome ℕ (List Field)) (ts : List ℕ) (b : Bool) (o : Outcome ℕ Field) → starts (begins_name macros.stand) ts ≡ b → read_field macros ts ≡ o → ((f : Field) (rest : List ℕ) → o ≡ Read f rest → n rest ≡ m rest) → after_comma n ts ≡ after_comma m ts
  same_field n m ts false o is was same = rw is refl
  same_field n m ts true (Stuck rest) is was same = rw (is, was) refl
  same_field n m ts true (Past rest) is was same = rw (is, was) refl
  same_field n m ts true (Read f rest) is was same = rw (is, was, same f rest refl) refl

  same_turn : (n m : List ℕ → Outcome ℕ (List Field)) (ts : List ℕ) (b : Bool) (o : Outcome ℕ ℕ) → starts (nat_eq 44) ts ≡ b → read_mark 44 ts ≡ o → ((rest : List ℕ) → length rest < length ts → n rest ≡ m rest) → turn n ts ≡ turn m ts
  same_turn n m ts false o is was same = rw is refl
  same_turn n m ts true (Stuck rest) is was same = rw (is, was) refl
  same_turn n m ts true (Past rest) is was same = rw (is, was) refl
  same_turn n m ts true (Read v inner) is was same =
      let less = comma_shrinks ts v inner was in
      let inside : after_comma n inner ≡ after_comma m inner =
      same_field n m inner (starts (begins_name macros.stand) inner) (read_field macros inner) refl refl
      (λ f rest e. let few = field_shrinks inner f rest e in same rest (omega (arith, less, few))) in
      rw (is, was) inside

  agree : (n m : ℕ) (ts : List ℕ) → length ts ≤ n → length ts ≤ m → listed macros n ts ≡ listed macros m ts
  agree zero zero ts a b = refl
  agree zero (suc m) [] a b = refl
  agree zero (suc m) (t ∷ ts) a b = absurd (omega arith)
  agree (suc n) zero [] a b = refl
  agree (suc n) zero (t ∷ ts) a b = absurd (omega arith)
  agree (suc n) (suc m) ts a b =
      same_turn (listed macros n) (listed macros m) ts (starts (nat_eq 44) ts) (read_mark 44 ts) refl refl
      (λ rest less. agree n m rest (omega (arith, a, less)) (omega (arith, b, less)))

  fields_turn : (ts : List ℕ) → read_fields macros ts ≡ turn (read_fields macros) ts
  unfolding read_fields
  fields_turn [] = refl
  fields_turn (t ∷ ts) =
      same_turn (listed macros (length ts)) (λ rest. listed macros (length rest) rest) (t ∷ ts) (nat_eq 44 t) (read_mark 44 (t ∷ ts)) refl refl
      (λ rest less. agree (length ts) (length rest) rest (omega (arith, less)) (omega arith))

  -- the grammar, a field at a time

  module _ (rules : Rules) where
    abbrev begun : List ℕ → List Field → Type 0
    begun = field rules >>= λ f. fields rules >>= λ fs. nothing (f ∷ fs)

    abbrev perhaps : List ℕ → List Field → Type 0
    perhaps = either begun (nothing [])

    abbrev by_turns : List ℕ → List Field → Type 0
    by_turns = either (mark 44 >> perhaps) (nothing [])

    none_many : (x : List ℕ) → x ≡ [] → many (mark 44 >> field rules) x []
    none_many x e = e

    to_fields : (x : List ℕ) (vs : List Field) → by_turns x vs → fields rules x vs
    to_fields x vs (inr h) = ([], [], [], h.0, refl, inr (refl, h.1))
    to_fields x vs (inl h) = after h.5
      where
        after : perhaps h.1 vs → fields rules x vs
        after (inr k) =
            ([], x, [], refl, refl, inl (h.0, [], h.2, h.3 ∙ ap (λ y. h.0 ++ y) k.0, h.4, (refl, k.1)))
        after (inl k) =
            let f = k.2 in
            let inner = k.5 in
            let fs = inner.4 in
            let tail : k.1 ≡ inner.0 = inner.3 ∙ ap (λ y. inner.0 ++ y) inner.5.0 ∙ append-nil inner.0 in (
              h.0 ++ (k.0 ++ fs.0),
              fs.1,
              f ∷ fs.2,
              h.3 ∙ ap (λ y. h.0 ++ y) (k.3 ∙ ap (λ y. k.0 ++ y) (tail ∙ fs.3) ∙ sym (append_assoc k.0 fs.0 fs.1)) ∙ sym (append_assoc h.0 (k.0 ++ fs.0) fs.1),
              (h.0 ++ k.0, fs.0, sym (append_assoc h.0 k.0 fs.0), (h.0, k.0, h.2, refl, h.4, k.4), fs.4),
              last fs.1 fs.2 f inner.2 fs.5 inner.5.1,
            )
          where
            last : (y : List ℕ) (us : List Field) (f : Field) (gs : List Field) → either (mark 44 >> nothing us) (nothing us) y gs → vs ≡ f ∷ gs → either (mark 44 >> nothing (f ∷ us)) (nothing (f ∷ us)) y vs
            last y us f gs (inl a) e = inl (a.0, a.1, a.2, a.3, a.4, (a.5.0, e ∙ ap (λ z. f ∷ z) a.5.1))
            last y us f gs (inr a) e = inr (a.0, e ∙ ap (λ z. f ∷ z) a.1)

    from_fields : (x : List ℕ) (vs : List Field) → fields rules x vs → by_turns x vs
    from_fields x vs h = by h.2 h.4 h.5
      where
        by : (us : List Field) → many (mark 44 >> field rules) h.0 us → either (mark 44 >> nothing us) (nothing us) h.1 vs → by_turns x vs
        by [] none (inr a) = inr (h.3 ∙ ap (λ y. y ++ h.1) none ∙ a.0, a.1)
        by [] none (inl a) = inl (a.0, a.1, a.2, h.3 ∙ ap (λ y. y ++ h.1) none ∙ a.3, a.4, inr a.5)
        by (f ∷ us) m last =
            let one = m.3 in
            inl (
              one.0,
              one.1 ++ (m.1 ++ h.1),
              one.2,
              h.3 ∙ ap (λ y. y ++ h.1) (m.2 ∙ ap (λ y. y ++ m.1) one.3) ∙ append_assoc (one.0 ++ one.1) m.1 h.1 ∙ append_assoc one.0 one.1 (m.1 ++ h.1),
              one.4,
              inl (one.1, m.1 ++ h.1, f, refl, one.5, found last),
            )
          where
            found : either (mark 44 >> nothing (f ∷ us)) (nothing (f ∷ us)) h.1 vs → (fields rules >>= λ fs. nothing (f ∷ fs)) (m.1 ++ h.1) vs
            found (inl a) = (m.1 ++ h.1, [], us, sym (append-nil (m.1 ++ h.1)), (m.1, h.1, us, refl, m.4, inl (a.0, a.1, a.2, a.3, a.4, (a.5.0, refl))), (refl, a.5.1))
            found (inr a) = (m.1 ++ h.1, [], us, sym (append-nil (m.1 ++ h.1)), (m.1, h.1, us, refl, m.4, inr (a.0, refl)), (refl, a.1))

  -- fields are none, or begin with a comma
  pub fields_begin : (x : List ℕ) (vs : List Field) → fields (free macros) x vs → (x ≡ []) ⊎ ((later : List ℕ) × (x ≡ 44 ∷ later))
  fields_begin x vs h = by (from_fields (free macros) x vs h)
    where
      by : by_turns (free macros) x vs → (x ≡ []) ⊎ ((later : List ℕ) × (x ≡ 44 ∷ later))
      by (inr h) = inl h.0
      by (inl h) =
          let o = mark_opens 44 (λ t. t ≡ 44) refl h.0 h.2 h.4 in
          inr (o.1 ++ h.1, h.3 ∙ ap (λ y. y ++ h.1) o.2 ∙ ap (λ t. t ∷ (o.1 ++ h.1)) o.3)

  pub fields_follow : (G : List ℕ → Type 0) → ((later : List ℕ) → G (44 ∷ later)) → (x : List ℕ) (vs : List Field) (rest : List ℕ) → fields (free macros) x vs → G rest → G (x ++ rest)
  fields_follow G may x vs rest h g = by (fields_begin x vs h)
    where
      by : (x ≡ []) ⊎ ((later : List ℕ) × (x ≡ 44 ∷ later)) → G (x ++ rest)
      by (inl none) = next_to G x rest none g
      by (inr some) = subst (λ y. G (y ++ rest)) (sym some.1) (may (some.0 ++ rest))

  done_comma : (later : List ℕ) → (Done macros.stand) (44 ∷ later)
  done_comma later = ((refl, refl), refl)

  -- its laws, by the length of what is to be read

  many_in : (x : List ℕ) (vs : List Field) → many (mark 44 >> field (strict macros)) x vs → many (mark 44 >> field (free macros)) x vs
  many_in x [] h = h
  many_in x (v ∷ vs) h = (h.0, h.1, h.2, (h.3.0, h.3.1, h.3.2, h.3.3, h.3.4, part_within (field_part macros) h.3.1 v h.3.5), many_in h.1 vs h.4)

  pub fields_in : (x : List ℕ) (vs : List Field) → fields (strict macros) x vs → fields (free macros) x vs
  fields_in x vs h = (h.0, h.1, h.2, h.3, many_in h.0 h.2 h.4, h.5)

  begun_in : (x : List ℕ) (vs : List Field) → begun (strict macros) x vs → begun (free macros) x vs
  begun_in x vs h = (h.0, h.1, h.2, h.3, part_within (field_part macros) h.0 h.2 h.4, (h.5.0, h.5.1, h.5.2, h.5.3, fields_in h.5.0 h.5.2 h.5.4, h.5.5))

  perhaps_in : (x : List ℕ) (vs : List Field) → perhaps (strict macros) x vs → perhaps (free macros) x vs
  perhaps_in x vs (inl h) = inl (begun_in x vs h)
  perhaps_in x vs (inr h) = inr h

  begun_opens : Opens (begun (free macros)) (λ t. begins_name macros.stand t ≡ true)
  begun_opens = opens_then (field (free macros)) _ (λ t. begins_name macros.stand t ≡ true) (field_opens macros)

  abbrev Law : (List ℕ → List Field → Type 0) → (List ℕ → List Field → Type 0) → (List ℕ → Outcome ℕ (List Field)) → List ℕ → Type 0
  Law P U read tokens = Reads IsByte (IsLimit macros) P U (Shut macros.stand) read tokens

  abbrev Fields_read : List ℕ → Type 0
  Fields_read tokens = Law (fields (strict macros)) (fields (free macros)) (read_fields macros) tokens

  no_fields : (rules : Rules) → fields rules [] []
  no_fields rules = ([], [], [], refl, refl, inr (refl, refl))

  one_more : (f : Field) (r : List ℕ) → Fields_read r
      → Law (fields (strict macros) >>= λ fs. nothing (f ∷ fs)) (fields (free macros) >>= λ fs. nothing (f ∷ fs)) (λ ts. and_then (read_fields macros ts) (λ fs last. Read (f ∷ fs) last)) r
  one_more f r again = then_reads IsByte (IsLimit macros) (fields (strict macros)) (fields (free macros)) (λ fs. nothing (f ∷ fs)) (λ fs. nothing (f ∷ fs)) (Shut macros.stand) (Shut macros.stand) (read_fields macros) (λ fs last. Read (f ∷ fs) last) r again
      (λ fs last _. weaken (Shut macros.stand) (λ _ _. tt) (give_reads (f ∷ fs) last))
      (λ fs x w h. h)
      (λ fs x y w rest _ h g. next_to (Shut macros.stand) y rest h.0 g)
      (λ fs x _. ([], f ∷ fs, (refl, refl), tt))
      (λ fs x _. ([], f ∷ fs, (refl, refl), tt))

  last_part : (rules : Rules) (f : Field) → (fields rules >>= λ fs. nothing (f ∷ fs)) [] (f ∷ [])
  last_part rules f = ([], [], [], refl, no_fields rules, (refl, refl))

  begun_read : (tokens : List ℕ) → ((r : List ℕ) → length r ≤ length tokens → Fields_read r)
      → Law (begun (strict macros)) (begun (free macros)) (λ ts. and_then (read_field macros ts) (λ f rest. and_then (read_fields macros rest) (λ fs last. Read (f ∷ fs) last))) tokens
  begun_read tokens again =
      then_reads IsByte (IsLimit macros) (field (strict macros)) (field (free macros)) (λ f. fields (strict macros) >>= λ fs. nothing (f ∷ fs)) (λ f. fields (free macros) >>= λ fs. nothing (f ∷ fs)) (Done macros.stand) (Shut macros.stand) (read_field macros) (λ f rest. and_then (read_fields macros rest) (λ fs last. Read (f ∷ fs) last)) tokens ((field_part macros).reads tokens)
      (λ f r was. one_more f r (again r (field_shrinks tokens f r was)))
      (λ f x w h. (h.0, h.1, h.2, h.3, fields_in h.0 h.2 h.4, h.5))
      (λ f x y w rest _ h g. subst (λ z. (Done macros.stand) (z ++ rest)) (sym (h.3 ∙ ap (λ z. h.0 ++ z) h.5.0 ∙ append-nil h.0)) (fields_follow (Done macros.stand) done_comma h.0 h.2 rest h.4 g.0))
      (λ f x _. ([], f ∷ [], last_part (strict macros) f, tt))
      (λ f x _. ([], f ∷ [], last_part (free macros) f, tt))

  no_letter : (rest : List ℕ) → (Shut macros.stand) rest → starts (begins_name macros.stand) rest ≡ false
  no_letter rest g = not_in (begins_name macros.stand) (is_name_byte macros.stand) (begins_in_name macros.stand) rest g.0.0.0

  perhaps_read : (tokens : List ℕ) → ((r : List ℕ) → length r ≤ length tokens → Fields_read r) → Law (perhaps (strict macros)) (perhaps (free macros)) (after_comma (read_fields macros)) tokens
  perhaps_read tokens again =
      choose_reads IsByte (IsLimit macros) (begins_name macros.stand) (begun (strict macros)) (begun (free macros)) (nothing []) (nothing []) (Shut macros.stand) (λ ts. and_then (read_field macros ts) (λ f rest. and_then (read_fields macros rest) (λ fs last. Read (f ∷ fs) last))) (λ ts. Read [] ts) tokens
      begun_in (λ x v h. h)
      (λ _. begun_read tokens again)
      (λ _. weaken (Shut macros.stand) (λ _ _. tt) (give_reads [] tokens))
      (first_is (begun (free macros)) (begins_name macros.stand) true begun_opens)
      (λ x v rest h g. next_to (λ y. starts (begins_name macros.stand) y ≡ false) x rest h.0 (no_letter rest g))

  perhaps_follow : (y : List ℕ) (w : List Field) (rest : List ℕ) → perhaps (free macros) y w → (Shut macros.stand) rest → Clear none (y ++ rest)
  perhaps_follow y w rest (inr h) g = next_to (Clear none) y rest h.0 (starts_none rest, g.0.0.1)
  perhaps_follow y w rest (inl h) g =
      let o = begun_opens y w h in
      subst (λ x. Clear none (x ++ rest)) (sym o.2) (refl, not_blank (begins_name macros.stand) (begin_apart macros.stand) o.0 o.3)

  comma_read : (tokens : List ℕ) → ((r : List ℕ) → length r < length tokens → Fields_read r) → Law (mark 44 >> perhaps (strict macros)) (mark 44 >> perhaps (free macros)) (λ ts. and_then (read_mark 44 ts) (λ _ rest. after_comma (read_fields macros) rest)) tokens
  comma_read tokens again =
      then_reads IsByte (IsLimit macros) (mark 44) (mark 44) (λ _. perhaps (strict macros)) (λ _. perhaps (free macros)) (Clear none) (Shut macros.stand) (read_mark 44) (λ _ rest. after_comma (read_fields macros) rest) tokens (comma.reads tokens)
      (λ v r was. let less = comma_shrinks tokens v r was in perhaps_read r (λ s few. again s (omega (arith, less, few))))
      (λ v x w h. perhaps_in x w h)
      (λ v x y w rest _ h g. perhaps_follow y w rest h g)
      (λ v x _. ([], [], inr (refl, refl), tt))
      (λ v x _. ([], [], inr (refl, refl), tt))

  one_turn : (tokens : List ℕ) → ((r : List ℕ) → length r < length tokens → Fields_read r) → Fields_read tokens
  one_turn tokens again =
      restate (fields (strict macros)) (fields (free macros)) (read_fields macros) (to_fields (strict macros)) (from_fields (strict macros)) (to_fields (free macros)) (from_fields (free macros)) fields_turn
      (choose_reads IsByte (IsLimit macros) (nat_eq 44) (mark 44 >> perhaps (strict macros)) (mark 44 >> perhaps (free macros)) (nothing []) (nothing []) (Shut macros.stand) (λ ts. and_then (read_mark 44 ts) (λ _ rest. after_comma (read_fields macros) rest)) (λ ts. Read [] ts) tokens
      (λ x v h. (h.0, h.1, h.2, h.3, h.4, perhaps_in h.1 v h.5)) (λ x v h. h)
      (λ _. comma_read tokens again)
      (λ _. weaken (Shut macros.stand) (λ _ _. tt) (give_reads [] tokens))
      (first_is (mark 44 >> perhaps (free macros)) (nat_eq 44) true (opens_then (mark 44) _ (λ t. nat_eq 44 t ≡ true) (mark_opens 44 (λ t. nat_eq 44 t ≡ true) refl)))
      (λ x v rest h g. next_to (λ y. starts (nat_eq 44) y ≡ false) x rest h.0 g.1))

  all_turns : (n : ℕ) (tokens : List ℕ) → length tokens < n → Fields_read tokens
  all_turns zero tokens less = absurd (omega arith)
  all_turns (suc n) tokens less = one_turn tokens (λ r shorter. all_turns n r (omega (arith, less, shorter)))

  pub fields_part : Part IsByte (IsLimit macros) (fields (strict macros)) (fields (free macros)) (Shut macros.stand) (read_fields macros)
  fields_part = record {
    reads = λ tokens. all_turns (suc (length tokens)) tokens (omega arith);
    phrase = ([], [], no_fields (strict macros), tt);
  }
