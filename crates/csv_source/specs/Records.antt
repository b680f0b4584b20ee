-- The records that a reader has yet to give, with one separator between fields.
use Rattle.std.specs.Prelude.{◌≡◌, ◌+◌, ◌<◌, ◌==◌, ◌||◌, ℕ, zero, suc, Bool, true, false, List, [], ◌∷◌, ◌++◌, length}
use Rattle.std.specs.Prelude.{Option, Some, None, if◌then◌else◌}
use Rattle.std.proofs.Common.{refl, sym, ◌∙◌, ap, subst, arith}
use Rattle.csv.specs.Machine.{Read, next_record, step, in_field, start_field, start_record, is_end, ends_at_end, fields_after, field_after}
use Rattle.csv.specs.Reading.{records_from, records_next, NextIs, ReadsNext, ReadRecord, pending_of, source_of}
use Rattle.csv.specs.declared.parser.State.{State}
use Rattle.csv.specs.declared.parser.State.TheVariants as st
use Rattle.csv.specs.declared.parser.Action.{Action}
use Rattle.csv.specs.declared.parser.Action.TheVariants as act
use Rattle.csv.specs.declared.reader.Reader.{Reader}
use Rattle.csv_source.specs.Separators.{separated}

-- the records that a text has from a state on, with d between fields
abbrev pub records_after : ℕ → State → List ℕ → List (List (List ℕ))
records_after d s xs = records_from (separated d) (length xs + 1) s xs

-- a state in which no record has begun
abbrev pub IsBetween : State → Type 0
IsBetween s = ends_at_end s ≡ false

-- the machine's answers, as its tests come out
abbrev pub in_field_by : Bool → Bool → Bool → State × Action
in_field_by p q r = if p then (st.StartField, act.EndField) else if q || r
    then ((if q then st.AfterCr else st.StartRecord), act.EndRecord) else (st.InField, act.Copy)

abbrev pub ends_between : State × Action → Type 0
ends_between o = is_end o.1 ≡ true → IsBetween o.0

ended_by : (p q r : Bool) → ends_between (in_field_by p q r)
ended_by true q r e = cc
ended_by false true r e = refl
ended_by false false true e = refl
ended_by false false false e = cc

ended_in_field : (d : ℕ) (c : ℕ) → ends_between (in_field (separated d) c)
ended_in_field d c = ended_by (c == d) (c == 13) (c == 10)

choose : (b : Bool) (x y : State × Action) → ends_between x → ends_between y
    → ends_between (if b then x else y)
choose true x y h k = h
choose false x y h k = k

ended_start_field : (d : ℕ) (c : ℕ) → ends_between (start_field (separated d) c)
ended_start_field d c = choose (c == 34) (st.InQuoted, act.Skip) (in_field (separated d) c)
    (λ e. cc) (ended_in_field d c)

ended_start_record : (d : ℕ) (c : ℕ) → ends_between (start_record (separated d) c)
ended_start_record d c = choose ((c == 13) || (c == 10)) (st.StartRecord, act.Skip)
    (start_field (separated d) c) (λ e. cc) (ended_start_field d c)

-- a record ends between records
ended : (d : ℕ) (s : State) (c : ℕ) → ends_between (step (separated d) s c)
ended d st.StartRecord c = ended_start_record d c
ended d st.StartField c = ended_start_field d c
ended d st.InField c = ended_in_field d c
ended d st.InQuoted c = choose (c == 34) (st.AfterQuote, act.Skip) (st.InQuoted, act.Copy) (λ e. cc)
    (λ e. cc)
ended d st.InEscape c = λ e. cc
ended d st.AfterQuote c = choose (c == 34) (st.InQuoted, act.Copy) (in_field (separated d) c)
    (λ e. cc) (ended_in_field d c)
ended d st.InComment c = choose (c == 10) (st.StartRecord, act.Skip) (st.InComment, act.Skip)
    (λ e. cc) (λ e. cc)
ended d st.AfterCr c = choose (c == 10) (st.StartRecord, act.Skip) (start_record (separated d) c)
    (λ e. cc) (ended_start_record d c)

-- what a record that was read leaves: it takes a byte, where there is one
abbrev pub LeavesLess : List ℕ → Read → Type 0
LeavesLess [] p = (IsBetween p.1) × (p.2 ≡ [])
LeavesLess (c ∷ rest) p = (IsBetween p.1) × (length p.2 < length (c ∷ rest))

leaves_less : (d : ℕ) (s : State) (fields : List (List ℕ)) (field : List ℕ) (xs : List ℕ) (p : Read)
    → next_record (separated d) s fields field xs ≡ Some p → LeavesLess xs p
unfolding next_record
leaves_less d s fields field [] p h = by (ends_at_end s) h
  where
    by : (b : Bool) → ◌≡◌ {A = Option Read}
        (if b then Some (fields ++ (field ∷ []), st.StartRecord, []) else None) (Some p)
        → LeavesLess [] p
    by true e = let e1 : st.StartRecord ≡ p.1 = cc in let e2 : [] ≡ p.2 = cc in
        (rw (← e1) refl, sym e2)
    by false e = cc
leaves_less d s fields field (c ∷ rest) p h = by (is_end (step (separated d) s c).1) refl h
    (leaves_less d (step (separated d) s c).0 (fields_after (step (separated d) s c).1 fields field)
    (field_after (step (separated d) s c).1 c field) rest p)
  where
    longer : (ys : List ℕ) → LeavesLess ys p → LeavesLess (c ∷ ys) p
    longer [] h = (h.0, rw h.1 (omega arith))
    longer (y ∷ ys) h = (h.0, omega arith)

    by : (b : Bool) → is_end (step (separated d) s c).1 ≡ b
        → ◌≡◌ {A = Option Read}
        (if b then Some (
          fields_after (step (separated d) s c).1 fields field,
          (step (separated d) s c).0,
          rest,
        )
        else next_record (separated d) (step (separated d) s c).0
        (fields_after (step (separated d) s c).1 fields field)
        (field_after (step (separated d) s c).1 c field) rest) (Some p)
        → (next_record (separated d) (step (separated d) s c).0
        (fields_after (step (separated d) s c).1 fields field)
        (field_after (step (separated d) s c).1 c field) rest ≡ Some p → LeavesLess rest p)
        → LeavesLess (c ∷ rest) p
    by true is e more =
        let e1 : (step (separated d) s c).0 ≡ p.1 = cc in let e2 : rest ≡ p.2 = cc in
        (subst IsBetween e1 (ended d s c is), rw (← e2) (omega arith))
    by false is e more = longer rest (more e)

-- between records, a text with a record has a byte, and what is left is shorter
pub next_shorter : (d : ℕ) (s : State) (xs : List ℕ) (p : Read) → IsBetween s
    → next_record (separated d) s [] [] xs ≡ Some p → IsBetween p.1 × (length p.2 < length xs)
unfolding next_record
next_shorter d s [] p between h =
    let none : ◌≡◌ {A = Option Read} None (Some p) = rw between at h in cc
next_shorter d s (c ∷ rest) p between h = leaves_less d s [] [] (c ∷ rest) p h

-- how many records are looked for makes no difference, where they are more than the bytes
records_more : (d n m : ℕ) (s : State) (xs : List ℕ) → IsBetween s → length xs < n → length xs < m
    → records_from (separated d) n s xs ≡ records_from (separated d) m s xs
unfolding records_from
records_more d zero m s xs between h k = absurd (omega (arith, h))
records_more d (suc n) zero s xs between h k = absurd (omega (arith, k))
records_more d (suc n) (suc m) s xs between h k = by (λ t ys. records_more d n m t ys)
    (next_record (separated d) s [] [] xs) refl
  where
    by : ((t : State) (ys : List ℕ) → IsBetween t → length ys < n → length ys < m
        → records_from (separated d) n t ys ≡ records_from (separated d) m t ys)
        → (o : Option Read) → next_record (separated d) s [] [] xs ≡ o
        → records_next (records_from (separated d) n) o ≡ records_next
        (records_from (separated d) m) o
    by shorter None is = refl
    by shorter (Some p) is =
        let less = next_shorter d s xs p between is in
        ap (λ rows. p.0 ∷ rows)
        (shorter p.1 p.2 less.0 (omega (arith, less.1)) (omega (arith, less.1)))

one_more : (d : ℕ) (n : ℕ) (s : State) (xs : List ℕ) → records_from (separated d) (n + 1) s xs ≡
    records_next (records_from (separated d) n) (next_record (separated d) s [] [] xs)
unfolding records_from
one_more d n s xs = let e : n + 1 ≡ suc n = omega arith in
    ap (λ m. records_from (separated d) m s xs) e

pub records-none : (d : ℕ) (s : State) (xs : List ℕ) → next_record (separated d) s [] [] xs ≡ None
    → records_after d s xs ≡ []
records-none d s xs h = one_more d (length xs) s xs
    ∙ ap (records_next (records_from (separated d) (length xs))) h

pub records-some : (d : ℕ) (s : State) (xs : List ℕ) (p : Read) → IsBetween s
    → next_record (separated d) s [] [] xs ≡ Some p
    → records_after d s xs ≡ p.0 ∷ records_after d p.1 p.2
records-some d s xs p between h =
    let less = next_shorter d s xs p between h in
    one_more d (length xs) s xs ∙ ap (records_next (records_from (separated d) (length xs))) h
    ∙ ap (λ rows. p.0 ∷ rows) (records_more d (length xs) (length p.2 + 1) p.1 p.2 less.0 less.1
    (omega arith))

-- what one read gives: the first record of those that are left, or that none is left
abbrev pub GivesNext : ℕ → Bool → List (List ℕ) → State → List ℕ → State → List ℕ → Type 0
GivesNext d false fields s xs t ys = records_after d s xs ≡ []
GivesNext d true fields s xs t ys =
    (records_after d s xs ≡ fields ∷ records_after d t ys) × IsBetween t
    × (length ys < length xs)

gives_next : (d : ℕ) (o : Option Read) (s t : State) (xs ys : List ℕ) (found : Bool)
    (fields : List (List ℕ)) → IsBetween s → next_record (separated d) s [] [] xs ≡ o
    → NextIs o found fields t ys → GivesNext d found fields s xs t ys
gives_next d None s t xs ys found fields between is h = subst (λ b. GivesNext d b fields s xs t ys)
    (sym h) (records-none d s xs is)
gives_next d (Some p) s t xs ys found fields between is h =
    let less = next_shorter d s xs p between is in
    let all = records-some d s xs p between is in
    let yes : GivesNext d true fields s xs t ys =
    (rw (h.1, h.2, h.3) all, rw h.2 less.0, rw h.3 less.1) in
    subst (λ b. GivesNext d b fields s xs t ys) (sym h.0) yes

-- the same of a reader over known bytes
pub next-of : (d : ℕ) {R : Type 0} (rem : R → Option (List ℕ)) (a b : Reader R) (found : Bool)
    (fields : List (List ℕ)) (xs : List ℕ)
    → a.config ≡ (separated d) → IsBetween a.state → source_of rem a ≡ Some xs → ReadRecord rem a b
    found fields
    → (ys : List ℕ) × (source_of rem b ≡ Some ys) × GivesNext d found fields a.state xs b.state ys
next-of d rem a b found fields xs config between source read =
    let (ys, at, gives) = by (pending_of (rem b.rdr) b) refl (rw (config, source) at read.0) in
    (ys, rw read.1 at, gives)
  where
    by : (k : Option (List ℕ)) → pending_of (rem b.rdr) b ≡ k → ReadsNext (separated d) a.state
        (Some xs) k found fields b.state
        → (ys : List ℕ) × (pending_of (rem b.rdr) b ≡ Some ys) × GivesNext d found fields a.state xs
        b.state ys
    by None is h = absurd h
    by (Some ys) is h = (
      ys,
      is,
      gives_next d (next_record (separated d) a.state [] [] xs) a.state
          b.state xs ys found fields between refl h,
    )
