-- Entries that were found, one item after another.
use Rattle.std.proofs.Common.{◌≡◌, ◌≤◌, ◌<◌, ℕ, zero, suc, Bool, true, false, cond, List, [], ◌∷◌, ◌++◌, length, if◌then◌else◌, refl, sym, ap, subst, ◌∙◌, arith, Option, Some, None}
use Rattle.std.specs.Option.{is_some}
use Rattle.std.specs.Ordering.{is_eq}
use Rattle.std.specs.BTreeMap.{BTreeMap, get, is_at}
use Rattle.std.specs.declared.cmp.Ordering.{Ordering}
use Rattle.std.specs.declared.cmp.Ordering.TheVariants.{Less, Equal, Greater}
use Rattle.grammar.specs.Reading.{Outcome, Read, Stuck, Past}
use Rattle.sd_value.specs.Order.{bytes_cmp}
use Rattle.sd_value.specs.OrderLaws.{bytes_cmp-exact}
use Rattle.graph_spec.specs.DataGraph.{Name}
use Rattle.bibtex_spec.specs.declared.Field.{Field}
use Rattle.bibtex_spec.specs.declared.Item.{Item}
use Rattle.bibtex_spec.specs.Bytes.{is_junk, behind}
use Rattle.bibtex_spec.specs.Macros.{MacroTexts}
use Rattle.bibtex_spec.specs.Reading.{read_item}
use Rattle.bibtex_source.specs.Source.{Entries, fields_at}
use Rattle.bibtex_source.specs.Found.{or_later}
use Rattle.bibtex_source.specs.Text.{macros_behind, entry_of, read_entries, marked_entries, entries_within}

is_equal : (r : Ordering) → is_eq r ≡ true → r ≡ Equal
is_equal Less h = cc
is_equal Equal h = refl
is_equal Greater h = cc

same : (x y : Name) → is_eq (bytes_cmp x y) ≡ true → x ≡ y
same x y h = bytes_cmp-exact x y (is_equal (bytes_cmp x y) h)

pub some_of : (o : Option (List Field)) → is_some o ≡ true → (first : List Field) × (o ≡ Some first)
some_of (Some fields) h = (fields, refl)
some_of None h = cc

pub none_of : (o : Option (List Field)) → is_some o ≡ false → o ≡ None
none_of (Some fields) h = cc
none_of None h = refl

-- an entry of a key that was found already counts for nothing
pub noted_before : (found : Entries) (key : Name) (fields first : List Field) → found key ≡ Some first → (later : List (Name × List Field)) (k : Name)
    → or_later (found k) (fields_at later k) ≡ or_later (found k) (fields_at ((key, fields) ∷ later) k)
noted_before found key fields first was later k = by (is_eq (bytes_cmp key k)) refl
  where
    by : (b : Bool) → is_eq (bytes_cmp key k) ≡ b → or_later (found k) (fields_at later k) ≡ or_later (found k) (if b then Some fields else fields_at later k)
    by true e =
        let here : found k ≡ Some first = subst (λ x. found x ≡ Some first) (same key k e) was in
        ap (λ o. or_later o (fields_at later k)) here ∙ sym (ap (λ o. or_later o (Some fields)) here)
    by false e = refl

-- any other is the first of its key
pub noted_now : (found now : Entries) (key : Name) (fields : List Field) → found key ≡ None → ((q : Name) → now q ≡ cond (is_at (bytes_cmp key) q) (Some fields) (found q))
    → (later : List (Name × List Field)) (k : Name) → or_later (now k) (fields_at later k) ≡ or_later (found k) (fields_at ((key, fields) ∷ later) k)
noted_now found now key fields was up later k = ap (λ o. or_later o (fields_at later k)) (up k) ∙ by (is_eq (bytes_cmp key k)) refl
  where
    by : (b : Bool) → is_eq (bytes_cmp key k) ≡ b → or_later (cond b (Some fields) (found k)) (fields_at later k) ≡ or_later (found k) (if b then Some fields else fields_at later k)
    by true e = sym (ap (λ o. or_later o (Some fields)) (subst (λ x. found x ≡ None) (same key k e) was))
    by false e = refl

nothing_later : (o : Option (List Field)) → or_later o None ≡ o
nothing_later (Some fields) = refl
nothing_later None = refl

module _ (all : Entries) where
  -- what was found, and what comes later, is all
  pub record IsNoted (found : Entries) (macros : MacroTexts) (rest : List ℕ) : Type 0 where
    pub turns : ℕ
    pub enough : length rest ≤ turns
    pub so_far : (k : Name) → or_later (found k) (fields_at (entries_within turns macros rest) k) ≡ all k

  none_more : (macros : MacroTexts) (rest : List ℕ) (n : ℕ) → behind is_junk rest ≡ [] → entries_within n macros rest ≡ []
  none_more macros rest zero none = refl
  none_more macros rest (suc n) none = ap (marked_entries macros (entries_within n)) none

  pub noted_end : (found : Entries) (macros : MacroTexts) (rest : List ℕ) → behind is_junk rest ≡ [] → IsNoted found macros rest → (k : Name) → found k ≡ all k
  noted_end found macros rest none noted k =
      sym (nothing_later (found k)) ∙ sym (ap (λ entries. or_later (found k) (fields_at entries k)) (none_more macros rest noted.turns none)) ∙ noted.so_far k

  module _ (found : Entries) (macros : MacroTexts) (rest marked : List ℕ) (is : marked ≡ behind is_junk rest) (some : length marked ≤ length rest) (x : ℕ) (more : List ℕ) (split : marked ≡ x ∷ more) where
    at_item : (n : ℕ) → entries_within (suc n) macros rest ≡ read_entries macros (entries_within n) (read_item macros marked)
    at_item n = ap (marked_entries macros (entries_within n)) (sym is ∙ split) ∙ ap (λ bs. read_entries macros (entries_within n) (read_item macros bs)) (sym split)

    -- where no item is read, no more entries are
    pub noted_fault : (o : Outcome ℕ Item) → read_item macros marked ≡ o → ((later : MacroTexts → List ℕ → List (Name × List Field)) → read_entries macros later o ≡ []) → IsNoted found macros rest → (k : Name) → found k ≡ all k
    noted_fault o read none noted k = by noted.turns noted.enough (noted.so_far k)
      where
        by : (n : ℕ) → length rest ≤ n → or_later (found k) (fields_at (entries_within n macros rest) k) ≡ all k → found k ≡ all k
        by zero few e = absurd (omega (arith, few, some, ap length split))
        by (suc n) enough e =
            sym (nothing_later (found k)) ∙ sym (ap (λ entries. or_later (found k) (fields_at entries k)) (at_item n ∙ ap (read_entries macros (entries_within n)) read ∙ none (entries_within n))) ∙ e

    pub noted_item : (item : Item) (after : List ℕ) → read_item macros marked ≡ Read item after → length after < length marked → (now : Entries) (next : MacroTexts) → next ≡ macros_behind macros item
        → ((later : List (Name × List Field)) (k : Name) → or_later (now k) (fields_at later k) ≡ or_later (found k) (fields_at (entry_of item ++ later) k))
        → IsNoted found macros rest → IsNoted now next after
    noted_item item after read shorter now next defined notes noted = by noted.turns noted.enough noted.so_far
      where
        by : (n : ℕ) → length rest ≤ n → ((k : Name) → or_later (found k) (fields_at (entries_within n macros rest) k) ≡ all k) → IsNoted now next after
        by zero few e = absurd (omega (arith, few, some, ap length split))
        by (suc n) enough e = record {
          turns = n;
          enough = omega (arith, enough, some, shorter);
          so_far = λ k.
              ap (λ m. or_later (now k) (fields_at (entries_within n m after) k)) defined
              ∙ notes (entries_within n (macros_behind macros item) after) k
              ∙ sym (ap (λ entries. or_later (found k) (fields_at entries k)) (at_item n ∙ ap (read_entries macros (entries_within n)) read))
              ∙ e k;
        }
