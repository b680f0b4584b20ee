-- What the answers of this crate share.
use Rattle.std.specs.Prelude.{◌≡◌, ◌≤◌, if◌then◌else◌, ◌+◌, ◌++◌, ℕ, zero, suc, ◌∷◌, [], Option, Some, None, List, Bool, true, false, Result, Err, ⊤, length, ◌==◌}
use Rattle.std.proofs.Common.{refl, sym, ◌∙◌, ap, subst, inl, inr, take, arith}
use Rattle.csv.specs.Records.{field_at}
use Rattle.std.specs.Str.{IsUtf8, is_utf8}
use Rattle.std.proofs.lemmas.Str.{IsUtf8-from_is_utf8, is_utf8-from_IsUtf8}
use Rattle.std.proofs.lemmas.Bool.{cases_Bool}
use Rattle.csv.specs.Reading.{records, strip_bom, is_bom}
use Rattle.sd_graph.specs.Statement.{Statement, Building, Adds}
use Rattle.sd_graph.specs.Stating.{says, fails, fault, Ends}
use Rattle.sd_graph.specs.StatingLaws.{ending_at, Ends-one, IsCut, Continues, Continues-stop}
use Rattle.sd_graph.specs.declared.GraphRefusal.{GraphRefusal}
use Rattle.csv_source.specs.Separators.{CsvRecord, separated, separator_of, separator_by, records_of}
use Rattle.csv_source.specs.declared.rules.CsvRules.{CsvRules}
use Rattle.csv_source.specs.Text.{csv_ending, CsvStep, fits, row_steps, row_statements, label_faults, header_steps}
use Rattle.source_steps.specs.Names.{numbered, without_mark}
use Rattle.graph_spec.specs.DataGraph.{Name}
use Rattle.std.specs.List.{list_all}
use Rattle.csv_source.specs.declared.refusal.CsvRefusal.TheVariants.{NotUtf8, EmptyLabel, Ragged, TooManyEdges, TooManyNodes, NoMemory}
use Rattle.csv_source.specs.declared.refusal.CsvRefusal.{CsvRefusal}

pub stated : (row : ℕ) (s : Statement) (b c : Building) (r : Result ⊤ GraphRefusal) (x : Result ⊤ CsvRefusal) → csv_ending x ≡ ending_at row r → Adds s b c r → Ends b (says row s ∷ []) c (csv_ending x)
stated row s b c r x is adds = subst (λ e. Ends b (says row s ∷ []) c e) (sym is) (Ends-one CsvRefusal row s b c r adds)

pub no_text : (bs : List ℕ) → (IsUtf8 bs → ⊥) → is_utf8 bs ≡ false
no_text bs h = elim (cases_Bool (is_utf8 bs)) [ inl is ↦ absurd (h (IsUtf8-from_is_utf8 bs is)) | inr other ↦ other ]

pub a_text : (bs : List ℕ) → IsUtf8 bs → true ≡ is_utf8 bs
a_text bs h = sym (is_utf8-from_IsUtf8 bs h)

-- one field more, and all of them
fields_next : (fields : List (List ℕ)) (i : ℕ) (x : List ℕ) → Some x ≡ field_at fields i → take (suc i) fields ≡ take i fields ++ x ∷ []
unfolding field_at
fields_next [] i x h = cc
fields_next (f ∷ fs) zero x h = let e : f ≡ x = cc in ap (λ y. y ∷ []) e
fields_next (f ∷ fs) (suc i) x h = ap (λ ys. f ∷ ys) (fields_next fs i x h)

pub fields_more : (fields : List (List ℕ)) (i : ℕ) (x : List ℕ) → Some x ≡ field_at fields i → take (i + 1) fields ≡ take i fields ++ x ∷ []
fields_more fields i x h = let e : i + 1 ≡ suc i = omega arith in ap (λ n. take n fields) e ∙ fields_next fields i x h

pub fields_all : (fields : List (List ℕ)) (i : ℕ) → ◌≡◌ {A = Option (List ℕ)} None (field_at fields i) → take i fields ≡ fields
unfolding field_at
fields_all [] zero h = refl
fields_all [] (suc i) h = refl
fields_all (f ∷ fs) zero h = cc
fields_all (f ∷ fs) (suc i) h = ap (λ ys. f ∷ ys) (fields_all fs i h)

-- an error ends the steps
pub cuts : (e : CsvRefusal) → IsCut (csv_ending (Err e))
cuts (NotUtf8 k) = tt
cuts (EmptyLabel k) = tt
cuts (Ragged k) = tt
cuts (TooManyEdges k) = tt
cuts (TooManyNodes k) = tt
cuts NoMemory = tt

pub stop : (b c d : Building) (steps front rest : List CsvStep) (e : CsvRefusal) → Continues b steps c (front ++ rest) → Ends c front d (csv_ending (Err e)) → Ends b steps d (csv_ending (Err e))
stop b c d steps front rest e h ends = Continues-stop b c d steps front rest (csv_ending (Err e)) h (cuts e) ends

-- a fault, before anything is stated
pub fault_first : (b : Building) (steps : List CsvStep) (e : CsvRefusal) → steps ≡ fails e ∷ [] → Ends b steps b (fault e)
fault_first b steps e is = ([], [], is, refl)

pub ragged : (rules : CsvRules) (stem : Name) (labels : List Name) (k : ℕ) (fields : CsvRecord) → fits rules (length labels) (length fields) ≡ false → row_steps rules stem labels k fields ≡ fails (Ragged k) ∷ []
ragged rules stem labels k fields h = rw h refl

pub no_texts : (rules : CsvRules) (stem : Name) (labels : List Name) (k : ℕ) (fields : CsvRecord) → fits rules (length labels) (length fields) ≡ true → list_all is_utf8 fields ≡ false → row_steps rules stem labels k fields ≡ fails (NotUtf8 k) ∷ []
no_texts rules stem labels k fields h g = rw (h, g) refl

pub stated_row : (rules : CsvRules) (stem : Name) (labels : List Name) (k : ℕ) (fields : CsvRecord) → fits rules (length labels) (length fields) ≡ true → list_all is_utf8 fields ≡ true → row_steps rules stem labels k fields ≡ row_statements rules stem (numbered stem k) labels k fields
stated_row rules stem labels k fields h g = rw (h, g) refl

pub label_there : (k : ℕ) (label : Name) (more : List Name) → (length label == 0) ≡ false → label_faults k (label ∷ more) ≡ label_faults (k + 1) more
label_there k label more h = rw h refl

pub label_missing : (k : ℕ) (label : Name) (more : List Name) → (length label == 0) ≡ true → label_faults k (label ∷ more) ≡ fails (EmptyLabel k) ∷ label_faults (k + 1) more
label_missing k label more h = rw h refl

pub header_texts : (labels : List Name) → list_all is_utf8 labels ≡ true → header_steps labels ≡ label_faults 0 labels
header_texts labels h = rw h refl

pub header_no_texts : (labels : List Name) → list_all is_utf8 labels ≡ false → header_steps labels ≡ fails (NotUtf8 0) ∷ []
header_no_texts labels h = rw h refl

-- the records that are read are those of the text
pub records_are : (rules : CsvRules) (separator : ℕ) (text bytes : List ℕ) → text ≡ without_mark bytes
    → separator ≡ (if rules.other_separators then separator_of (records (separated 44) (strip_bom text)) else 44)
    → records_of rules bytes ≡ records (separated separator) (strip_bom text)
records_are rules separator text bytes is found =
    let by : separator ≡ separator_by rules bytes = rw is at found in
    rw (by, is) refl

pub strip_length : (xs : List ℕ) → length (strip_bom xs) ≤ length xs
unfolding strip_bom
strip_length [] = omega arith
strip_length (a ∷ []) = omega arith
strip_length (a ∷ b ∷ []) = omega arith
strip_length (a ∷ b ∷ c ∷ rest) = by (is_bom a b c)
  where
    by : (t : Bool) → length (if t then rest else a ∷ b ∷ c ∷ rest) ≤ length (a ∷ b ∷ c ∷ rest)
    by true = omega arith
    by false = omega arith
