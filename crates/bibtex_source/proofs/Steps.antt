-- What the answers of this crate share.
use Rattle.std.specs.Prelude.{◌≡◌, ◌≤◌, ◌<◌, ◌-◌, ◌==◌, ◌++◌, ℕ, zero, suc, ◌∷◌, [], List, length, Bool, true, false, nat_eq, Option, Some, None, if◌then◌else◌, Result, Err, ⊤}
use Rattle.std.proofs.Common.{refl, sym, ◌∙◌, ap, subst, inl, inr, arith}
use Rattle.std.proofs.lemmas.Bool.{eqb-true}
use Rattle.grammar.specs.Reading.{Outcome, Read, Stuck, Past}
use Rattle.graph_spec.specs.DataGraph.{Name}
use Rattle.sd_graph.specs.Statement.{Statement, Building, Adds}
use Rattle.sd_graph.specs.Stating.{says, fails, done, Ends, Leads}
use Rattle.sd_graph.specs.StatingLaws.{ending_at, Ends-one, IsCut, Continues, Continues-step, Continues-stop, Continues-end}
use Rattle.sd_graph.specs.declared.GraphRefusal.{GraphRefusal}
use Rattle.bibtex_spec.specs.declared.Item.{Item}
use Rattle.bibtex_source.specs.Source.{Source}
use Rattle.bibtex_source.specs.declared.refusal.BibRefusal.{BibRefusal}
use Rattle.bibtex_source.specs.declared.refusal.BibRefusal.TheVariants.{Expected, UnknownMacro, TooDeep, TooLarge, TooManyEdges, TooManyNodes, NoMemory}
use Rattle.bibtex_spec.specs.Bytes.{is_junk, is_name_byte, run, behind}
use Rattle.bibtex_spec.specs.Macros.{MacroTexts, text_of}
use Rattle.bibtex_spec.specs.Reading.{read_item}
use Rattle.bibtex_source.specs.Text.{BibStep, bib_ending, macro_fault, limit_fault, IsFaultOf, IsItemFault, item_steps, macros_behind, read_steps, marked_steps, steps_within}

pub stated : (at : ℕ) (s : Statement) (b c : Building) (r : Result ⊤ GraphRefusal) (x : Result ⊤ BibRefusal) → bib_ending x ≡ ending_at at r → Adds s b c r → Ends b (says at s ∷ []) c (bib_ending x)
stated at s b c r x is adds = subst (λ e. Ends b (says at s ∷ []) c e) (sym is) (Ends-one BibRefusal at s b c r adds)

-- an error ends the steps
pub cuts : (e : BibRefusal) → IsCut (bib_ending (Err e))
cuts (Expected k) = tt
cuts (UnknownMacro k) = tt
cuts (TooDeep k) = tt
cuts (TooLarge k) = tt
cuts (TooManyEdges k) = tt
cuts (TooManyNodes k) = tt
cuts NoMemory = tt

pub stop : (b c d : Building) (steps front rest : List BibStep) (e : BibRefusal) → Continues b steps c (front ++ rest) → Ends c front d (bib_ending (Err e)) → Ends b steps d (bib_ending (Err e))
stop b c d steps front rest e h ends = Continues-stop b c d steps front rest (bib_ending (Err e)) h (cuts e) ends

-- a fault of an item, with nothing stated before it

macro_ends : (b : Building) (at : ℕ) (text : Option (List ℕ)) (e : BibRefusal) → e ≡ macro_fault at text → Ends b (fails (macro_fault at text) ∷ []) b (bib_ending (Err e))
macro_ends b at (Some text) e is = rw is ([], [], refl, refl)
macro_ends b at None e is = rw is ([], [], refl, refl)

limit_ends : (b : Building) (whole : ℕ) (macros : MacroTexts) (rest : List ℕ) (e : BibRefusal) → e ≡ limit_fault whole macros rest → Ends b (fails (limit_fault whole macros rest) ∷ []) b (bib_ending (Err e))
limit_ends b whole macros [] e is = macro_ends b (whole - 0) (text_of macros []) e is
limit_ends b whole macros (x ∷ rest) e is = by (nat_eq 123 x) is
  where
    by : (p : Bool) → e ≡ (if p then TooDeep (whole - length (x ∷ rest)) else macro_fault (whole - length (x ∷ rest)) (text_of macros (run (is_name_byte macros.stand) (x ∷ rest)))) → Ends b (fails (if p then TooDeep (whole - length (x ∷ rest)) else macro_fault (whole - length (x ∷ rest)) (text_of macros (run (is_name_byte macros.stand) (x ∷ rest)))) ∷ []) b (bib_ending (Err e))
    by true is = rw is ([], [], refl, refl)
    by false is = macro_ends b (whole - length (x ∷ rest)) (text_of macros (run (is_name_byte macros.stand) (x ∷ rest))) e is

fault_ends : (b : Building) (source : Source) (stem : Name) (whole : ℕ) (macros : MacroTexts) (later : MacroTexts → List ℕ → List BibStep) (read : Outcome ℕ Item) (e : BibRefusal) → IsFaultOf whole macros read e → Ends b (read_steps source stem whole macros later read) b (bib_ending (Err e))
fault_ends b source stem whole macros later (Read item rest) e is = absurd is
fault_ends b source stem whole macros later (Stuck rest) e is = rw is ([], [], refl, refl)
fault_ends b source stem whole macros later (Past rest) e is = limit_ends b whole macros rest e is

item_ends : (b : Building) (source : Source) (stem : Name) (whole : ℕ) (macros : MacroTexts) (later : MacroTexts → List ℕ → List BibStep) (read : Outcome ℕ Item) (e : BibRefusal) → IsItemFault whole macros read e → Ends b (read_steps source stem whole macros later read) b (bib_ending (Err e))
item_ends b source stem whole macros later read e (inl none) = rw none ([], read_steps source stem whole macros later read, refl, refl)
item_ends b source stem whole macros later read e (inr is) = fault_ends b source stem whole macros later read e is

-- the items of a text

module _ (source : Source) (stem : Name) (whole : ℕ) (b : Building) (steps : List BibStep) where
  -- what was read has led from b to c, and `rest` is still to be read
  pub record IsReached (c : Building) (macros : MacroTexts) (rest : List ℕ) : Type 0 where
    pub turns : ℕ
    pub enough : length rest ≤ turns
    pub continues : Continues b steps c (steps_within turns source stem whole macros rest)

  junk_only : (macros : MacroTexts) (rest : List ℕ) (n : ℕ) → behind is_junk rest ≡ [] → steps_within n source stem whole macros rest ≡ []
  junk_only macros rest zero none = refl
  junk_only macros rest (suc n) none = ap (marked_steps source stem whole macros (steps_within n source stem whole)) none

  pub reached_end : (c : Building) (macros : MacroTexts) (rest : List ℕ) → behind is_junk rest ≡ [] → IsReached c macros rest → Ends b steps c done
  reached_end c macros rest none reached =
      Continues-end b c steps (subst (λ xs. Continues b steps c xs) (junk_only macros rest reached.turns none) reached.continues)

  at_item : (macros : MacroTexts) (rest marked : List ℕ) (n : ℕ) (x : ℕ) (more : List ℕ) → marked ≡ behind is_junk rest → marked ≡ x ∷ more
      → steps_within (suc n) source stem whole macros rest ≡ read_steps source stem whole macros (steps_within n source stem whole) (read_item macros marked)
  at_item macros rest marked n x more is split =
      ap (marked_steps source stem whole macros (steps_within n source stem whole)) (sym is ∙ split)
      ∙ ap (λ bs. read_steps source stem whole macros (steps_within n source stem whole) (read_item macros bs)) (sym split)

  module _ (c : Building) (macros : MacroTexts) (rest marked : List ℕ) (is : marked ≡ behind is_junk rest) (some : length marked ≤ length rest) where
    pub item_stops : (x : ℕ) (more : List ℕ) (e : BibRefusal) → marked ≡ x ∷ more → IsItemFault whole macros (read_item macros marked) e → IsReached c macros rest → Ends b steps c (bib_ending (Err e))
    item_stops x more e split why reached = by reached.turns reached.enough reached.continues
      where
        by : (n : ℕ) → length rest ≤ n → Continues b steps c (steps_within n source stem whole macros rest) → Ends b steps c (bib_ending (Err e))
        by zero few k = absurd (omega (arith, few, some, ap length split))
        by (suc n) enough k =
            k c (bib_ending (Err e)) (subst (λ xs. Ends c xs c (bib_ending (Err e))) (sym (at_item macros rest marked n x more is split)) (item_ends c source stem whole macros (steps_within n source stem whole) (read_item macros marked) e why))

    module _ (x : ℕ) (more : List ℕ) (split : marked ≡ x ∷ more) (item : Item) (after : List ℕ) (read : read_item macros marked ≡ Read item after) (shorter : length after < length marked) (d : Building) where
      whole_item : (n : ℕ) → steps_within (suc n) source stem whole macros rest ≡ item_steps source stem whole item ++ steps_within n source stem whole (macros_behind macros item) after
      whole_item n = at_item macros rest marked n x more is split ∙ ap (read_steps source stem whole macros (steps_within n source stem whole)) read

      pub item_reached : (now : MacroTexts) → now ≡ macros_behind macros item → Leads c (item_steps source stem whole item) d → IsReached c macros rest → IsReached d now after
      item_reached now defined leads reached = by reached.turns reached.enough reached.continues
        where
          by : (n : ℕ) → length rest ≤ n → Continues b steps c (steps_within n source stem whole macros rest) → IsReached d now after
          by zero few k = absurd (omega (arith, few, some, ap length split))
          by (suc n) enough k = record {
            turns = n;
            enough = omega (arith, enough, some, shorter);
            continues = subst (λ m. Continues b steps d (steps_within n source stem whole m after)) (sym defined)
                (Continues-step b c d steps (item_steps source stem whole item) (steps_within n source stem whole (macros_behind macros item) after) (subst (λ xs. Continues b steps c xs) (whole_item n) k) leads);
          }

      pub item_refused : (e : BibRefusal) → Ends c (item_steps source stem whole item) d (bib_ending (Err e)) → IsReached c macros rest → Ends b steps d (bib_ending (Err e))
      item_refused e ends reached = by reached.turns reached.enough reached.continues
        where
          by : (n : ℕ) → length rest ≤ n → Continues b steps c (steps_within n source stem whole macros rest) → Ends b steps d (bib_ending (Err e))
          by zero few k = absurd (omega (arith, few, some, ap length split))
          by (suc n) enough k = stop b c d steps (item_steps source stem whole item) (steps_within n source stem whole (macros_behind macros item) after) e (subst (λ xs. Continues b steps c xs) (whole_item n) k) ends

-- whether there are bytes

pub no_bytes : (bytes : List ℕ) → (length bytes == 0) ≡ true → bytes ≡ []
no_bytes [] is = refl
no_bytes (b ∷ bytes) is = let none : length (b ∷ bytes) ≡ 0 = eqb-true (length (b ∷ bytes)) 0 is in absurd (omega (arith, none))

pub some_bytes : (bytes : List ℕ) → (length bytes == 0) ≡ false → (x : ℕ) × (more : List ℕ) × (bytes ≡ x ∷ more)
some_bytes [] is = absurd cc
some_bytes (b ∷ bytes) is = (b, bytes, refl)
