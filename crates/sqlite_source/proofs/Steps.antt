-- What stating rows rests on.
use Rattle.std.specs.Prelude.{◌≡◌, ◌⊎◌, ◌∷◌, ◌++◌, ℕ, [], List, Bool, true, false, Result, Ok, Err, ⊤, IsErr}
use Rattle.std.proofs.Common.{refl, sym, subst, inl, inr}
use Rattle.std.specs.Str.{IsUtf8, is_utf8}
use Rattle.std.proofs.lemmas.Str.{IsUtf8-from_is_utf8, is_utf8-from_IsUtf8}
use Rattle.std.proofs.lemmas.Bool.{cases_Bool}
use Rattle.sd_graph.specs.Statement.{Statement, Building, Adds}
use Rattle.sd_graph.specs.Stating.{says, fails, fault, Ends}
use Rattle.sd_graph.specs.StatingLaws.{ending_at, Ends-one, IsCut, Continues, Continues-stop}
use Rattle.sd_graph.specs.declared.GraphRefusal.{GraphRefusal}
use Rattle.sd_graph.specs.declared.GraphRefusal.TheVariants as refusal
use Rattle.json_source.specs.Names.{Pointer}
use Rattle.sqlite_source.specs.Rows.{db_ending, DbStep}
use Rattle.sqlite_source.specs.declared.refusal.DbRefusal.{DbRefusal}
use Rattle.sqlite_source.specs.declared.refusal.DbRefusal.TheVariants.{NotDatabase, Damaged, NotRead, IsBlob, NotUtf8, TooManyEdges, TooManyNodes, NoMemory}

-- an addition that was refused changed nothing
unchanged : (s : Statement) (b c : Building) (r : Result ⊤ GraphRefusal) → Adds s b c r → IsErr r → c ≡ b
unchanged s b c (Ok u) h e = cc
unchanged s b c (Err refusal.TooManyNodes) h e = h.0
unchanged s b c (Err refusal.TooManyEdges) h e = h.0
unchanged s b c (Err refusal.NoMemory) h e = h

pub stated : (at : Pointer) (s : Statement) (b c : Building) (r : Result ⊤ GraphRefusal) (x : Result ⊤ DbRefusal)
    → (db_ending x ≡ ending_at at r) ⊎ ((x ≡ Err NoMemory) × IsErr r) → Adds s b c r → Ends b (says at s ∷ []) c (db_ending x)
stated at s b c r x (inl is) adds = subst (λ e. Ends b (says at s ∷ []) c e) (sym is) (Ends-one DbRefusal at s b c r adds)
stated at s b c r x (inr none) adds = rw none.0 ([], says at s ∷ [], refl, sym (unchanged s b c r adds none.1))

pub no_text : (bs : List ℕ) → (IsUtf8 bs → ⊥) → is_utf8 bs ≡ false
no_text bs h = elim (cases_Bool (is_utf8 bs)) [ inl is ↦ absurd (h (IsUtf8-from_is_utf8 bs is)) | inr other ↦ other ]

pub a_text : (bs : List ℕ) → IsUtf8 bs → true ≡ is_utf8 bs
a_text bs h = sym (is_utf8-from_IsUtf8 bs h)

-- an error ends the steps
pub cuts : (e : DbRefusal) → IsCut (db_ending (Err e))
cuts NotDatabase = tt
cuts (Damaged p) = tt
cuts (NotRead p) = tt
cuts (IsBlob p) = tt
cuts (NotUtf8 p) = tt
cuts (TooManyEdges p) = tt
cuts (TooManyNodes p) = tt
cuts NoMemory = tt

pub stop : (b c d : Building) (steps front rest : List DbStep) (e : DbRefusal) → Continues b steps c (front ++ rest) → Ends c front d (db_ending (Err e)) → Ends b steps d (db_ending (Err e))
stop b c d steps front rest e h ends = Continues-stop b c d steps front rest (db_ending (Err e)) h (cuts e) ends

-- a fault, before anything is stated
pub fault_first : (b : Building) (steps : List DbStep) (e : DbRefusal) → steps ≡ fails e ∷ [] → Ends b steps b (fault e)
fault_first b steps e is = ([], [], is, refl)
