-- What the answers of this crate share.
use Rattle.std.specs.Prelude.{◌≡◌, ℕ, false, List, [], ◌∷◌, ◌++◌, length, map, Result, Err, ⊤}
use Rattle.std.specs.Str.{IsUtf8, is_utf8}
use Rattle.std.proofs.Common.{refl, sym, subst, inl, inr, arith}
use Rattle.std.proofs.lemmas.Str.{IsUtf8-from_is_utf8}
use Rattle.std.proofs.lemmas.Bool.{cases_Bool}
use Rattle.sd_graph.specs.Statement.{Statement, Building, Adds}
use Rattle.sd_graph.specs.Stating.{says, done, Leads, Ends}
use Rattle.sd_graph.specs.StatingLaws.{ending_at, Ends-one, IsCut, Continues, Continues-stop}
use Rattle.sd_graph.specs.declared.GraphRefusal.{GraphRefusal}
use Rattle.graph_spec.specs.DataGraph.{Name}
use Rattle.text_source.specs.declared.facts.Fact.{Fact}
use Rattle.text_source.specs.declared.refusal.TextFileRefusal.{TextFileRefusal}
use Rattle.text_source.specs.declared.refusal.TextFileRefusal.TheVariants.{NotUtf8, Expected, TooManyEdges, TooManyNodes, NoMemory}
use Rattle.text_source.specs.Text.{TextStep, step_of, text_ending}

pub stated : (at : ℕ) (s : Statement) (b c : Building) (r : Result ⊤ GraphRefusal) (x : Result ⊤ TextFileRefusal) → text_ending x ≡ ending_at at r → Adds s b c r → Ends b (says at s ∷ []) c (text_ending x)
stated at s b c r x is adds = subst (λ e. Ends b (says at s ∷ []) c e) (sym is) (Ends-one TextFileRefusal at s b c r adds)

pub no_text : (bs : List ℕ) → (IsUtf8 bs → ⊥) → is_utf8 bs ≡ false
no_text bs h = elim (cases_Bool (is_utf8 bs)) [ inl is ↦ absurd (h (IsUtf8-from_is_utf8 bs is)) | inr other ↦ other ]

-- an error ends the steps
pub cuts : (e : TextFileRefusal) → IsCut (text_ending (Err e))
cuts (NotUtf8 at) = tt
cuts (Expected at) = tt
cuts (TooManyEdges at) = tt
cuts (TooManyNodes at) = tt
cuts NoMemory = tt

pub stop : (b c d : Building) (steps front rest : List TextStep) (e : TextFileRefusal) → Continues b steps c (front ++ rest) → Ends c front d (text_ending (Err e)) → Ends b steps d (text_ending (Err e))
stop b c d steps front rest e h ends = Continues-stop b c d steps front rest (text_ending (Err e)) h (cuts e) ends

-- without facts left, all are stated
pub no_facts : (b c : Building) (stem : Name) (steps : List TextStep) (facts : List Fact) → length facts ≡ 0 → Continues b steps c (map (step_of stem) facts) → Leads b steps c
no_facts b c stem steps [] h k = k c done refl
no_facts b c stem steps (fact ∷ facts) h k = absurd (omega (arith, h))
