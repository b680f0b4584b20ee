-- Each text file has an answer over any graph: its faults are those of a byte or a line.
use Rattle.std.proofs.Common.{◌≡◌, ◌-◌, ◌+◌, ℕ, List, [], ◌∷◌, length, refl, sym, subst, Option, None, Result, Ok, Err}
use Rattle.std.specs.Prelude.{map, not, ⊤, if◌then◌else◌}
use Rattle.std.specs.Str.{is_utf8}
use Rattle.std.specs.Str.Lossy.{utf8_valid_len}
use Rattle.graph_spec.specs.DataGraph.{Name}
use Rattle.sd_graph.specs.Statement.{Building}
use Rattle.sd_graph.specs.Stating.{fails, Ending, done, fault, too_many_nodes, too_many_edges, no_memory, Ends}
use Rattle.source_steps.specs.Names.{without_mark}
use Rattle.text_source.specs.declared.facts.Fact.{Fact}
use Rattle.text_source.specs.declared.facts.Fact.TheVariants.{Node, Member, Edge}
use Rattle.text_source.specs.declared.refusal.TextFileRefusal.{TextFileRefusal}
use Rattle.text_source.specs.declared.refusal.TextFileRefusal.TheVariants.{NotUtf8, Expected, TooManyEdges, TooManyNodes, NoMemory}
use Rattle.text_source.specs.Lines.{Line, lines_of, joined, front_lines, text_lines}
use Rattle.text_source.specs.Front.{said}
use Rattle.text_source.specs.Text.{TextStep, step_of, said_steps, file_facts, lines_steps, unmarked_steps, file_steps, text_ending}
use Rattle.text_source.specs.Reads.{Reads}
use Rattle.source_laws.proofs.Steps.{FailAs, fail_choice, IsToldAs, ended}

-- the answer of this fault is the fault
abbrev IsItself : TextFileRefusal → Type 0
IsItself f = text_ending (Err f) ≡ fault f

facts_fail : (stem : Name) (facts : List Fact) → FailAs IsItself (map (step_of stem) facts)
facts_fail stem [] = tt
facts_fail stem (Node ∷ facts) = facts_fail stem facts
facts_fail stem (Member collection ∷ facts) = facts_fail stem facts
facts_fail stem (Edge at label value ∷ facts) = facts_fail stem facts

said_fail : (stem : Name) (folder : Option Name) (front : Result (List Fact) ℕ) (text : List ℕ) → FailAs IsItself (said_steps stem folder front text)
said_fail stem folder (Ok front) text = facts_fail stem (file_facts stem folder front text)
said_fail stem folder (Err at) text = (refl, tt)

lines_fail : (stem : Name) (folder : Option Name) (lines : List Line) → FailAs IsItself (lines_steps stem folder lines)
lines_fail stem folder lines = said_fail stem folder (said None (front_lines lines)) (joined (text_lines lines))

text_fails : (stem : Name) (folder : Option Name) (size : ℕ) (text : List ℕ) → FailAs IsItself (unmarked_steps stem folder size text)
text_fails stem folder size text =
    fail_choice IsItself (not (is_utf8 text)) (fails (NotUtf8 (size - length text + utf8_valid_len text)) ∷ []) (lines_steps stem folder (lines_of size text)) (refl, tt)
    (lines_fail stem folder (lines_of size text))

module _ (stem : Name) (folder : Option Name) (bytes : List ℕ) (b : Building) where
  abbrev HasAnswer : Type 0
  HasAnswer = (c : Building) × (r : Result ⊤ TextFileRefusal) × (r ≡ Err NoMemory → ⊥) × Reads stem folder bytes b c r

  fault_told : (f : TextFileRefusal) → IsItself f → ◌≡◌ {A = Result ⊤ TextFileRefusal} (Err f) (Err NoMemory) → ⊥
  fault_told f is e = let other : text_ending (Err f) ≡ text_ending (Err NoMemory) = λ i. text_ending (e i) in cc

  of_ending : (c : Building) (e : Ending ℕ TextFileRefusal) → IsToldAs IsItself e → Ends b (file_steps stem folder bytes) c e → HasAnswer
  of_ending c done told h = (c, Ok tt, (λ none. cc), h)
  of_ending c (fault f) told h = (c, Err f, fault_told f told, subst (Ends b (file_steps stem folder bytes) c) (sym told) h)
  of_ending c (too_many_nodes k) told h = (c, Err (TooManyNodes k), (λ none. cc), h)
  of_ending c (too_many_edges k) told h = (c, Err (TooManyEdges k), (λ none. cc), h)
  of_ending c no_memory told h = absurd told

  pub text_answer : HasAnswer
  text_answer =
      let e = ended IsItself b (file_steps stem folder bytes) (text_fails stem folder (length bytes) (without_mark bytes)) in
      of_ending e.0 e.1 e.2 e.3
