-- A whole text file.
use Rattle.std.specs.Prelude.{◌≡◌, ◌≤◌, ◌-◌, ◌+◌, ◌==◌, ◌&&◌, ℕ, Bool, true, false, List, [], ◌∷◌, ◌++◌, length, map, Option, Some, None, Result, Ok, Err, ⊤, if◌then◌else◌}
use Rattle.std.specs.Str.{is_utf8}
use Rattle.std.specs.Str.Lossy.{utf8_valid_len}
use Rattle.std.proofs.Common.{refl, sym, subst, arith}
use Rattle.source_steps.specs.Names.{without_mark}
use Rattle.graph_spec.specs.DataGraph.{Name}
use Rattle.sd_graph.specs.Statement.{Building}
use Rattle.sd_graph.specs.Stating.{Ends, fails, fault}
use Rattle.text_source.specs.declared.facts.Fact.{Fact}
use Rattle.text_source.specs.declared.refusal.TextFileRefusal.{TextFileRefusal}
use Rattle.text_source.specs.declared.refusal.TextFileRefusal.TheVariants.{NotUtf8, Expected, TooManyEdges, TooManyNodes, NoMemory}
use Rattle.text_source.specs.Lines.{Line, lines_of, joined, front_lines, text_lines}
use Rattle.text_source.specs.Front.{said}
use Rattle.text_source.specs.Text.{TextStep, step_of, said_steps, lines_steps, file_facts, unmarked_steps, file_steps, text_ending}
use Rattle.text_source.specs.Scans.{IsText, AreFacts, IsAtFault}

pub mark_length : (bytes : List ℕ) → length (without_mark bytes) ≤ length bytes
unfolding without_mark
mark_length [] = omega arith
mark_length (a ∷ []) = omega arith
mark_length (a ∷ b ∷ []) = omega arith
mark_length (a ∷ b ∷ c ∷ rest) = by ((a == 239) && (b == 187) && (c == 191))
  where
    by : (t : Bool) → length (if t then rest else a ∷ b ∷ c ∷ rest) ≤ length (a ∷ b ∷ c ∷ rest)
    by true = omega arith
    by false = omega arith

-- bytes that are no text
pub no_text_ends : (stem : Name) (folder : Option Name) (bytes text : List ℕ) (b : Building) (e : TextFileRefusal) → text ≡ without_mark bytes → IsText (length bytes) text (Err e)
    → Ends b (file_steps stem folder bytes) b (text_ending (Err e))
no_text_ends stem folder bytes text b e is (none, refused) = rw (← is, none, refused) ([], [], refl, refl)

-- bytes that are one
pub text_ends : (stem : Name) (folder : Option Name) (bytes text : List ℕ) (b c : Building) (r : Result ⊤ TextFileRefusal) → text ≡ without_mark bytes → is_utf8 text ≡ true
    → Ends b (lines_steps stem folder (lines_of (length bytes) text)) c (text_ending r) → Ends b (file_steps stem folder bytes) c (text_ending r)
text_ends stem folder bytes text b c r is shown ends = rw (← is, shown) ends

-- facts of a text, stated
pub facts_end : (stem : Name) (folder : Option Name) (lines : List Line) (facts : List Fact) (b c : Building) (r : Result ⊤ TextFileRefusal) → AreFacts stem folder lines facts
    → Ends b (map (step_of stem) facts) c (text_ending r) → Ends b (lines_steps stem folder lines) c (text_ending r)
facts_end stem folder lines facts b c r (front, found, are) ends = rw found (subst (λ (fs : List Fact). Ends b (map (step_of stem) fs) c (text_ending r)) are ends)

-- front matter that is at fault
pub fault_ends : (stem : Name) (folder : Option Name) (lines : List Line) (b : Building) (e : TextFileRefusal) → IsAtFault lines e → Ends b (lines_steps stem folder lines) b (text_ending (Err e))
fault_ends stem folder lines b (Expected place) found = rw found ([], [], refl, refl)
fault_ends stem folder lines b (NotUtf8 place) found = absurd found
fault_ends stem folder lines b (TooManyEdges place) found = absurd found
fault_ends stem folder lines b (TooManyNodes place) found = absurd found
fault_ends stem folder lines b NoMemory found = ([], lines_steps stem folder lines, refl, refl)
