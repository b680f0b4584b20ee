-- A text has one answer, besides out of memory.
use Rattle.std.specs.Prelude.{◌≡◌, ℕ, List, Result, Ok, Err, ⊤}
use Rattle.std.proofs.Common.{refl, sym, ◌∙◌, ap}
use Rattle.graph_spec.specs.DataGraph.{Name}
use Rattle.sd_graph.specs.Statement.{Building}
use Rattle.sd_graph.specs.Stating.{Ending, done, fault, too_many_nodes, too_many_edges, no_memory}
use Rattle.source_steps.specs.Once.{IsTold, ends_once}
use Rattle.csv_source.specs.declared.rules.CsvRules.{CsvRules}
use Rattle.csv_source.specs.declared.refusal.CsvRefusal.{CsvRefusal}
use Rattle.csv_source.specs.declared.refusal.CsvRefusal.TheVariants.{NotUtf8, EmptyLabel, Ragged, TooManyEdges, TooManyNodes, NoMemory}
use Rattle.csv_source.specs.Text.{text_steps, csv_ending}
use Rattle.csv_source.specs.Reads.{HasOneAnswer}

-- the answer that ends so
abbrev answer_of : Ending ℕ CsvRefusal → Result ⊤ CsvRefusal
answer_of done = Ok tt
answer_of (fault e) = Err e
answer_of (too_many_nodes k) = Err (TooManyNodes k)
answer_of (too_many_edges k) = Err (TooManyEdges k)
answer_of no_memory = Err NoMemory

answer_back : (r : Result ⊤ CsvRefusal) → answer_of (csv_ending r) ≡ r
answer_back (Ok u) = refl
answer_back (Err (NotUtf8 k)) = refl
answer_back (Err (EmptyLabel k)) = refl
answer_back (Err (Ragged k)) = refl
answer_back (Err (TooManyEdges k)) = refl
answer_back (Err (TooManyNodes k)) = refl
answer_back (Err NoMemory) = refl

told : (r : Result ⊤ CsvRefusal) → (r ≡ Err NoMemory → ⊥) → IsTold (csv_ending r)
told (Ok u) h = tt
told (Err (NotUtf8 k)) h = tt
told (Err (EmptyLabel k)) h = tt
told (Err (Ragged k)) h = tt
told (Err (TooManyEdges k)) h = tt
told (Err (TooManyNodes k)) h = tt
told (Err NoMemory) h = h refl

pub has_one_answer : (rules : CsvRules) (stem : Name) (bytes : List ℕ) (b : Building)
    → HasOneAnswer rules stem bytes b
has_one_answer rules stem bytes b c d r s h k left right =
    let same = ends_once b c d (text_steps rules stem bytes) (csv_ending r) (csv_ending s)
    (told r left) (told s right) h k in
    (same.0, sym (answer_back r) ∙ ap answer_of same.1 ∙ answer_back s)
