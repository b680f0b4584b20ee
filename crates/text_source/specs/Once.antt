-- A text file has one answer, besides out of memory.
use Rattle.std.specs.Prelude.{◌≡◌, ℕ, List, Option, Result, Ok, Err, ⊤}
use Rattle.std.proofs.Common.{refl, sym, ◌∙◌, ap}
use Rattle.graph_spec.specs.DataGraph.{Name}
use Rattle.sd_graph.specs.Statement.{Building}
use Rattle.sd_graph.specs.Stating.{Ending, done, fault, too_many_nodes, too_many_edges, no_memory}
use Rattle.source_steps.specs.Once.{IsTold, ends_once}
use Rattle.text_source.specs.declared.refusal.TextFileRefusal.{TextFileRefusal}
use Rattle.text_source.specs.declared.refusal.TextFileRefusal.TheVariants.{NotUtf8, Expected, TooManyEdges, TooManyNodes, NoMemory}
use Rattle.text_source.specs.Text.{file_steps, text_ending}
use Rattle.text_source.specs.Reads.{HasOneAnswer}

-- the answer that ends so
abbrev answer_of : Ending ℕ TextFileRefusal → Result ⊤ TextFileRefusal
answer_of done = Ok tt
answer_of (fault e) = Err e
answer_of (too_many_nodes at) = Err (TooManyNodes at)
answer_of (too_many_edges at) = Err (TooManyEdges at)
answer_of no_memory = Err NoMemory

answer_back : (r : Result ⊤ TextFileRefusal) → answer_of (text_ending r) ≡ r
answer_back (Ok u) = refl
answer_back (Err (NotUtf8 at)) = refl
answer_back (Err (Expected at)) = refl
answer_back (Err (TooManyEdges at)) = refl
answer_back (Err (TooManyNodes at)) = refl
answer_back (Err NoMemory) = refl

told : (r : Result ⊤ TextFileRefusal) → (r ≡ Err NoMemory → ⊥) → IsTold (text_ending r)
told (Ok u) h = tt
told (Err (NotUtf8 at)) h = tt
told (Err (Expected at)) h = tt
told (Err (TooManyEdges at)) h = tt
told (Err (TooManyNodes at)) h = tt
told (Err NoMemory) h = h refl

pub has_one_answer : (stem : Name) (folder : Option Name) (bytes : List ℕ) (b : Building)
    → HasOneAnswer stem folder bytes b
has_one_answer stem folder bytes b c d r s h k left right =
    let same = ends_once b c d (file_steps stem folder bytes) (text_ending r) (text_ending s)
    (told r left) (told s right) h k in
    (same.0, sym (answer_back r) ∙ ap answer_of same.1 ∙ answer_back s)
