-- A text has one answer, besides out of memory.
use Rattle.std.specs.Prelude.{◌≡◌, ℕ, List, Result, Ok, Err, ⊤}
use Rattle.std.proofs.Common.{refl, sym, ◌∙◌, ap}
use Rattle.graph_spec.specs.DataGraph.{Name}
use Rattle.sd_graph.specs.Statement.{Building}
use Rattle.sd_graph.specs.Stating.{Ending, done, fault, too_many_nodes, too_many_edges, no_memory}
use Rattle.source_steps.specs.Once.{IsTold, ends_once}
use Rattle.json_source.specs.declared.rules.JsonRules.{JsonRules}
use Rattle.json_source.specs.declared.refusal.JsonRefusal.{JsonRefusal}
use Rattle.json_source.specs.declared.refusal.JsonRefusal.TheVariants.{NotJson, NotInteger, NotRecords, TooManyEdges}
use Rattle.json_source.specs.declared.refusal.JsonRefusal.TheVariants.{TooManyNodes, NoMemory}
use Rattle.json_source.specs.Names.{Pointer}
use Rattle.json_source.specs.Text.{text_steps, json_ending}
use Rattle.json_source.specs.Reads.{HasOneAnswer}

-- the answer that ends so
abbrev answer_of : Ending Pointer JsonRefusal → Result ⊤ JsonRefusal
answer_of done = Ok tt
answer_of (fault e) = Err e
answer_of (too_many_nodes k) = Err (TooManyNodes k)
answer_of (too_many_edges k) = Err (TooManyEdges k)
answer_of no_memory = Err NoMemory

answer_back : (r : Result ⊤ JsonRefusal) → answer_of (json_ending r) ≡ r
answer_back (Ok u) = refl
answer_back (Err NotJson) = refl
answer_back (Err (NotInteger k)) = refl
answer_back (Err (NotRecords k)) = refl
answer_back (Err (TooManyEdges k)) = refl
answer_back (Err (TooManyNodes k)) = refl
answer_back (Err NoMemory) = refl

told : (r : Result ⊤ JsonRefusal) → (r ≡ Err NoMemory → ⊥) → IsTold (json_ending r)
told (Ok u) h = tt
told (Err NotJson) h = tt
told (Err (NotInteger k)) h = tt
told (Err (NotRecords k)) h = tt
told (Err (TooManyEdges k)) h = tt
told (Err (TooManyNodes k)) h = tt
told (Err NoMemory) h = h refl

pub has_one_answer : (rules : JsonRules) (stem : Name) (bytes : List ℕ) (b : Building)
    → HasOneAnswer rules stem bytes b
has_one_answer rules stem bytes b c d r s h k left right =
    let same = ends_once b c d (text_steps rules stem bytes) (json_ending r) (json_ending s)
    (told r left) (told s right) h k in
    (same.0, sym (answer_back r) ∙ ap answer_of same.1 ∙ answer_back s)
