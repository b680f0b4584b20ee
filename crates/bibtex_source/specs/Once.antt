-- A text has one answer, besides out of memory.
use Rattle.std.specs.Prelude.{◌≡◌, ℕ, List, Result, Ok, Err, ⊤}
use Rattle.std.proofs.Common.{refl, sym, ◌∙◌, ap}
use Rattle.graph_spec.specs.DataGraph.{Name}
use Rattle.sd_graph.specs.Statement.{Building}
use Rattle.sd_graph.specs.Stating.{Ending, done, fault, too_many_nodes, too_many_edges, no_memory}
use Rattle.source_steps.specs.Once.{IsTold, ends_once}
use Rattle.bibtex_source.specs.declared.refusal.BibRefusal.{BibRefusal}
use Rattle.bibtex_source.specs.declared.refusal.BibRefusal.TheVariants.{Expected, UnknownMacro, TooDeep, TooLarge, TooManyEdges, TooManyNodes, NoMemory}
use Rattle.bibtex_source.specs.declared.rules.BibRules.{BibRules}
use Rattle.bibtex_source.specs.Text.{text_steps, bib_ending}
use Rattle.bibtex_source.specs.Reads.{HasOneAnswer}

-- the answer that ends so
abbrev answer_of : Ending ℕ BibRefusal → Result ⊤ BibRefusal
answer_of done = Ok tt
answer_of (fault e) = Err e
answer_of (too_many_nodes k) = Err (TooManyNodes k)
answer_of (too_many_edges k) = Err (TooManyEdges k)
answer_of no_memory = Err NoMemory

answer_back : (r : Result ⊤ BibRefusal) → answer_of (bib_ending r) ≡ r
answer_back (Ok u) = refl
answer_back (Err (Expected k)) = refl
answer_back (Err (UnknownMacro k)) = refl
answer_back (Err (TooDeep k)) = refl
answer_back (Err (TooLarge k)) = refl
answer_back (Err (TooManyEdges k)) = refl
answer_back (Err (TooManyNodes k)) = refl
answer_back (Err NoMemory) = refl

told : (r : Result ⊤ BibRefusal) → (r ≡ Err NoMemory → ⊥) → IsTold (bib_ending r)
told (Ok u) h = tt
told (Err (Expected k)) h = tt
told (Err (UnknownMacro k)) h = tt
told (Err (TooDeep k)) h = tt
told (Err (TooLarge k)) h = tt
told (Err (TooManyEdges k)) h = tt
told (Err (TooManyNodes k)) h = tt
told (Err NoMemory) h = h refl

pub has_one_answer : (rules : BibRules) (stem : Name) (bytes : List ℕ) (b : Building)
    → HasOneAnswer rules stem bytes b
has_one_answer rules stem bytes b c d r s h k left right =
    let same = ends_once b c d (text_steps rules stem bytes) (bib_ending r) (bib_ending s)
    (told r left) (told s right) h k in
    (same.0, sym (answer_back r) ∙ ap answer_of same.1 ∙ answer_back s)
