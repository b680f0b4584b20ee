-- What reading a BibTeX text into a graph answers, and what the graph holds afterwards.
use Rattle.std.specs.Prelude.{◌≡◌, ℕ, List, Result, Err, ⊤}
use Rattle.graph_spec.specs.DataGraph.{Name}
use Rattle.sd_graph.specs.Statement.{Building}
use Rattle.sd_graph.specs.Stating.{Ends}
use Rattle.bibtex_source.specs.declared.refusal.BibRefusal.{BibRefusal}
use Rattle.bibtex_source.specs.declared.refusal.BibRefusal.TheVariants.{NoMemory}
use Rattle.bibtex_source.specs.declared.rules.BibRules.{BibRules}
use Rattle.bibtex_source.specs.Text.{text_steps, bib_ending}

-- the text's steps by the rules are taken from b, lead to c, and end with this answer
abbrev pub Reads : BibRules → Name → List ℕ → Building → Building → Result ⊤ BibRefusal → Type 0
Reads rules stem bytes b c result = Ends b (text_steps rules stem bytes) c (bib_ending result)

-- two answers, neither of them out of memory, are one, and so are the graphs that they leave
abbrev pub HasOneAnswer : BibRules → Name → List ℕ → Building → Type 0
HasOneAnswer rules stem bytes b =
    (c d : Building) (r s : Result ⊤ BibRefusal)
    → Reads rules stem bytes b c r → Reads rules stem bytes b d s
    → (r ≡ Err NoMemory → ⊥) → (s ≡ Err NoMemory → ⊥) → (c ≡ d) × (r ≡ s)
