-- What reading a text over a first query gives.
use Rattle.std.proofs.Common.{◌≡◌, ◌∙◌, ℕ, List, inl, inr, refl, sym, subst, Result, Ok, Err, arith}
use Rattle.std.specs.Prelude.{Option, Some, None}
use Rattle.graph_spec.specs.DataGraph.{DataGraph}
use Rattle.query_spec.specs.Query as plain
use Rattle.command_spec.specs.Limits.{data_limit}
use Rattle.sd_graph.specs.Statement.{Building, IsEmpty}
use Rattle.sd_graph.specs.declared.GraphRefusal.{GraphRefusal}
use Rattle.sd_graph.specs.declared.GraphRefusal.TheVariants.{TooManyNodes, TooManyEdges, NoMemory}
use Rattle.sd_ddl.specs.Reads.{Reads}
use Rattle.site_spec.specs.Site.{Scope, scope_of}
use Rattle.weight_spec.specs.Site.{site_of}
use Rattle.compose.specs.Listed.{AnswersWithin}
use Rattle.compose.proofs.Whole as one_site
use Rattle.composed_data.specs.SiteData.{IsSiteData, SiteDataEnds}
use Rattle.data_texts.specs.Texts.{no_data, States}
use Rattle.data_texts.proofs.TheReader.{one_graph}
use Rattle.data_texts.specs.ComposedTexts.{StatesOver, MakesData}

-- a text states one graph over a first query
pub only_whole : (first : Scope) (text : List ℕ) (raw : DataGraph) → States text raw → (whole : DataGraph)
    → IsSiteData raw first whole → (G : DataGraph) → StatesOver first text G → G ≡ whole
only_whole first text raw states whole is G (other, stated, d) =
    let same : other ≡ raw = one_graph text other raw stated states in
    d.answers.0 ∙ one_site.one_graph (site_of raw first) raw.nodes d.whole whole
    (subst (λ (x : DataGraph). IsSiteData x first d.whole) same d.is_whole) is

-- a text makes no other data
pub one_data : (first : Option plain.Query) (text : List ℕ) (G H : DataGraph) → MakesData first text G
    → MakesData first text H → G ≡ H
one_data None text G H g h = one_graph text G H g h
one_data (Some first) text G H g (raw, states, d) =
    only_whole (scope_of first) text raw states d.whole d.is_whole G g ∙ sym d.answers.0

-- what was put into a new graph is what the text states
pub stated_by : (text bytes : List ℕ) (b built : Building) → bytes ≡ text → b.limits ≡ no_data.limits → IsEmpty b.graph
    → Reads data_limit bytes b built (Ok tt) → States text built.graph
stated_by text bytes b built bytes_are limits empty reads =
    let is : b ≡ no_data = λ i.
    record { limits = limits i; graph = record { nodes = empty.0 i; edges = empty.1 i; members = empty.2 i } } in (
      built,
      subst (λ (x : Building). Reads data_limit text x built (Ok tt)) is
          (subst (λ (t : List ℕ). Reads data_limit t b built (Ok tt)) bytes_are reads),
      refl,
    )

no_err : (G : DataGraph) → ◌≡◌ {A = Result DataGraph GraphRefusal} (Ok G) (Err NoMemory) → ⊥
no_err G e = cc

no_memory : (e : GraphRefusal) → ◌≡◌ {A = Result DataGraph GraphRefusal} (Err e) (Err NoMemory) → e ≡ NoMemory
no_memory e same = cc

module _ (first : Scope) (text : List ℕ) (raw : DataGraph) (states : States text raw) where
  pub read_some : (G : DataGraph) → SiteDataEnds no_data.limits raw first (Ok G) → StatesOver first text G
  read_some G (inl d) = (raw, states, d)
  read_some G (inr e) = absurd (no_err G e)

  none_within : (e : GraphRefusal) (whole : DataGraph) → AnswersWithin no_data.limits whole (Err e) → (e ≡ NoMemory → ⊥)
      → AnswersWithin no_data.limits whole (Ok whole) → ⊥
  none_within TooManyNodes whole over other within = omega (arith, over, within.1)
  none_within TooManyEdges whole over other within = omega (arith, over.1, within.2)
  none_within NoMemory whole over other within = other refl

  pub read_none : (e : GraphRefusal) → SiteDataEnds no_data.limits raw first (Err e) → (e ≡ NoMemory → ⊥)
      → (G : DataGraph) → ¬ StatesOver first text G
  read_none e (inl d) other G h =
      let same : G ≡ d.whole = only_whole first text raw states d.whole d.is_whole G h in
      let there : h.2.whole ≡ d.whole = sym h.2.answers.0 ∙ same in
      none_within e d.whole d.answers other
      (subst (λ (x : DataGraph). AnswersWithin no_data.limits x (Ok x)) there (refl, h.2.answers.1, h.2.answers.2))
  read_none e (inr same) other G h = other (no_memory e same)

-- a graph that is too large is no lack of memory
pub nodes_kept : (e : GraphRefusal) → e ≡ TooManyNodes → e ≡ NoMemory → ⊥
nodes_kept e is same = let wrong : TooManyNodes ≡ NoMemory = sym is ∙ same in cc

pub edges_kept : (e : GraphRefusal) → e ≡ TooManyEdges → e ≡ NoMemory → ⊥
edges_kept e is same = let wrong : TooManyEdges ≡ NoMemory = sym is ∙ same in cc
