-- Words for the laws of edits.
use Rattle.std.specs.Prelude.{◌≡◌, Contains}
use Rattle.graph_spec.specs.DataGraph.{DataGraph, Name, IsWellFormed}
use Rattle.query_spec.specs.Query.{Link, Body as Block}
use Rattle.site_spec.specs.Site.{Scope, SomeOf, chain, terms_of}
use Rattle.query_blocks.specs.Blocks.{IsMade}
use Rattle.edit_spec.specs.declared.Edit.{Edit}
use Rattle.edit_spec.specs.Edited.{Edited, IsOfData}
use Rattle.edit_spec.specs.Touches.{TouchesChain}
use Rattle.edit_spec.specs.Footprint.{MayBeLabelled}

-- a data graph, an edit that puts no page into it, and the graph after the edit
pub record Becomes (G : DataGraph) (e : Edit) (H : DataGraph) : Type 0 where
  pub well_formed : IsWellFormed G
  pub of_data : IsOfData e
  pub edited : Edited G e H

-- the edit touches the chain of no block with P
abbrev pub Spares : Edit → Scope → (Block → Type 0) → Type 0
Spares e q P = (b : Block) → Contains q.bodies b → P b → TouchesChain e (chain q b) → ⊥

-- the block names a term of the function
abbrev pub NamesTermOf : Name → Block → Type 0
NamesTermOf function b = SomeOf (λ s. s.function ≡ function) (terms_of b)

-- it has a link that may carry the label
abbrev pub HasLinkBy : Name → Block → Type 0
HasLinkBy l b = SomeOf (λ k. MayBeLabelled k.label l) b.links

-- it collects under the name
abbrev pub CollectsUnder : Name → Block → Type 0
CollectsUnder name b = SomeOf (λ c. c.collection ≡ name) b.collects

-- every link starts at a written term
abbrev pub HasMadeSources : Scope → Type 0
HasMadeSources q = (b : Block) → Contains q.bodies b → (k : Link) → Contains b.links k
    → IsMade k.source
