-- The footprint that its parts stand for.
use Rattle.std.specs.Prelude.{◌≡◌, ℕ, Some, slice_get}
use Rattle.query_spec.specs.Query.{Body as Block}
use Rattle.site_spec.specs.Site.{Scope, chain}
use Rattle.edit_spec.specs.declared.Edit.{Edit}
use Rattle.edit_spec.specs.Touches.{TouchesChain}
use Rattle.edit_spec.specs.Footprint.{Footprint}
use Rattle.edit_touches.specs.declared.FootprintParts.{FootprintParts}

abbrev pub footprint_of : FootprintParts → Footprint
footprint_of p = record {
  every = p.every;
  blocks = p.blocks.items;
  labels = p.labels.items;
  collections = p.collections.items;
}

-- the edit touches the chain of the block of this number
abbrev pub TouchesBlock : Edit → Scope → ℕ → Type 0
TouchesBlock e q i = (b : Block) × (slice_get q.bodies i ≡ Some b) × TouchesChain e (chain q b)
