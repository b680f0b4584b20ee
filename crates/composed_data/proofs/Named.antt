-- The names under which blocks collect are those under which the query does.
use Rattle.std.proofs.Common.{◌≡◌, List, map, subst}
use Rattle.std.specs.Prelude.{Contains}
use Rattle.std.specs.List.{flat_map}
use Rattle.sd_value.specs.Names.{Name}
use Rattle.sd_value.specs.Order.{bytes_cmp}
use Rattle.sd_value.specs.Ascending.{ListsExactly}
use Rattle.sd_value.specs.AscendingLaws.{listed_as}
use Rattle.sd_value.specs.Members.{Contains-map, Contains-mapped, Contains-flat_map, Contains-flat_mapped}
use Rattle.struql_ast.specs.declared.Collect.{Collect}
use Rattle.struql_ast.specs.Reading.{collect_of}
use Rattle.query_spec.specs.Query as plain
use Rattle.site_spec.specs.Site.{SomeOf}
use Rattle.query_blocks.specs.declared.QueryBlock.{QueryBlock}
use Rattle.query_blocks.specs.declared.QueryBlocks.{QueryBlocks}
use Rattle.query_blocks.specs.Blocks.{body_of, scope_of}
use Rattle.site_lookups.proofs.Some.{map_to, map_from, some_from}
use Rattle.composed_data.specs.Named.{IsCollectName}

abbrev pub names_of : QueryBlock → List Name
names_of b = map (λ c. c.collection) b.collects.items

abbrev Puts : Name → plain.Body → Type 0
Puts name b = SomeOf (λ k. k.collection ≡ name) b.collects

to : (scopes : QueryBlocks) (name : Name) → Contains (flat_map names_of scopes.blocks.items) name → IsCollectName
    (scope_of scopes) name
to scopes name h =
    let block = Contains-flat_map names_of scopes.blocks.items name h in
    let collect = Contains-map (λ (c : Collect). c.collection) block.0.collects.items name block.2 in
    map_from (Puts name) body_of scopes.blocks.items
    (some_from (λ b. Puts name (body_of b)) scopes.blocks.items block.0 block.1
    (map_from (λ (k : plain.Collect). k.collection ≡ name) collect_of block.0.collects.items
    (some_from (λ (c : Collect). c.collection ≡ name) block.0.collects.items collect.0 collect.2 collect.1)))

from : (scopes : QueryBlocks) (name : Name) → IsCollectName (scope_of scopes) name
    → Contains (flat_map names_of scopes.blocks.items) name
from scopes name s =
    let block = map_to (Puts name) body_of scopes.blocks.items s in
    let collect = map_to (λ (k : plain.Collect). k.collection ≡ name) collect_of block.item.collects.items
    block.holds in
    Contains-flat_mapped names_of scopes.blocks.items block.item name block.within
    (subst (Contains (names_of block.item)) collect.holds
    (Contains-mapped (λ (c : Collect). c.collection) block.item.collects.items collect.item collect.within))

pub names_listed : (scopes : QueryBlocks) (names : List Name)
    → ListsExactly bytes_cmp (Contains (flat_map names_of scopes.blocks.items)) names
    → ListsExactly bytes_cmp (IsCollectName (scope_of scopes)) names
names_listed scopes names h = listed_as h (to scopes) (from scopes)
