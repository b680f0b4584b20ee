-- What COLLECTs put under a name, block by block.
use Rattle.std.proofs.Common.{◌≡◌, ◌++◌, List, map, inl, inr, ⊎_elim, subst}
use Rattle.std.specs.Prelude.{Contains, ◌↔◌}
use Rattle.std.proofs.lemmas.List.Elements.{Contains-append_left, Contains-append_right, Contains-append_cases}
use Rattle.sd_value.specs.declared.Value.{Value}
use Rattle.sd_value.specs.Order.{value_cmp}
use Rattle.sd_value.specs.Ascending.{ListsExactly}
use Rattle.graph_spec.specs.DataGraph.{DataGraph, Name, node, HasMember}
use Rattle.struql_ast.specs.declared.Collect.{Collect as Written}
use Rattle.struql_ast.specs.Reading.{collect_of}
use Rattle.site_spec.specs.Site.{Scope, SomeOf, IsPut, CollectedBy, Collected}
use Rattle.query_blocks.specs.declared.QueryBlock.{QueryBlock}
use Rattle.query_blocks.specs.Blocks.{body_of, IsCheckedBlock}
use Rattle.sd_value.specs.Gathered.{Gathered}
use Rattle.site_lookups.specs.Ends.{BlockPuts}
use Rattle.site_lookups.proofs.Some.{some_from, map_from, map_to}
use Rattle.site_lookups.proofs.Blocks.{bodies_from, bodies_to}

pub block_puts : (G : DataGraph) (name : Name) (b : QueryBlock) (vs : List Value) → Gathered (λ (k : Written) (v : Value). IsPut G b.chain name v (collect_of k)) b.collects.items vs → (v : Value) → Contains vs v ↔ BlockPuts G name b v
block_puts G name b vs g v =
    (λ h. let r = g.sound v h in record { item = r.0; within = r.1; holds = r.2 }, λ s. g.complete s.item v s.within s.holds)

pub puts_to : (G : DataGraph) (q : Scope) (blocks : List QueryBlock) (name : Name) (vs : List Value) → ((b : QueryBlock) → Contains blocks b → IsCheckedBlock q.version b) → q.bodies ≡ map body_of blocks
    → Gathered (BlockPuts G name) blocks vs → (v : Value) → Contains vs v → CollectedBy G q name v
puts_to G q blocks name vs checked e g v h =
    let r = g.sound v h in
    bodies_from (λ c b. SomeOf (IsPut G c name v) b.collects) q blocks checked e
    (some_from (λ b. SomeOf (IsPut G b.chain name v) (body_of b).collects) blocks r.0 r.1 (map_from (IsPut G r.0.chain name v) collect_of r.0.collects.items r.2))

pub puts_from : (G : DataGraph) (q : Scope) (blocks : List QueryBlock) (name : Name) (vs : List Value) → ((b : QueryBlock) → Contains blocks b → IsCheckedBlock q.version b) → q.bodies ≡ map body_of blocks
    → Gathered (BlockPuts G name) blocks vs → (v : Value) → CollectedBy G q name v → Contains vs v
puts_from G q blocks name vs checked e g v l =
    let s = bodies_to (λ c b. SomeOf (IsPut G c name v) b.collects) q blocks checked e l in
    g.complete s.item v s.within (map_to (IsPut G s.item.chain name v) collect_of s.item.collects.items s.holds)

-- members of the data, and then what the blocks put
pub collected_lists : (G : DataGraph) (q : Scope) (blocks : List QueryBlock) (name : Name) (ms ps all out : List Value) → ((b : QueryBlock) → Contains blocks b → IsCheckedBlock q.version b) → q.bodies ≡ map body_of blocks
    → all ≡ ms ++ ps → ((v : Value) → Contains ms v ↔ ((n : Name) × HasMember G name n × (v ≡ node n))) → Gathered (BlockPuts G name) blocks ps → ListsExactly value_cmp (Contains all) out → ListsExactly value_cmp (Collected G q name) out
collected_lists G q blocks name ms ps all out checked e joined members g x = record {
  ascending = x.ascending;
  sound = λ v h. ⊎_elim (λ k. inr ((members v).0 k)) (λ k. inl (puts_to G q blocks name ps checked e g v k)) (Contains-append_cases ms ps v (subst (λ (xs : List Value). Contains xs v) joined (x.sound v h)));
  complete = λ v h. x.complete v (rw joined (⊎_elim (λ k. Contains-append_right ms ps v (puts_from G q blocks name ps checked e g v k)) (λ k. Contains-append_left ms ps v ((members v).1 k)) h));
}
