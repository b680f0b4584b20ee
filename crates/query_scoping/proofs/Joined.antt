-- What is checked of a query's blocks is what a site asks of them.
use Rattle.std.proofs.Common.{◌≡◌, ℕ, List, [], ◌∷◌, ◌++◌, map, refl, sym, ap, subst, ⊎_elim}
use Rattle.std.specs.Prelude.{Contains, All}
use Rattle.std.specs.List.{flat_map}
use Rattle.std.proofs.lemmas.List.Elements.{Contains-append_left, Contains-append_right, Contains-append_cases}
use Rattle.sd_value.specs.declared.Value.{Value}
use Rattle.sd_value.specs.Names.{Name}
use Rattle.sd_value.specs.declared.Datum.TheVariants.{Node}
use Rattle.sd_value.specs.declared.Value.TheVariants.{Data, Page}
use Rattle.sd_value.specs.Members.{Contains-nil, Contains-here, Contains-there, Contains-cons_cases, Contains-mapped, Contains-flat_mapped}
use Rattle.query_spec.specs.Query.{Target, plain, constant, Link, Collect, Condition, Body, Chain, Blocks, no_blocks, block, Query, with_outer, blocks_in_scope}
use Rattle.query_spec.specs.Mentions.{IsDeclared, IsWellMade, chain_of}
use Rattle.site_spec.specs.Site.{Scope}
use Rattle.struql_check.specs.Parsed.{IsParsed, IsWritable, constants, condition_constants, term_constants, link_constants, target_constants, bodies_within}
use Rattle.query_scoping.specs.Blocks.{IsSafe, HaveChains}
use Rattle.query_blocks.specs.declared.QueryBlock.{QueryBlock}
use Rattle.query_blocks.specs.Blocks.{body_of, IsCheckedBlock, AreCheckedBlocks, IsOfData, IsNodeWritten}

at_of : {X : Type 0} (P : X → Type 0) (xs : List X) (x : X) → All P xs → Contains xs x → P x
at_of P xs x all h = subst P h.2 (all h.0 x h.1)

abbrev scope_at : ℕ → List Body → Scope
scope_at v bs = record { version = v; bodies = bs }

pub scope_same : (v w : ℕ) (bs cs : List Body) → v ≡ w → bs ≡ cs → scope_at v bs ≡ scope_at w cs
scope_same v w bs cs e f = λ i. record { version = e i; bodies = f i }

-- ---- a query's own bodies, apart from their conditions

own : (outer : List Condition) (bs : Blocks) (b : Body) → Contains (with_outer outer bs) b → (o : Body) × Contains (bodies_within bs) o × (o.links ≡ b.links) × (o.collects ≡ b.collects)
own outer no_blocks b h = absurd (Contains-nil b h)
own outer (block body inner after) b h =
    let within = outer ++ body.conditions in
    let here = bodies_within inner ++ bodies_within after in
    ⊎_elim (λ e. (body, Contains-here body here, ap (λ (z : Body). z.links) e, ap (λ (z : Body). z.collects) e))
    (λ k. ⊎_elim
    (λ i. let r = own within inner b i in (r.0, Contains-there body here r.0 (Contains-append_left (bodies_within inner) (bodies_within after) r.0 r.1), r.2, r.3))
    (λ i. let r = own outer after b i in (r.0, Contains-there body here r.0 (Contains-append_right (bodies_within inner) (bodies_within after) r.0 r.1), r.2, r.3))
    (Contains-append_cases (with_outer within inner) (with_outer outer after) b k))
    (Contains-cons_cases (record body { conditions = outer ++ body.conditions }) (with_outer within inner ++ with_outer outer after) b h)

module _ (t : Target) (w : (v : Value) → Contains (target_constants t) v → IsWritable v) where
  writable_constant : (v : Value) → t ≡ plain (constant v) → IsWritable v
  writable_constant v e =
      subst (λ (t : Target). (v : Value) → Contains (target_constants t) v → IsWritable v) e w v (Contains-here v [])

  of_data : IsOfData t
  of_data p e = writable_constant (Page p) e

  no_node : IsNodeWritten t → ⊥
  no_node (n, e) = writable_constant (Data (Node n)) e

abbrev puts_constants : Collect → List Value
puts_constants o = target_constants o.target

link_constant : (o : Body) (k : Link) (v : Value) → Contains o.links k → Contains (target_constants k.target) v → Contains (constants o) v
link_constant o k v h i =
    let before = flat_map condition_constants o.conditions ++ flat_map term_constants o.creates in
    let links = flat_map link_constants o.links in
    Contains-append_left (before ++ links) (flat_map puts_constants o.collects) v
    (Contains-append_right before links v (Contains-flat_mapped link_constants o.links k v h (Contains-append_right (target_constants k.source) (target_constants k.target) v i)))

put_constant : (o : Body) (k : Collect) (v : Value) → Contains o.collects k → Contains (target_constants k.target) v → Contains (constants o) v
put_constant o k v h i =
    Contains-append_right (flat_map condition_constants o.conditions ++ flat_map term_constants o.creates ++ flat_map link_constants o.links) (flat_map puts_constants o.collects) v
    (Contains-flat_mapped puts_constants o.collects k v h i)

writable_at : (q : Query) (o : Body) (v : Value) → IsParsed q → Contains (bodies_within q.blocks) o → Contains (constants o) v → IsWritable v
writable_at q o v p h i = at_of IsWritable (constants o) v (at_of (λ b. All IsWritable (constants b)) (bodies_within q.blocks) o p.writable h) i

module _ (q : Query) (b : Body) (p : IsParsed q) (h : Contains (blocks_in_scope q) b) where
  link_writable : (k : Link) → Contains b.links k → (v : Value) → Contains (target_constants k.target) v → IsWritable v
  link_writable k i v c =
      let o = own [] q.blocks b h in
      writable_at q o.0 v p o.1 (link_constant o.0 k v (subst (λ (ks : List Link). Contains ks k) (sym o.2) i) c)

  put_writable : (k : Collect) → Contains b.collects k → (v : Value) → Contains (target_constants k.target) v → IsWritable v
  put_writable k i v c =
      let o = own [] q.blocks b h in
      writable_at q o.0 v p o.1 (put_constant o.0 k v (subst (λ (ks : List Collect). Contains ks k) (sym o.3) i) c)

-- ---- one block

scoped_one : (q : Query) (b : QueryBlock) → IsParsed q → Contains (blocks_in_scope q) (body_of b) → b.chain ≡ chain_of q.version b.chain.conditions → IsSafe q.version (body_of b) → IsCheckedBlock q.version b
scoped_one q b p h e s = record {
  chain = e;
  well_made = subst IsWellMade (sym e) s.well_made;
  terms = λ t i. subst (λ (c : Chain). All (IsDeclared c.variables) t.args) (sym e) (s.terms t i);
  sources = λ k i. s.sources k i;
  targets = λ k i. of_data k.target (link_writable q (body_of b) p h k i);
  puts = λ k i. of_data k.target (put_writable q (body_of b) p h k i);
  no_linked_node = λ k i. no_node k.target (link_writable q (body_of b) p h k i);
  no_put_node = λ k i. no_node k.target (put_writable q (body_of b) p h k i);
}

pub all_scoped : (q : Query) (xs : List QueryBlock) → IsParsed q → map body_of xs ≡ blocks_in_scope q → HaveChains q.version xs
    → ((b : Body) → Contains (blocks_in_scope q) b → IsSafe q.version b) → AreCheckedBlocks q.version xs
all_scoped q xs p e chains safe s h =
    let within = subst (λ (bs : List Body). Contains bs (body_of s)) e (Contains-mapped body_of xs s h) in
    let chain = at_of (λ (b : QueryBlock). b.chain ≡ chain_of q.version b.chain.conditions) xs s chains h in
    scoped_one q s p within chain (safe (body_of s) within)
