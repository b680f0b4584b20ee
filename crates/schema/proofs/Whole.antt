-- The schema of a query, from its parts.
use Rattle.std.proofs.Common.{◌≡◌, ◌∙◌, ℕ, suc, ◌+◌, List, [], ◌∷◌, ◌++◌, length, map, sym, ap, subst, inl, inr}
use Rattle.std.specs.Prelude.{◌⊎◌, Contains, filter}
use Rattle.std.specs.List.Sorted.{IsSorted, IsStable}
use Rattle.std.proofs.lemmas.List.{length-map}
use Rattle.std.proofs.lemmas.List.Elements.{Contains-append_cases}
use Rattle.sd_value.specs.Ascending.{ListsExactly}
use Rattle.sd_value.specs.Members.{Contains-nil, Contains-here, Contains-there, Contains-cons_cases, Contains-map}
use Rattle.query_spec.specs.Query.{Condition, Link, Body, Query, blocks_in_scope}
use Rattle.struql_ast.specs.declared.Block.{Block}
use Rattle.struql_ast.specs.declared.Query as declared
use Rattle.struql_ast.specs.Reading.{blocks_of, query_of}
use Rattle.query_blocks.specs.declared.QueryBlock.{QueryBlock}
use Rattle.query_blocks.specs.Blocks.{body_of, IsMade, AreCheckedBlocks}
use Rattle.schema.proofs.PathLists.{paths_length}
use Rattle.site_spec.specs.Paths.{paths_from}
use Rattle.site_spec.specs.Schema as spec
use Rattle.site_spec.specs.Schema.{edges_in, edges_from, schema_edges}
use Rattle.schema.specs.declared.SchemaFunction.{SchemaFunction}
use Rattle.schema.specs.declared.SchemaEdge.{SchemaEdge}
use Rattle.schema.specs.declared.SiteSchema.{SiteSchema}
use Rattle.schema.specs.Orders.{function_cmp, edge_cmp}
use Rattle.schema.specs.Rows.{row, IsFunctionIn, IsSchema, rows_from}
use Rattle.schema.proofs.Sorted.{kept_in_order, rows_of_function}

pub paths_are : (paths : List (List ℕ)) (q : Query) (w : declared.Query) (bs : List Block) → paths ≡ paths_from [] 1 (blocks_of bs) → bs ≡ w.blocks.items → query_of w ≡ q → paths ≡ paths_from [] 1 q.blocks
paths_are paths q w bs e f same = e ∙ (ap (λ (x : List Block). paths_from [] 1 (blocks_of x)) f ∙ ap (λ (x : Query). paths_from [] 1 x.blocks) same)

-- there is one path for each block
pub one_path_each : (q : Query) (paths : List (List ℕ)) (blocks : List QueryBlock) → paths ≡ paths_from [] 1 q.blocks → map body_of blocks ≡ blocks_in_scope q → length paths ≡ length blocks
one_path_each q paths blocks e f = ap length e ∙ (paths_length [] 1 [] q.blocks ∙ (sym (ap length f) ∙ length-map blocks body_of))

in_block : (n : ℕ) (path : List ℕ) (conditions : List Condition) (ks : List Link) (e : spec.SchemaEdge) → Contains (edges_in n path conditions ks) e → Contains ks e.link
in_block n path conditions [] e h = absurd (Contains-nil e h)
in_block n path conditions (k ∷ ks) e h = elim (Contains-cons_cases _ (edges_in (suc n) path conditions ks) e h) [
  | inl is ↦ subst (Contains (k ∷ ks)) (ap (λ (x : spec.SchemaEdge). x.link) is) (Contains-here k ks)
  | inr later ↦ Contains-there k ks e.link (in_block (suc n) path conditions ks e later)
]

-- the links of blocks whose links start at terms do so
all_made : (n : ℕ) (paths : List (List ℕ)) (bodies : List Body) → ((b : Body) → Contains bodies b → (k : Link) → Contains b.links k → IsMade k.source)
    → (e : spec.SchemaEdge) → Contains (edges_from n paths bodies) e → IsMade e.link.source
all_made n [] bodies each e h = absurd (Contains-nil e h)
all_made n (p ∷ paths) [] each e h = absurd (Contains-nil e h)
all_made n (p ∷ paths) (b ∷ bodies) each e h = elim (Contains-append_cases (edges_in n p b.conditions b.links) (edges_from (n + length b.links) paths bodies) e h) [
  | inl here ↦ each b (Contains-here b bodies) e.link (in_block n p b.conditions b.links e here)
  | inr later ↦ all_made (n + length b.links) paths bodies (λ c at. each c (Contains-there b bodies c at)) e later
]

sources_made : (version : ℕ) (blocks : List QueryBlock) → AreCheckedBlocks version blocks → (b : Body) → Contains (map body_of blocks) b → (k : Link) → Contains b.links k → IsMade k.source
sources_made version blocks checked b h k at =
    let (s, is, within) = Contains-map body_of blocks b h in
    (checked s within).sources k (subst (λ (x : Body). Contains x.links k) (sym is) at)

pub is_schema : (q : Query) (s : SiteSchema) (version : ℕ) (paths : List (List ℕ)) (blocks : List QueryBlock) (edges : List SchemaEdge)
    → paths ≡ paths_from [] 1 q.blocks → map body_of blocks ≡ blocks_in_scope q → AreCheckedBlocks version blocks
    → ListsExactly function_cmp (IsFunctionIn (map body_of blocks)) s.functions.items → edges ≡ map (row q.version) (edges_from 1 paths (map body_of blocks))
    → IsSorted edge_cmp s.edges.items → IsStable edge_cmp edges s.edges.items → IsSchema q s
is_schema q s version paths blocks edges e f checked functions rows sorted stable =
    let all : edges_from 1 paths (map body_of blocks) ≡ schema_edges q = (λ i. edges_from 1 (e i) (f i)) in
    let made = subst (λ (es : List spec.SchemaEdge). (x : spec.SchemaEdge) → Contains es x → IsMade x.link.source) all (all_made 1 paths (map body_of blocks) (sources_made version blocks checked)) in
    record {
      functions = subst (λ (bodies : List Body). ListsExactly function_cmp (IsFunctionIn bodies) s.functions.items) f functions;
      edges = λ name. kept_in_order name edges s.edges.items stable ∙ ap (rows_from name) (rows ∙ ap (map (row q.version)) all) ∙ rows_of_function q.version name (schema_edges q) made;
      sorted = sorted;
    }
