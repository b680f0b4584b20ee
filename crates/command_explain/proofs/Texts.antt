-- One block's text more.
use Rattle.std.proofs.Common.{◌≡◌, ℕ, ◌+◌, ◌<◌, List, [], ◌∷◌, ◌++◌, length, map, take, get_or, refl, sym, ap, subst, ◌∙◌, append_assoc}
use Rattle.std.specs.Prelude.{Bool, false, Contains, codes}
use Rattle.std.specs.List.{flat_map}
use Rattle.std.proofs.Math.Seq.{take-length}
use Rattle.std.proofs.lemmas.List.{append-nil, take_more, map-append, length-map, get_or-map}
use Rattle.graph_spec.specs.DataGraph.{DataGraph}
use Rattle.query_spec.specs.declared.Variable.{Variable}
use Rattle.query_spec.specs.Query.{Chain, Body, Query, blocks_in_scope}
use Rattle.query_spec.specs.Mentions.{IsWellMade, chain_of}
use Rattle.query_blocks.specs.Blocks.{body_of}
use Rattle.query_scoping.specs.Blocks.{IsSafe, HaveChains}
use Rattle.query_blocks.specs.declared.QueryBlock.{QueryBlock}
use Rattle.site_spec.specs.Paths.{paths_from}
use Rattle.schema.proofs.PathLists.{paths_length}
use Rattle.struql_ast.specs.declared.Block.{Block}
use Rattle.struql_ast.specs.declared.Query as declared
use Rattle.struql_ast.specs.Reading.{blocks_of, query_of}
use Rattle.plan_spec.specs.declared.Counts.{Counts}
use Rattle.plan_spec.specs.declared.PlanStep.{PlanStep}
use Rattle.plan_spec.specs.Shape.{CountsOf, IsPlanOf}
use Rattle.command_explain.specs.Lines.{step_text, block_text}
use Rattle.command_explain.specs.Explained.{AppendsBlock, AreExplained, IsExplained}

pub explained_push : (G : DataGraph) (version : ℕ) (paths : List (List ℕ)) (bodies : List Body) (text : List ℕ) (path : List ℕ) (b : Body) (more : List ℕ)
    → AreExplained G version paths bodies text → AppendsBlock G path (chain_of version b.conditions) [] more → AreExplained G version (paths ++ path ∷ []) (bodies ++ b ∷ []) (text ++ more)
explained_push G version [] [] text path b more is one = (more, [], one, refl, ap (λ front. front ++ more) is ∙ sym (append-nil more))
explained_push G version [] (c ∷ bodies) text path b more h one = absurd h
explained_push G version (p ∷ paths) [] text path b more h one = absurd h
explained_push G version (p ∷ paths) (c ∷ bodies) text path b more (front, back, first, later, is) one =
    (front, back ++ more, first, explained_push G version paths bodies back path b more later one, ap (λ all. all ++ more) is ∙ append_assoc front back more)

-- there is one path for each block
pub one_path_each : (q : Query) (paths : List (List ℕ)) (blocks : List QueryBlock) → paths ≡ paths_from [] 1 q.blocks → map body_of blocks ≡ blocks_in_scope q → length paths ≡ length blocks
one_path_each q paths blocks e f = ap length e ∙ (paths_length [] 1 [] q.blocks ∙ (sym (ap length f) ∙ length-map blocks body_of))

module _ (version : ℕ) (blocks : List QueryBlock) (i : ℕ) (s : QueryBlock) (within : i < length blocks) (here : s ≡ get_or blocks i s) (chains : HaveChains version blocks) where
  chain_is : s.chain ≡ chain_of version s.chain.conditions
  chain_is = subst (λ (x : QueryBlock). x.chain ≡ chain_of version x.chain.conditions) (sym here) (chains i s within)

  pub well_made_at : (bodies : List Body) → map body_of blocks ≡ bodies → ((b : Body) → Contains bodies b → IsSafe version b) → IsWellMade s.chain
  well_made_at bodies e safe =
      let at : get_or (map body_of blocks) i (body_of s) ≡ body_of s = get_or-map body_of blocks i s (body_of s) within ∙ sym (ap body_of here) in
      let inside : Contains bodies (body_of s) = subst (λ (bs : List Body). Contains bs (body_of s)) e (i, subst (λ n. i < n) (sym (length-map blocks body_of)) within, at) in
      subst IsWellMade (sym chain_is) (safe (body_of s) inside).well_made

  -- the text of one block more
  pub explained_more : (G : DataGraph) (paths : List (List ℕ)) (path old text : List ℕ) → i < length paths → path ≡ get_or paths i path
      → AreExplained G version (take i paths) (map body_of (take i blocks)) old → AppendsBlock G path s.chain old text → AreExplained G version (take (i + 1) paths) (map body_of (take (i + 1) blocks)) text
  explained_more G paths path old text long at before (steps, plan, is) =
      let more = block_text path s.chain steps in
      let one : AppendsBlock G path (chain_of version s.chain.conditions) [] more = subst (λ (c : Chain). AppendsBlock G path c [] more) chain_is (steps, plan, refl) in
      let ps : take (i + 1) paths ≡ take i paths ++ path ∷ [] = take_more paths i path long ∙ ap (λ p. take i paths ++ p ∷ []) (sym at) in
      let bs : take (i + 1) blocks ≡ take i blocks ++ s ∷ [] = take_more blocks i s within ∙ ap (λ (b : QueryBlock). take i blocks ++ b ∷ []) (sym here) in
      rw (ps, bs, map-append body_of (take i blocks) (s ∷ []), is) (explained_push G version (take i paths) (map body_of (take i blocks)) old path (body_of s) more before one)

pub paths_are : (paths : List (List ℕ)) (q : Query) (w : declared.Query) (bs : List Block) → paths ≡ paths_from [] 1 (blocks_of bs) → bs ≡ w.blocks.items → query_of w ≡ q → paths ≡ paths_from [] 1 q.blocks
paths_are paths q w bs e f same = e ∙ (ap (λ (x : List Block). paths_from [] 1 (blocks_of x)) f ∙ ap (λ (x : Query). paths_from [] 1 x.blocks) same)

-- all blocks are explained
pub explained_all : (G : DataGraph) (q : Query) (paths : List (List ℕ)) (blocks : List QueryBlock) (i : ℕ) (text : List ℕ) → paths ≡ paths_from [] 1 q.blocks → map body_of blocks ≡ blocks_in_scope q → i ≡ length blocks
    → AreExplained G q.version (take i paths) (map body_of (take i blocks)) text → IsExplained G q text
explained_all G q paths blocks i text e f is h =
    let same = one_path_each q paths blocks e f in
    let ps : take i paths ≡ paths_from [] 1 q.blocks = ap (λ n. take n paths) (is ∙ sym same) ∙ (take-length paths ∙ e) in
    let bs : map body_of (take i blocks) ≡ blocks_in_scope q = ap (λ n. map body_of (take n blocks)) is ∙ (ap (map body_of) (take-length blocks) ∙ f) in
    subst (λ (x : List (List ℕ)). AreExplained G q.version x (blocks_in_scope q) text) ps (subst (λ (x : List Body). AreExplained G q.version (take i paths) x text) bs h)

-- a block's lines, appended piece by piece
pub appended_block : (G : DataGraph) (path path2 : List ℕ) (c : Chain) (old o1 o2 o3 new : List ℕ) (steps steps2 : List PlanStep) (counts : Counts) (bound bound2 : List Bool) (variables : List Variable)
    → CountsOf G c counts → IsPlanOf counts c bound steps → bound ≡ bound2 → bound2 ≡ map (λ v. false) variables → variables ≡ c.variables
    → o1 ≡ old ++ codes "block " → o2 ≡ o1 ++ path2 → path2 ≡ path → o3 ≡ o2 ++ codes "\n" → steps2 ≡ steps → new ≡ o3 ++ flat_map (step_text c) steps2 → AppendsBlock G path c old new
appended_block G path path2 c old o1 o2 o3 new steps steps2 counts bound bound2 variables right plan b free v e1 e2 same e3 s e4 =
    let none : bound ≡ map (λ w. false) c.variables = b ∙ (free ∙ ap (λ (vs : List Variable). map (λ w. false) vs) v) in
    let lines = flat_map (step_text c) steps in
    let whole : new ≡ (((old ++ codes "block ") ++ path) ++ codes "\n") ++ lines = rw (e4, s, e3, e2, same, e1) refl in (
      steps,
      (counts, right, subst (λ (x : List Bool). IsPlanOf counts c x steps) none plan),
      whole ∙ (append_assoc ((old ++ codes "block ") ++ path) (codes "\n") lines ∙ (append_assoc (old ++ codes "block ") path (codes "\n" ++ lines) ∙ append_assoc old (codes "block ") (path ++ (codes "\n" ++ lines)))),
    )
