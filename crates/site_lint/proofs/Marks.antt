-- Marks of blocks and of claims.
use Rattle.std.proofs.Common.{◌≡◌, ◌↔◌, ℕ, ◌+◌, ◌<◌, ◌≤◌, zero, suc, Bool, true, false, cond, List, [], ◌∷◌, ◌++◌, length, take, get_or, refl, sym, ap, ◌∙◌, subst}
use Rattle.std.specs.Prelude.{IsTrue, Contains, Some, map, slice_get, option_map}
use Rattle.std.specs.List.{AllZip}
use Rattle.std.proofs.lemmas.List.{take_more, take_all}
use Rattle.std.proofs.lemmas.Option.{slice_get-map}
use Rattle.std.proofs.lemmas.Slice.Zip.{all_zipped_more}
use Rattle.sd_value.specs.declared.Value.{Value}
use Rattle.sd_value.specs.Members.{Contains-here, Contains-there}
use Rattle.graph_spec.specs.DataGraph.{DataGraph}
use Rattle.query_spec.specs.Query.{Body, Chain}
use Rattle.query_spec.specs.Mentions.{chain_of}
use Rattle.query_spec.specs.Rows.{IsRow}
use Rattle.query_blocks.specs.declared.QueryBlock.{QueryBlock}
use Rattle.query_blocks.specs.declared.QueryBlocks.{QueryBlocks}
use Rattle.query_blocks.specs.Blocks.{body_of, scope_of}
use Rattle.lint_spec.specs.declared.Asked.{Asked}
use Rattle.lint_spec.specs.declared.Claim.{Claim}
use Rattle.lint_spec.specs.declared.Finding.{Finding}
use Rattle.lint_spec.specs.Mistakes.{OfBlock}
use Rattle.lint_spec.specs.Findings.{finding, marked, AreFindings}

-- ---- the block of a number

-- there is one, of which a test decides
pub of_some_block : (s : QueryBlocks) (number : ℕ) (P : Body → Type 0) (b : QueryBlock) (r : Bool) → slice_get s.blocks.items number ≡ Some b → IsTrue r ↔ P (body_of b) → IsTrue r ↔ OfBlock (scope_of s) number P
of_some_block s number P b r some both =
    let at : slice_get (map body_of s.blocks.items) number ≡ Some (body_of b) = slice_get-map body_of s.blocks.items number ∙ ap (option_map body_of) some in
    (λ t. (body_of b, at, both.0 t), λ o. both.1 (let there = o.1 in let same : o.0 ≡ body_of b = cc in subst P same o.2))

-- ---- blocks without rows

module _ (graph : DataGraph) (version : ℕ) where
  abbrev NoRow : Body → Type 0
  NoRow b = (row : List Value) → IsRow graph (chain_of version b.conditions) row → ⊥

  abbrev HasNone : QueryBlock → Bool → Type 0
  HasNone b none = IsTrue none ↔ ((row : List Value) → IsRow graph b.chain row → ⊥)

  abbrev MarkedNone : List QueryBlock → ℕ → Type 0
  MarkedNone blocks number = (b : Body) × (slice_get (map body_of blocks) number ≡ Some b) × NoRow b

  pub marked_rows : (blocks : List QueryBlock) (marks : List Bool) (number : ℕ) → ((s : QueryBlock) → Contains blocks s → s.chain ≡ chain_of version s.chain.conditions) → AllZip HasNone blocks marks
      → (slice_get marks number ≡ Some true) ↔ MarkedNone blocks number
  marked_rows [] [] number chains zip = (λ e. absurd cc, λ o. (let there = o.1 in absurd cc))
  marked_rows [] (m ∷ marks) number chains zip = absurd zip
  marked_rows (b ∷ blocks) [] number chains zip = absurd zip
  marked_rows (b ∷ blocks) (m ∷ marks) zero chains zip =
      let own : b.chain ≡ chain_of version b.chain.conditions = chains b (Contains-here b blocks) in (
        λ e. (body_of b, refl, (let yes : m ≡ true = cc in subst (λ (k : Chain). (row : List Value) → IsRow graph k row → ⊥) own (zip.0.0 yes))),
        λ o. (let there = o.1 in let same : o.0 ≡ body_of b = cc in ap Some (zip.0.1 (subst (λ (k : Chain). (row : List Value) → IsRow graph k row → ⊥) (sym own) (subst NoRow same o.2)))),
      )
  marked_rows (b ∷ blocks) (m ∷ marks) (suc number) chains zip =
      marked_rows blocks marks number (λ s h. chains s (Contains-there b blocks s h)) zip.1

abbrev NoneIn : DataGraph → QueryBlock → Bool → Type 0
NoneIn graph b none = IsTrue none ↔ ((row : List Value) → IsRow graph b.chain row → ⊥)

-- one block more
pub rows_more : (graph : DataGraph) (blocks scanned : List QueryBlock) (i : ℕ) (b : QueryBlock) (marks now : List Bool) (m : Bool) → scanned ≡ blocks → i < length scanned → b ≡ get_or scanned i b
    → AllZip (NoneIn graph) (take i blocks) marks → NoneIn graph b m → now ≡ marks ++ m ∷ [] → AllZip (NoneIn graph) (take (i + 1) blocks) now
rows_more graph blocks scanned i b marks now m same l is so_far here e =
    let within : i < length blocks = subst (λ (bs : List QueryBlock). i < length bs) same l in
    let at : b ≡ get_or blocks i b = subst (λ (bs : List QueryBlock). b ≡ get_or bs i b) same is in
    let more : take (i + 1) blocks ≡ take i blocks ++ b ∷ [] = take_more blocks i b within ∙ ap (λ (z : QueryBlock). take i blocks ++ z ∷ []) (sym at) in
    subst (λ (ms : List Bool). AllZip (NoneIn graph) (take (i + 1) blocks) ms) (sym e)
    (subst (λ (bs : List QueryBlock). AllZip (NoneIn graph) bs (marks ++ m ∷ [])) (sym more) (all_zipped_more (NoneIn graph) (take i blocks) marks b m so_far here))

-- ---- claims

one_marked : (c : Claim) (mark : Bool) → marked (c ∷ []) (mark ∷ []) ≡ cond mark (finding c ∷ []) []
one_marked c true = refl
one_marked c false = refl

kept : (c : Claim) (mark : Bool) (claims : List Claim) (marks : List Bool) (more : List Finding) → marked claims marks ≡ more → marked (c ∷ claims) (mark ∷ marks) ≡ cond mark (finding c ∷ more) more
kept c true claims marks more e = ap (λ (l : List Finding). finding c ∷ l) e
kept c false claims marks more e = e

put_in : (c : Claim) (mark : Bool) (xs ys : List Finding) → cond mark (finding c ∷ (xs ++ ys)) (xs ++ ys) ≡ cond mark (finding c ∷ xs) xs ++ ys
put_in c true xs ys = refl
put_in c false xs ys = refl

module _ (P : Asked → Type 0) where
  abbrev Decided : Claim → Bool → Type 0
  Decided c mark = IsTrue mark ↔ P c.asked

  marked_push : (claims : List Claim) (marks : List Bool) (c : Claim) (mark : Bool) → AllZip Decided claims marks → marked (claims ++ c ∷ []) (marks ++ mark ∷ []) ≡ marked claims marks ++ cond mark (finding c ∷ []) []
  marked_push [] [] c mark zip = one_marked c mark
  marked_push [] (m ∷ marks) c mark zip = absurd zip
  marked_push (d ∷ claims) [] c mark zip = absurd zip
  marked_push (d ∷ claims) (m ∷ marks) c mark zip =
      kept d m (claims ++ c ∷ []) (marks ++ mark ∷ []) _ (marked_push claims marks c mark zip.1)
      ∙ (put_in d m (marked claims marks) (cond mark (finding c ∷ []) []) ∙ ap (λ (l : List Finding). l ++ cond mark (finding c ∷ []) []) (sym (kept d m claims marks _ refl)))

  zip_push : (claims : List Claim) (marks : List Bool) (c : Claim) (mark : Bool) → AllZip Decided claims marks → Decided c mark → AllZip Decided (claims ++ c ∷ []) (marks ++ mark ∷ [])
  zip_push [] [] c mark zip here = (here, tt)
  zip_push [] (m ∷ marks) c mark zip here = absurd zip
  zip_push (d ∷ claims) [] c mark zip here = absurd zip
  zip_push (d ∷ claims) (m ∷ marks) c mark zip here = (zip.0, zip_push claims marks c mark zip.1 here)

  -- one claim more
  pub findings_more : (claims : List Claim) (i : ℕ) (c : Claim) (mark : Bool) (found now : List Finding) → i < length claims → c ≡ get_or claims i c
      → AreFindings P (take i claims) found → IsTrue mark ↔ P c.asked → now ≡ found ++ cond mark (finding c ∷ []) [] → AreFindings P (take (i + 1) claims) now
  findings_more claims i c mark found now l is so_far here e =
      let more : take (i + 1) claims ≡ take i claims ++ c ∷ [] = take_more claims i c l ∙ ap (λ (z : Claim). take i claims ++ z ∷ []) (sym is) in
      subst (λ (cs : List Claim). AreFindings P cs now) (sym more) (record {
        marks = so_far.marks ++ mark ∷ [];
        decided = zip_push (take i claims) so_far.marks c mark so_far.decided here;
        are = e ∙ (ap (λ (l : List Finding). l ++ cond mark (finding c ∷ []) []) so_far.are ∙ sym (marked_push (take i claims) so_far.marks c mark so_far.decided));
      })

  -- and all of them
  pub findings_all : (claims : List Claim) (i : ℕ) (found : List Finding) → length claims ≤ i → AreFindings P (take i claims) found → AreFindings P claims found
  findings_all claims i found l h = subst (λ (cs : List Claim). AreFindings P cs found) (take_all i claims l) h
