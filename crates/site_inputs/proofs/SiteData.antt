-- A first query's site as data.
use Rattle.std.proofs.Common.{◌≡◌, ◌⊎◌, ℕ, List, inl, inr, refl, sym, ap, subst, ◌∙◌, arith}
use Rattle.std.specs.Prelude.{Result, Ok, Err, Some, None, IfErr}
use Rattle.graph_spec.specs.DataGraph.{DataGraph}
use Rattle.query_spec.specs.Query as plain
use Rattle.site_spec.specs.Site.{scope_of}
use Rattle.weight_spec.specs.Site.{site_of}
use Rattle.sd_graph.specs.declared.GraphRefusal.{GraphRefusal}
use Rattle.sd_graph.specs.declared.GraphRefusal.TheVariants as graph
use Rattle.compose.specs.Listed.{AnswersWithin}
use Rattle.compose.proofs.Whole as one_site
use Rattle.composed_data.specs.SiteData.{DecidesSiteData, SiteDataEnds}
use Rattle.site_inputs.specs.declared.data.DataInputs.{DataInputs}
use Rattle.site_inputs.specs.declared.fault.Fault.{Fault}
use Rattle.site_inputs.specs.declared.fault.Fault.TheVariants.{Refused, Unread, Faulty, NotFound, NoMemory}
use Rattle.site_inputs.specs.declared.fault.Refusal.{Refusal}
use Rattle.site_inputs.specs.Runs.{UnreadRose, Decides, IsDecided as Settled}
use Rattle.site_inputs.specs.Sources.{empty_building}
use Rattle.site_inputs.specs.Sites.{IsSiteGraph, graph_number, IsTooLarge, SiteTaken}

no_memory : (G : DataGraph) → ◌≡◌ {A = Result DataGraph GraphRefusal} (Ok G) (Err graph.NoMemory) → ⊥
no_memory G e = cc

reason_is : (e f : GraphRefusal) → ◌≡◌ {A = Result DataGraph GraphRefusal} (Err e) (Err f) → e ≡ f
reason_is e f same = cc

no_number : (e : GraphRefusal) (number : ℕ) → e ≡ graph.NoMemory → graph_number e ≡ Some number → ⊥
no_number e number is told = let none : graph_number e ≡ None = ap graph_number is in cc

pub site_taken : (path : List ℕ) (raw : DataGraph) (first : plain.Query) (whole : DataGraph) (found : DataInputs)
    → SiteDataEnds empty_building.limits raw (scope_of first) (Ok whole) → found ≡ record { graph = whole; first = Some first }
    → SiteTaken path raw first (Ok found)
site_taken path raw first whole found (inl d) is =
    subst (λ (f : DataInputs). SiteTaken path raw first (Ok f)) (sym is) (record { decided = d; its = refl })
site_taken path raw first whole found (inr e) is = absurd (no_memory whole e)

decided_by : (raw : DataGraph) (first : plain.Query) (reason : GraphRefusal) (number : ℕ) → graph_number reason ≡ Some number
    → SiteDataEnds empty_building.limits raw (scope_of first) (Err reason) → IsSiteGraph raw first (Err reason)
decided_by raw first reason number told (inl d) = d
decided_by raw first reason number told (inr e) = absurd (no_number reason number (reason_is reason graph.NoMemory e) told)

-- ---- the bytes decide one end

module _ (path : List ℕ) (raw : DataGraph) (first : plain.Query) where
  one_whole : (one other : Result DataGraph GraphRefusal) (d : DecidesSiteData empty_building.limits raw (scope_of first) one)
      → (e : DecidesSiteData empty_building.limits raw (scope_of first) other) → e.whole ≡ d.whole
  one_whole one other d e = one_site.one_graph (site_of raw (scope_of first)) raw.nodes e.whole d.whole e.is_whole
      d.is_whole

  -- what is within the limits is not over them
  not_over : (whole G : DataGraph) (reason : GraphRefusal) (number : ℕ) → graph_number reason ≡ Some number
      → AnswersWithin empty_building.limits whole (Ok G) → AnswersWithin empty_building.limits whole (Err reason) → ⊥
  not_over whole G graph.TooManyNodes number told within over = omega (arith, within.1, over)
  not_over whole G graph.TooManyEdges number told within over = omega (arith, within.2, over.1)
  not_over whole G graph.NoMemory number told within over = absurd cc

  -- a graph is over one limit
  one_reason : (whole : DataGraph) (e f : GraphRefusal) (m n : ℕ) → graph_number e ≡ Some m → graph_number f ≡ Some n
      → AnswersWithin empty_building.limits whole (Err e) → AnswersWithin empty_building.limits whole (Err f) → m ≡ n
  one_reason whole graph.TooManyNodes graph.TooManyNodes m n a b s t = cc
  one_reason whole graph.TooManyEdges graph.TooManyEdges m n a b s t = cc
  one_reason whole graph.TooManyNodes graph.TooManyEdges m n a b s t = absurd (omega (arith, s, t.0))
  one_reason whole graph.TooManyEdges graph.TooManyNodes m n a b s t = absurd (omega (arith, s.0, t))
  one_reason whole graph.NoMemory f m n a b s t = absurd cc
  one_reason whole e graph.NoMemory m n a b s t = absurd cc

  mixed : (G : DataGraph) (refusal : Refusal) → IsSiteGraph raw first (Ok G) → IsTooLarge path raw first refusal → ⊥
  mixed G refusal d large =
      not_over d.whole G large.reason refusal.number large.told d.answers
      (subst (λ (x : DataGraph). AnswersWithin empty_building.limits x (Err large.reason))
      (one_whole (Ok G) (Err large.reason) d large.decided) large.decided.answers)

  one_data : (found other : DataInputs) → SiteTaken path raw first (Ok found) → SiteTaken path raw first (Ok other) → found ≡ other
  one_data found other a b =
      let d = a.decided in
      let e = b.decided in
      let graphs : found.graph ≡ other.graph = d.answers.0 ∙ sym (one_whole (Ok found.graph) (Ok other.graph) d e) ∙ sym e.answers.0 in
      let firsts : found.first ≡ other.first = a.its ∙ sym b.its in
      λ i. record { graph = graphs i; first = firsts i }

  one_refusal : (f g : Refusal) → IsTooLarge path raw first f → IsTooLarge path raw first g → f ≡ g
  one_refusal f g r q =
      let files = r.its ∙ sym q.its in
      let numbers : f.number ≡ g.number =
      one_reason r.decided.whole r.reason q.reason f.number g.number r.told q.told r.decided.answers
      (subst (λ (x : DataGraph). AnswersWithin empty_building.limits x (Err q.reason))
      (one_whole (Err r.reason) (Err q.reason) r.decided q.decided) q.decided.answers) in
      let places = r.place ∙ sym q.place in
      λ i. record { file = files i; number = numbers i; place = places i }

  site_once : (one other : Result DataInputs Fault) → SiteTaken path raw first one → SiteTaken path raw first other
      → Settled one → Settled other → one ≡ other
  site_once (Ok a) (Ok b) d e _ _ = ap Ok (one_data a b d e)
  site_once (Ok a) (Err (Refused g)) d q _ _ = absurd (mixed a.graph g d.decided q)
  site_once (Err (Refused f)) (Ok b) r e _ _ = absurd (mixed b.graph f e.decided r)
  site_once (Err (Refused f)) (Err (Refused g)) r q _ _ = ap (λ (x : Refusal). Err (Refused x)) (one_refusal f g r q)
  site_once (Err (Unread p)) other s t d e = absurd d
  site_once (Err NoMemory) other s t d e = absurd d
  site_once (Err NotFound) other s t d e = absurd s
  site_once (Err (Faulty term kind)) other s t d e = absurd s
  site_once one (Err (Unread p)) s t d e = absurd e
  site_once one (Err NoMemory) s t d e = absurd e
  site_once one (Err NotFound) s t d e = absurd t
  site_once one (Err (Faulty term kind)) s t d e = absurd t

  -- what is made of the first query's site
  pub site_decides : Decides (SiteTaken path raw first)
  site_decides = record { once = site_once }

-- it reads no file
pub no_unread : (path : List ℕ) (raw : DataGraph) (first : plain.Query) (paths : List (List ℕ)) (before now : List ℕ → ℕ)
    → (result : Result DataInputs Fault) → SiteTaken path raw first result → IfErr result (UnreadRose paths before now)
no_unread path raw first paths before now (Ok found) taken = tt
no_unread path raw first paths before now (Err (Refused refusal)) taken = tt
no_unread path raw first paths before now (Err (Unread unread)) taken = absurd taken
no_unread path raw first paths before now (Err NoMemory) taken = tt
no_unread path raw first paths before now (Err NotFound) taken = tt
no_unread path raw first paths before now (Err (Faulty term kind)) taken = tt
