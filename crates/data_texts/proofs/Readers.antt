-- There is a reader for each first query.
use Rattle.std.proofs.Common.{◌≡◌, ◌∙◌, ◌<◌, ◌≤◌, ◌+◌, ℕ, Bool, true, false, List, length, refl, sym, subst, arith}
use Rattle.std.specs.Prelude.{nat_le, Some, None}
use Rattle.std.proofs.lemmas.Bool.Decides.{nat_tests}
use Rattle.graph_spec.specs.DataGraph.{DataGraph}
use Rattle.site_spec.specs.Site.{Scope, scope_of}
use Rattle.composed_data.specs.SiteData.{IsSiteData}
use Rattle.site_graphs.proofs.Decide.{Dec, yes, no, dec_both}
use Rattle.site_graphs.proofs.Graphs.{site_graph_of}
use Rattle.data_texts.specs.Texts.{no_data, States, Reader}
use Rattle.data_texts.proofs.TheReader.{the_reader}
use Rattle.data_texts.specs.ComposedTexts.{StatesOver, Readers}
use Rattle.data_texts.proofs.Reading.{only_whole}

at_most : (a b : ℕ) → Dec (a ≤ b)
at_most a b = by (nat_le a b) refl
  where
    by : (test : Bool) → nat_le a b ≡ test → Dec (a ≤ b)
    by true is = yes (grind (arith, nat_tests))
    by false is = let over : b < a = grind (arith, nat_tests) in no (λ within. omega (arith, over, within))

module _ (first : Scope) where
  abbrev Stating : List ℕ → Type 0
  Stating text = (G : DataGraph) × StatesOver first text G

  abbrev IsSmall : DataGraph → Type 0
  IsSmall G =
      (length G.nodes ≤ no_data.limits.nodes) × (length G.edges + length G.members ≤ no_data.limits.edges)

  small : (G : DataGraph) → Dec (IsSmall G)
  small G = dec_both (at_most (length G.nodes) no_data.limits.nodes)
      (at_most (length G.edges + length G.members) no_data.limits.edges)

  of_whole : (text : List ℕ) (raw : DataGraph) → States text raw → (whole : DataGraph) → IsSiteData raw first whole
      → Dec (IsSmall whole) → Dec (Stating text)
  of_whole text raw states whole is (yes w) =
      yes (whole, (raw, states, record { whole = whole; is_whole = is; answers = (refl, w.0, w.1) }))
  of_whole text raw states whole is (no n) =
      no (λ h.
      let d = h.1.2 in
      let there : d.whole ≡ whole = sym d.answers.0 ∙ only_whole first text raw states whole is h.0 h.1 in
      n (subst IsSmall there (d.answers.1, d.answers.2)))

  deciding : (text : List ℕ) → Dec (Stating text)
  deciding text = by (the_reader.accepts text) refl
    where
      by : (test : Bool) → the_reader.accepts text ≡ test → Dec (Stating text)
      by true is =
          let raw = the_reader.stated text in
          let made = site_graph_of raw first in
          of_whole text raw (the_reader.accepted text is) made.0 made.1 (small made.0)
      by false is = no (λ h. the_reader.refused text is h.1.0 h.1.1)

  accepts_by : (text : List ℕ) → Dec (Stating text) → Bool
  accepts_by text (yes h) = true
  accepts_by text (no n) = false

  stated_by : (text : List ℕ) → Dec (Stating text) → DataGraph
  stated_by text (yes h) = h.0
  stated_by text (no n) = no_data.graph

  accepted_by : (text : List ℕ) (d : Dec (Stating text)) → accepts_by text d ≡ true → StatesOver first text
      (stated_by text d)
  unfolding accepts_by stated_by
  accepted_by text (yes h) is = h.1
  accepted_by text (no n) is = absurd cc

  refused_by : (text : List ℕ) (d : Dec (Stating text)) → accepts_by text d ≡ false → (G : DataGraph)
      → ¬ StatesOver first text G
  unfolding accepts_by
  refused_by text (yes h) is G states = absurd cc
  refused_by text (no n) is G states = n (G, states)

  pub the_reader_over : Reader (StatesOver first)
  the_reader_over = record {
    accepts = λ text. accepts_by text (deciding text);
    stated = λ text. stated_by text (deciding text);
    accepted = λ text is. accepted_by text (deciding text) is;
    refused = λ text is. refused_by text (deciding text) is;
  }

pub the_readers : Readers
the_readers None = the_reader
the_readers (Some first) = the_reader_over (scope_of first)
