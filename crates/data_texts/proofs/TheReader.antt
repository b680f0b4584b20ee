-- The reader of data texts, and what reading a text gives.
use Rattle.std.proofs.Common.{◌≡◌, ◌≢◌, inl, inr, ℕ, Bool, true, false, List, refl, sym, ap, subst, ◌∙◌, Ok, Err}
use Rattle.graph_spec.specs.DataGraph.{DataGraph}
use Rattle.command_spec.specs.Limits.{data_limit}
use Rattle.sd_graph.specs.Statement.{Building, IsEmpty}
use Rattle.sd_ddl.specs.Reads.{Reads}
use Rattle.sd_ddl.specs.declared.refusal.DdlRefusal.{DdlRefusal}
use Rattle.token_reader.specs.declared.refusal.TextRefusal.TheVariants.{TooLong, BadByte, OpenString, IntOutOfRange, Expected, NoMemory}
use Rattle.sd_ddl.specs.declared.refusal.DdlRefusal.TheVariants.{Text, KindConflict, TooManyEdges, TooManyNodes}
use Rattle.ddl_laws.specs.OneAnswer.{IsSettled}
use Rattle.ddl_laws.proofs.DataText as ddl_law
use Rattle.data_texts.specs.Texts.{no_data, States, Reader}
use Rattle.data_texts.proofs.Decided.{Decided, decided}

abbrev Deciding : List ℕ → Type 0
Deciding text = Decided data_limit text no_data

accepts_by : (text : List ℕ) → Deciding text → Bool
accepts_by text (inl found) = true
accepts_by text (inr never) = false

states_by : (text : List ℕ) → Deciding text → DataGraph
states_by text (inl (built, reads)) = built.graph
states_by text (inr never) = no_data.graph

accepted_by : (text : List ℕ) (d : Deciding text) → accepts_by text d ≡ true → States text (states_by text d)
unfolding accepts_by states_by
accepted_by text (inl (built, reads)) is = (built, reads, refl)
accepted_by text (inr never) is = absurd cc

refused_by : (text : List ℕ) (d : Deciding text) → accepts_by text d ≡ false → (G : DataGraph) → ¬ States text G
unfolding accepts_by
refused_by text (inl found) is G states = absurd cc
refused_by text (inr never) is G states = never states.0 states.1

pub the_reader : Reader States
the_reader = record {
  accepts = λ text. accepts_by text (decided data_limit text no_data);
  stated = λ text. states_by text (decided data_limit text no_data);
  accepted = λ text is. accepted_by text (decided data_limit text no_data) is;
  refused = λ text is. refused_by text (decided data_limit text no_data) is;
}

-- a text states no other data
pub one_graph : (text : List ℕ) (G H : DataGraph) → States text G → States text H → G ≡ H
one_graph text G H (b, reads, is) (c, other, same) =
    let both = ddl_law.one_answer data_limit text no_data b c (Ok tt) (Ok tt) reads other tt tt in
    sym is ∙ ap (λ (x : Building). x.graph) both.0 ∙ same

-- a text that is refused states none
pub none_stated : (text : List ℕ) (left : Building) (e : DdlRefusal) → Reads data_limit text no_data left (Err e) → IsSettled (Err e) → (G : DataGraph) → ¬ States text G
none_stated text left e reads settled G (b, other, is) =
    let both = ddl_law.one_answer data_limit text no_data b left (Ok tt) (Err e) other reads tt settled in
    let same : Ok tt ≡ Err e = both.1 in
    absurd cc

settled : (e : DdlRefusal) → e ≢ Text NoMemory → IsSettled (Err e)
settled (Text (TooLong at)) other = tt
settled (Text (BadByte at)) other = tt
settled (Text (OpenString at)) other = tt
settled (Text (IntOutOfRange at)) other = tt
settled (Text (Expected at)) other = tt
settled (KindConflict at) other = tt
settled (TooManyEdges at) other = tt
settled (TooManyNodes at) other = tt
settled (Text NoMemory) other = other refl

-- the same of the bytes of the text and a new graph
pub none_from : (text bytes : List ℕ) (b left : Building) (e : DdlRefusal) → bytes ≡ text → b.limits ≡ no_data.limits → IsEmpty b.graph
    → Reads data_limit bytes b left (Err e) → e ≢ Text NoMemory → (G : DataGraph) → ¬ States text G
none_from text bytes b left e bytes_are limits empty reads other =
    let is : b ≡ no_data = λ i. record { limits = limits i; graph = record { nodes = empty.0 i; edges = empty.1 i; members = empty.2 i } } in
    none_stated text left e (subst (λ (x : Building). Reads data_limit text x left (Err e)) is (subst (λ (t : List ℕ). Reads data_limit t b left (Err e)) bytes_are reads)) (settled e other)

-- what a reader accepts, and what it makes of a text, where a text makes no other data
module _ (Makes : List ℕ → DataGraph → Type 0) (reader : Reader Makes) (text : List ℕ) where
  pub accepts_made : ((G H : DataGraph) → Makes text G → Makes text H → G ≡ H) → (G : DataGraph) → Makes text G
      → (reader.accepts text ≡ true) × (reader.stated text ≡ G)
  accepts_made one G makes = by (reader.accepts text) refl
    where
      by : (test : Bool) → reader.accepts text ≡ test → (reader.accepts text ≡ true) × (reader.stated text ≡ G)
      by true is = (is, one (reader.stated text) G (reader.accepted text is) makes)
      by false is = absurd (reader.refused text is G makes)

  pub accepts_none : ((G : DataGraph) → ¬ Makes text G) → reader.accepts text ≡ false
  accepts_none none = by (reader.accepts text) refl
    where
      by : (test : Bool) → reader.accepts text ≡ test → reader.accepts text ≡ false
      by true is = absurd (none (reader.stated text) (reader.accepted text is))
      by false is = is
