-- Terms, links and collected values that rest on chains with the same rows are the same.
use Rattle.std.specs.Prelude.{◌≡◌, List, Contains}
use Rattle.std.proofs.Common.{sym, ap, ◌∙◌, subst, inl, inr}
use Rattle.sd_value.specs.declared.Value.{Value}
use Rattle.sd_value.specs.declared.Value.TheVariants.{Page}
use Rattle.sd_value.specs.declared.Term.{Term}
use Rattle.graph_spec.specs.DataGraph.{DataGraph, Name, HasEdge, HasMember}
use Rattle.query_spec.specs.Query.{Target, made, LinkLabel, quoted, label_variable, Link, Body as Block}
use Rattle.query_spec.specs.Holds.{Assignment}
use Rattle.query_spec.specs.Rows.{IsRow}
use Rattle.site_spec.specs.Site.{Scope, SomeOf, chain, terms_of, IsTargetUnder, IsLabelUnder, InSite, Linked, Collected, SiteEdge}
use Rattle.site_spec.proofs.Sums.{joined_given, joined_to}
use Rattle.query_blocks.specs.Blocks.{IsMade}
use Rattle.edit_spec.specs.Footprint.{MayBeLabelled, IsFrom}

-- each row of the block's chain in G is one in H
abbrev pub RowsTo : DataGraph → DataGraph → Scope → Block → Type 0
RowsTo G H q b = (row : List Value) → IsRow G (chain q b) row → IsRow H (chain q b) row

-- the rows of the block's chain are the same in G and in H: what an aggregate tells may change with each row
abbrev pub RowsBoth : DataGraph → DataGraph → Scope → Block → Type 0
RowsBoth G H q b = RowsTo G H q b × RowsTo H G q b

-- the link starts at u and has the label under the assignment
abbrev pub Starts : Assignment → Link → Value → Name → Type 0
Starts s k u l = IsTargetUnder s k.source u × IsLabelUnder s k.label l

pub in_site_to : (G H : DataGraph) (q : Scope) (p : Term)
    → ((b : Block) → Contains q.bodies b → SomeOf (λ s. s.function ≡ p.function) (terms_of b) → RowsTo G H q b)
    → InSite G q p → InSite H q p
in_site_to G H q p to x =
    let b = x.item in
    let named = x.holds in
    let r = named.holds in
    let mention : SomeOf (λ s. s.function ≡ p.function) (terms_of b) =
    record { item = named.item; within = named.within; holds = sym r.holds.function } in
    record {
      item = b;
      within = x.within;
      holds = record {
        item = named.item;
        within = named.within;
        holds =
            record { row = r.row; is_row = to b x.within mention r.row r.is_row; holds = r.holds };
      };
    }

pub linked_to : (G H : DataGraph) (q : Scope) (u : Value) (l : Name) (v : Value)
    → ((b : Block) → Contains q.bodies b → (k : Link) → Contains b.links k → (s : Assignment) → Starts s k u l
    → RowsBoth G H q b)
    → Linked G q u l v → Linked H q u l v
linked_to G H q u l v both x =
    let b = x.item in
    let joined = x.holds in
    let given = joined_given G (chain q b) u l v joined.item joined.holds in
    let rows = both b x.within joined.item joined.within _ given.holds in
    record {
      item = b;
      within = x.within;
      holds = record {
        item = joined.item;
        within = joined.within;
        holds = joined_to G H (chain q b) u l v joined.item rows.0 rows.1 joined.holds;
      };
    }

pub collected_to : (G H : DataGraph) (q : Scope) (name : Name) (v : Value)
    → ((b : Block) → Contains q.bodies b → SomeOf (λ c. c.collection ≡ name) b.collects → RowsTo G H q b)
    → ((n : Name) → HasMember G name n → HasMember H name n)
    → Collected G q name v → Collected H q name v
collected_to G H q name v to members (inl x) =
    let b = x.item in
    let put = x.holds in
    let r = put.holds.1 in
    let mention : SomeOf (λ c. c.collection ≡ name) b.collects = record {
      item = put.item;
      within = put.within;
      holds =
          put.holds.0;
    } in
    inl (record {
      item = b;
      within = x.within;
      holds = record {
        item = put.item;
        within = put.within;
        holds =
            (put.holds.0, record { row = r.row; is_row = to b x.within mention r.row r.is_row; holds = r.holds });
      };
    })
collected_to G H q name v to members (inr (n, m, is)) = inr (n, members n m, is)

pub edge_to : (G H : DataGraph) (q : Scope) (u : Value) (l : Name) (v : Value)
    → ((b : Block) → Contains q.bodies b → (k : Link) → Contains b.links k → (s : Assignment) → Starts s k u l
    → RowsBoth G H q b) → (HasEdge G u l v → HasEdge H u l v)
    → SiteEdge G q u l v → SiteEdge H q u l v
edge_to G H q u l v to of_data (inl x) = inl (linked_to G H q u l v to x)
edge_to G H q u l v to of_data (inr x) = inr (of_data x)

-- ---- what a link's joining says of the link

pub carried : (s : Assignment) (k : LinkLabel) (l : Name) → IsLabelUnder s k l → MayBeLabelled k l
carried s (quoted m) l is = sym is
carried s (label_variable x) l is = tt

same_page : {p r : Term} → Page p ≡ Page r → p ≡ r
same_page e = cc

pub from_function : (s : Assignment) (k : Link) (p : Term) → IsMade k.source → IsTargetUnder s k.source (Page p)
    → IsFrom p.function k
from_function s k p (t, is) h =
    let under : IsTargetUnder s (made t) (Page p) = subst (λ (x : Target). IsTargetUnder s x (Page p)) is h in
    (t, is, sym under.1.function ∙ ap (λ (x : Term). x.function) (sym (same_page under.2)))
