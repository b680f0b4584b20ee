-- A query's site, with its terms, labels and names, is as its graph asks.
use Rattle.std.proofs.Common.{◌≡◌, ◌⊎◌, List, [], ◌∷◌, inl, inr, ⊎_elim, refl, sym, ap, subst}
use Rattle.std.specs.Prelude.{Contains, Option, Some, None, Bool, true, false, if◌then◌else◌}
use Rattle.std.specs.Bool.{MatchBool}
use Rattle.std.specs.List.{AllZip}
use Rattle.std.proofs.lemmas.List.Elements.{Contains-append_left}
use Rattle.sd_value.specs.Names.{Name, Label}
use Rattle.sd_value.specs.Members.{Contains-here, Contains-map}
use Rattle.sd_value.specs.Order.{bytes_cmp, term_cmp}
use Rattle.sd_value.specs.Ascending.{ListsExactly}
use Rattle.sd_value.specs.declared.Datum.{Datum}
use Rattle.sd_value.specs.declared.Datum.TheVariants.{Int, Text, Url, File, Node}
use Rattle.sd_value.specs.declared.Term.{Term}
use Rattle.sd_value.specs.declared.Value.{Value}
use Rattle.sd_value.specs.declared.Value.TheVariants.{Data, Page}
use Rattle.graph_spec.specs.DataGraph.{DataGraph, IsWellFormed, HasEdge, IsValueOf, IsLabelValueOf}
use Rattle.query_spec.specs.declared.Variable.{Variable}
use Rattle.query_spec.specs.Query.{variable, constant, Target, plain, made, summed}
use Rattle.query_spec.specs.Mentions.{same_name}
use Rattle.query_spec.specs.Rows.{value_in, IsInDomain}
use Rattle.site_spec.specs.Site.{SomeOf, IsTargetUnder, IsNamed, InSite, IsJoined, Linked, IsPut, CollectedBy}
use Rattle.site_spec.specs.Site.{SiteEdge, terms_of, ends_of, target_terms}
use Rattle.site_spec.proofs.Sums.{joined_given, IsNoInt, joined_row}
use Rattle.struql_ast.specs.Reading.{link_of}
use Rattle.query_blocks.specs.declared.QueryBlocks.{QueryBlocks}
use Rattle.query_blocks.specs.Blocks.{AreCheckedBlocks, IsNodeWritten, body_of, scope_of}
use Rattle.weight_spec.specs.Site.{site_of}
use Rattle.site_lookups.proofs.Some.{some_from}
use Rattle.site_lookups.proofs.Blocks.{bodies_from, bodies_to, contains_link}
use Rattle.site_lookups.proofs.Targets.{source_to}
use Rattle.site_lookups.proofs.Stays.{edge_stays, collected_stays}
use Rattle.compose.specs.Listed.{IsListed}
use Rattle.composed_data.specs.Named.{IsCollectName}

-- ---- a node in a row is declared

some_same : (v w : Value) → Some v ≡ Some w → v ≡ w
some_same v w e = cc

either_value : (b : Bool) (a : Value) (o : Option Value) (v : Value) → (if b then Some a else o) ≡ Some v → (a ≡ v)
    ⊎ (o ≡ Some v)
either_value true a o v e = inl (some_same a v e)
either_value false a o v e = inr e

abbrev IsThere : Option Value → Type 0
IsThere None = ⊥
IsThere (Some v) = Unit {0}

in_domain : (G : DataGraph) (n : Name) (arc : Bool) → MatchBool arc (IsLabelValueOf G (Data (Node n)))
    (IsValueOf G (Data (Node n))) → Contains G.nodes n
in_domain G n true h = let e = h.2 in cc
in_domain G n false h = h

in_row : (G : DataGraph) (variables : List Variable) (row : List Value) (x n : Name) → AllZip (IsInDomain G) variables
    row → value_in variables row x ≡ Some (Data (Node n)) → Contains G.nodes n
in_row G [] row x n d e = absurd (subst IsThere (sym e) tt)
in_row G (v ∷ variables) [] x n d e = absurd (subst IsThere (sym e) tt)
in_row G (v ∷ variables) (a ∷ row) x n d e =
    ⊎_elim (λ h. in_domain G n v.arc (subst (IsInDomain G v) h d.0)) (λ h. in_row G variables row x n d.1 h)
    (either_value (same_name v.name x) a (value_in variables row x) (Data (Node n)) e)

node_declared : (G : DataGraph) (variables : List Variable) (row : List Value) (t : Target) (n : Name)
    → AllZip (IsInDomain G) variables row → (IsNodeWritten t → ⊥)
    → IsTargetUnder (value_in variables row) t (Data (Node n)) → Contains G.nodes n
node_declared G variables row (plain (variable x)) n d unwritten h = in_row G variables row x n d h
node_declared G variables row (plain (constant v)) n d unwritten h = absurd
    (unwritten (n, ap (λ (w : Value). plain (constant w)) (some_same v (Data (Node n)) h)))
node_declared G variables row (summed a) n d unwritten h = absurd h
node_declared G variables row (made m) n d unwritten h = let e : Data (Node n) ≡ Page h.0 = h.2 in cc

edge_end : (G : DataGraph) → IsWellFormed G → (u : Value) (label : Label) (n : Name) → HasEdge G u label (Data (Node n))
    → Contains G.nodes n
edge_end G well (Data (Node k)) label n h = well.ends_are_data (record { from = k; label = label; to = Data (Node n) })
    h
edge_end G well (Data (Int i)) label n h = absurd h
edge_end G well (Data (Text s)) label n h = absurd h
edge_end G well (Data (Url s)) label n h = absurd h
edge_end G well (Data (File s)) label n h = absurd h
edge_end G well (Page p) label n h = absurd h

node_is_no_int : (n : Name) → IsNoInt (Data (Node n))
node_is_no_int n i e = cc

node_inside : (a b : Name) → Data (Node a) ≡ Data (Node b) → a ≡ b
node_inside a b h = cc

module _ (graph : DataGraph) (scopes : QueryBlocks) (well : IsWellFormed graph)
    (checked : AreCheckedBlocks scopes.version scopes.blocks.items) where
  starts_in_site : (p : Term) (label : Label) (v : Value) → Linked graph (scope_of scopes) (Page p) label v
      → InSite graph (scope_of scopes) p
  starts_in_site p label v linked =
      let s = bodies_to (λ c b. SomeOf (IsJoined graph c (Page p) label v) b.links) (scope_of scopes)
      scopes.blocks.items checked refl linked in
      let j = s.holds in
      let given = joined_given graph s.item.chain (Page p) label v j.item j.holds in
      let start = (checked s.item s.within).sources j.item j.within in
      let written = Contains-map link_of s.item.links.items j.item j.within in
      let ends : Contains (ends_of j.item) start.0 =
      Contains-append_left (target_terms j.item.source) (target_terms j.item.target) start.0
      (subst (λ (t : Target). Contains (target_terms t) start.0) (sym start.1) (Contains-here start.0 [])) in
      bodies_from (λ c b. SomeOf (IsNamed graph c p) (terms_of b)) (scope_of scopes) scopes.blocks.items checked refl
      (some_from (λ b. SomeOf (IsNamed graph b.chain p) (terms_of (body_of b))) scopes.blocks.items s.item s.within
      (some_from (IsNamed graph s.item.chain p) (terms_of (body_of s.item)) start.0
      (contains_link s.item written.0 start.0 written.2 (subst (λ k. Contains (ends_of k) start.0) (sym written.1)
      ends))
      record {
        row = given.row;
        is_row = given.is_row;
        holds = source_to (value_in s.item.chain.variables given.row) start.0 p j.item.source start.1
            given.holds.0;
      }))

  no_link_from : (d : Datum) (label : Label) (v : Value) → Linked graph (scope_of scopes) (Data d) label v → ⊥
  no_link_from d label v linked =
      let s = bodies_to (λ c b. SomeOf (IsJoined graph c (Data d) label v) b.links) (scope_of scopes)
      scopes.blocks.items checked refl linked in
      let j = s.holds in
      let given = joined_given graph s.item.chain (Data d) label v j.item j.holds in
      let start = (checked s.item s.within).sources j.item j.within in
      let from = subst (λ (t : Target). IsTargetUnder (value_in s.item.chain.variables given.row) t (Data d)) start.1
      given.holds.0 in
      let e : Data d ≡ Page from.0 = from.2 in cc

  link_from : (p : Term) (label : Label) (v : Value) → SiteEdge graph (scope_of scopes) (Page p) label v
      → Linked graph (scope_of scopes) (Page p) label v
  link_from p label v e = ⊎_elim (λ l. l) (λ none. absurd none) e

  linked_end : (u : Value) (label : Label) (n : Name) → Linked graph (scope_of scopes) u label (Data (Node n))
      → Contains graph.nodes n
  linked_end u label n linked =
      let s = bodies_to (λ c b. SomeOf (IsJoined graph c u label (Data (Node n))) b.links) (scope_of scopes)
      scopes.blocks.items checked refl linked in
      let j = s.holds in
      ⊎_elim
      (λ r. node_declared graph s.item.chain.variables r.row j.item.target n r.is_row.in_domain
      ((checked s.item s.within).no_linked_node j.item j.within) r.holds.to)
      (λ o. in_row graph s.item.chain.variables o.row o.name n o.is_row.in_domain o.is)
      (joined_row graph s.item.chain u label (Data (Node n)) j.item (node_is_no_int n) j.holds)

  put_declared : (c n : Name) → CollectedBy graph (scope_of scopes) c (Data (Node n)) → Contains graph.nodes n
  put_declared c n put =
      let s = bodies_to (λ k b. SomeOf (IsPut graph k c (Data (Node n))) b.collects) (scope_of scopes)
      scopes.blocks.items checked refl put in
      let j = s.holds in
      let r = j.holds.1 in
      node_declared graph s.item.chain.variables r.row j.item.target n r.is_row.in_domain
      ((checked s.item s.within).no_put_node j.item j.within) r.holds

  put_named : (names : List Name) → ListsExactly bytes_cmp (IsCollectName (scope_of scopes)) names → (c : Name)
      (v : Value) → CollectedBy graph (scope_of scopes) c v → Contains names c
  put_named names all c v put =
      let j = put.holds in
      all.complete c
      (record {
        item = put.item;
        within = put.within;
        holds = record { item = j.item; within = j.within; holds = j.holds.0 };
      })

pub listed_query : (graph : DataGraph) (scopes : QueryBlocks) (terms : List Term) (labels : List Label)
    (collections : List Name) → IsWellFormed graph
    → AreCheckedBlocks scopes.version scopes.blocks.items → ListsExactly term_cmp (InSite graph (scope_of scopes)) terms
    → ListsExactly bytes_cmp (λ l. (u : Value) × (v : Value) × Linked graph (scope_of scopes) u l v) labels
    → ListsExactly bytes_cmp (IsCollectName (scope_of scopes)) collections
    → IsListed (site_of graph (scope_of scopes)) graph terms labels collections
listed_query graph scopes terms labels collections well checked all_terms all_labels names = record {
  sound = all_terms.sound;
  complete = all_terms.complete;
  starts = λ p label v e. starts_in_site graph scopes well checked p label v
      (link_from graph scopes well checked p label v e);
  labelled = λ p label v e. all_labels.complete label (
    Page p,
    v,
    link_from graph scopes well checked p label v
        e,
  );
  edges = λ e h. inr h;
  from_nodes = λ n label v e. ⊎_elim (λ l. absurd (no_link_from graph scopes well checked (Node n) label v l))
      (λ h. h) e;
  members = λ m h. inr (m.node, h, refl);
  collected = λ c v h. ⊎_elim (λ by. inl (put_named graph scopes well checked collections names c v by))
      (λ k. inr k) h;
  ends_in_site = λ u label t e. edge_stays graph (scope_of scopes) scopes.blocks.items u label t checked refl well e;
  ends_declared = λ u label n e. ⊎_elim (linked_end graph scopes well checked u label n)
      (edge_end graph well u label n) e;
  collected_in_site = λ c t h. collected_stays graph (scope_of scopes) scopes.blocks.items c t checked refl h;
  collected_declared = λ c n h. ⊎_elim (put_declared graph scopes well checked c n)
      (λ k. subst (Contains graph.nodes) (sym (node_inside n k.0 k.2))
      (well.members_are_nodes (record { collection = c; node = k.0 }) k.1)) h;
}
