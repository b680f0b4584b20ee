-- A page at an edge's end, or collected, is in the site; and atoms start no edge.
use Rattle.std.proofs.Common.{◌≡◌, ◌⊎◌, ◌++◌, List, [], ◌∷◌, map, inl, inr, ⊎_elim, refl, sym, ap, subst}
use Rattle.std.specs.Prelude.{Contains, Option, Some, None, Bool, true, false, if◌then◌else◌}
use Rattle.std.specs.Bool.{MatchBool}
use Rattle.std.specs.List.{flat_map, AllZip}
use Rattle.std.proofs.lemmas.List.Elements.{Contains-append_right}
use Rattle.sd_value.specs.declared.Datum.{Datum}
use Rattle.sd_value.specs.declared.Datum.TheVariants.{Int, Text, Url, File, Node}
use Rattle.sd_value.specs.declared.Value.{Value}
use Rattle.sd_value.specs.declared.Value.TheVariants.{Data, Page}
use Rattle.sd_value.specs.declared.Term.{Term}
use Rattle.sd_value.specs.Members.{Contains-here}
use Rattle.graph_spec.specs.DataGraph.{DataGraph, Name, HasEdge, IsWellFormed, IsValueOf, IsLabelValueOf}
use Rattle.query_spec.specs.declared.Variable.{Variable}
use Rattle.query_spec.specs.Query.{Operand, variable, constant, SkolemTerm, Target, plain, made, summed, Link, Collect, Body}
use Rattle.query_spec.specs.Mentions.{same_name}
use Rattle.query_spec.specs.Holds.{operand_value}
use Rattle.query_spec.specs.Rows.{value_in, IsInDomain}
use Rattle.page_spec.specs.Site.{MayStart}
use Rattle.site_spec.specs.Site.{Scope, IsTermUnder, IsTargetUnder, IsNamed, InSite, IsJoined, Linked, IsPut, CollectedBy, Collected, SiteEdge, SomeOf, terms_of, ends_of, target_terms}
use Rattle.site_spec.proofs.Sums.{no_page_in, joined_given, page_joined}
use Rattle.query_blocks.specs.declared.QueryBlock.{QueryBlock}
use Rattle.query_blocks.specs.Blocks.{body_of, IsCheckedBlock, IsOfData}
use Rattle.site_lookups.proofs.Some.{some_from, some_left, some_right, flat_from}
use Rattle.site_lookups.proofs.Blocks.{bodies_from, bodies_to}
use Rattle.site_lookups.proofs.Targets.{source_to}

-- ---- the values of a row are data

some_same : (v w : Value) → Some v ≡ Some w → v ≡ w
some_same v w e = cc

operand_is_data : (G : DataGraph) (variables : List Variable) (row : List Value) (o : Operand) (p : Term) → AllZip (IsInDomain G) variables row → IsOfData (plain o) → operand_value (value_in variables row) o ≡ Some (Page p) → ⊥
operand_is_data G variables row (variable x) p d n e = no_page_in G variables row x p d e
operand_is_data G variables row (constant v) p d n e = n p (ap (λ w. plain (constant w)) (some_same v (Page p) e))

-- a target that is a page is a term that names it
target_page : (G : DataGraph) (variables : List Variable) (row : List Value) (t : Target) (p : Term) → AllZip (IsInDomain G) variables row → IsOfData t → IsTargetUnder (value_in variables row) t (Page p)
    → (m : SkolemTerm) × Contains (target_terms t) m × IsTermUnder (value_in variables row) m p
target_page G variables row (plain o) p d n h = absurd (operand_is_data G variables row o p d n h)
target_page G variables row (summed a) p d n h = absurd h
target_page G variables row (made m) p d n h = (m, Contains-here m [], source_to (value_in variables row) m p (made m) refl h)

-- ---- the terms of a body

abbrev collect_terms : Collect → List SkolemTerm
collect_terms c = target_terms c.target

link_term : (b : Body) (k : Link) (t : SkolemTerm) → Contains b.links k → Contains (target_terms k.target) t → Contains (terms_of b) t
link_term b k t h i =
    let s =
    some_left (λ u. u ≡ t) (b.creates ++ flat_map ends_of b.links) (flat_map collect_terms b.collects)
    (some_right (λ u. u ≡ t) b.creates (flat_map ends_of b.links)
    (flat_from (λ u. u ≡ t) ends_of b.links (some_from (λ k. SomeOf (λ u. u ≡ t) (ends_of k)) b.links k h
    (some_from (λ u. u ≡ t) (ends_of k) t (Contains-append_right (target_terms k.source) (target_terms k.target) t i) refl)))) in
    subst (Contains (terms_of b)) s.holds s.within

collect_term : (b : Body) (k : Collect) (t : SkolemTerm) → Contains b.collects k → Contains (target_terms k.target) t → Contains (terms_of b) t
collect_term b k t h i =
    let s =
    some_right (λ u. u ≡ t) (b.creates ++ flat_map ends_of b.links) (flat_map collect_terms b.collects)
    (flat_from (λ u. u ≡ t) collect_terms b.collects (some_from (λ k. SomeOf (λ u. u ≡ t) (collect_terms k)) b.collects k h (some_from (λ u. u ≡ t) (collect_terms k) t i refl))) in
    subst (Contains (terms_of b)) s.holds s.within

named_in : (G : DataGraph) (q : Scope) (blocks : List QueryBlock) (b : QueryBlock) (t : SkolemTerm) (p : Term) → ((b : QueryBlock) → Contains blocks b → IsCheckedBlock q.version b) → q.bodies ≡ map body_of blocks
    → Contains blocks b → Contains (terms_of (body_of b)) t → IsNamed G b.chain p t → InSite G q p
named_in G q blocks b t p checked e h i n =
    bodies_from (λ c b. SomeOf (IsNamed G c p) (terms_of b)) q blocks checked e
    (some_from (λ b. SomeOf (IsNamed G b.chain p) (terms_of (body_of b))) blocks b h (some_from (IsNamed G b.chain p) (terms_of (body_of b)) t i n))

-- ---- pages at ends

linked_page : (G : DataGraph) (q : Scope) (blocks : List QueryBlock) (u : Value) (label : Name) (p : Term) → ((b : QueryBlock) → Contains blocks b → IsCheckedBlock q.version b) → q.bodies ≡ map body_of blocks → Linked G q u label (Page p) → InSite G q p
linked_page G q blocks u label p checked e l =
    let s = bodies_to (λ c b. SomeOf (IsJoined G c u label (Page p)) b.links) q blocks checked e l in
    let j = s.holds in
    let r = page_joined G s.item.chain u label p j.item j.holds in
    let t = target_page G s.item.chain.variables r.row j.item.target p r.is_row.in_domain ((checked s.item s.within).targets j.item j.within) r.holds.to in
    named_in G q blocks s.item t.0 p checked e s.within (link_term (body_of s.item) j.item t.0 j.within t.1) record { row = r.row; is_row = r.is_row; holds = t.2 }

put_page : (G : DataGraph) (q : Scope) (blocks : List QueryBlock) (name : Name) (p : Term) → ((b : QueryBlock) → Contains blocks b → IsCheckedBlock q.version b) → q.bodies ≡ map body_of blocks → CollectedBy G q name (Page p) → InSite G q p
put_page G q blocks name p checked e l =
    let s = bodies_to (λ c b. SomeOf (IsPut G c name (Page p)) b.collects) q blocks checked e l in
    let j = s.holds in
    let r = j.holds.1 in
    let t = target_page G s.item.chain.variables r.row j.item.target p r.is_row.in_domain ((checked s.item s.within).puts j.item j.within) r.holds in
    named_in G q blocks s.item t.0 p checked e s.within (collect_term (body_of s.item) j.item t.0 j.within t.1) record { row = r.row; is_row = r.is_row; holds = t.2 }

no_edge_to : (G : DataGraph) (u : Value) (label : Name) (p : Term) → IsWellFormed G → HasEdge G u label (Page p) → ⊥
no_edge_to G (Data (Node n)) label p w h = w.ends_are_data record { from = n; label = label; to = Page p } h
no_edge_to G (Data (Int i)) label p w h = h
no_edge_to G (Data (Text a)) label p w h = h
no_edge_to G (Data (Url a)) label p w h = h
no_edge_to G (Data (File a)) label p w h = h
no_edge_to G (Page t) label p w h = h

pub edge_stays : (G : DataGraph) (q : Scope) (blocks : List QueryBlock) (u : Value) (label : Name) (p : Term) → ((b : QueryBlock) → Contains blocks b → IsCheckedBlock q.version b) → q.bodies ≡ map body_of blocks → IsWellFormed G → SiteEdge G q u label (Page p) → InSite G q p
edge_stays G q blocks u label p checked e w x = ⊎_elim (λ l. linked_page G q blocks u label p checked e l) (λ h. absurd (no_edge_to G u label p w h)) x

page_is_no_node : (p : Term) (n : Name) → Page p ≡ Data (Node n) → ⊥
page_is_no_node p n e = cc

pub collected_stays : (G : DataGraph) (q : Scope) (blocks : List QueryBlock) (name : Name) (p : Term) → ((b : QueryBlock) → Contains blocks b → IsCheckedBlock q.version b) → q.bodies ≡ map body_of blocks → Collected G q name (Page p) → InSite G q p
collected_stays G q blocks name p checked e x = ⊎_elim (λ l. put_page G q blocks name p checked e l) (λ h. absurd (page_is_no_node p h.0 h.2)) x

-- ---- starts

page_is_no_datum : (d : Datum) (p : Term) → Data d ≡ Page p → ⊥
page_is_no_datum d p e = cc

no_link : (G : DataGraph) (q : Scope) (blocks : List QueryBlock) (d : Datum) (label : Name) (v : Value) → ((b : QueryBlock) → Contains blocks b → IsCheckedBlock q.version b) → q.bodies ≡ map body_of blocks → Linked G q (Data d) label v → ⊥
no_link G q blocks d label v checked e l =
    let s = bodies_to (λ c b. SomeOf (IsJoined G c (Data d) label v) b.links) q blocks checked e l in
    let m = (checked s.item s.within).sources s.holds.item s.holds.within in
    let given = joined_given G s.item.chain (Data d) label v s.holds.item s.holds.holds in
    let at : IsTargetUnder (value_in s.item.chain.variables given.row) (made m.0) (Data d) = subst (λ x. IsTargetUnder (value_in s.item.chain.variables given.row) x (Data d)) m.1 given.holds.0 in
    page_is_no_datum d at.0 at.2

pub no_start : (G : DataGraph) (q : Scope) (blocks : List QueryBlock) (u : Value) (label : Name) (v : Value) → ((b : QueryBlock) → Contains blocks b → IsCheckedBlock q.version b) → q.bodies ≡ map body_of blocks → (MayStart u → ⊥) → SiteEdge G q u label v → ⊥
no_start G q blocks (Page t) label v checked e n x = n tt
no_start G q blocks (Data (Node m)) label v checked e n x = n tt
no_start G q blocks (Data (Int i)) label v checked e n x = ⊎_elim (λ l. no_link G q blocks (Int i) label v checked e l) (λ h. h) x
no_start G q blocks (Data (Text a)) label v checked e n x = ⊎_elim (λ l. no_link G q blocks (Text a) label v checked e l) (λ h. h) x
no_start G q blocks (Data (Url a)) label v checked e n x = ⊎_elim (λ l. no_link G q blocks (Url a) label v checked e l) (λ h. h) x
no_start G q blocks (Data (File a)) label v checked e n x = ⊎_elim (λ l. no_link G q blocks (File a) label v checked e l) (λ h. h) x

pub none_listed : (vs : List Value) → ((v : Value) → Contains vs v → ⊥) → vs ≡ []
none_listed [] n = refl
none_listed (v ∷ vs) n = absurd (n v (Contains-here v vs))
