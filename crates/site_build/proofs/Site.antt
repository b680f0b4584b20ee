-- From the rows of blocks to the relations of the site.
use Rattle.std.proofs.Common.{◌≡◌, ◌⊎◌, ◌++◌, ℕ, ◌+◌, ◌<◌, List, [], map, length, get_or, take, inl, inr, ⊎_elim, refl, sym, subst}
use Rattle.std.specs.Prelude.{Contains, ◌↔◌}
use Rattle.std.proofs.lemmas.List.Elements.{Contains-append_left, Contains-append_right, Contains-append_cases}
use Rattle.sd_value.specs.declared.Term.{Term}
use Rattle.sd_value.specs.declared.Datum.{Datum}
use Rattle.sd_value.specs.declared.Value.{Value}
use Rattle.sd_value.specs.declared.Value.TheVariants.{Data, Page}
use Rattle.sd_value.specs.Order.{bytes_cmp, term_cmp, value_cmp}
use Rattle.sd_value.specs.Ascending.{ListsExactly}
use Rattle.sd_value.specs.AscendingLaws.{listed_as}
use Rattle.graph_spec.specs.DataGraph.{DataGraph, Name, node, HasMember}
use Rattle.tmpl.specs.Body.{TemplateFile}
use Rattle.page_spec.specs.Page.{IsPresent}
use Rattle.query_spec.specs.declared.Variable.{Variable}
use Rattle.query_spec.specs.Query.{SkolemTerm, Chain, Target, plain, made, summed, Link as PlainLink}
use Rattle.query_spec.specs.Holds.{Assignment}
use Rattle.query_spec.specs.Rows.{value_in, row_cmp, IsRow}
use Rattle.struql_ast.specs.declared.SkolemTerm.{SkolemTerm as WrittenTerm}
use Rattle.struql_ast.specs.declared.Link.{Link}
use Rattle.struql_ast.specs.declared.Collect.{Collect}
use Rattle.struql_ast.specs.Reading.{term_of, link_of, collect_of}
use Rattle.site_spec.specs.Site.{Scope, SomeOf, SomeRow, IsTermUnder, IsTargetUnder, IsNamed, IsSum, IsJoined, IsPut, InSite, Linked, CollectedBy, Collected, terms_of, ends_of, target_terms}
use Rattle.site_spec.proofs.Sums.{joined_given}
use Rattle.query_blocks.specs.declared.QueryBlock.{QueryBlock}
use Rattle.query_blocks.specs.Blocks.{body_of, IsCheckedBlock}
use Rattle.weight_spec.specs.Site.{site_of}
use Rattle.site_lookups.specs.Ends.{BlockJoins, BlockPuts}
use Rattle.site_lookups.proofs.Some.{some_from, map_from, map_to}
use Rattle.site_lookups.proofs.Blocks.{from_creates, from_links, from_collects, in_clauses, bodies_from, bodies_to}
use Rattle.site_build.specs.declared.ordered.Joined.{Joined}
use Rattle.site_build.specs.declared.ordered.Put.{Put}
use Rattle.site_build.specs.declared.contents.Made.{Made}
use Rattle.site_build.specs.Ordered.{joined_cmp, put_cmp}
use Rattle.site_build.specs.Gains.{Gains}
use Rattle.site_build.specs.Materialised.{IsJoin, InJoinsOf, IsSumUnder, InSumsOf, IsPutUnder, BlockAdds, BlocksAdd, IsContents, HasPageTemplate}
use Rattle.site_build.proofs.Growing.{gains_as, gains_two, gains_three, gains_next, gains_nil, gained_to}

-- a relation of two things, at equal ones
pub at_both : {A B : Type 0} (P : A → B → Type 0) (a c : A) (b d : B) → a ≡ c → b ≡ d → P a b → P c d
at_both P a c b d e f p = subst (λ x. P x d) e (subst (P a) f p)

-- ---- the terms of a block's rows, clause by clause

abbrev pub InCreatesOf : List (List Value) → List Variable → List WrittenTerm → Term → Type 0
InCreatesOf rows vs ws p = SomeOf (λ row. SomeOf (λ w. IsTermUnder (value_in vs row) (term_of w) p) ws) rows

abbrev pub InLinksOf : List (List Value) → List Variable → List Link → Term → Type 0
InLinksOf rows vs ks p = SomeOf (λ row. SomeOf (λ k. SomeOf (λ t. IsTermUnder (value_in vs row) t p) (ends_of (link_of k))) ks) rows

abbrev pub InCollectsOf : List (List Value) → List Variable → List Collect → Term → Type 0
InCollectsOf rows vs ks p = SomeOf (λ row. SomeOf (λ k. SomeOf (λ t. IsTermUnder (value_in vs row) t p) (target_terms (collect_of k).target)) ks) rows

abbrev pub InTermsOf : List (List Value) → QueryBlock → Term → Type 0
InTermsOf rows b p = SomeOf (λ row. SomeOf (λ t. IsTermUnder (value_in b.chain.variables row) t p) (terms_of (body_of b))) rows

pub terms_gained : (b : QueryBlock) (rows : List (List Value)) (vs : List Variable) (ws : List WrittenTerm) (ks : List Link) (cs : List Collect) (old one two new : List Term)
    → vs ≡ b.chain.variables → ws ≡ b.creates.items → ks ≡ b.links.items → cs ≡ b.collects.items
    → Gains (InCreatesOf rows vs ws) old one → Gains (InLinksOf rows vs ks) one two → Gains (InCollectsOf rows vs cs) two new → Gains (InTermsOf rows b) old new
terms_gained b rows vs ws ks cs old one two new ev ew ek ec g h i =
    gains_three (InCreatesOf rows b.chain.variables b.creates.items) (InLinksOf rows b.chain.variables b.links.items) (InCollectsOf rows b.chain.variables b.collects.items) (InTermsOf rows b) old one two new
    (at_both (λ v w. Gains (InCreatesOf rows v w) old one) vs b.chain.variables ws b.creates.items ev ew g)
    (at_both (λ v k. Gains (InLinksOf rows v k) one two) vs b.chain.variables ks b.links.items ev ek h)
    (at_both (λ v k. Gains (InCollectsOf rows v k) two new) vs b.chain.variables cs b.collects.items ev ec i)
    (λ p s. record { item = s.item; within = s.within; holds = from_creates (λ t. IsTermUnder (value_in b.chain.variables s.item) t p) b s.holds })
    (λ p s. record { item = s.item; within = s.within; holds = from_links (λ t. IsTermUnder (value_in b.chain.variables s.item) t p) b s.holds })
    (λ p s. record { item = s.item; within = s.within; holds = from_collects (λ t. IsTermUnder (value_in b.chain.variables s.item) t p) b s.holds })
    (λ p s. ⊎_elim
    (λ c. inl (record { item = s.item; within = s.within; holds = c }))
    (λ r. ⊎_elim (λ k. inr (inl (record { item = s.item; within = s.within; holds = k }))) (λ k. inr (inr (record { item = s.item; within = s.within; holds = k }))) r)
    (in_clauses (λ t. IsTermUnder (value_in b.chain.variables s.item) t p) b s.holds))

-- ---- some row and some clause, either way round

pub by_clause : {T : Type 0} (G : DataGraph) (c : Chain) (rows : List (List Value)) (P : T → Assignment → Type 0) (ts : List T) → ListsExactly row_cmp (IsRow G c) rows
    → SomeOf (λ row. SomeOf (λ t. P t (value_in c.variables row)) ts) rows → SomeOf (λ t. SomeRow G c (P t)) ts
by_clause G c rows P ts exact s = record { item = s.holds.item; within = s.holds.within; holds = record { row = s.item; is_row = exact.sound s.item s.within; holds = s.holds.holds } }

pub by_row : {T : Type 0} (G : DataGraph) (c : Chain) (rows : List (List Value)) (P : T → Assignment → Type 0) (ts : List T) → ListsExactly row_cmp (IsRow G c) rows
    → SomeOf (λ t. SomeRow G c (P t)) ts → SomeOf (λ row. SomeOf (λ t. P t (value_in c.variables row)) ts) rows
by_row G c rows P ts exact s = record { item = s.holds.row; within = exact.complete s.holds.row s.holds.is_row; holds = record { item = s.item; within = s.within; holds = s.holds.holds } }

put_to : (G : DataGraph) (b : QueryBlock) (p : Put) → SomeOf (λ k. SomeRow G b.chain (λ s. IsPutUnder (collect_of k) s p)) b.collects.items → BlockPuts G p.collection b p.value
put_to G b p s = record { item = s.item; within = s.within; holds = (s.holds.holds.0, record { row = s.holds.row; is_row = s.holds.is_row; holds = s.holds.holds.1 }) }

put_from : (G : DataGraph) (b : QueryBlock) (p : Put) → BlockPuts G p.collection b p.value → SomeOf (λ k. SomeRow G b.chain (λ s. IsPutUnder (collect_of k) s p)) b.collects.items
put_from G b p s = record { item = s.item; within = s.within; holds = record { row = s.holds.1.row; is_row = s.holds.1.is_row; holds = (s.holds.0, s.holds.1.holds) } }

abbrev pub InPutsOf : List (List Value) → QueryBlock → Put → Type 0
InPutsOf rows b p = SomeOf (λ row. SomeOf (λ k. IsPutUnder (collect_of k) (value_in b.chain.variables row) p) b.collects.items) rows

-- ---- links by one row, and by all of them

module _ (G : DataGraph) (c : Chain) (rows : List (List Value)) (exact : ListsExactly row_cmp (IsRow G c) rows) where
  sum_to : (k : PlainLink) (t : Target) (j : Joined) → IsSumUnder c.variables rows k t j → IsSum G c (Page j.from) j.label j.to k t
  sum_to k (plain o) j h = h
  sum_to k (made t) j h = h
  sum_to k (summed a) j h = record {
    parts = h.0;
    all = listed_as h.1
        (λ w s. record { row = s.item; is_row = exact.sound s.item s.within; holds = s.holds })
        (λ w r. record { item = r.row; within = exact.complete r.row r.is_row; holds = r.holds });
    told = h.2;
  }

  sum_from : (k : PlainLink) (t : Target) (j : Joined) → IsSum G c (Page j.from) j.label j.to k t → IsSumUnder c.variables rows k t j
  sum_from k (plain o) j h = h
  sum_from k (made t) j h = h
  sum_from k (summed a) j h = (
    h.parts,
    listed_as h.all
        (λ w r. record { item = r.row; within = exact.complete r.row r.is_row; holds = r.holds })
        (λ w s. record { row = s.item; is_row = exact.sound s.item s.within; holds = s.holds }),
    h.told,
  )

joins_to : (G : DataGraph) (b : QueryBlock) (rows : List (List Value)) (j : Joined) → ListsExactly row_cmp (IsRow G b.chain) rows → InJoinsOf rows b j ⊎ InSumsOf rows b j → BlockJoins G (Page j.from) j.label b j.to
joins_to G b rows j exact (inl s) =
    let t = by_clause G b.chain rows (λ (k : Link) s. IsJoin (link_of k) s j) b.links.items exact s in
    record { item = t.item; within = t.within; holds = inl t.holds }
joins_to G b rows j exact (inr s) =
    record { item = s.item; within = s.within; holds = inr (sum_to G b.chain rows exact (link_of s.item) (link_of s.item).target j s.holds) }

-- by one row or by all
split : (G : DataGraph) (b : QueryBlock) (rows : List (List Value)) (j : Joined) → ListsExactly row_cmp (IsRow G b.chain) rows → (k : Link) → Contains b.links.items k → IsJoined G b.chain (Page j.from) j.label j.to (link_of k) → InJoinsOf rows b j ⊎ InSumsOf rows b j
split G b rows j exact k within (inl r) =
    inl (by_row G b.chain rows (λ (k : Link) s. IsJoin (link_of k) s j) b.links.items exact (record { item = k; within = within; holds = r }))
split G b rows j exact k within (inr h) =
    inr (record { item = k; within = within; holds = sum_from G b.chain rows exact (link_of k) (link_of k).target j h })

joins_from : (G : DataGraph) (b : QueryBlock) (rows : List (List Value)) (j : Joined) → ListsExactly row_cmp (IsRow G b.chain) rows → BlockJoins G (Page j.from) j.label b j.to → InJoinsOf rows b j ⊎ InSumsOf rows b j
joins_from G b rows j exact s = split G b rows j exact s.item s.within s.holds

-- what a block's links gain, with the variables and the links as they are at hand
pub links_gained : (b : QueryBlock) (rows : List (List Value)) (vs : List Variable) (ks : List Link) (old one new : List Joined) → vs ≡ b.chain.variables → ks ≡ b.links.items
    → Gains (λ j. SomeOf (λ row. SomeOf (λ k. IsJoin (link_of k) (value_in vs row) j) ks) rows) old one
    → Gains (λ j. SomeOf (λ k. IsSumUnder vs rows (link_of k) (link_of k).target j) ks) one new
    → Gains (λ (j : Joined). InJoinsOf rows b j ⊎ InSumsOf rows b j) old new
links_gained b rows vs ks old one new ev ek g h =
    gains_two (InJoinsOf rows b) (InSumsOf rows b) old one new
    (at_both (λ v k. Gains (λ j. SomeOf (λ row. SomeOf (λ l. IsJoin (link_of l) (value_in v row) j) k) rows) old one) vs b.chain.variables ks b.links.items ev ek g)
    (at_both (λ v k. Gains (λ j. SomeOf (λ l. IsSumUnder v rows (link_of l) (link_of l).target j) k) one new) vs b.chain.variables ks b.links.items ev ek h)

pub terms_of_block : (G : DataGraph) (b : QueryBlock) (rows : List (List Value)) (old new : List Term) → ListsExactly row_cmp (IsRow G b.chain) rows → Gains (InTermsOf rows b) old new → Gains (λ p. SomeOf (IsNamed G b.chain p) (terms_of (body_of b))) old new
terms_of_block G b rows old new exact g =
    gains_as (InTermsOf rows b) (λ p. SomeOf (IsNamed G b.chain p) (terms_of (body_of b))) old new g
    (λ p s. by_clause G b.chain rows (λ (t : SkolemTerm) s. IsTermUnder s t p) (terms_of (body_of b)) exact s)
    (λ p s. by_row G b.chain rows (λ (t : SkolemTerm) s. IsTermUnder s t p) (terms_of (body_of b)) exact s)

pub links_of_block : (G : DataGraph) (b : QueryBlock) (rows : List (List Value)) (old new : List Joined) → ListsExactly row_cmp (IsRow G b.chain) rows → Gains (λ (j : Joined). InJoinsOf rows b j ⊎ InSumsOf rows b j) old new → Gains (λ (j : Joined). BlockJoins G (Page j.from) j.label b j.to) old new
links_of_block G b rows old new exact g =
    gains_as (λ (j : Joined). InJoinsOf rows b j ⊎ InSumsOf rows b j) (λ (j : Joined). BlockJoins G (Page j.from) j.label b j.to) old new g
    (λ j s. joins_to G b rows j exact s)
    (λ j s. joins_from G b rows j exact s)

pub puts_of_block : (G : DataGraph) (b : QueryBlock) (rows : List (List Value)) (old new : List Put) → ListsExactly row_cmp (IsRow G b.chain) rows → Gains (InPutsOf rows b) old new → Gains (λ (p : Put). BlockPuts G p.collection b p.value) old new
puts_of_block G b rows old new exact g =
    gains_as (InPutsOf rows b) (λ (p : Put). BlockPuts G p.collection b p.value) old new g
    (λ p s. put_to G b p (by_clause G b.chain rows (λ (k : Collect) s. IsPutUnder (collect_of k) s p) b.collects.items exact s))
    (λ p s. by_row G b.chain rows (λ (k : Collect) s. IsPutUnder (collect_of k) s p) b.collects.items exact (put_from G b p s))

-- ---- block after block

pub none_added : (G : DataGraph) (c : Made) → BlocksAdd G [] c c
none_added G c = record {
  terms = gains_nil (λ (b : QueryBlock) (p : Term). SomeOf (IsNamed G b.chain p) (terms_of (body_of b))) c.terms.keys;
  links = gains_nil (λ (b : QueryBlock) (j : Joined). BlockJoins G (Page j.from) j.label b j.to) c.links.keys;
  puts = gains_nil (λ (b : QueryBlock) (p : Put). BlockPuts G p.collection b p.value) c.puts.keys;
}

pub one_more : (G : DataGraph) (bs : List QueryBlock) (i : ℕ) (b : QueryBlock) (old now new : Made) → i < length bs → b ≡ get_or bs i b → BlocksAdd G (take i bs) old now → BlockAdds G b now new → BlocksAdd G (take (i + 1) bs) old new
one_more G bs i b old now new l is all more = record {
  terms = gains_next (λ (b : QueryBlock) (p : Term). SomeOf (IsNamed G b.chain p) (terms_of (body_of b))) bs i b old.terms.keys now.terms.keys new.terms.keys l is all.terms more.terms;
  links = gains_next (λ (b : QueryBlock) (j : Joined). BlockJoins G (Page j.from) j.label b j.to) bs i b old.links.keys now.links.keys new.links.keys l is all.links more.links;
  puts = gains_next (λ (b : QueryBlock) (p : Put). BlockPuts G p.collection b p.value) bs i b old.puts.keys now.puts.keys new.puts.keys l is all.puts more.puts;
}

-- ---- all blocks: the relations of the site

module _ (G : DataGraph) (q : Scope) (blocks : List QueryBlock) (checked : (b : QueryBlock) → Contains blocks b → IsCheckedBlock q.version b) (e : q.bodies ≡ map body_of blocks) where
  in_site_from : (p : Term) → SomeOf (λ b. SomeOf (IsNamed G b.chain p) (terms_of (body_of b))) blocks → InSite G q p
  in_site_from p s = bodies_from (λ c b. SomeOf (IsNamed G c p) (terms_of b)) q blocks checked e s

  in_site_to : (p : Term) → InSite G q p → SomeOf (λ b. SomeOf (IsNamed G b.chain p) (terms_of (body_of b))) blocks
  in_site_to p s = bodies_to (λ c b. SomeOf (IsNamed G c p) (terms_of b)) q blocks checked e s

  linked_from : (u : Value) (label : Name) (v : Value) → SomeOf (λ b. BlockJoins G u label b v) blocks → Linked G q u label v
  linked_from u label v s =
      bodies_from (λ c b. SomeOf (IsJoined G c u label v) b.links) q blocks checked e
      (some_from (λ b. SomeOf (IsJoined G b.chain u label v) (body_of b).links) blocks s.item s.within (map_from (IsJoined G s.item.chain u label v) link_of s.item.links.items s.holds))

  linked_to : (u : Value) (label : Name) (v : Value) → Linked G q u label v → SomeOf (λ b. BlockJoins G u label b v) blocks
  linked_to u label v l =
      let s = bodies_to (λ c b. SomeOf (IsJoined G c u label v) b.links) q blocks checked e l in
      some_from (λ b. BlockJoins G u label b v) blocks s.item s.within (map_to (IsJoined G s.item.chain u label v) link_of s.item.links.items s.holds)

  collected_from : (name : Name) (v : Value) → SomeOf (λ b. BlockPuts G name b v) blocks → CollectedBy G q name v
  collected_from name v s =
      bodies_from (λ c b. SomeOf (IsPut G c name v) b.collects) q blocks checked e
      (some_from (λ b. SomeOf (IsPut G b.chain name v) (body_of b).collects) blocks s.item s.within (map_from (IsPut G s.item.chain name v) collect_of s.item.collects.items s.holds))

  collected_to : (name : Name) (v : Value) → CollectedBy G q name v → SomeOf (λ b. BlockPuts G name b v) blocks
  collected_to name v l =
      let s = bodies_to (λ c b. SomeOf (IsPut G c name v) b.collects) q blocks checked e l in
      some_from (λ b. BlockPuts G name b v) blocks s.item s.within (map_to (IsPut G s.item.chain name v) collect_of s.item.collects.items s.holds)

  pub contents_made : (old now : Made) (terms : List Term) (links : List Joined) (puts : List Put) → old.terms.keys ≡ [] → old.links.keys ≡ [] → old.puts.keys ≡ [] → BlocksAdd G blocks old now
      → ListsExactly term_cmp (Contains now.terms.keys) terms → ListsExactly joined_cmp (Contains now.links.keys) links → ListsExactly put_cmp (Contains now.puts.keys) puts → IsContents G q terms links puts
  contents_made old now terms links puts et el ep all ts ls ps = record {
    all_terms = listed_as ts
        (λ p h. in_site_from p (gained_to (λ p. SomeOf (λ b. SomeOf (IsNamed G b.chain p) (terms_of (body_of b))) blocks) old.terms.keys now.terms.keys et all.terms p h))
        (λ p s. all.terms.gained p (in_site_to p s));
    all_links = listed_as ls
        (λ j h. linked_from (Page j.from) j.label j.to (gained_to (λ (j : Joined). SomeOf (λ b. BlockJoins G (Page j.from) j.label b j.to) blocks) old.links.keys now.links.keys el all.links j h))
        (λ j s. all.links.gained j (linked_to (Page j.from) j.label j.to s));
    all_puts = listed_as ps
        (λ p h. collected_from p.collection p.value (gained_to (λ (p : Put). SomeOf (λ b. BlockPuts G p.collection b p.value) blocks) old.puts.keys now.puts.keys ep all.puts p h))
        (λ p s. all.puts.gained p (collected_to p.collection p.value s));
  }

page_is_no_datum : (d : Datum) (p : Term) → Data d ≡ Page p → ⊥
page_is_no_datum d p e = cc

-- a link starts at a page
link_start : (G : DataGraph) (q : Scope) (blocks : List QueryBlock) (u : Value) (label : Name) (v : Value) → ((b : QueryBlock) → Contains blocks b → IsCheckedBlock q.version b) → q.bodies ≡ map body_of blocks → Linked G q u label v
    → (p : Term) × (u ≡ Page p)
link_start G q blocks u label v checked e l =
    let s = bodies_to (λ c b. SomeOf (IsJoined G c u label v) b.links) q blocks checked e l in
    let m = (checked s.item s.within).sources s.holds.item s.holds.within in
    let given = joined_given G s.item.chain u label v s.holds.item s.holds.holds in
    let at : IsTargetUnder (value_in s.item.chain.variables given.row) (made m.0) u = subst (λ x. IsTargetUnder (value_in s.item.chain.variables given.row) x u) m.1 given.holds.0 in
    (at.0, at.2)

-- these are the labels of the links
abbrev pub LabelsOf : List Joined → List Name → Type 0
LabelsOf links labels = Gains (λ l. SomeOf (λ (j : Joined). j.label ≡ l) links) [] labels

pub labels_listed : (G : DataGraph) (q : Scope) (blocks : List QueryBlock) (links : List Joined) (all out : List Name) → ((b : QueryBlock) → Contains blocks b → IsCheckedBlock q.version b) → q.bodies ≡ map body_of blocks
    → ListsExactly joined_cmp (λ (j : Joined). Linked G q (Page j.from) j.label j.to) links → LabelsOf links all → ListsExactly bytes_cmp (Contains all) out
    → ListsExactly bytes_cmp (λ l. (u : Value) × (v : Value) × Linked G q u l v) out
labels_listed G q blocks links all out checked e exact g x = listed_as x
    (λ l h.
    let s = gained_to (λ l. SomeOf (λ (j : Joined). j.label ≡ l) links) [] all refl g l h in
    (Page s.item.from, s.item.to, subst (λ m. Linked G q (Page s.item.from) m s.item.to) s.holds (exact.sound s.item s.within)))
    (λ l h.
    let start = link_start G q blocks h.0 l h.1 checked e h.2 in
    let j : Joined = record { from = start.0; label = l; to = h.1 } in
    let at = exact.complete j (subst (λ u. Linked G q u l h.1) start.1 h.2) in
    g.gained l (some_from (λ (j : Joined). j.label ≡ l) links j at refl))

-- members of the data, and then what COLLECTs put under the name
pub collected_all : (G : DataGraph) (q : Scope) (name : Name) (puts : List Put) (ms ps all out : List Value) → ListsExactly put_cmp (λ (p : Put). CollectedBy G q p.collection p.value) puts
    → ListsExactly value_cmp (λ v. Contains puts (record { collection = name; value = v })) ps → ((v : Value) → Contains ms v ↔ ((n : Name) × HasMember G name n × (v ≡ node n)))
    → all ≡ ms ++ ps → ListsExactly value_cmp (Contains all) out → ListsExactly value_cmp (Collected G q name) out
collected_all G q name puts ms ps all out exact picked members joined x = listed_as x
    (λ v h. ⊎_elim (λ k. inr ((members v).0 k)) (λ k. inl (exact.sound (record { collection = name; value = v }) (picked.sound v k))) (Contains-append_cases ms ps v (subst (λ (xs : List Value). Contains xs v) joined h)))
    (λ v c. subst (λ (xs : List Value). Contains xs v) (sym joined)
    (⊎_elim (λ k. Contains-append_right ms ps v (picked.complete v (exact.complete (record { collection = name; value = v }) k))) (λ k. Contains-append_left ms ps v ((members v).1 k)) c))

-- the terms of the site whose function has a template
pub pages_listed : (G : DataGraph) (q : Scope) (f : TemplateFile) (terms pages : List Term) → ListsExactly term_cmp (InSite G q) terms → ListsExactly term_cmp (λ p. Contains terms p × HasPageTemplate f p) pages
    → ListsExactly term_cmp (IsPresent (site_of G q) f) pages
pages_listed G q f terms pages exact x = listed_as x (λ p h. (exact.sound p h.0, h.1)) (λ p h. (exact.complete p h.0, h.1))

-- where the links of the contents lead from a page
pub ends_listed : (G : DataGraph) (q : Scope) (links slice : List Joined) (p : Term) (label : Name) (ends : List Value) → slice ≡ links → ListsExactly joined_cmp (λ (j : Joined). Linked G q (Page j.from) j.label j.to) links
    → ListsExactly value_cmp (λ v. Contains slice (record { from = p; label = label; to = v })) ends → ListsExactly value_cmp (Linked G q (Page p) label) ends
ends_listed G q links slice p label ends e exact x = listed_as x
    (λ v h. exact.sound (record { from = p; label = label; to = v }) (subst (λ (js : List Joined). Contains js (record { from = p; label = label; to = v })) e h))
    (λ v l. subst (λ (js : List Joined). Contains js (record { from = p; label = label; to = v })) (sym e) (exact.complete (record { from = p; label = label; to = v }) l))
