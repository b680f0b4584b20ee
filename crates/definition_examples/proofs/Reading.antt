-- What the templates read of the page of 1998: its years, its papers, and the papers' titles.
use Rattle.std.specs.Prelude.{◌≡◌, ℕ, List, [], ◌∷◌, ◌++◌, Option, Some, None, Contains, codes, pos, true, false, get_or}
use Rattle.std.specs.List.{AllZip}
use Rattle.std.proofs.Common.{inl, inr, ⊎_elim, refl, sym, ap, ◌∙◌, subst, lit<, arith}
use Rattle.std.proofs.lemmas.List.Elements.{Contains-append_cases}
use Rattle.sd_value.specs.declared.Datum.{Datum}
use Rattle.sd_value.specs.declared.Datum.TheVariants.{Int, Node}
use Rattle.sd_value.specs.declared.Value.{Value}
use Rattle.sd_value.specs.declared.Value.TheVariants.{Data, Page}
use Rattle.sd_value.specs.declared.Term.{Term}
use Rattle.sd_value.specs.Members.{IsOneOf, IsOneOf-from_Contains, Contains-nil, Contains-cons_cases}
use Rattle.tmpl.specs.declared.Expr.{Expr}
use Rattle.tmpl.specs.declared.WordRoot.TheVariants.{Here, Collection}
use Rattle.tmpl.specs.Body.{Body, done}
use Rattle.graph_spec.specs.DataGraph.{Name}
use Rattle.query_spec.specs.Query.{SkolemTerm, made, quoted, Link, Chain, Body as Block}
use Rattle.site_spec.specs.Site as sites
use Rattle.query_spec.specs.Holds.{Assignment, operand_value}
use Rattle.query_spec.specs.Rows.{IsRow, value_in}
use Rattle.page_spec.specs.Site.{Site}
use Rattle.page_spec.specs.Show.{escaped, show, link}
use Rattle.page_spec.specs.Pieces.{Item, byte, embed, bytes, delimiter, Formatted, Joined, Expands, HasTemplate}
use Rattle.page_spec.specs.Page.{Embeds, Leads, nowhere, on}
use Rattle.page_spec.specs.Question.{Question, out, template, collected}
use Rattle.page_spec.proofs.Unique.{template_unique}
use Rattle.tmpl.specs.declared.Mode.TheVariants.{Written, Link as Linked_to}
use Rattle.tmpl.specs.declared.Writing.TheVariants.{Escaped}
use Rattle.site_spec.specs.Site.{InSite, Linked, SiteEdge, IsTermUnder, IsTargetUnder, Joins}
use Rattle.weight_spec.specs.Site.{site_of}
use Rattle.tmpl.specs.Expressions.{Use, uses}
use Rattle.demand_spec.specs.Reads.{Begins, at_here, at_collected, at_loop, Passes, UsePasses, BodyAsks, Presents, IsDemanded, IsAsked, IsRead}
use Rattle.definition_examples.specs.Bibliography.{graph, pub1, title}
use Rattle.definition_examples.specs.BibliographySite.{row, rows, scope, papers, scoped_years, chain, root_page, paper_page, year_page}
use Rattle.definition_examples.proofs.Tools.{names_differ}
use Rattle.definition_examples.proofs.BibliographySite.{exactly_two_years, year_1998_is_a_page, year_1998_links_its_paper}
use Rattle.definition_examples.specs.YearPage.{templates, asked, its_paper, year_body, ends}

-- the link from a year's page to its papers
abbrev pub shows_paper : Link
shows_paper = record { source = made year_page; label = quoted (codes "Paper"); target = made paper_page }

abbrev pub site : Site
site = site_of graph scope

abbrev chain_at : Block → Chain
chain_at b = sites.chain scope b

-- ---- the template

pub year_template : HasTemplate site templates (Page asked) 2
year_template = inr (names_differ (codes "RootPage") (codes "YearPage") refl, inr (names_differ (codes "PaperPage") (codes "YearPage") refl, inl (refl, refl)))

pub presented : (b : Body) → Presents site templates (Page asked) b → b ≡ year_body
presented b (k, has, is) = is ∙ ap (λ i. get_or templates.bodies i done) (template_unique site templates (Page asked) k 2 has year_template)

-- ---- it embeds nothing

abbrev AreBytes : List Item → Type 0
AreBytes ps = (m : Value) → Contains ps (embed m) → ⊥

text_bytes : (t : List ℕ) → AreBytes (bytes t)
text_bytes [] m h = Contains-nil (embed m) h
text_bytes (b ∷ t) m h = ⊎_elim (λ e. let f : ⊥ = cc in f) (text_bytes t m) (Contains-cons_cases (byte b) (bytes t) (embed m) h)

append_bytes : (ps qs : List Item) → AreBytes ps → AreBytes qs → AreBytes (ps ++ qs)
append_bytes ps qs p q m h = ⊎_elim (p m) (q m) (Contains-append_cases ps qs (embed m) h)

delimiter_bytes : (d : Option Name) → AreBytes (delimiter d)
delimiter_bytes None m h = Contains-nil (embed m) h
delimiter_bytes (Some t) m h = text_bytes t m h

joined_bytes : (P : Value → List Item → Type 0) (d : Option Name) (vs : List Value) (ps : List Item) → ((w : Value) (a : List Item) → P w a → AreBytes a) → Joined P (delimiter d) vs ps → AreBytes ps
joined_bytes P d [] ps each j = subst AreBytes (sym j) (λ m h. Contains-nil (embed m) h)
joined_bytes P d (w ∷ []) ps each j = each w ps j
joined_bytes P d (w ∷ u ∷ vs) ps each (a, b, p, j, e) =
    subst AreBytes (sym e) (append_bytes (a ++ delimiter d) b (append_bytes a (delimiter d) (each w a p) (delimiter_bytes d)) (joined_bytes P d (u ∷ vs) b each j))

plain_bytes : (w : Value) (a : List Item) → Formatted site templates (Written Escaped) w a → AreBytes a
plain_bytes w a h = subst AreBytes (sym h) (text_bytes (escaped (show w)))

link_bytes : (word : List Name) (w : Value) (a : List Item) → Formatted site templates (Linked_to (Some word)) w a → AreBytes a
link_bytes word w a (inl (label, key, h)) = subst AreBytes (sym h) (text_bytes (link w label))
link_bytes word w a (inr (key, h)) = subst AreBytes (sym h) (text_bytes (link w w))

year_bytes : (ps : List Item) → Expands site templates record { here = Page asked; loops = [] } year_body ps → AreBytes ps
year_bytes ps (b1, (vs, a2, b2, sorted, j, (b3, (ws, a4, b4, sorted', j', none, e4), e3), e2), e1) =
    let last : AreBytes b4 = subst AreBytes (sym none) (λ m h. Contains-nil (embed m) h) in
    let p3 : AreBytes b3 = subst AreBytes (sym e4) (append_bytes a4 b4 (joined_bytes (Formatted site templates (Linked_to (Some (title ∷ [])))) (Some (codes ", ")) ws a4 (link_bytes (title ∷ [])) j') last) in
    let p2 : AreBytes b2 = subst AreBytes (sym e3) (append_bytes (bytes (codes "</h1>")) b3 (text_bytes (codes "</h1>")) p3) in
    let p1 : AreBytes b1 = subst AreBytes (sym e2) (append_bytes a2 b2 (joined_bytes (Formatted site templates (Written Escaped)) None vs a2 plain_bytes j) p2) in
    subst AreBytes (sym e1) (append_bytes (bytes (codes "<h1>")) b1 (text_bytes (codes "<h1>")) p1)

embeds_nothing : (k : Value) → Embeds site templates (Page asked) k → ⊥
embeds_nothing k (ps, (j, has, expands), among) =
    let two : j ≡ 2 = template_unique site templates (Page asked) j 2 has year_template in
    year_bytes ps (subst (λ i. Expands site templates record { here = Page asked; loops = [] } (get_or templates.bodies i done) ps) two expands) k among

leads_alone : (n m : Value) → ((k : Value) → Embeds site templates n k → ⊥) → Leads site templates n m → n ≡ m
leads_alone n m none nowhere = refl
leads_alone n m none (on {k = k} e l) = absurd (none k e)

-- ---- its papers

pub source_under : (s : Assignment) (k : Link) (t : SkolemTerm) (p : Term) → k.source ≡ made t → IsTargetUnder s k.source (Page p) → IsTermUnder s t p
source_under s k t p e h =
    let r : IsTargetUnder s (made t) (Page p) = subst (λ z. IsTargetUnder s z (Page p)) e h in
    let same : r.0 ≡ p = page_same r.0 p (sym r.2) in
    subst (IsTermUnder s t) same r.1
  where
    page_same : (a b : Term) → Page a ≡ Page b → a ≡ b
    page_same a b e = cc

pub not_made : (s : Assignment) (t : SkolemTerm) (p : Term) → IsTermUnder s t p → (p.function ≡ t.function → ⊥) → ⊥
not_made s t p under apart = apart under.function

-- the rows of the nested block
pub two_rows : (r : List Value) → IsRow graph chain r → IsOneOf rows r
two_rows r is = IsOneOf-from_Contains rows r (exactly_two_years.complete r is)

abbrev number_in : Option Value → ℕ
number_in (Some (Data (Int (pos n)))) = n
number_in value = 0

pub of_1998 : (r : List Value) → IsRow graph chain r → IsTermUnder (value_in chain.variables r) year_page asked → row pub1 1998 ≡ r
of_1998 r is under = by (two_rows r is)
  where
    by : IsOneOf rows r → row pub1 1998 ≡ r
    by (inl e) = e
    by (inr (inl e)) =
        let there = subst (λ (z : List Value). IsTermUnder (value_in chain.variables z) year_page asked) (sym e) under in
        let same : ◌≡◌ {A = ℕ} 1997 1998 = ap number_in there.args.0 in absurd (omega arith)
    by (inr (inr none)) = absurd none

paper_of : (w : Value) → IsTargetUnder (value_in chain.variables (row pub1 1998)) (made paper_page) w → w ≡ Page its_paper
paper_of w (t, under, is) = is ∙ ap Page (by t.args refl)
  where
    datum_same : (a b : Datum) → Some (Data a) ≡ Some (Data b) → a ≡ b
    datum_same a b e = cc

    by : (args : List Datum) → t.args ≡ args → t ≡ its_paper
    by [] e = absurd (subst (AllZip (λ operand d. operand_value (value_in chain.variables (row pub1 1998)) operand ≡ Some (Data d)) paper_page.args) e under.args)
    by (d ∷ []) e =
        let zip = subst (AllZip (λ operand d. operand_value (value_in chain.variables (row pub1 1998)) operand ≡ Some (Data d)) paper_page.args) e under.args in
        let is_node : Node pub1 ≡ d = datum_same (Node pub1) d zip.0 in
        λ i. record { function = under.function i; args = (e ∙ ap (λ z. z ∷ []) (sym is_node)) i }
    by (d ∷ d' ∷ ds) e = absurd ((subst (AllZip (λ operand d. operand_value (value_in chain.variables (row pub1 1998)) operand ≡ Some (Data d)) paper_page.args) e under.args).1)

-- a block's links, none of which starts at a year's page
pub unlike_year : (s : Assignment) (k : Link) (t : SkolemTerm) → (codes "YearPage" ≡ t.function → ⊥) → k.source ≡ made t → IsTargetUnder s k.source (Page asked) → ⊥
unlike_year s k t apart e h = apart (source_under s k t asked e h).function

-- a link that ends at an aggregate; none of the query does
abbrev Summed : Value → Chain → Link → Type 0
Summed w c k = sites.IsSum graph c (Page asked) (codes "Paper") w k k.target

its_paper_alone : (w : Value) → SiteEdge graph scope (Page asked) (codes "Paper") w → w ≡ Page its_paper
its_paper_alone w (inr h) = absurd h
its_paper_alone w (inl some) =
    joined_in some.item (IsOneOf-from_Contains scope.bodies some.item some.within) some.holds.item some.holds.within some.holds.holds
  where
    in_years : (k : Link) → IsOneOf scoped_years.links k → (r : List Value) → IsRow graph chain r → Joins (value_in chain.variables r) k (Page asked) (codes "Paper") w → w ≡ Page its_paper
    in_years k (inl e) r is joins = absurd (names_differ (codes "Paper") (codes "Year") refl (subst (λ (z : Link). Joins (value_in chain.variables r) z (Page asked) (codes "Paper") w) (sym e) joins).by)
    in_years k (inr (inl e)) r is joins =
        let here = subst (λ (z : Link). Joins (value_in chain.variables r) z (Page asked) (codes "Paper") w) (sym e) joins in
        let same = of_1998 r is (source_under (value_in chain.variables r) shows_paper year_page asked refl here.from) in
        paper_of w (subst (λ (z : List Value). IsTargetUnder (value_in chain.variables z) (made paper_page) w) (sym same) here.to)
    in_years k (inr (inr (inl e))) r is joins = absurd (unlike_year (value_in chain.variables r) k root_page (names_differ (codes "YearPage") (codes "RootPage") refl) (ap (λ (z : Link). z.source) (sym e)) joins.from)
    in_years k (inr (inr (inr none))) r is joins = absurd none

    in_papers : (k : Link) → IsOneOf papers.links k → (s : Assignment) → Joins s k (Page asked) (codes "Paper") w → ⊥
    in_papers k (inl e) s joins = unlike_year s k paper_page (names_differ (codes "YearPage") (codes "PaperPage") refl) (ap (λ (z : Link). z.source) (sym e)) joins.from
    in_papers k (inr (inl e)) s joins = unlike_year s k root_page (names_differ (codes "YearPage") (codes "RootPage") refl) (ap (λ (z : Link). z.source) (sym e)) joins.from
    in_papers k (inr (inr none)) s joins = none

    in_block : (b : Block) → IsOneOf scope.bodies b → (k : Link) → Contains b.links k → (r : List Value) → IsRow graph (chain_at b) r → Joins (value_in (chain_at b).variables r) k (Page asked) (codes "Paper") w → w ≡ Page its_paper
    in_block b (inl e) k among r is joins = absurd (Contains-nil k (subst (λ (z : Block). Contains z.links k) (sym e) among))
    in_block b (inr (inl e)) k among r is joins = absurd (in_papers k (IsOneOf-from_Contains papers.links k (subst (λ (z : Block). Contains z.links k) (sym e) among)) (value_in (chain_at b).variables r) joins)
    in_block b (inr (inr (inl e))) k among r is joins =
        in_years k (IsOneOf-from_Contains scoped_years.links k (subst (λ (z : Block). Contains z.links k) (sym e) among)) r
        (subst (λ (z : Block). IsRow graph (chain_at z) r) (sym e) is)
        (subst (λ (z : Block). Joins (value_in (chain_at z).variables r) k (Page asked) (codes "Paper") w) (sym e) joins)
    in_block b (inr (inr (inr none))) k among r is joins = absurd none

    as_link : (c : Chain) (x k : Link) → x ≡ k → (Summed w c x → ⊥) → Summed w c k → ⊥
    as_link c x k e none s = none (subst (Summed w c) (sym e) s)

    no_sum_of_years : (c : Chain) (k : Link) → IsOneOf scoped_years.links k → Summed w c k → ⊥
    no_sum_of_years c k (inl e) s = as_link c _ k e (λ f. f) s
    no_sum_of_years c k (inr (inl e)) s = as_link c _ k e (λ f. f) s
    no_sum_of_years c k (inr (inr (inl e))) s = as_link c _ k e (λ f. f) s
    no_sum_of_years c k (inr (inr (inr none))) s = none

    no_sum_of_papers : (c : Chain) (k : Link) → IsOneOf papers.links k → Summed w c k → ⊥
    no_sum_of_papers c k (inl e) s = as_link c _ k e (λ f. f) s
    no_sum_of_papers c k (inr (inl e)) s = as_link c _ k e (λ f. f) s
    no_sum_of_papers c k (inr (inr none)) s = none

    no_sum : (b : Block) → IsOneOf scope.bodies b → (k : Link) → Contains b.links k → (c : Chain) → Summed w c k → ⊥
    no_sum b (inl e) k among c s = Contains-nil k (subst (λ (z : Block). Contains z.links k) (sym e) among)
    no_sum b (inr (inl e)) k among c s = no_sum_of_papers c k (IsOneOf-from_Contains papers.links k (subst (λ (z : Block). Contains z.links k) (sym e) among)) s
    no_sum b (inr (inr (inl e))) k among c s = no_sum_of_years c k (IsOneOf-from_Contains scoped_years.links k (subst (λ (z : Block). Contains z.links k) (sym e) among)) s
    no_sum b (inr (inr (inr none))) k among c s = none

    joined_in : (b : Block) → IsOneOf scope.bodies b → (k : Link) → Contains b.links k → sites.IsJoined graph (chain_at b) (Page asked) (codes "Paper") w k → w ≡ Page its_paper
    joined_in b at k among (inl j) = in_block b at k among j.row j.is_row j.holds
    joined_in b at k among (inr s) = absurd (no_sum b at k among (chain_at b) s)

-- ---- what is read

begins_here : (b : Body) (n : Value) (e : Expr) (w : Value) → e.root ≡ Here → Begins site b n e w → n ≡ w
begins_here b n e w h (at_here i) = refl
begins_here b n e w h (at_collected i c) = let f : ⊥ = cc (h, i) in absurd f
begins_here b n e w h (at_loop i l u r) = let f : ⊥ = cc (h, i) in absurd f

-- a pair of a value that is reached and the next label
pub data Reading : Value → Name → Type 0 where
  its_years : Reading (Page asked) (codes "Year")
  its_papers : Reading (Page asked) (codes "Paper")
  a_title : Reading (Page its_paper) title

read_at : (u w : Value) (l k : Name) → u ≡ w → l ≡ k → Reading u l → Reading w k
read_at u w l k e i h = subst (λ z. Reading z k) e (subst (Reading u) i h)

first_passes : (label l : Name) (w u : Value) → Passes site w (label ∷ []) u l → (w ≡ u) × (label ≡ l)
first_passes label l w u (inl h) = h
first_passes label l w u (inr (m, e, none)) = absurd none

used : (a : Use) (u : Value) (l : Name) → IsOneOf (uses year_body) a → UsePasses site year_body (Page asked) a u l → Reading u l
used a u l (inl e) h = by (subst (λ z. UsePasses site year_body (Page asked) z u l) (sym e) h)
  where
    by : UsePasses site year_body (Page asked) record { expr = ends (codes "Year"); onward = []; embeds = false } u l → Reading u l
    by (inl (w, begins, passes)) =
        let p = first_passes (codes "Year") l w u passes in
        read_at (Page asked) u (codes "Year") l (begins_here year_body (Page asked) (ends (codes "Year")) w refl begins ∙ p.0) p.1 its_years
    by (inr (w, ranges, (word, among, passes))) = absurd (Contains-nil word among)
used a u l (inr (inl e)) h = by (subst (λ z. UsePasses site year_body (Page asked) z u l) (sym e) h)
  where
    by : UsePasses site year_body (Page asked) record { expr = ends (codes "Paper"); onward = (title ∷ []) ∷ []; embeds = false } u l → Reading u l
    by (inl (w, begins, passes)) =
        let p = first_passes (codes "Paper") l w u passes in
        read_at (Page asked) u (codes "Paper") l (begins_here year_body (Page asked) (ends (codes "Paper")) w refl begins ∙ p.0) p.1 its_papers
    by (inr (w, (b, begins, (m, edge, is)), (word, among, passes))) =
        let start = begins_here year_body (Page asked) (ends (codes "Paper")) b refl begins in
        let paper : m ≡ Page its_paper = its_paper_alone m (subst (λ z. SiteEdge graph scope z (codes "Paper") m) (sym start) edge) in
        titled (IsOneOf-from_Contains ((title ∷ []) ∷ []) word among) (sym paper ∙ is) passes
      where
        titled : IsOneOf ((title ∷ []) ∷ []) word → Page its_paper ≡ w → Passes site w word u l → Reading u l
        titled (inl i) at go =
            let p = first_passes title l w u (subst (λ z. Passes site w z u l) (sym i) go) in
            read_at (Page its_paper) u title l (at ∙ p.0) p.1 a_title
        titled (inr none) at go = absurd none
used a u l (inr (inr none)) h = absurd none

demanded : (n : Value) → IsDemanded site templates asked n → Page asked ≡ n
demanded n (there, leads) = leads_alone (Page asked) n embeds_nothing leads

-- the templates ask nothing but this
pub asked_of : (a : Question) → IsAsked site templates asked a → BodyAsks site year_body (Page asked) a
asked_of a (n, d, (b, presents, asks)) =
    let here = demanded n d in
    let p : Presents site templates (Page asked) b = subst (λ z. Presents site templates z b) (sym here) presents in
    let there : BodyAsks site b (Page asked) a = subst (λ z. BodyAsks site b z a) (sym here) asks in
    subst (λ z. BodyAsks site z (Page asked) a) (presented b p) there

pub reading : (u : Value) (l : Name) → IsRead site templates asked u l → Reading u l
reading u l h = let (a, among, passes) = asked_of (out u l) h in used a u l (IsOneOf-from_Contains (uses year_body) a among) passes

pub embeds_none : (w : Value) → IsAsked site templates asked (template w) → ⊥
embeds_none w h = let (a, among, embeds, ranges) = asked_of (template w) h in by a (IsOneOf-from_Contains (uses year_body) a among) embeds
  where
    by : (a : Use) → IsOneOf (uses year_body) a → a.embeds ≡ true → ⊥
    by a (inl e) shown = let f : false ≡ true = ap (λ (z : Use). z.embeds) e ∙ shown in cc
    by a (inr (inl e)) shown = let f : false ≡ true = ap (λ (z : Use). z.embeds) e ∙ shown in cc
    by a (inr (inr none)) shown = none

pub names_none : (c : Name) → IsAsked site templates asked (collected c) → ⊥
names_none c h = let (a, among, root) = asked_of (collected c) h in by a (IsOneOf-from_Contains (uses year_body) a among) root
  where
    by : (a : Use) → IsOneOf (uses year_body) a → a.expr.root ≡ Collection c → ⊥
    by a (inl e) root = let f : Here ≡ Collection c = ap (λ (z : Use). z.expr.root) e ∙ root in cc
    by a (inr (inl e)) root = let f : Here ≡ Collection c = ap (λ (z : Use). z.expr.root) e ∙ root in cc
    by a (inr (inr none)) root = none

-- ---- and these are read

is_demanded : IsDemanded site templates asked (Page asked)
is_demanded = ((year_1998_is_a_page, (2, year_template)), nowhere)

of_the_year : (u : Value) (l : Name) → BodyAsks site year_body (Page asked) (out u l) → IsRead site templates asked u l
of_the_year u l h = (Page asked, is_demanded, (year_body, (2, year_template, refl), h))

pub is_read : (u : Value) (l : Name) → Reading u l → IsRead site templates asked u l
is_read u l its_years = of_the_year (Page asked) (codes "Year") (record { expr = ends (codes "Year"); onward = []; embeds = false }, (0, lit< tt, refl), inl (Page asked, at_here refl, inl (refl, refl)))
is_read u l its_papers = of_the_year (Page asked) (codes "Paper") (record { expr = ends (codes "Paper"); onward = (title ∷ []) ∷ []; embeds = false }, (1, lit< tt, refl), inl (Page asked, at_here refl, inl (refl, refl)))
is_read u l a_title = of_the_year (Page its_paper) title (
  record { expr = ends (codes "Paper"); onward = (title ∷ []) ∷ []; embeds = false },
  (1, lit< tt, refl),
  inr (Page its_paper, (Page asked, at_here refl, (Page its_paper, inl year_1998_links_its_paper, refl)), (title ∷ [], (0, lit< tt, refl), inl (refl, refl))),
)
