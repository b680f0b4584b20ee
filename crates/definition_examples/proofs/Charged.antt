-- The ten charges, and no other.
use Rattle.std.specs.Prelude.{◌≡◌, ◌⊎◌, ◌+◌, ℕ, zero, suc, List, [], ◌∷◌, Some, None, Contains, length, slice_get, codes}
use Rattle.std.proofs.Common.{inl, inr, refl, sym, ap, ◌∙◌, subst, lit<, arith}
use Rattle.sd_value.specs.declared.Datum.{Datum}
use Rattle.sd_value.specs.declared.Datum.TheVariants.{Text}
use Rattle.sd_value.specs.declared.Value.{Value}
use Rattle.sd_value.specs.declared.Value.TheVariants.{Data, Page}
use Rattle.sd_value.specs.declared.Term.{Term}
use Rattle.sd_value.specs.Members.{IsOneOf, IsOneOf-from_Contains, Contains-from_IsOneOf, Contains-here}
use Rattle.graph_spec.specs.declared.Edge.{Edge}
use Rattle.graph_spec.specs.DataGraph.{Name, node, text, HasEdge, IsValueOf}
use Rattle.query_spec.specs.Query.{SkolemTerm, plain, made, quoted, label_variable, variable, arc_variable, path, Link, Body, Chain}
use Rattle.query_spec.specs.Holds.{Holds, Assignment}
use Rattle.query_spec.specs.Rows.{IsRow, value_in}
use Rattle.site_spec.specs.Site as sites
use Rattle.site_spec.specs.Site.{IsTermUnder, IsTargetUnder}
use Rattle.weight_spec.specs.Charges.{NamingPlace, created, linked_from, linked_to, put, Charge, mention, link_row, edge, membership, member, collect_row, IsTermAt, IsNamedAt, IsRowFrom, IsCharge, Weighs, IsAtMostWeight}
use Rattle.weight_spec.specs.Distinct.{IsDistinct}
use Rattle.definition_examples.specs.Tools as tools
use Rattle.definition_examples.specs.Bibliography.{graph, pub1, pub2, author, title, year, int}
use Rattle.definition_examples.specs.BibliographySite.{x, l, v, row, scope, home, papers, scoped_years, chain, root_page, paper_page, year_page}
use Rattle.definition_examples.proofs.Tools.{Each, each-at, all, each, names_differ, HasEdge-at}
use Rattle.definition_examples.proofs.BibliographySite.{exactly_two_years}
use Rattle.definition_examples.specs.YearPage.{templates, asked, its_paper, paper_row, charges}
use Rattle.definition_examples.proofs.Counting.{distinct_by, distinct_within}
use Rattle.definition_examples.proofs.Reading.{Reading, its_years, its_papers, a_title, reading, is_read, embeds_none, names_none, source_under, of_1998, shows_paper}

abbrev IsPageCharge : Charge → Type 0
IsPageCharge = IsCharge graph scope templates asked

abbrev papers_chain : Chain
papers_chain = sites.chain scope papers

abbrev any_link : Link
any_link = record { source = made paper_page; label = label_variable l; target = plain (variable v) }

abbrev paper_link : Link
paper_link = record { source = made root_page; label = quoted (codes "Paper"); target = made paper_page }

abbrev shows_year : Link
shows_year = record { source = made year_page; label = quoted (codes "Year"); target = plain (variable v) }

abbrev year_link : Link
year_link = record { source = made root_page; label = quoted (codes "Year"); target = made year_page }

-- ---- each is one

has_1998 : IsRow graph chain (row pub1 1998)
has_1998 = exactly_two_years.sound (row pub1 1998) (Contains-here (row pub1 1998) (row pub2 1997 ∷ []))

is_paper_row : (k : Name) (w : Value) → Contains graph.edges (tools.edge pub1 k w) → IsValueOf graph w → IsRow graph papers_chain (paper_row k w)
is_paper_row k w there is = record {
  in_domain = ((0, lit< tt, refl), ((k, (tools.edge pub1 k w, there, refl), refl), (is, tt)));
  conditions_hold = all (λ c. Holds graph 1 c (value_in papers_chain.variables (paper_row k w))) papers.conditions
      ((pub1, refl, (0, lit< tt, refl)), ((node pub1, w, refl, refl, k, refl, there), tt));
}

year_charge : (place : ℕ) (k : Link) → slice_get scoped_years.links place ≡ Some k → k.source ≡ made year_page → IsPageCharge (link_row asked 2 place (row pub1 1998))
year_charge place k at from = (
  (codes "Year", is_read (Page asked) (codes "Year") its_years),
  (
    scoped_years,
    refl,
    (
      k,
      at,
      (
        has_1998,
        subst (λ z. IsTargetUnder (value_in chain.variables (row pub1 1998)) z (Page asked)) (sym from) (asked, record { function = refl; args = (refl, tt) }, refl),
      ),
    ),
  ),
)

title_charge : (k : Name) (w : Value) → IsRow graph papers_chain (paper_row k w) → IsPageCharge (link_row its_paper 1 0 (paper_row k w))
title_charge k w is =
    ((title, is_read (Page its_paper) title a_title), (papers, refl, (any_link, refl, (is, (its_paper, record { function = refl; args = (refl, tt) }, refl)))))

each_is_one : Each IsPageCharge charges
each_is_one = (
  (refl, (scoped_years, refl, (year_page, refl, refl))),
  (
    (refl, (scoped_years, refl, (year_page, (shows_year, refl, refl), refl))),
    (
      (refl, (scoped_years, refl, (year_page, (shows_paper, refl, refl), refl))),
      (
        (refl, (scoped_years, refl, (year_page, (year_link, refl, refl), refl))),
        (
          year_charge 0 shows_year refl refl,
          (
            year_charge 1 shows_paper refl refl,
            (
              title_charge author (text (codes "Dan")) (is_paper_row author (text (codes "Dan")) (0, lit< tt, refl) (tools.edge pub1 author (text (codes "Dan")), (0, lit< tt, refl), refl)),
              (
                title_charge author (text (codes "Mary")) (is_paper_row author (text (codes "Mary")) (1, lit< tt, refl) (tools.edge pub1 author (text (codes "Mary")), (1, lit< tt, refl), refl)),
                (
                  title_charge title (text (codes "Strudel")) (is_paper_row title (text (codes "Strudel")) (2, lit< tt, refl) (tools.edge pub1 title (text (codes "Strudel")), (2, lit< tt, refl), refl)),
                  (title_charge year (int 1998) (is_paper_row year (int 1998) (3, lit< tt, refl) (tools.edge pub1 year (int 1998), (3, lit< tt, refl), refl)), tt),
                ),
              ),
            ),
          ),
        ),
      ),
    ),
  ),
)

-- ---- no two are the same: each has a number of its own

abbrev text_size : List Value → ℕ
text_size (a ∷ b ∷ Data (Text t) ∷ rest) = length t
text_size r = 90

abbrev place : Charge → ℕ
place (mention t b (created n)) = n
place (mention t b (linked_from n)) = 1 + n
place (mention t b (linked_to n)) = 1 + n
place (link_row t (suc (suc b)) k r) = 4 + k
place (link_row t b k r) = 10 + text_size r
place other = 0

distinct : IsDistinct charges
distinct = distinct_by place charges (lit< tt, (lit< tt, (lit< tt, (lit< tt, (lit< tt, (lit< tt, (lit< tt, (lit< tt, (lit< tt, tt)))))))))

-- ---- there is no other: the places that name a year's page

same : {X : Type 0} (a b : X) → Some a ≡ Some b → a ≡ b
same a b e = cc

nothing : {X : Type 0} (a : X) → None ≡ Some a → ⊥
nothing a e = cc

made_same : (a b : SkolemTerm) → made a ≡ made b → a ≡ b
made_same a b e = cc

not_plain : (t : SkolemTerm) → plain (variable v) ≡ made t → ⊥
not_plain t e = cc

abbrev IsYears : SkolemTerm → Type 0
IsYears t = t.function ≡ codes "YearPage"

no_root : (t : SkolemTerm) → root_page ≡ t → IsYears t → ⊥
no_root t e is = names_differ (codes "RootPage") (codes "YearPage") refl (ap (λ (z : SkolemTerm). z.function) e ∙ is)

no_paper : (t : SkolemTerm) → paper_page ≡ t → IsYears t → ⊥
no_paper t e is = names_differ (codes "PaperPage") (codes "YearPage") refl (ap (λ (z : SkolemTerm). z.function) e ∙ is)

-- the source, or the target, of a link that was looked up
source_of : (k j : Link) (t : SkolemTerm) → Some k ≡ Some j → j.source ≡ made t → k.source ≡ made t
source_of k j t e h = ap (λ (z : Link). z.source) (same k j e) ∙ h

target_of : (k j : Link) (t : SkolemTerm) → Some k ≡ Some j → j.target ≡ made t → k.target ≡ made t
target_of k j t e h = ap (λ (z : Link). z.target) (same k j e) ∙ h

home_names : (m : NamingPlace) (t : SkolemTerm) → IsTermAt home m t → IsYears t → ⊥
home_names (created zero) t e is = no_root t (same root_page t e) is
home_names (created (suc n)) t e is = nothing t e
home_names (linked_from n) t (k, e, h) is = nothing k e
home_names (linked_to n) t (k, e, h) is = nothing k e
home_names (put n) t (k, e, h) is = nothing k e

papers_name : (m : NamingPlace) (t : SkolemTerm) → IsTermAt papers m t → IsYears t → ⊥
papers_name (created zero) t e is = no_paper t (same paper_page t e) is
papers_name (created (suc n)) t e is = nothing t e
papers_name (linked_from zero) t (k, e, h) is = no_paper t (made_same paper_page t (source_of any_link k t e h)) is
papers_name (linked_from (suc zero)) t (k, e, h) is = no_root t (made_same root_page t (source_of paper_link k t e h)) is
papers_name (linked_from (suc (suc n))) t (k, e, h) is = nothing k e
papers_name (linked_to zero) t (k, e, h) is = not_plain t (target_of any_link k t e h)
papers_name (linked_to (suc zero)) t (k, e, h) is = no_paper t (made_same paper_page t (target_of paper_link k t e h)) is
papers_name (linked_to (suc (suc n))) t (k, e, h) is = nothing k e
papers_name (put n) t (k, e, h) is = nothing k e

years_name : (m : NamingPlace) (t : SkolemTerm) → IsTermAt scoped_years m t → IsYears t → IsOneOf charges (mention asked 2 m)
years_name (created zero) t e is = inl refl
years_name (created (suc n)) t e is = absurd (nothing t e)
years_name (linked_from zero) t (k, e, h) is = inr (inl refl)
years_name (linked_from (suc zero)) t (k, e, h) is = inr (inr (inl refl))
years_name (linked_from (suc (suc zero))) t (k, e, h) is = absurd (no_root t (made_same root_page t (source_of year_link k t e h)) is)
years_name (linked_from (suc (suc (suc n)))) t (k, e, h) is = absurd (nothing k e)
years_name (linked_to zero) t (k, e, h) is = absurd (not_plain t (target_of shows_year k t e h))
years_name (linked_to (suc zero)) t (k, e, h) is = absurd (no_paper t (made_same paper_page t (target_of shows_paper k t e h)) is)
years_name (linked_to (suc (suc zero))) t (k, e, h) is = inr (inr (inr (inl refl)))
years_name (linked_to (suc (suc (suc n)))) t (k, e, h) is = absurd (nothing k e)
years_name (put n) t (k, e, h) is = absurd (nothing k e)

named : (block : ℕ) (m : NamingPlace) (b : Body) → slice_get scope.bodies block ≡ Some b → IsNamedAt b asked m → IsOneOf charges (mention asked block m)
named zero m b e (t, at, is) = absurd (home_names m t (subst (λ (z : Body). IsTermAt z m t) (sym (same home b e)) at) is)
named (suc zero) m b e (t, at, is) = absurd (papers_name m t (subst (λ (z : Body). IsTermAt z m t) (sym (same papers b e)) at) is)
named (suc (suc zero)) m b e (t, at, is) = years_name m t (subst (λ (z : Body). IsTermAt z m t) (sym (same scoped_years b e)) at) is
named (suc (suc (suc n))) m b e h = absurd (nothing b e)

-- ---- the rows of links that start at the page of 1998, and at its paper's page

abbrev IsStart : Term → Type 0
IsStart t = (asked ≡ t) ⊎ (its_paper ≡ t)

page_same : (a b : Term) → Page a ≡ Page b → a ≡ b
page_same a b e = cc

start_of : (u : Value) (k : Name) → Reading u k → (t : Term) → u ≡ Page t → IsStart t
start_of u k its_years t e = inl (page_same asked t e)
start_of u k its_papers t e = inl (page_same asked t e)
start_of u k a_title t e = inr (page_same its_paper t e)

-- no page of the site's root is read
rootless : (s : Assignment) (t : Term) → IsStart t → IsTermUnder s root_page t → ⊥
rootless s t (inl e) under = names_differ (codes "YearPage") (codes "RootPage") refl (ap (λ (z : Term). z.function) e ∙ under.function)
rootless s t (inr e) under = names_differ (codes "PaperPage") (codes "RootPage") refl (ap (λ (z : Term). z.function) e ∙ under.function)

datum_same : (a b : Datum) → Some (Data a) ≡ Some (Data b) → a ≡ b
datum_same a b e = cc

-- the edges of the first paper
paper_edges : (k : Name) (w : Value) → HasEdge graph (node pub1) k w → IsOneOf charges (link_row its_paper 1 0 (paper_row k w))
paper_edges k w h = by (IsOneOf-from_Contains graph.edges (tools.edge pub1 k w) h)
  where
    moved : (e : Edge) → e ≡ tools.edge pub1 k w → IsOneOf charges (link_row its_paper 1 0 (paper_row e.label e.to)) → IsOneOf charges (link_row its_paper 1 0 (paper_row k w))
    moved e is m = subst (λ (z : Edge). IsOneOf charges (link_row its_paper 1 0 (paper_row z.label z.to))) is m

    apart : (e : Edge) → e.from ≡ pub2 → e ≡ tools.edge pub1 k w → ⊥
    apart e from is = names_differ pub2 pub1 refl (sym from ∙ ap (λ (z : Edge). z.from) is)

    by : IsOneOf graph.edges (tools.edge pub1 k w) → IsOneOf charges (link_row its_paper 1 0 (paper_row k w))
    by (inl e) = moved (tools.edge pub1 author (text (codes "Dan"))) e (inr (inr (inr (inr (inr (inr (inl refl)))))))
    by (inr (inl e)) = moved (tools.edge pub1 author (text (codes "Mary"))) e (inr (inr (inr (inr (inr (inr (inr (inl refl))))))))
    by (inr (inr (inl e))) = moved (tools.edge pub1 title (text (codes "Strudel"))) e (inr (inr (inr (inr (inr (inr (inr (inr (inl refl)))))))))
    by (inr (inr (inr (inl e)))) = moved (tools.edge pub1 year (int 1998)) e (inr (inr (inr (inr (inr (inr (inr (inr (inr (inl refl))))))))))
    by (inr (inr (inr (inr (inl e))))) = absurd (apart _ refl e)
    by (inr (inr (inr (inr (inr (inl e)))))) = absurd (apart _ refl e)
    by (inr (inr (inr (inr (inr (inr (inl e))))))) = absurd (apart _ refl e)
    by (inr (inr (inr (inr (inr (inr (inr none))))))) = absurd none

paper_rows : (r : List Value) → IsRow graph papers_chain r → IsTermUnder (value_in papers_chain.variables r) paper_page its_paper → IsOneOf charges (link_row its_paper 1 0 r)
paper_rows [] s under = absurd s.in_domain
paper_rows (a ∷ []) s under = absurd s.in_domain.1
paper_rows (a ∷ b ∷ []) s under = absurd s.in_domain.1.1
paper_rows (a ∷ b ∷ c ∷ []) s under =
    let hold = each (λ k. Holds graph 1 k (value_in papers_chain.variables (a ∷ b ∷ c ∷ []))) papers.conditions s.conditions_hold in
    by hold.1.0
  where
    some_same : (y z : Value) → Some y ≡ Some z → y ≡ z
    some_same y z e = cc

    by : Holds graph 1 (path (variable x) (arc_variable l) (variable v)) (value_in papers_chain.variables (a ∷ b ∷ c ∷ [])) → IsOneOf charges (link_row its_paper 1 0 (a ∷ b ∷ c ∷ []))
    by (m, n, start, end, label, arc, is) =
        let first : a ≡ node pub1 = some_same a (node pub1) under.args.0 in
        let from : m ≡ node pub1 = some_same m a (sym start) ∙ first in
        let to : n ≡ c = some_same n c (sym end) in
        let named_so : b ≡ text label = some_same b (text label) arc in
        let row_is : paper_row label c ≡ a ∷ b ∷ c ∷ [] = λ i. sym first i ∷ sym named_so i ∷ c ∷ [] in
        subst (λ r. IsOneOf charges (link_row its_paper 1 0 r)) row_is (paper_edges label c (HasEdge-at graph from refl to is))
paper_rows (a ∷ b ∷ c ∷ d ∷ rest) s under = absurd s.in_domain.1.1.1

abbrev Found : Term → ℕ → ℕ → List Value → Type 0
Found t block place r = IsOneOf charges (link_row t block place r)

of_paper : (t : Term) (r : List Value) → IsStart t → IsRow graph papers_chain r → IsTermUnder (value_in papers_chain.variables r) paper_page t → Found t 1 0 r
of_paper t r (inl e) is under = absurd (names_differ (codes "YearPage") (codes "PaperPage") refl (ap (λ (z : Term). z.function) e ∙ under.function))
of_paper t r (inr e) is under = subst (λ z. Found z 1 0 r) e (paper_rows r is (subst (IsTermUnder (value_in papers_chain.variables r) paper_page) (sym e) under))

of_year : (t : Term) (place : ℕ) (r : List Value) → IsStart t → IsRow graph chain r → IsTermUnder (value_in chain.variables r) year_page t → Found asked 2 place (row pub1 1998) → Found t 2 place r
of_year t place r (inl e) is under found =
    subst (λ z. Found z 2 place r) e (subst (Found asked 2 place) (of_1998 r is (subst (IsTermUnder (value_in chain.variables r) year_page) (sym e) under)) found)
of_year t place r (inr e) is under found = absurd (names_differ (codes "PaperPage") (codes "YearPage") refl (ap (λ (z : Term). z.function) e ∙ under.function))

-- the written term of a link that was looked up names the page that it starts at
from_link : (s : Assignment) (k j : Link) (u : SkolemTerm) (t : Term) → Some k ≡ Some j → k.source ≡ made u → IsTargetUnder s j.source (Page t) → IsTermUnder s u t
from_link s k j u t e made_so h = source_under s j u t (ap (λ (z : Link). z.source) (sym (same k j e)) ∙ made_so) h

of_papers : (place : ℕ) (k : Link) (t : Term) (r : List Value) → slice_get papers.links place ≡ Some k → IsStart t → IsRow graph papers_chain r → IsTargetUnder (value_in papers_chain.variables r) k.source (Page t) → Found t 1 place r
of_papers zero k t r e start is h = of_paper t r start is (from_link (value_in papers_chain.variables r) any_link k paper_page t e refl h)
of_papers (suc zero) k t r e start is h = absurd (rootless (value_in papers_chain.variables r) t start (from_link (value_in papers_chain.variables r) paper_link k root_page t e refl h))
of_papers (suc (suc n)) k t r e start is h = absurd (nothing k e)

of_years : (place : ℕ) (k : Link) (t : Term) (r : List Value) → slice_get scoped_years.links place ≡ Some k → IsStart t → IsRow graph chain r → IsTargetUnder (value_in chain.variables r) k.source (Page t) → Found t 2 place r
of_years zero k t r e start is h = of_year t 0 r start is (from_link (value_in chain.variables r) shows_year k year_page t e refl h) (inr (inr (inr (inr (inl refl)))))
of_years (suc zero) k t r e start is h = of_year t 1 r start is (from_link (value_in chain.variables r) shows_paper k year_page t e refl h) (inr (inr (inr (inr (inr (inl refl))))))
of_years (suc (suc zero)) k t r e start is h = absurd (rootless (value_in chain.variables r) t start (from_link (value_in chain.variables r) year_link k root_page t e refl h))
of_years (suc (suc (suc n))) k t r e start is h = absurd (nothing k e)

linked : (block place : ℕ) (b : Body) (k : Link) (t : Term) (r : List Value) → slice_get scope.bodies block ≡ Some b → slice_get b.links place ≡ Some k → IsStart t → IsRowFrom graph scope b k t r → Found t block place r
linked zero place b k t r e at start h = absurd (nothing k (subst (λ (z : Body). slice_get z.links place ≡ Some k) (sym (same home b e)) at))
linked (suc zero) place b k t r e at start h =
    let here = subst (λ (z : Body). IsRowFrom graph scope z k t r) (sym (same papers b e)) h in
    of_papers place k t r (subst (λ (z : Body). slice_get z.links place ≡ Some k) (sym (same papers b e)) at) start here.0 here.1
linked (suc (suc zero)) place b k t r e at start h =
    let here = subst (λ (z : Body). IsRowFrom graph scope z k t r) (sym (same scoped_years b e)) h in
    of_years place k t r (subst (λ (z : Body). slice_get z.links place ≡ Some k) (sym (same scoped_years b e)) at) start here.0 here.1
linked (suc (suc (suc n))) place b k t r e at start h = absurd (nothing b e)

-- ---- together

no_edge : (u : Value) (k : Name) → Reading u k → (w : Value) → HasEdge graph u k w → ⊥
no_edge u k its_years w h = h
no_edge u k its_papers w h = h
no_edge u k a_title w h = h

only : (c : Charge) → IsPageCharge c → IsOneOf charges c
only (mention t block m) (e, (b, at, h)) = subst (λ z. IsOneOf charges (mention z block m)) (sym e) (named block m b at h)
only (link_row t block link r) ((k, read), (b, at, (j, there, from))) = linked block link b j t r at there (start_of (Page t) k (reading (Page t) k read) t refl) from
only (edge u k w) (read, h) = absurd (no_edge u k (reading u k read) w h)
only (membership u n) (may, is_node, within) = absurd (embeds_none u may)
only (member c n) (is, h) = absurd (names_none c is)
only (collect_row c block n r) (is, h) = absurd (names_none c is)

pub weighs_ten : Weighs graph scope templates asked 10
weighs_ten = (charges, distinct, λ c. (λ m. each-at IsPageCharge charges each_is_one c (IsOneOf-from_Contains charges c m), λ h. Contains-from_IsOneOf charges c (only c h)), refl)

pub within_ten : IsAtMostWeight graph scope templates asked 10
within_ten = (charges, distinct, λ c m. each-at IsPageCharge charges each_is_one c (IsOneOf-from_Contains charges c m), omega arith)

pub not_eleven : IsAtMostWeight graph scope templates asked 11 → ⊥
not_eleven (cs, apart, are, many) =
    let few = distinct_within cs charges apart (λ c m. only c (are c m)) in
    omega (arith, many, few)
