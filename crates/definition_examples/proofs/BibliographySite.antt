-- The site of the two papers: a home page, a page for each paper, and a page for each year.
use Rattle.std.specs.Prelude.{◌≡◌, ◌⊎◌, ℕ, List, [], ◌∷◌, Contains, Option, Some, pos, codes}
use Rattle.std.specs.List.Sorted.{IsStrictlySortedBy}
use Rattle.std.proofs.Common.{refl, sym, ap, subst, inl, inr, lit<, arith}
use Rattle.sd_value.specs.declared.Datum.TheVariants.{Int, Node}
use Rattle.sd_value.specs.declared.Value.{Value}
use Rattle.sd_value.specs.declared.Value.TheVariants.{Data, Page}
use Rattle.sd_value.specs.Order.{value_cmp, datum_cmp}
use Rattle.sd_value.specs.Members.{IsOneOf, IsOneOf-from_Contains}
use Rattle.sd_value.specs.Ascending.{ListsExactly}
use Rattle.graph_spec.specs.declared.Edge.{Edge}
use Rattle.graph_spec.specs.DataGraph.{node, text, HasEdge}
use Rattle.query_spec.specs.declared.Op.TheVariants.{Eq}
use Rattle.query_spec.specs.Query.{variable, constant, arc_variable, path, compare, SkolemTerm, made, quoted, Body, blocks_in_scope}
use Rattle.query_spec.specs.Mentions.{chain_of, variables_of}
use Rattle.query_spec.specs.Holds.{Holds, IsTwinOf}
use Rattle.query_spec.specs.Rows.{IsRow, row_cmp, value_in}
use Rattle.site_spec.specs.Site.{InSite, Linked, IsTermUnder, terms_of}
use Rattle.site_spec.specs.Root.{root_function}
use Rattle.definition_examples.specs.Tools.{edge}
use Rattle.definition_examples.proofs.Tools.{listed, all, each, names_differ, HasEdge-at}
use Rattle.definition_examples.specs.Bibliography.{graph, pub1, pub2, author, title, year, int}
use Rattle.definition_examples.specs.BibliographySite.{x, l, v, root_page, paper_page, year_page, home, papers, query, in_scope, chain, row, rows, year_term, paper_term, scope, scoped_years, variables}

pub root_is_the_home_page : root_function query ≡ Some (codes "RootPage")
root_is_the_home_page = refl

-- a nested block has the conditions of the block round it
pub three_blocks : blocks_in_scope query ≡ home ∷ papers ∷ scoped_years ∷ []
three_blocks = refl

-- the nested block's variables: l is an arc variable, since the block round it has it between arrows
pub three_variables : variables_of in_scope ≡ variables
three_variables = refl

has_1998 : IsRow graph chain (row pub1 1998)
has_1998 = record {
  in_domain = ((0, lit< tt, refl), ((year, (edge pub1 year (int 1998), (3, lit< tt, refl), refl), refl), ((edge pub1 year (int 1998), (3, lit< tt, refl), refl), tt)));
  conditions_hold = all (λ k. Holds graph 1 k (value_in chain.variables (row pub1 1998))) chain.conditions
      ((pub1, refl, (0, lit< tt, refl)), ((node pub1, int 1998, refl, refl, year, refl, (3, lit< tt, refl)), ((text year, text year, refl, refl, inl refl), tt)));
}

has_1997 : IsRow graph chain (row pub2 1997)
has_1997 = record {
  in_domain = ((1, lit< tt, refl), ((year, (edge pub2 year (int 1997), (6, lit< tt, refl), refl), refl), ((edge pub2 year (int 1997), (6, lit< tt, refl), refl), tt)));
  conditions_hold = all (λ k. Holds graph 1 k (value_in chain.variables (row pub2 1997))) chain.conditions
      ((pub2, refl, (1, lit< tt, refl)), ((node pub2, int 1997, refl, refl, year, refl, (6, lit< tt, refl)), ((text year, text year, refl, refl, inl refl), tt)));
}

-- the edges by `year`
year_edges : (u w : Value) → HasEdge graph u year w → ((u ≡ node pub1) × (w ≡ int 1998)) ⊎ ((u ≡ node pub2) × (w ≡ int 1997))
year_edges (Data (Node n)) w h = by (IsOneOf-from_Contains graph.edges (edge n year w) h)
  where
    label_is : (k : Edge) → k ≡ edge n year w → k.label ≡ year
    label_is k e = ap (λ (k : Edge). k.label) e

    by : IsOneOf graph.edges (edge n year w) → ((node n ≡ node pub1) × (w ≡ int 1998)) ⊎ ((node n ≡ node pub2) × (w ≡ int 1997))
    by (inl k) = absurd (names_differ author year refl (label_is _ k))
    by (inr (inl k)) = absurd (names_differ author year refl (label_is _ k))
    by (inr (inr (inl k))) = absurd (names_differ title year refl (label_is _ k))
    by (inr (inr (inr (inl k)))) = inl (ap (λ (k : Edge). node k.from) (sym k), ap (λ (k : Edge). k.to) (sym k))
    by (inr (inr (inr (inr (inl k))))) = absurd (names_differ author year refl (label_is _ k))
    by (inr (inr (inr (inr (inr (inl k)))))) = absurd (names_differ title year refl (label_is _ k))
    by (inr (inr (inr (inr (inr (inr (inl k))))))) = inr (ap (λ (k : Edge). node k.from) (sym k), ap (λ (k : Edge). k.to) (sym k))
    by (inr (inr (inr (inr (inr (inr (inr k))))))) = absurd k
year_edges (Data d) w h = absurd h
year_edges (Page t) w h = absurd h

only_rows : (s : List Value) → IsRow graph chain s → IsOneOf rows s
only_rows [] s = absurd s.in_domain
only_rows (a ∷ []) s = absurd s.in_domain.1
only_rows (a ∷ b ∷ []) s = absurd s.in_domain.1.1
only_rows (a ∷ b ∷ c ∷ []) s =
    let hold = each (λ k. Holds graph 1 k (value_in chain.variables (a ∷ b ∷ c ∷ []))) chain.conditions s.conditions_hold in
    by hold.1.0 hold.1.1.0
  where
    found : b ≡ text year → ((a ≡ node pub1) × (c ≡ int 1998)) ⊎ ((a ≡ node pub2) × (c ≡ int 1997)) → IsOneOf rows (a ∷ b ∷ c ∷ [])
    found is (inl (p, q)) = inl (λ i. sym p i ∷ sym is i ∷ sym q i ∷ [])
    found is (inr (p, q)) = inr (inl (λ i. sym p i ∷ sym is i ∷ sym q i ∷ []))

    by : Holds graph 1 (path (variable x) (arc_variable l) (variable v)) (value_in chain.variables (a ∷ b ∷ c ∷ []))
        → Holds graph 1 (compare (variable l) Eq (constant (text year))) (value_in chain.variables (a ∷ b ∷ c ∷ [])) → IsOneOf rows (a ∷ b ∷ c ∷ [])
    by (m, n, start, end, label, arc, is) (g, h, left, right, inr twins) =
        absurd (subst (λ z. IsTwinOf 1 z (text year)) (let e : g ≡ text label = cc in e) (subst (λ z. IsTwinOf 1 g z) (let e : h ≡ text year = cc in e) twins))
    by (m, n, start, end, label, arc, is) (g, h, left, right, inl same) =
        let labelled : text label ≡ text year = cc in
        let named : label ≡ year = cc in
        found (let e : b ≡ text year = cc in e) (year_edges a c (HasEdge-at graph (let e : m ≡ a = cc in e) named (let e : n ≡ c = cc in e) is))
only_rows (a ∷ b ∷ c ∷ d ∷ rest) s = absurd s.in_domain.1.1.1

pub exactly_two_years : ListsExactly row_cmp (IsRow graph chain) rows
unfolding IsStrictlySortedBy value_cmp datum_cmp
exactly_two_years = listed row_cmp (IsRow graph chain) rows ((refl, tt), (tt, tt)) (has_1998, (has_1997, tt)) only_rows

pub year_1998_is_a_page : InSite graph scope (year_term 1998)
year_1998_is_a_page = record {
  item = scoped_years;
  within = (2, lit< tt, refl);
  holds = record {
    item = year_page;
    within = (0, lit< tt, refl);
    holds = record { row = row pub1 1998; is_row = has_1998; holds = record { function = refl; args = (refl, tt) } };
  };
}

-- a link of the nested block
pub year_1998_links_its_paper : Linked graph scope (Page (year_term 1998)) (codes "Paper") (Page (paper_term pub1))
year_1998_links_its_paper = record {
  item = scoped_years;
  within = (2, lit< tt, refl);
  holds = record {
    item = record { source = made year_page; label = quoted (codes "Paper"); target = made paper_page };
    within = (1, lit< tt, refl);
    holds = inl (record {
      row = row pub1 1998;
      is_row = has_1998;
      holds = record {
        from = (year_term 1998, record { function = refl; args = (refl, tt) }, refl);
        by = refl;
        to = (paper_term pub1, record { function = refl; args = (refl, tt) }, refl);
      };
    });
  };
}

abbrev int_in : Option Value → ℕ
int_in (Some (Data (Int (pos n)))) = n
int_in value = 0

not_1996 : (r : List Value) → IsOneOf rows r → value_in (variables_of in_scope) r v ≡ Some (int 1996) → ⊥
not_1996 r (inl e) h = let at : value_in (variables_of in_scope) (row pub1 1998) v ≡ Some (int 1996) = subst (λ (z : List Value). value_in (variables_of in_scope) z v ≡ Some (int 1996)) (sym e) h in
    let same : ◌≡◌ {A = ℕ} 1998 1996 = ap int_in at in absurd (omega arith)
not_1996 r (inr (inl e)) h = let at : value_in (variables_of in_scope) (row pub2 1997) v ≡ Some (int 1996) = subst (λ (z : List Value). value_in (variables_of in_scope) z v ≡ Some (int 1996)) (sym e) h in
    let same : ◌≡◌ {A = ℕ} 1997 1996 = ap int_in at in absurd (omega arith)
not_1996 r (inr (inr none)) h = none

unlike_root : (s : _) → IsTermUnder s root_page (year_term 1996) → ⊥
unlike_root s under = names_differ (codes "YearPage") (codes "RootPage") refl under.function

unlike_paper : (s : _) → IsTermUnder s paper_page (year_term 1996) → ⊥
unlike_paper s under = names_differ (codes "YearPage") (codes "PaperPage") refl under.function

in_home : (r : List Value) (t : SkolemTerm) → IsOneOf (terms_of home) t → IsTermUnder (value_in (variables_of home.conditions) r) t (year_term 1996) → ⊥
in_home r t (inl e) under = unlike_root _ (subst (λ z. IsTermUnder (value_in (variables_of home.conditions) r) z (year_term 1996)) (sym e) under)
in_home r t (inr none) under = none

in_papers : (s : _) (t : SkolemTerm) → IsOneOf (terms_of papers) t → IsTermUnder s t (year_term 1996) → ⊥
in_papers s t (inl e) under = unlike_paper s (subst (λ z. IsTermUnder s z (year_term 1996)) (sym e) under)
in_papers s t (inr (inl e)) under = unlike_paper s (subst (λ z. IsTermUnder s z (year_term 1996)) (sym e) under)
in_papers s t (inr (inr (inl e))) under = unlike_root s (subst (λ z. IsTermUnder s z (year_term 1996)) (sym e) under)
in_papers s t (inr (inr (inr (inl e)))) under = unlike_paper s (subst (λ z. IsTermUnder s z (year_term 1996)) (sym e) under)
in_papers s t (inr (inr (inr (inr none)))) under = none

year_is : (r : List Value) → IsRow graph chain r → (t : SkolemTerm) → IsTermUnder (value_in (variables_of in_scope) r) t (year_term 1996) → year_page ≡ t → ⊥
year_is r is t under e =
    let named = subst (λ z. IsTermUnder (value_in (variables_of in_scope) r) z (year_term 1996)) (sym e) under in
    not_1996 r (only_rows r is) named.args.0

in_years : (r : List Value) → IsRow graph chain r → (t : SkolemTerm) → IsOneOf (terms_of scoped_years) t → IsTermUnder (value_in (variables_of in_scope) r) t (year_term 1996) → ⊥
in_years r is t (inl e) under = year_is r is t under e
in_years r is t (inr (inl e)) under = year_is r is t under e
in_years r is t (inr (inr (inl e))) under = year_is r is t under e
in_years r is t (inr (inr (inr (inl e)))) under = unlike_paper _ (subst (λ z. IsTermUnder (value_in (variables_of in_scope) r) z (year_term 1996)) (sym e) under)
in_years r is t (inr (inr (inr (inr (inl e))))) under = unlike_root _ (subst (λ z. IsTermUnder (value_in (variables_of in_scope) r) z (year_term 1996)) (sym e) under)
in_years r is t (inr (inr (inr (inr (inr (inl e)))))) under = year_is r is t under e
in_years r is t (inr (inr (inr (inr (inr (inr none)))))) under = none

in_no_block : (b : Body) (r : List Value) → IsOneOf (blocks_in_scope query) b → IsRow graph (chain_of 1 b.conditions) r
    → (t : SkolemTerm) → Contains (terms_of b) t → IsTermUnder (value_in (variables_of b.conditions) r) t (year_term 1996) → ⊥
in_no_block b r (inl e) is t named under =
    in_home r t (IsOneOf-from_Contains (terms_of home) t (subst (λ z. Contains (terms_of z) t) (sym e) named))
    (subst (λ (z : Body). IsTermUnder (value_in (variables_of z.conditions) r) t (year_term 1996)) (sym e) under)
in_no_block b r (inr (inl e)) is t named under =
    in_papers _ t (IsOneOf-from_Contains (terms_of papers) t (subst (λ z. Contains (terms_of z) t) (sym e) named)) under
in_no_block b r (inr (inr (inl e))) is t named under =
    in_years r (subst (λ (z : Body). IsRow graph (chain_of 1 z.conditions) r) (sym e) is) t
    (IsOneOf-from_Contains (terms_of scoped_years) t (subst (λ z. Contains (terms_of z) t) (sym e) named))
    (subst (λ (z : Body). IsTermUnder (value_in (variables_of z.conditions) r) t (year_term 1996)) (sym e) under)
in_no_block b r (inr (inr (inr none))) is t named under = none

pub year_1996_is_no_page : InSite graph scope (year_term 1996) → ⊥
year_1996_is_no_page some =
    let named = some.holds in
    in_no_block some.item named.holds.row (IsOneOf-from_Contains (blocks_in_scope query) some.item some.within) named.holds.is_row named.item named.within named.holds.holds
