-- Certificates of the papers' site.
use Rattle.std.specs.Prelude.{◌≡◌, ◌≢◌, ℕ, List, [], ◌∷◌, codes, Contains}
use Rattle.std.proofs.Common.{refl, sym, ap, subst, ◌∙◌, inl, inr, lit<, lit≤}
use Rattle.sd_value.specs.Members.{IsOneOf-from_Contains}
use Rattle.sd_value.specs.declared.Value.{Value}
use Rattle.graph_spec.specs.DataGraph.{Name, text}
use Rattle.query_spec.specs.declared.Op.TheVariants.{Eq}
use Rattle.query_spec.specs.Query.{Operand, variable, constant, arc_variable, Condition, member, path, compare, SkolemTerm, Target, plain, made, quoted, label_variable}
use Rattle.constraint_spec.specs.declared.Constraint.TheVariants.{Reachable, Only, Never, One}
use Rattle.constraint_spec.specs.Placed.{PlacedLink, Mention, links_of}
use Rattle.constraint_spec.specs.Entailed.{IsEntailed}
use Rattle.constraint_spec.specs.Use.{LinkUse, IsUse, IsUseOf, rename, naming, target_of}
use Rattle.constraint_spec.specs.Certificate.{Certificate, IsCertificate, Forbids, MayBe, MayCarry, IsOf, ShowsLink, LeadBack, ShowsReached, IsSingle}
use Rattle.definition_examples.proofs.Tools.{all, names_differ}
use Rattle.definition_examples.specs.BibliographySite as site
use Rattle.constraint_examples.specs.Papers as papers
use Rattle.constraint_examples.proofs.Numbers.{has_number}

-- ---- the links

abbrev link_1 : PlacedLink
link_1 = record { conditions = site.papers.conditions; link = record { source = made site.paper_page; label = label_variable site.l; target = plain (variable site.v) } }

abbrev link_2 : PlacedLink
link_2 = record { conditions = site.papers.conditions; link = record { source = made site.root_page; label = quoted (codes "Paper"); target = made site.paper_page } }

abbrev link_3 : PlacedLink
link_3 = record { conditions = site.in_scope; link = record { source = made site.year_page; label = quoted (codes "Year"); target = plain (variable site.v) } }

abbrev link_4 : PlacedLink
link_4 = record { conditions = site.in_scope; link = record { source = made site.year_page; label = quoted (codes "Paper"); target = made site.paper_page } }

abbrev link_5 : PlacedLink
link_5 = record { conditions = site.in_scope; link = record { source = made site.root_page; label = quoted (codes "Year"); target = made site.year_page } }

-- the function of a term that is made twice
made_of : (f : Name) (t : SkolemTerm) → IsOf f (made t) → t.function ≡ f
made_of f t (s, e, g) = let same : t ≡ s = cc in ap (λ (z : SkolemTerm). z.function) same ∙ g

-- ---- `ONLY YearPage LINKS "Paper" TO PaperPage`

not_of : (f l : Name) (n : ℕ) (k m : PlacedLink) (t : SkolemTerm) → m ≡ k → m.link.source ≡ made t → t.function ≢ f → MayCarry site.scope f l n k → ⊥
not_of f l n k m t e source differs may =
    differs (made_of f t (subst (λ (z : Target). IsOf f z) (ap (λ (z : PlacedLink). z.link.source) (sym e) ∙ source) may.starts))

not_by : (f l j : Name) (n : ℕ) (k m : PlacedLink) → m ≡ k → m.link.label ≡ quoted j → j ≢ l → MayCarry site.scope f l n k → ⊥
not_by f l j n k m e label differs may =
    differs (subst (MayBe 1 l k.conditions) (ap (λ (z : PlacedLink). z.link.label) (sym e) ∙ label) may.label)

pub only_papers : IsCertificate site.scope (Only papers.year papers.paper_label papers.paper) []
only_papers = (
  refl,
  λ n k may. elim (has_number (links_of site.scope) n k may.numbered) [
    | inl first ↦ absurd (not_of papers.year papers.paper_label n k link_1 site.paper_page first.1 refl (names_differ papers.paper papers.year refl) may)
    | inr (inl two) ↦ absurd (not_of papers.year papers.paper_label n k link_2 site.root_page two.1 refl (names_differ papers.root papers.year refl) may)
    | inr (inr (inl three)) ↦ absurd (not_by papers.year papers.paper_label papers.year_label n k link_3 three.1 refl (names_differ papers.year_label papers.paper_label refl) may)
    | inr (inr (inr (inl four))) ↦ (site.paper_page, ap (λ (z : PlacedLink). z.link.target) (sym four.1), refl)
    | inr (inr (inr (inr (inl five)))) ↦ absurd (not_of papers.year papers.paper_label n k link_5 site.root_page five.1 refl (names_differ papers.root papers.year refl) may)
    | inr (inr (inr (inr (inr none)))) ↦ absurd none
  ],
)

-- ---- `ONE YearPage LINKS "Year"`

abbrev the_names : List Name
the_names = site.x ∷ site.l ∷ site.v ∷ []

use_3 : IsUse 1 site.in_scope link_3 the_names
use_3 = record {
  sorts = ((0, lit< tt, refl), ((1, lit< tt, refl), ((2, lit< tt, refl), tt)));
  entailed = all (λ c. IsEntailed 1 site.in_scope (rename (naming link_3 the_names) c)) link_3.conditions
      (inl (inl (0, lit< tt, refl)), (inl (inl (1, lit< tt, refl)), (inl (inl (2, lit< tt, refl)), tt)));
}

abbrev year_mention : Mention
year_mention = record { conditions = site.in_scope; term = site.year_page }

year_shown : ShowsLink site.scope papers.year_label year_mention papers.link_3
year_shown = record {
  given = record { link = 3; names = the_names };
  alone = refl;
  link = link_3;
  is_use = record {
    is_use = record { numbered = record { from_one = lit≤ tt; within = lit≤ tt; there = refl }; is_use = use_3 };
    label = refl;
    source = refl;
  };
}

three_alone : (n : ℕ) (k : PlacedLink) → MayCarry site.scope papers.year papers.year_label n k → n ≡ 3
three_alone n k may = elim (has_number (links_of site.scope) n k may.numbered) [
  | inl first ↦ absurd (not_of papers.year papers.year_label n k link_1 site.paper_page first.1 refl (names_differ papers.paper papers.year refl) may)
  | inr (inl two) ↦ absurd (not_of papers.year papers.year_label n k link_2 site.root_page two.1 refl (names_differ papers.root papers.year refl) may)
  | inr (inr (inl three)) ↦ three.0
  | inr (inr (inr (inl four))) ↦ absurd (not_by papers.year papers.year_label papers.paper_label n k link_4 four.1 refl (names_differ papers.paper_label papers.year_label refl) may)
  | inr (inr (inr (inr (inl five)))) ↦ absurd (not_of papers.year papers.year_label n k link_5 site.root_page five.1 refl (names_differ papers.root papers.year refl) may)
  | inr (inr (inr (inr (inr none)))) ↦ absurd none
]

single_year : IsSingle site.scope papers.year papers.year_label
single_year = record {
  number = 3;
  link = link_3;
  may = record { numbered = record { from_one = lit≤ tt; within = lit≤ tt; there = refl }; starts = (site.year_page, refl, refl); label = refl };
  alone = three_alone;
  per_row = tt;
  determined = λ x m. m;
}

pub one_year : IsCertificate site.scope (One papers.year papers.year_label) (papers.link_3 ∷ papers.link_3 ∷ papers.link_3 ∷ papers.link_3 ∷ [])
one_year = ((year_shown, (year_shown, (year_shown, (year_shown, tt)))), single_year)

-- ---- `NONE PaperPage LINKS "x"`

any_label : (c : Condition) → Contains site.papers.conditions c → Forbids 1 site.l (codes "x") c → ⊥
any_label c m h =
    elim (IsOneOf-from_Contains site.papers.conditions c m) [
      | inl e ↦ not_member (subst (Forbids 1 site.l (codes "x")) (sym e) h)
      | inr (inl e) ↦ not_path (subst (Forbids 1 site.l (codes "x")) (sym e) h)
      | inr (inr none) ↦ none
    ]
  where
    not_member : Forbids 1 site.l (codes "x") (member (codes "Publications") site.x) → ⊥
    not_member = elim [ inl (k, d, inl e) ↦ cc | inl (k, d, inr e) ↦ cc | inr (inl (inl e)) ↦ cc | inr (inl (inr e)) ↦ cc | inr (inr (vs, e, n)) ↦ cc ]

    not_path : Forbids 1 site.l (codes "x") (path (variable site.x) (arc_variable site.l) (variable site.v)) → ⊥
    not_path = elim [ inl (k, d, inl e) ↦ cc | inl (k, d, inr e) ↦ cc | inr (inl (inl e)) ↦ cc | inr (inl (inr e)) ↦ cc | inr (inr (vs, e, n)) ↦ cc ]

pub never_x : (x : Certificate) → IsCertificate site.scope (Never papers.paper (codes "x")) x → ⊥
never_x x h =
    h.1 1 link_1 (record { numbered = record { from_one = lit≤ tt; within = lit≤ tt; there = refl }; starts = (site.paper_page, refl, refl); label = any_label })

-- ---- `REACHABLE PaperPage FROM RootPage`

abbrev given_2 : LinkUse
given_2 = record { link = 2; names = the_names }

use_2 : IsUseOf site.scope site.papers.conditions given_2 link_2
use_2 = record {
  numbered = record { from_one = lit≤ tt; within = lit≤ tt; there = refl };
  is_use = record {
    sorts = ((0, lit< tt, refl), ((1, lit< tt, refl), ((2, lit< tt, refl), tt)));
    entailed = all (λ c. IsEntailed 1 site.papers.conditions (rename (naming link_2 the_names) c)) link_2.conditions
        (inl (inl (0, lit< tt, refl)), (inl (inl (1, lit< tt, refl)), tt));
  };
}

use_2_in_scope : IsUseOf site.scope site.in_scope given_2 link_2
use_2_in_scope = record {
  numbered = record { from_one = lit≤ tt; within = lit≤ tt; there = refl };
  is_use = record {
    sorts = ((0, lit< tt, refl), ((1, lit< tt, refl), ((2, lit< tt, refl), tt)));
    entailed = all (λ c. IsEntailed 1 site.in_scope (rename (naming link_2 the_names) c)) link_2.conditions
        (inl (inl (0, lit< tt, refl)), (inl (inl (1, lit< tt, refl)), tt));
  };
}

reached : (S : List Condition) → IsUseOf site.scope S given_2 link_2 → ShowsReached site.scope papers.paper papers.root (record { conditions = S; term = site.paper_page }) papers.link_2
reached S used = record {
  bounded = lit≤ tt;
  nothing_to_itself = λ e. absurd (names_differ papers.paper papers.root refl e);
  lead = (link_2, used, refl, site.root_page, refl, refl);
}

pub all_reached : IsCertificate site.scope (Reachable papers.paper papers.root) (papers.link_2 ∷ papers.link_2 ∷ papers.link_2 ∷ papers.link_2 ∷ [])
all_reached =
    let outer = reached site.papers.conditions use_2 in
    (outer, (outer, (outer, (reached site.in_scope use_2_in_scope, tt))))

-- ---- the home page links to papers with a title alone

-- without comparisons none is entailed, but of a thing with itself
no_comparison : (y : Name) (w : Value) → IsEntailed 1 papers.papers.conditions (compare (variable y) Eq (constant w)) → ⊥
no_comparison y w (inl (inl m)) = elim (IsOneOf-from_Contains papers.papers.conditions (compare (variable y) Eq (constant w)) m) [ inl e ↦ cc | inr (inl e) ↦ cc | inr (inr none) ↦ none ]
no_comparison y w (inl (inr (inl e))) = let f = e.1 in cc
no_comparison y w (inl (inr (inr (inl (p, is, m))))) = elim (IsOneOf-from_Contains papers.papers.conditions (compare (constant w) p (variable y)) m) [ inl e ↦ cc | inr (inl e) ↦ cc | inr (inr none) ↦ none ]
no_comparison y w (inl (inr (inr (inr none)))) = none
no_comparison y w (inr none) = none

unused : (u : LinkUse) (k m : PlacedLink) (w : Value) → m ≡ k → Contains m.conditions (compare (variable site.l) Eq (constant w)) → IsUseOf papers.titled papers.papers.conditions u k → ⊥
unused u k m w e within used =
    let there : Contains k.conditions (compare (variable site.l) Eq (constant w)) = subst (λ (z : PlacedLink). Contains z.conditions (compare (variable site.l) Eq (constant w))) e within in
    let h = subst (λ c. IsEntailed 1 papers.papers.conditions (rename (naming k u.names) c)) there.2 (used.is_use.entailed there.0 (compare (variable site.l) Eq (constant w)) there.1) in
    no_comparison (naming k u.names site.l) w h

not_made : (o : Operand) (t : SkolemTerm) → plain o ≡ made t → ⊥
not_made o t e = cc

no_way : (uses : List LinkUse) → LeadBack papers.titled papers.root papers.papers.conditions site.paper_page uses → ⊥
no_way [] e = names_differ papers.paper papers.root refl (ap (λ (z : SkolemTerm). z.function) e)
no_way (u ∷ uses) (k, used, target_is, t, source_is, rest) =
    elim (has_number (links_of papers.titled) u.link k used.numbered) [
      | inl first ↦ plain_target k (sym first.1) target_is
      | inr (inl two) ↦ unused u k (record { conditions = site.in_scope; link = link_3.link }) (text (codes "year")) two.1 (2, lit< tt, refl) used
      | inr (inr (inl three)) ↦ unused u k (record { conditions = site.in_scope; link = link_4.link }) (text (codes "year")) three.1 (2, lit< tt, refl) used
      | inr (inr (inr (inl four))) ↦ unused u k (record { conditions = site.in_scope; link = link_5.link }) (text (codes "year")) four.1 (2, lit< tt, refl) used
      | inr (inr (inr (inr (inl five)))) ↦ unused u k _ (text (codes "title")) five.1 (2, lit< tt, refl) used
      | inr (inr (inr (inr (inr none)))) ↦ none
    ]
  where
    plain_target : (k : PlacedLink) → k ≡ link_1 → target_of k u ≡ made site.paper_page → ⊥
    plain_target k e h = not_made (variable (naming link_1 u.names site.v)) site.paper_page (subst (λ (z : PlacedLink). target_of z u ≡ made site.paper_page) e h)

pub titled_papers : (x : Certificate) → IsCertificate papers.titled (Reachable papers.paper papers.root) x → ⊥
titled_papers [] h = absurd h
titled_papers (uses ∷ rest) h = no_way uses h.0.lead
