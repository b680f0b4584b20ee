-- What a certificate shows holds over every data graph.
use Rattle.std.proofs.Common.{◌≡◌, ℕ, List, [], ◌∷◌, refl, ap, sym, ◌∙◌, subst, inl, inr}
use Rattle.std.specs.Prelude.{Some, Contains}
use Rattle.std.specs.List.{flat_map, AllZip}
use Rattle.std.proofs.lemmas.List.Elements.{Contains-append_left, Contains-append_right}
use Rattle.sd_value.specs.declared.Datum.{Datum}
use Rattle.sd_value.specs.declared.Value.{Value}
use Rattle.sd_value.specs.declared.Value.TheVariants.{Data, Page}
use Rattle.sd_value.specs.declared.Term.{Term}
use Rattle.sd_value.specs.Members.{Contains-nil, Contains-cons_cases, Contains-here, Contains-flat_map}
use Rattle.graph_spec.specs.DataGraph.{DataGraph, Name}
use Rattle.query_spec.specs.Query.{Operand, variable, constant, Condition, SkolemTerm, Target, plain, made, summed, Link}
use Rattle.query_spec.specs.Mentions.{operand_names, variables_of, chain_of}
use Rattle.query_spec.specs.Holds.{Assignment, operand_value}
use Rattle.query_spec.specs.Rows.{value_in, IsRow}
use Rattle.site_spec.specs.Site.{Scope, IsTermUnder, IsTargetUnder, IsPerRow, IsLabelUnder, IsJoined, Joins, InSite, Linked}
use Rattle.site_spec.proofs.Sums.{per_row_joined}
use Rattle.constraint_spec.specs.declared.Constraint.{Constraint}
use Rattle.constraint_spec.specs.declared.Constraint.TheVariants.{Reachable, Each, Only, Never, One}
use Rattle.constraint_spec.specs.Meets.{root_page, IsPageOf, LeadsTo, stays, goes, IsReached, Meets}
use Rattle.constraint_spec.specs.Placed.{PlacedLink, Mention, links_of, IsNumbered, mentions_of}
use Rattle.constraint_spec.specs.Use.{LinkUse, naming, rename_term, rename_target}
use Rattle.constraint_spec.specs.Certificate.{Certificate, IsOf, MayBe, MayCarry, IsUseFrom, ShowsLinkTo, ShowsLink, LeadBack, ShowsReached, target_names, IsSingle, IsCertificate}
use Rattle.constraint_spec.specs.Checked.{IsChecked}
use Rattle.constraint_laws.proofs.Names.{zip_at}
use Rattle.constraint_laws.proofs.Bound.{page_is_made}
use Rattle.constraint_laws.proofs.Links.{one_link, LinkFrom, link_from}
use Rattle.constraint_laws.proofs.Mentioned.{named_by, Jump, jump, source_back, source_forth, target_back, joined, some_source, some_target, some_label, begins_in_site}

some_is : (a b : Value) → Some a ≡ Some b → a ≡ b
some_is a b e = cc

page_is : (p r : Term) → Page p ≡ Page r → p ≡ r
page_is p r e = cc

-- ---- what a source determines

-- the variables of arguments have the same values where the arguments have the same
same_values : (s t : Assignment) (os : List Operand) (ds : List Datum)
    → AllZip (λ operand d. operand_value s operand ≡ Some (Data d)) os ds → AllZip (λ operand d. operand_value t operand ≡ Some (Data d)) os ds
    → (x : Name) → Contains os (variable x) → s x ≡ t x
same_values s t os ds h k x m =
    let both = zip_at (λ o d. (operand_value s o ≡ Some (Data d)) × (operand_value t o ≡ Some (Data d))) os ds (variable x) (zipped os ds h k) m in
    both.1.0 ∙ sym both.1.1
  where
    zipped : (os : List Operand) (ds : List Datum) → AllZip (λ operand d. operand_value s operand ≡ Some (Data d)) os ds → AllZip (λ operand d. operand_value t operand ≡ Some (Data d)) os ds
        → AllZip (λ o d. (operand_value s o ≡ Some (Data d)) × (operand_value t o ≡ Some (Data d))) os ds
    zipped [] [] h k = tt
    zipped [] (d ∷ ds) h k = absurd h
    zipped (o ∷ os) [] h k = absurd h
    zipped (o ∷ os) (d ∷ ds) h k = ((h.0, k.0), zipped os ds h.1 k.1)

only_variable : (o : Operand) (x : Name) → Contains (operand_names o) x → o ≡ variable x
only_variable (variable y) x m = elim (Contains-cons_cases y [] x m) [ inl e ↦ ap variable e | inr none ↦ absurd (Contains-nil x none) ]
only_variable (constant v) x m = absurd (Contains-nil x m)

stands_in : (os : List Operand) (x : Name) → Contains (flat_map operand_names os) x → Contains os (variable x)
stands_in os x m = let at = Contains-flat_map operand_names os x m in subst (Contains os) (only_variable at.0 x at.2) at.1

no_args : (s : Assignment) (ds : List Datum) → AllZip (λ operand d. operand_value s operand ≡ Some (Data d)) [] ds → ds ≡ []
no_args s [] h = refl
no_args s (d ∷ ds) h = absurd h

same_operand : (s t : Assignment) (o : Operand) → ((x : Name) → Contains (operand_names o) x → s x ≡ t x) → operand_value s o ≡ operand_value t o
same_operand s t (variable x) h = h x (Contains-here x [])
same_operand s t (constant v) h = refl

same_args : (s t : Assignment) (os : List Operand) (ds es : List Datum) → ((x : Name) → Contains (flat_map operand_names os) x → s x ≡ t x)
    → AllZip (λ operand d. operand_value s operand ≡ Some (Data d)) os ds → AllZip (λ operand d. operand_value t operand ≡ Some (Data d)) os es → ds ≡ es
same_args s t [] [] [] h a b = refl
same_args s t [] [] (e ∷ es) h a b = absurd b
same_args s t [] (d ∷ ds) es h a b = absurd a
same_args s t (o ∷ os) [] es h a b = absurd a
same_args s t (o ∷ os) (d ∷ ds) [] h a b = absurd b
same_args s t (o ∷ os) (d ∷ ds) (e ∷ es) h a b =
    let at = same_operand s t o (λ x m. h x (Contains-append_left (operand_names o) (flat_map operand_names os) x m)) in
    let both : Some (Data d) ≡ Some (Data e) = sym a.0 ∙ at ∙ b.0 in
    let rest = same_args s t os ds es (λ x m. h x (Contains-append_right (operand_names o) (flat_map operand_names os) x m)) a.1 b.1 in
    cc

same_term : (s t : Assignment) (m : SkolemTerm) (p r : Term) → ((x : Name) → Contains (flat_map operand_names m.args) x → s x ≡ t x) → IsTermUnder s m p → IsTermUnder t m r → p ≡ r
same_term s t m p r h a b =
    let f : p.function ≡ r.function = a.function ∙ sym b.function in
    let args = same_args s t m.args p.args r.args h a.args b.args in
    λ i. record { function = f i; args = args i }

same_target : (s t : Assignment) (k : Target) (v w : Value) → ((x : Name) → Contains (target_names k) x → s x ≡ t x) → IsTargetUnder s k v → IsTargetUnder t k w → v ≡ w
same_target s t (plain o) v w h a b = some_is v w (sym a ∙ same_operand s t o h ∙ b)
same_target s t (summed a) v w h b c = absurd b
same_target s t (made m) v w h (p, a, e) (r, b, g) = e ∙ ap Page (same_term s t m p r h a b) ∙ sym g

-- what a link joins from one page is determined where its target's variables stand among its source's
determined_end : (k : Link) (s t : Assignment) (p : Term) (l : Name) (v w : Value) (m : SkolemTerm) → k.source ≡ made m
    → ((x : Name) → Contains (target_names k.target) x → Contains (target_names k.source) x) → Joins s k (Page p) l v → Joins t k (Page p) l w → v ≡ w
determined_end k s t p l v w m source determined a b =
    let (pa, na, ea) = subst (λ z. IsTargetUnder s z (Page p)) source a.from in
    let (pb, nb, eb) = subst (λ z. IsTargetUnder t z (Page p)) source b.from in
    let in_s : IsTermUnder s m p = subst (IsTermUnder s m) (sym (page_is p pa ea)) na in
    let in_t : IsTermUnder t m p = subst (IsTermUnder t m) (sym (page_is p pb eb)) nb in
    same_target s t k.target v w
    (λ x n. same_values s t m.args p.args in_s.args in_t.args x (stands_in m.args x (subst (λ z. Contains (target_names z) x) source (determined x n))))
    a.to b.to

-- a target that is a term is no aggregate
made_per_row : (h : Name) (t : Target) → IsOf h t → IsPerRow t
made_per_row h t (m, e, f) = subst IsPerRow (sym e) tt

-- what is renamed to a term is a term of the same function
renamed_made : (g : Name → Name) (m : SkolemTerm) (t : Target) → rename_target g t ≡ made m → (s : SkolemTerm) × (t ≡ made s) × (s.function ≡ m.function)
renamed_made g m (plain o) e = cc
renamed_made g m (made s) e = let same : rename_term g s ≡ m = cc in (s, refl, ap (λ (z : SkolemTerm). z.function) same)
renamed_made g m (summed a) e = cc

-- ---- the kinds

module _ (q : Scope) (checked : IsChecked q) (G : DataGraph) where
  -- a use from the mention's term: the link of the site that it is
  module _ (l : Name) (m : Mention) (row : List Value) (r : IsRow G (chain_of q.version m.conditions) row) (p : Term) (named : IsTermUnder (value_in (variables_of m.conditions) row) m.term p) (u : LinkUse) (k : PlacedLink) (used : IsUseFrom q l m u k) where
    the_jump : Jump q G checked m.conditions row r u k
    the_jump = jump q G checked m.conditions row r u k used.is_use

    abbrev old : Assignment
    old = value_in (variables_of k.conditions) the_jump.there

    from_page : IsTargetUnder old k.link.source (Page p)
    from_page =
        source_back q G checked m.conditions row r u k the_jump (Page p)
        (subst (λ z. IsTargetUnder (value_in (variables_of m.conditions) row) z (Page p)) (sym used.source) (p, named, refl))

    by_label : IsLabelUnder old k.link.label l
    by_label = subst (λ z. IsLabelUnder old z l) (sym used.label) refl

    links_on : IsPerRow k.link.target → (v : Value) × IsTargetUnder old k.link.target v × Linked G q (Page p) l v
    links_on per =
        let at = some_target q G checked m.conditions row r u k the_jump per in
        (at.0, at.1, joined q G checked m.conditions row r u k the_jump (Page p) l at.0 from_page by_label at.1)

  page_of : (s : Assignment) (h : Name) (t : Target) (v : Value) → IsOf h t → IsTargetUnder s t v → IsPageOf h v
  page_of s h t v (m, e, f) to =
      let at : IsTargetUnder s (made m) v = subst (λ z. IsTargetUnder s z v) e to in
      record { page = at.0; is = at.2; function = at.1.function ∙ f }

  each_holds : (f l h : Name) (proofs : Certificate) → AllZip (ShowsLinkTo q l h) (mentions_of q f) proofs → Meets G q (Each f l h)
  each_holds f l h proofs all p within is =
      let at = named_by q G f p within is in
      let shown = (zip_at (ShowsLinkTo q l h) (mentions_of q f) proofs at.mention all at.within).1 in
      let end = links_on l at.mention at.row at.is_row p at.named shown.given shown.link shown.is_use (made_per_row h shown.link.link.target shown.target) in
      record {
        end = end.0;
        is_linked = end.2;
        is_page = page_of (old l at.mention at.row at.is_row p at.named shown.given shown.link shown.is_use) h shown.link.link.target end.0 shown.target end.1;
      }

  only_holds : (f l h : Name) → ((n : ℕ) (k : PlacedLink) → MayCarry q f l n k → IsOf h k.link.target) → Meets G q (Only f l h)
  only_holds f l h all p v is k =
      let at = link_from q G checked f p l v is k in
      let ends = all at.number at.link at.may in
      let r = per_row_joined G (chain_of q.version at.link.conditions) (Page p) l v at.link.link (made_per_row h at.link.link.target ends) at.joined in
      page_of (value_in (variables_of at.link.conditions) r.row) h at.link.link.target v ends r.holds.to

  never_holds : (f l : Name) → ((n : ℕ) (k : PlacedLink) → MayCarry q f l n k → ⊥) → Meets G q (Never f l)
  never_holds f l none p v is k = let at = link_from q G checked f p l v is k in none at.number at.link at.may

  the_single : (f l : Name) (single : IsSingle q f l) (n : ℕ) (k : PlacedLink) → MayCarry q f l n k → k ≡ single.link
  the_single f l single n k may =
      one_link (links_of q) single.number k single.link (subst (λ i. IsNumbered (links_of q) i k) (single.alone n k may) may.numbered) single.may.numbered

  -- two links by the label from one page end at one value
  single_end : (f l : Name) → IsSingle q f l → (p : Term) (v w : Value) → LinkFrom q G f p l v → LinkFrom q G f p l w → v ≡ w
  single_end f l single p v w a b =
      let same_a = the_single f l single a.number a.link a.may in
      let same_b = the_single f l single b.number b.link b.may in
      let k = single.link in
      let ra = per_row_joined G (chain_of q.version k.conditions) (Page p) l v k.link single.per_row (subst (λ z. IsJoined G (chain_of q.version z.conditions) (Page p) l v z.link) same_a a.joined) in
      let rb = per_row_joined G (chain_of q.version k.conditions) (Page p) l w k.link single.per_row (subst (λ z. IsJoined G (chain_of q.version z.conditions) (Page p) l w z.link) same_b b.joined) in
      determined_end k.link (value_in (variables_of k.conditions) ra.row) (value_in (variables_of k.conditions) rb.row) p l v w single.may.starts.0 single.may.starts.1 single.determined ra.holds rb.holds

  -- the link of a use from a mention of f is the one that may carry the label
  used_single : (f l : Name) (single : IsSingle q f l) (m : Mention) → m.term.function ≡ f → (u : LinkUse) (k : PlacedLink) → IsUseFrom q l m u k → IsPerRow k.link.target
  used_single f l single m of_f u k used =
      let source = renamed_made (naming k u.names) m.term k.link.source used.source in
      let may : MayCarry q f l u.link k = record {
        numbered = used.is_use.numbered;
        starts = (source.0, source.1, source.2 ∙ of_f);
        label = subst (MayBe q.version l k.conditions) (sym used.label) refl;
      } in
      subst (λ z. IsPerRow z.link.target) (sym (the_single f l single u.link k may)) single.per_row

  one_holds : (f l : Name) (proofs : Certificate) → AllZip (ShowsLink q l) (mentions_of q f) proofs → IsSingle q f l → Meets G q (One f l)
  one_holds f l proofs all single p within is =
      let at = named_by q G f p within is in
      let shown = (zip_at (ShowsLink q l) (mentions_of q f) proofs at.mention all at.within).1 in
      let per = used_single f l single at.mention (sym at.named.function ∙ is) shown.given shown.link shown.is_use in
      let end = links_on l at.mention at.row at.is_row p at.named shown.given shown.link shown.is_use per in
      record {
        end = end.0;
        is_linked = end.2;
        single = λ v k. single_end f l single p v end.0 (link_from q G checked f p l v is k) (link_from q G checked f p l end.0 is end.2);
      }

  -- the uses lead back to the root
  module _ (root : Name) (S : List Condition) (row : List Value) (r : IsRow G (chain_of q.version S) row) where
    abbrev new : Assignment
    new = value_in (variables_of S) row

    at_root : (t : SkolemTerm) (p : Term) → t ≡ record { function = root; args = [] } → IsTermUnder new t p → p ≡ root_page root
    at_root t p e named =
        let at : IsTermUnder new (record { function = root; args = [] }) p = subst (λ z. IsTermUnder new z p) e named in
        let args = no_args new p.args at.args in
        λ i. record { function = at.function i; args = args i }

    leads : (uses : List LinkUse) (t : SkolemTerm) (p : Term) → InSite G q p → IsTermUnder new t p → LeadBack q root S t uses → IsReached (InSite G q) (Linked G q) root p
    leads [] t p within named e =
        let is = at_root t p e named in
        record {
          root_in_site = subst (InSite G q) is within;
          led = subst (LeadsTo (InSite G q) (Linked G q) (root_page root)) (sym is) stays;
        }
    leads (u ∷ uses) t p within named (k, used, target_is, s, source_is, rest) =
        let j = jump q G checked S row r u k used in
        let to = target_back q G checked S row r u k j (Page p) (subst (λ z. IsTargetUnder new z (Page p)) (sym target_is) (p, named, refl)) in
        let source = some_source q G checked S row r u k j in
        let forth : IsTargetUnder new (made s) source.0 = subst (λ z. IsTargetUnder new z source.0) source_is (source_forth q G checked S row r u k j source.0 source.1) in
        let page = forth.0 in
        let from : IsTargetUnder (value_in (variables_of k.conditions) j.there) k.link.source (Page page) =
        subst (IsTargetUnder (value_in (variables_of k.conditions) j.there) k.link.source) forth.2 source.1 in
        let label = some_label q G checked S row r u k j in
        let link = joined q G checked S row r u k j (Page page) label.0 (Page p) from label.1 to in
        let begin = page_is_made G q.version k.conditions j.there j.is_row k.link.source page j.bound.source from in
        let page_within = begins_in_site q G checked S row r u k j begin.0 page begin.1 begin.2 in
        let before = leads uses s page page_within forth.1 rest in
        record { root_in_site = before.root_in_site; led = goes label.0 p before.led link }

  reachable_holds : (f root : Name) (proofs : Certificate) → AllZip (ShowsReached q f root) (mentions_of q f) proofs → Meets G q (Reachable f root)
  reachable_holds f root proofs all p within is =
      let at = named_by q G f p within is in
      let shown = zip_at (ShowsReached q f root) (mentions_of q f) proofs at.mention all at.within in
      leads root at.mention.conditions at.row at.is_row shown.0 at.mention.term p within at.named shown.1.lead

  pub certified : (c : Constraint) (x : Certificate) → IsCertificate q c x → Meets G q c
  certified (Reachable f root) x h = reachable_holds f root x h
  certified (Each f l h) x k = each_holds f l h x k
  certified (Only f l h) x k = only_holds f l h k.1
  certified (Never f l) x k = never_holds f l k.1
  certified (One f l) x k = one_holds f l x k.0 k.1
