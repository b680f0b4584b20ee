-- The test of a certificate decides whether it is one.
use Rattle.std.proofs.Common.{◌≡◌, ℕ, ◌≤◌, List, [], ◌∷◌, length, refl, subst, arith}
use Rattle.std.specs.Prelude.{Bool, true, false, not, ◌&&◌, ◌||◌, nat_le, Contains, All}
use Rattle.sd_value.specs.Members.{Contains-map, Contains-flat_map}
use Rattle.rpe.specs.Regex.{Regex}
use Rattle.site_spec.specs.Site.{terms_of}
use Rattle.std.specs.Bool.{Decides}
use Rattle.std.proofs.lemmas.Bool.Decides.{nat_tests}
use Rattle.graph_spec.specs.DataGraph.{Name}
use Rattle.query_spec.specs.Query.{Condition, SkolemTerm, made, quoted}
use Rattle.query_spec.specs.Mentions.{same_name}
use Rattle.site_spec.specs.Site.{Scope, IsPerRow}
use Rattle.constraint_spec.specs.declared.Constraint.{Constraint}
use Rattle.constraint_spec.specs.declared.Constraint.TheVariants.{Reachable, Each, Only, Never, One}
use Rattle.constraint_spec.specs.Placed.{PlacedLink, Mention, body_links, links_of, body_mentions, all_mentions, mentions_of}
use Rattle.constraint_spec.specs.Use.{LinkUse, IsUse, source_of, target_of}
use Rattle.constraint_spec.specs.Certificate.{Certificate, MayBe, IsOf, MayCarry, IsUseFrom, ShowsLinkTo, ShowsLink, LeadBack, ShowsReached, target_names, IsSingle, IsCertificate}
use Rattle.constraint_laws.proofs.Links.{numbered_within, number_of}
use Rattle.query_parts.specs.Same.{same_target}
use Rattle.constraint_recheck.specs.Entails.{Tests, IsKnown, AreKnown, AreTests}
use Rattle.constraint_recheck.specs.Recheck.{zip_all, is_empty, on_made, is_of, is_quoted, may_carry, is_use, single, determined, use_from, shows, lead_back, shows_reached, each_may, recheck}
use Rattle.query_parts.proofs.Bools.{never, always, as_well, both}
use Rattle.query_parts.proofs.Same.{name_decides, term_decides, target_decides}
use Rattle.constraint_recheck.proofs.Links.{zip_in, filter_from, empty_decides, each_decides, implies, link_decides, made_decides, of_decides, quoted_decides, may_decides, use_decides, determined_decides}
use Rattle.constraint_recheck.proofs.Single.{single_decides, to_number, from_number}

pub le_decides : (m n : ℕ) → Decides (nat_le m n) (m ≤ n)
le_decides m n = (λ t. grind (arith, nat_tests), λ e. grind (arith, nat_tests))

module _ (known : Regex → Type 0) (tests : Tests) (are : AreTests known tests) (q : Scope) (ks : AreKnown known q) where
  -- each expression of a link's chain, and of a mention's, is known
  pub link_known : (k : PlacedLink) → Contains (links_of q) k → All (IsKnown known) k.conditions
  link_known k m =
      let at = Contains-flat_map body_links q.bodies k m in
      let here = Contains-map (λ l. record { conditions = at.0.conditions; link = l }) at.0.links k at.2 in
      subst (λ (z : PlacedLink). All (IsKnown known) z.conditions) here.1 (ks at.0 at.1)

  pub mention_known : (f : Name) (m : Mention) → Contains (mentions_of q f) m → All (IsKnown known) m.conditions
  mention_known f m within =
      let all = (filter_from (λ (n : Mention). same_name n.term.function f) (all_mentions q) m within).0 in
      let at = Contains-flat_map body_mentions q.bodies m all in
      let here = Contains-map (λ t. record { conditions = at.0.conditions; term = t }) (terms_of at.0) m at.2 in
      subst (λ (z : Mention). All (IsKnown known) z.conditions) here.1 (ks at.0 at.1)

  -- ---- labels that links may carry

  abbrev May : Name → Name → PlacedLink → Type 0
  May f l k = IsOf f k.link.source × MayBe q.version l k.conditions k.link.label

  pub may_list_decides : (f l : Name) (good : PlacedLink → Bool) (Good : PlacedLink → Type 0) → ((k : PlacedLink) → Decides (good k) (Good k))
      → Decides (each_may tests q f l good) ((n : ℕ) (k : PlacedLink) → MayCarry q f l n k → Good k)
  may_list_decides f l good Good d =
      as_well (each_may tests q f l good)
      (λ h n k may. h k (numbered_within (links_of q) n k may.numbered) (may.starts, may.label))
      (λ h k m p. let at = number_of (links_of q) k m in h at.0 k (record { numbered = at.1; starts = p.0; label = p.1 }))
      (each_decides (λ k. not (may_carry tests q.version f l k) || good k) (λ k. May f l k → Good k)
      (λ k. implies (may_carry tests q.version f l k) (good k) (may_decides known tests are q.version f l k) (d k)) (links_of q))

  abbrev Determined : PlacedLink → Type 0
  Determined k = IsPerRow k.link.target × ((x : Name) → Contains (target_names k.link.target) x → Contains (target_names k.link.source) x)

  pub one_decides : (f l : Name) → Decides (single (may_carry tests q.version f l) determined (links_of q)) (IsSingle q f l)
  one_decides f l =
      as_well (single (may_carry tests q.version f l) determined (links_of q))
      (λ s. record {
        number = s.number;
        link = s.link;
        may = record { numbered = from_number (links_of q) s.number s.link s.there; starts = s.may_link.0; label = s.may_link.1 };
        alone = λ n k may. s.alone n k (to_number (links_of q) n k may.numbered) (may.starts, may.label);
        per_row = s.good_link.0;
        determined = s.good_link.1;
      })
      (λ s. record {
        number = s.number;
        link = s.link;
        there = to_number (links_of q) s.number s.link s.may.numbered;
        may_link = (s.may.starts, s.may.label);
        alone = λ n k there p. s.alone n k (record { numbered = from_number (links_of q) n k there; starts = p.0; label = p.1 });
        good_link = (s.per_row, s.determined);
      })
      (single_decides (may_carry tests q.version f l) determined (May f l) Determined (may_decides known tests are q.version f l) determined_decides (links_of q) 1)

  -- ---- one use from a mention's term

  from_decides : (l : Name) (m : Mention) → All (IsKnown known) m.conditions → (u : LinkUse) (good : PlacedLink → Bool) (Good : PlacedLink → Type 0) → ((k : PlacedLink) → Decides (good k) (Good k))
      → Decides (use_from tests q l m u good) ((k : PlacedLink) × IsUseFrom q l m u k × Good k)
  from_decides l m km u good Good d =
      as_well (use_from tests q l m u good)
      (λ h. (h.0, record { is_use = record { numbered = h.1; is_use = h.2.0 }; label = h.2.1.0; source = h.2.1.1.0 }, h.2.1.1.1))
      (λ h. (h.0, h.1.is_use.numbered, (h.1.is_use.is_use, (h.1.label, (h.1.source, h.2)))))
      (link_decides
      (λ k. is_use tests q.version m.conditions k u.names && (is_quoted l k.link.label && (same_target (source_of k u) (made m.term) && good k)))
      (λ k. IsUse q.version m.conditions k u.names × ((k.link.label ≡ quoted l) × ((source_of k u ≡ made m.term) × Good k)))
      (links_of q)
      (λ k w. both (is_use tests q.version m.conditions k u.names) (is_quoted l k.link.label && (same_target (source_of k u) (made m.term) && good k))
      (use_decides known tests are q.version m.conditions km k (link_known k w) u.names)
      (both (is_quoted l k.link.label) (same_target (source_of k u) (made m.term) && good k) (quoted_decides l k.link.label)
      (both (same_target (source_of k u) (made m.term)) (good k) (target_decides (source_of k u) (made m.term)) (d k))))
      u.link)

  -- the one use of a list
  abbrev Shows : Name → (PlacedLink → Type 0) → Mention → List LinkUse → Type 0
  Shows l Good m uses = (u : LinkUse) × (uses ≡ u ∷ []) × ((k : PlacedLink) × IsUseFrom q l m u k × Good k)

  shows_decides : (l : Name) (good : PlacedLink → Bool) (Good : PlacedLink → Type 0) → ((k : PlacedLink) → Decides (good k) (Good k))
      → (m : Mention) → All (IsKnown known) m.conditions → (uses : List LinkUse) → Decides (shows tests q l good m uses) (Shows l Good m uses)
  shows_decides l good Good d m km [] = never (λ h. let e = h.1 in cc)
  shows_decides l good Good d m km (u ∷ []) =
      as_well (use_from tests q l m u good) (λ h. (u, refl, h))
      (λ h. let g = h.1 in let e : h.0 ≡ u = cc in subst (λ w. (k : PlacedLink) × IsUseFrom q l m w k × Good k) e h.2)
      (from_decides l m km u good Good d)
  shows_decides l good Good d m km (u ∷ v ∷ uses) = never (λ h. let e = h.1 in cc)

  link_to_decides : (l h : Name) (m : Mention) → All (IsKnown known) m.conditions → (uses : List LinkUse) → Decides (shows tests q l (λ k. is_of h k.link.target) m uses) (ShowsLinkTo q l h m uses)
  link_to_decides l h m km uses =
      as_well (shows tests q l (λ k. is_of h k.link.target) m uses)
      (λ s. record { given = s.0; alone = s.1; link = s.2.0; is_use = s.2.1; target = s.2.2 })
      (λ s. (s.given, s.alone, (s.link, s.is_use, s.target)))
      (shows_decides l (λ k. is_of h k.link.target) (λ k. IsOf h k.link.target) (λ k. of_decides h k.link.target) m km uses)

  link_shown_decides : (l : Name) (m : Mention) → All (IsKnown known) m.conditions → (uses : List LinkUse) → Decides (shows tests q l (λ k. true) m uses) (ShowsLink q l m uses)
  link_shown_decides l m km uses =
      as_well (shows tests q l (λ k. true) m uses)
      (λ s. record { given = s.0; alone = s.1; link = s.2.0; is_use = s.2.1 })
      (λ s. (s.given, s.alone, (s.link, s.is_use, tt)))
      (shows_decides l (λ k. true) (λ k. Unit {0}) (λ k. always tt) m km uses)

  -- ---- uses that lead back

  back_decides : (root : Name) (S : List Condition) → All (IsKnown known) S → (uses : List LinkUse) (t : SkolemTerm) → Decides (lead_back tests q root S t uses) (LeadBack q root S t uses)
  back_decides root S kS [] t = term_decides t (record { function = root; args = [] })
  back_decides root S kS (u ∷ uses) t =
      as_well (lead_back tests q root S t (u ∷ uses))
      (λ h. (h.0, record { numbered = h.1; is_use = h.2.0 }, h.2.1.0, h.2.1.1.0, h.2.1.1.1, h.2.1.1.2))
      (λ h. (h.0, h.1.numbered, (h.1.is_use, (h.2, (h.3, h.4, h.5)))))
      (link_decides
      (λ k. is_use tests q.version S k u.names && (same_target (target_of k u) (made t) && on_made (λ s. lead_back tests q root S s uses) (source_of k u)))
      (λ k. IsUse q.version S k u.names × ((target_of k u ≡ made t) × ((s : SkolemTerm) × (source_of k u ≡ made s) × LeadBack q root S s uses)))
      (links_of q)
      (λ k w. both (is_use tests q.version S k u.names) (same_target (target_of k u) (made t) && on_made (λ s. lead_back tests q root S s uses) (source_of k u))
      (use_decides known tests are q.version S kS k (link_known k w) u.names)
      (both (same_target (target_of k u) (made t)) (on_made (λ s. lead_back tests q root S s uses) (source_of k u)) (target_decides (target_of k u) (made t))
      (made_decides (λ s. lead_back tests q root S s uses) (λ s. LeadBack q root S s uses) (λ s. back_decides root S kS uses s) (source_of k u))))
      u.link)

  reached_decides : (f root : Name) (m : Mention) → All (IsKnown known) m.conditions → (uses : List LinkUse) → Decides (shows_reached tests q f root m uses) (ShowsReached q f root m uses)
  reached_decides f root m km uses =
      as_well (shows_reached tests q f root m uses)
      (λ h. record { bounded = h.0; nothing_to_itself = h.1.0; lead = h.1.1 })
      (λ s. (s.bounded, (s.nothing_to_itself, s.lead)))
      (both (nat_le (length uses) (length (links_of q))) ((not (same_name f root) || is_empty uses) && lead_back tests q root m.conditions m.term uses) (le_decides (length uses) (length (links_of q)))
      (both (not (same_name f root) || is_empty uses) (lead_back tests q root m.conditions m.term uses) (implies (same_name f root) (is_empty uses) (name_decides f root) (empty_decides uses))
      (back_decides root m.conditions km uses m.term)))

  -- ---- certificates

  pub recheck_decides : (c : Constraint) (x : Certificate) → Decides (recheck tests q c x) (IsCertificate q c x)
  recheck_decides (Reachable f root) x = zip_in (shows_reached tests q f root) (ShowsReached q f root) (mentions_of q f) (λ m w uses. reached_decides f root m (mention_known f m w) uses) x
  recheck_decides (Each f l h) x = zip_in (shows tests q l (λ k. is_of h k.link.target)) (ShowsLinkTo q l h) (mentions_of q f) (λ m w uses. link_to_decides l h m (mention_known f m w) uses) x
  recheck_decides (Only f l h) x =
      both (is_empty x) (each_may tests q f l (λ k. is_of h k.link.target)) (empty_decides x)
      (may_list_decides f l (λ k. is_of h k.link.target) (λ k. IsOf h k.link.target) (λ k. of_decides h k.link.target))
  recheck_decides (Never f l) x =
      both (is_empty x) (each_may tests q f l (λ k. false)) (empty_decides x) (may_list_decides f l (λ k. false) (λ k. ⊥) (λ k. never (λ h. h)))
  recheck_decides (One f l) x =
      both (zip_all (shows tests q l (λ k. true)) (mentions_of q f) x) (single (may_carry tests q.version f l) determined (links_of q))
      (zip_in (shows tests q l (λ k. true)) (ShowsLink q l) (mentions_of q f) (λ m w uses. link_shown_decides l m (mention_known f m w) uses) x) (one_decides f l)
