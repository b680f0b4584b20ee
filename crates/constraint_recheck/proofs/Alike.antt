-- All tests that decide inclusion between a query's expressions lead one search.
use Rattle.std.proofs.Common.{◌≡◌, ℕ, zero, suc, ◌+◌, ◌≤◌, List, [], ◌∷◌, length, drop, refl, ap, sym, ◌∙◌, subst}
use Rattle.std.specs.Prelude.{Bool, true, false, ◌&&◌, Contains, All, Option, Some, None, option_map, if◌then◌else◌}
use Rattle.std.specs.Bool.{Decides}
use Rattle.std.specs.List.{list_any}
use Rattle.std.proofs.lemmas.List.Elements.{All-contains}
use Rattle.sd_value.specs.Members.{Contains-here, Contains-there}
use Rattle.sd_value.specs.Names.{Name, Label}
use Rattle.rpe.specs.Regex.{Regex}
use Rattle.query_spec.specs.Query.{Condition, SkolemTerm}
use Rattle.query_spec.specs.Mentions.{same_name, variables_of}
use Rattle.site_spec.specs.Site.{Scope}
use Rattle.constraint_spec.specs.declared.Constraint.{Constraint}
use Rattle.constraint_spec.specs.declared.Constraint.TheVariants.{Reachable, Each, Only, Never, One}
use Rattle.constraint_spec.specs.Placed.{PlacedLink, Mention, links_of, mentions_of}
use Rattle.query_parts.specs.Same.{same_term}
use Rattle.constraint_laws.proofs.Links.{numbered_within}
use Rattle.constraint_recheck.specs.Entails.{Tests, IsKnown, AreKnown, AreTests}
use Rattle.constraint_recheck.specs.Recheck.{is_of, is_quoted}
use Rattle.constraint_recheck.specs.Options.{fold_over, if_none, tried_until, tried_over}
use Rattle.constraint_recheck.specs.Search.{may_go_on, extend, extend_tried, find_names, names_tried, search_budget}
use Rattle.constraint_recheck.specs.Search.{Numbered, numbered_from, source_choices, Reached, add_found, add_source, add_sources, add_links}
use Rattle.constraint_recheck.specs.Search.{source_tried, sources_tried, links_tried, levels_tried, start_at, back_tried, if_asked, use_by, use_tried, reached_tried, IsWithinBudget}
use Rattle.constraint_recheck.proofs.Links.{all_each}
use Rattle.constraint_recheck.proofs.Recheck.{link_known, mention_known}
use Rattle.constraint_recheck.proofs.Numbered.{is_numbered}
use Rattle.constraint_recheck.proofs.Due.{step_decides}

-- two tests of one thing
decided_alike : {P : Type 0} (a b : Bool) → Decides a P → Decides b P → a ≡ b
decided_alike true true d e = refl
decided_alike true false d e = sym (e.1 (d.0 refl))
decided_alike false true d e = d.1 (e.0 refl)
decided_alike false false d e = refl

-- ---- lists, item by item

fold_alike : {X Y : Type 0} (g h : Y → X → Y) (xs : List X) → ((x : X) → Contains xs x → (y : Y) → g y x ≡ h y x) → (y : Y) → fold_over g y xs ≡ fold_over h y xs
fold_alike g h [] e y = refl
fold_alike g h (x ∷ xs) e y = fold_alike g h xs (λ z m. e z (Contains-there x xs z m)) (g y x) ∙ ap (λ z. fold_over h z xs) (e x (Contains-here x xs) y)

over_alike : {X Y : Type 0} (g h : Y → X → Y) (c d : Y → X → ℕ) (xs : List X) → ((x : X) → Contains xs x → (y : Y) → g y x ≡ h y x) → ((x : X) → Contains xs x → (y : Y) → c y x ≡ d y x)
    → (y : Y) → tried_over g c y xs ≡ tried_over h d y xs
over_alike g h c d [] e f y = refl
over_alike g h c d (x ∷ xs) e f y =
    let rest = over_alike g h c d xs (λ z m. e z (Contains-there x xs z m)) (λ z m. f z (Contains-there x xs z m)) (g y x) ∙ ap (λ z. tried_over h d z xs) (e x (Contains-here x xs) y) in
    let here = f x (Contains-here x xs) y in
    λ i. here i + rest i

until_alike : {X Y : Type 0} (f g : X → Option Y) (c d : X → ℕ) (xs : List X) → ((x : X) → Contains xs x → f x ≡ g x) → ((x : X) → Contains xs x → c x ≡ d x) → tried_until f c xs ≡ tried_until g d xs
until_alike f g c d [] e k = refl
until_alike f g c d (x ∷ xs) e k =
    let rest = until_alike f g c d xs (λ z m. e z (Contains-there x xs z m)) (λ z m. k z (Contains-there x xs z m)) in
    let answer = e x (Contains-here x xs) in
    let here = k x (Contains-here x xs) in
    λ i. here i + if_none (answer i) (rest i)

-- ---- one search

module _ (known more : Regex → Type 0) (one other : Tests) (are : AreTests known one) (those : AreTests more other) where
  module _ (version : ℕ) (S : List Condition) (kS : All (IsKnown known) S) (mS : All (IsKnown more) S) (k : PlacedLink) (kk : All (IsKnown known) k.conditions) (mk : All (IsKnown more) k.conditions)
      (s : SkolemTerm) (t : Option SkolemTerm) where
    abbrev Test : Type 0
    Test = List Name → Bool

    goes_alike : may_go_on (variables_of k.conditions) one version S k.conditions k.link s t ≡ may_go_on (variables_of k.conditions) other version S k.conditions k.link s t
    goes_alike = λ i ys.
        decided_alike (may_go_on (variables_of k.conditions) one version S k.conditions k.link s t ys) (may_go_on (variables_of k.conditions) other version S k.conditions k.link s t ys)
        (step_decides known one are version S kS k kk s t ys) (step_decides more other those version S mS k mk s t ys) i

    pub names_alike : find_names one version S k s t ≡ find_names other version S k s t
    names_alike = ap (λ (test : Test). if test [] then extend test (variables_of S) (variables_of k.conditions) [] else None) goes_alike

    pub tried_alike : names_tried one version S k s t ≡ names_tried other version S k s t
    tried_alike = ap (λ (test : Test). if test [] then extend_tried test (variables_of S) (variables_of k.conditions) [] else 0) goes_alike

  module _ (q : Scope) (ks : AreKnown known q) (ms : AreKnown more q) where
    among : (n : Numbered) → Contains (numbered_from 1 (links_of q)) n → Contains (links_of q) n.link
    among n within = numbered_within (links_of q) n.number n.link (is_numbered (links_of q) n within)

    -- ---- uses

    module _ (l : Label) (good : PlacedLink → Bool) (m : Mention) (km : All (IsKnown known) m.conditions) (mm : All (IsKnown more) m.conditions) where
      by_alike : (n : Numbered) → Contains (numbered_from 1 (links_of q)) n → if_asked l good (use_by one q m) None n ≡ if_asked l good (use_by other q m) None n
      by_alike n within =
          ap (λ o. if is_quoted l n.link.link.label && good n.link then option_map (λ ys. record { link = n.number; names = ys }) o else None)
          (names_alike q.version m.conditions km mm n.link (link_known known one are q ks n.link (among n within)) (link_known more other those q ms n.link (among n within)) m.term None)

      by_tried_alike : (n : Numbered) → Contains (numbered_from 1 (links_of q)) n
          → if_asked l good (λ p. names_tried one q.version m.conditions p.link m.term None) 0 n ≡ if_asked l good (λ p. names_tried other q.version m.conditions p.link m.term None) 0 n
      by_tried_alike n within =
          ap (λ z. if is_quoted l n.link.link.label && good n.link then z else 0)
          (tried_alike q.version m.conditions km mm n.link (link_known known one are q ks n.link (among n within)) (link_known more other those q ms n.link (among n within)) m.term None)

      use_alike : use_tried one q l good m ≡ use_tried other q l good m
      use_alike =
          until_alike (if_asked l good (use_by one q m) None) (if_asked l good (use_by other q m) None)
          (if_asked l good (λ n. names_tried one q.version m.conditions n.link m.term None) 0) (if_asked l good (λ n. names_tried other q.version m.conditions n.link m.term None) 0)
          (numbered_from 1 (links_of q)) by_alike by_tried_alike

    -- ---- the way back

    module _ (S : List Condition) (kS : All (IsKnown known) S) (mS : All (IsKnown more) S) where
      found_alike : (e : Reached) (n : Numbered) (seen : List Reached) (s : SkolemTerm) (o : Option (List Name)) → add_found one q S e n seen s o ≡ add_found other q S e n seen s o
      found_alike e n seen s None = refl
      found_alike e n seen s (Some ys) = refl

      module _ (e : Reached) (n : Numbered) (within : Contains (numbered_from 1 (links_of q)) n) where
        names_at : (s : SkolemTerm) → find_names one q.version S n.link s (Some e.term) ≡ find_names other q.version S n.link s (Some e.term)
        names_at s = names_alike q.version S kS mS n.link (link_known known one are q ks n.link (among n within)) (link_known more other those q ms n.link (among n within)) s (Some e.term)

        source_at : (s : SkolemTerm) (seen : List Reached) → add_source one q S e n seen s ≡ add_source other q S e n seen s
        source_at s seen =
            ap (λ r. if list_any (λ (r : Reached). same_term r.term s) seen then seen else r)
            (ap (add_found one q S e n seen s) (names_at s) ∙ found_alike e n seen s (find_names other q.version S n.link s (Some e.term)))

        tried_at : (s : SkolemTerm) (seen : List Reached) → source_tried one q S e n seen s ≡ source_tried other q S e n seen s
        tried_at s seen =
            ap (λ z. suc (if list_any (λ (r : Reached). same_term r.term s) seen then 0 else z))
            (tried_alike q.version S kS mS n.link (link_known known one are q ks n.link (among n within)) (link_known more other those q ms n.link (among n within)) s (Some e.term))

        sources_at : (seen : List Reached) → add_sources one q S e seen n ≡ add_sources other q S e seen n
        sources_at = fold_alike (add_source one q S e n) (add_source other q S e n) (source_choices (variables_of S) n.link.link.source) (λ s m seen. source_at s seen)

        sources_tried_at : (seen : List Reached) → sources_tried one q S e seen n ≡ sources_tried other q S e seen n
        sources_tried_at seen =
            ap (λ z. if is_of e.term.function n.link.link.target then z else 0)
            (over_alike (add_source one q S e n) (add_source other q S e n) (source_tried one q S e n) (source_tried other q S e n) (source_choices (variables_of S) n.link.link.source)
            (λ s m old. source_at s old) (λ s m old. tried_at s old) seen)

      links_at : (e : Reached) (seen : List Reached) → add_links one q S seen e ≡ add_links other q S seen e
      links_at e = fold_alike (add_sources one q S e) (add_sources other q S e) (numbered_from 1 (links_of q)) (λ n within seen. sources_at e n within seen)

      links_tried_at : (e : Reached) (seen : List Reached) → links_tried one q S seen e ≡ links_tried other q S seen e
      links_tried_at e =
          over_alike (add_sources one q S e) (add_sources other q S e) (sources_tried one q S e) (sources_tried other q S e) (numbered_from 1 (links_of q))
          (λ n within seen. sources_at e n within seen) (λ n within seen. sources_tried_at e n within seen)

      levels_alike : (n place : ℕ) (seen : List Reached) → levels_tried one q S n place seen ≡ levels_tried other q S n place seen
      levels_alike zero place seen = refl
      levels_alike (suc n) place seen =
          let here = over_alike (add_links one q S) (add_links other q S) (links_tried one q S) (links_tried other q S) (drop place seen) (λ e m old. links_at e old) (λ e m old. links_tried_at e old) seen in
          let next = fold_alike (add_links one q S) (add_links other q S) (drop place seen) (λ e m old. links_at e old) seen in
          let rest = levels_alike n (length seen) (fold_over (add_links one q S) seen (drop place seen)) ∙ ap (levels_tried other q S n (length seen)) next in
          λ i. here i + rest i

      back_alike : (t : SkolemTerm) → back_tried one q S t ≡ back_tried other q S t
      back_alike t = levels_alike (length (links_of q)) 0 (start_at t)

    -- ---- constraints

    reached_alike : (f root : Name) (m : Mention) → Contains (mentions_of q f) m → reached_tried one q f root m ≡ reached_tried other q f root m
    reached_alike f root m w =
        ap (λ z. if same_name f root then 0 else z) (back_alike m.conditions (mention_known known one are q ks f m w) (mention_known more other those q ms f m w) m.term)

    each_use : (f : Name) (l : Label) (good : PlacedLink → Bool) → All (λ m. use_tried one q l good m ≤ search_budget) (mentions_of q f) → All (λ m. use_tried other q l good m ≤ search_budget) (mentions_of q f)
    each_use f l good h =
        all_each (λ m. use_tried other q l good m ≤ search_budget) (mentions_of q f)
        (λ m w. subst (λ z. z ≤ search_budget) (use_alike l good m (mention_known known one are q ks f m w) (mention_known more other those q ms f m w))
        (All-contains (λ m. use_tried one q l good m ≤ search_budget) (mentions_of q f) m h w))

    pub within_alike : (c : Constraint) → IsWithinBudget one q c → IsWithinBudget other q c
    within_alike (Reachable f root) h =
        all_each (λ m. reached_tried other q f root m ≤ search_budget) (mentions_of q f)
        (λ m w. subst (λ z. z ≤ search_budget) (reached_alike f root m w) (All-contains (λ m. reached_tried one q f root m ≤ search_budget) (mentions_of q f) m h w))
    within_alike (Each f l h) g = each_use f l (λ k. is_of h k.link.target) g
    within_alike (Only f l h) g = tt
    within_alike (Never f l) g = tt
    within_alike (One f l) g = each_use f l (λ k. true) g
