-- The search finds a certificate exactly where there is one and it stays within the budget.
use Rattle.std.proofs.Common.{◌≡◌, ℕ, List, [], ◌∷◌, length, ◌≤◌, refl, subst, arith}
use Rattle.std.specs.Prelude.{Bool, true, false, Contains, All, Option, Some, None, if◌then◌else◌}
use Rattle.std.specs.Bool.{Decides}
use Rattle.std.specs.List.{AllZip}
use Rattle.std.proofs.lemmas.List.Elements.{All-nil, All-cons, All-head, All-tail}
use Rattle.sd_value.specs.Names.{Name}
use Rattle.rpe.specs.Regex.{Regex}
use Rattle.query_spec.specs.Mentions.{same_name}
use Rattle.site_spec.specs.Site.{Scope}
use Rattle.constraint_spec.specs.declared.Constraint.{Constraint}
use Rattle.constraint_spec.specs.declared.Constraint.TheVariants.{Reachable, Each, Only, Never, One}
use Rattle.constraint_spec.specs.Placed.{PlacedLink, Mention, links_of, mentions_of}
use Rattle.constraint_spec.specs.Certificate.{IsOf, MayCarry, ShowsLinkTo, ShowsLink, LeadBack, ShowsReached, IsSingle, Certificate, IsCertificate}
use Rattle.query_parts.specs.Same.{same_term}
use Rattle.constraint_recheck.specs.Entails.{Tests, IsKnown, AreKnown, AreTests}
use Rattle.constraint_recheck.specs.Recheck.{is_of, may_carry, single, determined, each_may}
use Rattle.query_parts.proofs.Bools.{never}
use Rattle.query_parts.proofs.Same.{name_decides, term_decides}
use Rattle.constraint_recheck.proofs.Links.{of_decides}
use Rattle.constraint_recheck.proofs.Recheck.{mention_known, may_list_decides, one_decides}
use Rattle.constraint_recheck.specs.Options.{Finds, for_each}
use Rattle.constraint_recheck.specs.Search.{root_term, search_budget, find_back, use_tried, find_shown, reached_tried, find_reached, find_certificate, IsWithinBudget, StaysWithinBudget}
use Rattle.constraint_recheck.proofs.Options.{finds_as, finds_if, each_finds}
use Rattle.constraint_recheck.proofs.Uses.{within_finds, link_to_finds, link_finds}
use Rattle.constraint_recheck.proofs.Alike.{within_alike}
use Rattle.constraint_recheck.proofs.Levels.{back_finds}

-- two conditions on the items, one of which has the other list too
both_to : {X Y : Type 0} (A : X → Y → Type 0) (W : X → Type 0) (xs : List X) (ys : List Y) → AllZip (λ x y. A x y × W x) xs ys → AllZip A xs ys × All W xs
both_to A W [] [] h = (tt, All-nil W)
both_to A W [] (y ∷ ys) h = absurd h
both_to A W (x ∷ xs) [] h = absurd h
both_to A W (x ∷ xs) (y ∷ ys) h = let rest = both_to A W xs ys h.1 in ((h.0.0, rest.0), All-cons W x xs h.0.1 rest.1)

both_from : {X Y : Type 0} (A : X → Y → Type 0) (W : X → Type 0) (xs : List X) (ys : List Y) → AllZip A xs ys → All W xs → AllZip (λ x y. A x y × W x) xs ys
both_from A W [] [] h w = tt
both_from A W [] (y ∷ ys) h w = absurd h
both_from A W (x ∷ xs) [] h w = absurd h
both_from A W (x ∷ xs) (y ∷ ys) h w = ((h.0, All-head W x xs w), both_from A W xs ys h.1 (All-tail W x xs w))

each_within : {X Y : Type 0} (f : X → Option Y) (A : X → Y → Type 0) (W : X → Type 0) (xs : List X) → ((x : X) → Contains xs x → Finds (λ y. A x y × W x) (f x))
    → Finds (λ ys. AllZip A xs ys × All W xs) (for_each f xs)
each_within {X} {Y} f A W xs d =
    finds_as (AllZip (λ (x : X) (y : Y). A x y × W x) xs) (λ ys. AllZip A xs ys × All W xs) (λ ys h. both_to A W xs ys h) (λ ys h. both_from A W xs ys h.0 h.1)
    (for_each f xs) (each_finds f (λ (x : X) (y : Y). A x y × W x) xs d)

module _ (known : Regex → Type 0) (tests : Tests) (are : AreTests known tests) (q : Scope) (ks : AreKnown known q) where
  reached_finds : (f root : Name) (m : Mention) → All (IsKnown known) m.conditions
      → Finds (λ uses. ShowsReached q f root m uses × (reached_tried tests q f root m ≤ search_budget)) (find_reached tests q f root m)
  reached_finds f root m km =
      within_finds (ShowsReached q f root m) (reached_tried tests q f root m)
      (if same_name f root then (if same_term m.term (root_term root) then Some [] else None) else find_back tests q m.conditions root m.term)
      (by_test (same_name f root) (name_decides f root))
    where
      by_test : (b : Bool) → Decides b (f ≡ root)
          → Finds (ShowsReached q f root m) (if b then (if same_term m.term (root_term root) then Some [] else None) else find_back tests q m.conditions root m.term)
      by_test true d =
          finds_if (ShowsReached q f root m) (m.term ≡ root_term root)
          (λ uses h. subst (LeadBack q root m.conditions m.term) (h.nothing_to_itself (d.0 refl)) h.lead)
          (same_term m.term (root_term root)) (term_decides m.term (root_term root)) (Some [])
          (λ e. record { bounded = omega arith; nothing_to_itself = λ same. refl; lead = e })
      by_test false d =
          finds_as (λ uses. (length uses ≤ length (links_of q)) × LeadBack q root m.conditions m.term uses) (ShowsReached q f root m)
          (λ uses h. record { bounded = h.0; nothing_to_itself = λ same. (let e = d.1 same in absurd cc); lead = h.1 })
          (λ uses h. (h.bounded, h.lead))
          (find_back tests q m.conditions root m.term)
          (back_finds known tests are q ks m.conditions km root m.term)

  -- a certificate of the constraint, if no more was tried than the budget
  abbrev IsFound : Constraint → Certificate → Type 0
  IsFound c x = IsCertificate q c x × IsWithinBudget tests q c

  found : (c : Constraint) → Finds (IsFound c) (find_certificate tests q c)
  found (Reachable f root) =
      each_within (find_reached tests q f root) (ShowsReached q f root) (λ m. reached_tried tests q f root m ≤ search_budget) (mentions_of q f)
      (λ m w. reached_finds f root m (mention_known known tests are q ks f m w))
  found (Each f l h) =
      each_within (find_shown tests q l (λ k. is_of h k.link.target)) (ShowsLinkTo q l h) (λ m. use_tried tests q l (λ k. is_of h k.link.target) m ≤ search_budget) (mentions_of q f)
      (λ m w. link_to_finds known tests are q ks l h m (mention_known known tests are q ks f m w))
  found (Only f l h) =
      finds_if (IsFound (Only f l h)) ((n : ℕ) (k : PlacedLink) → MayCarry q f l n k → IsOf h k.link.target) (λ x g. g.0.1)
      (each_may tests q f l (λ k. is_of h k.link.target))
      (may_list_decides known tests are q ks f l (λ k. is_of h k.link.target) (λ k. IsOf h k.link.target) (λ k. of_decides h k.link.target))
      (Some []) (λ g. ((refl, g), tt))
  found (Never f l) =
      finds_if (IsFound (Never f l)) ((n : ℕ) (k : PlacedLink) → MayCarry q f l n k → ⊥) (λ x g. g.0.1)
      (each_may tests q f l (λ k. false)) (may_list_decides known tests are q ks f l (λ k. false) (λ k. ⊥) (λ k. never (λ h. h)))
      (Some []) (λ g. ((refl, g), tt))
  found (One f l) =
      finds_if (IsFound (One f l)) (IsSingle q f l) (λ x g. g.0.1)
      (single (may_carry tests q.version f l) determined (links_of q)) (one_decides known tests are q ks f l)
      (for_each (find_shown tests q l (λ k. true)) (mentions_of q f))
      (λ s. finds_as (λ x. AllZip (ShowsLink q l) (mentions_of q f) x × All (λ m. use_tried tests q l (λ k. true) m ≤ search_budget) (mentions_of q f)) (IsFound (One f l))
      (λ x g. ((g.0, s), g.1)) (λ x g. (g.0.0, g.1))
      (for_each (find_shown tests q l (λ k. true)) (mentions_of q f))
      (each_within (find_shown tests q l (λ k. true)) (ShowsLink q l) (λ m. use_tried tests q l (λ k. true) m ≤ search_budget) (mentions_of q f)
      (λ m w. link_finds known tests are q ks l m (mention_known known tests are q ks f m w))))

-- what is within the budget by other tests is so by these
pub certificate_finds : (known : List Regex) (tests : Tests) → AreTests (Contains known) tests → (q : Scope) → AreKnown (Contains known) q → (c : Constraint)
    → Finds (λ x. IsCertificate q c x × StaysWithinBudget q c) (find_certificate tests q c)
certificate_finds known tests are q ks c =
    finds_as (λ x. IsCertificate q c x × IsWithinBudget tests q c) (λ x. IsCertificate q c x × StaysWithinBudget q c)
    (λ x h. (h.0, record { known = known; tests = tests; are = are; all = ks; within = h.1 }))
    (λ x h. (h.0, within_alike (Contains h.1.known) (Contains known) h.1.tests tests h.1.are are q h.1.all ks c h.1.within))
    (find_certificate tests q c) (found (Contains known) tests are q ks c)
