-- The levels have each term from which few enough uses lead back, and no other.
use Rattle.std.proofs.Common.{◌≡◌, ◌⊎◌, ℕ, zero, suc, ◌+◌, ◌≤◌, List, [], ◌∷◌, ◌++◌, length, map, take, drop, refl, ap, sym, ◌∙◌, subst, inl, inr, arith, length-append}
use Rattle.std.specs.Prelude.{Bool, true, false, Contains, All, Option, Some, None, if◌then◌else◌}
use Rattle.std.specs.Bool.{Decides}
use Rattle.std.specs.List.{list_any}
use Rattle.std.proofs.lemmas.List.Elements.{Contains-append_left, Contains-append_right, Contains-append_cases}
use Rattle.sd_value.specs.Members.{Contains-nil, Contains-cons_cases, Contains-here, Contains-there, Contains-mapped, Contains-flat_mapped}
use Rattle.sd_value.specs.Names.{Name}
use Rattle.rpe.specs.Regex.{Regex}
use Rattle.query_spec.specs.declared.Variable.{Variable}
use Rattle.query_spec.specs.Query.{Operand, variable, constant, Condition, SkolemTerm, Target, plain, made, summed}
use Rattle.query_spec.specs.Mentions.{variables_of}
use Rattle.site_spec.specs.Site.{Scope}
use Rattle.constraint_spec.specs.Placed.{PlacedLink, links_of, IsNumbered}
use Rattle.constraint_spec.specs.Use.{LinkUse, name_for, rename_operand, rename_term, rename_target, IsUseOf, source_of, target_of}
use Rattle.constraint_spec.specs.Certificate.{LeadBack}
use Rattle.query_parts.specs.Same.{same_term}
use Rattle.constraint_recheck.specs.Entails.{Tests, IsKnown, AreKnown, AreTests}
use Rattle.query_parts.proofs.Bools.{some}
use Rattle.query_parts.proofs.Same.{term_decides}
use Rattle.constraint_recheck.proofs.Recheck.{link_known}
use Rattle.constraint_laws.proofs.Links.{numbered_within}
use Rattle.constraint_recheck.specs.Options.{Finds, fold_over}
use Rattle.constraint_recheck.specs.Search.{Numbered, numbered_from, arg_choices, choices, source_choices, Reached, root_term, add_found, add_source, add_sources, add_links, levels, find_back, find_names}
use Rattle.constraint_recheck.proofs.Options.{finds_if, first_finds, fold_keeps, fold_makes}
use Rattle.constraint_recheck.proofs.Mapped.{name_cases}
use Rattle.constraint_recheck.proofs.Extended.{Sorts}
use Rattle.constraint_recheck.proofs.Due.{IsUseWith, names_found}
use Rattle.constraint_recheck.proofs.Numbered.{is_numbered, has_numbered}

-- ---- the terms that a source may be

operand_choice : (targets variables : List Variable) (ys : List Name) → Sorts targets variables ys → (o : Operand)
    → Contains (arg_choices targets o) (rename_operand (name_for variables ys) o)
operand_choice targets variables ys h (constant v) = Contains-here (constant v) []
operand_choice targets variables ys h (variable x) = elim (name_cases targets variables ys x h) [
  | inl e ↦ subst (λ z. Contains (arg_choices targets (variable x)) (variable z)) (sym e) (Contains-here (variable x) (map (λ (v : Variable). variable v.name) targets))
  | inr (w, m, e) ↦ subst (λ z. Contains (arg_choices targets (variable x)) (variable z)) e
      (Contains-there (variable x) (map (λ (v : Variable). variable v.name) targets) (variable w.name) (Contains-mapped (λ (v : Variable). variable v.name) targets w m))
]

args_choice : (targets variables : List Variable) (ys : List Name) → Sorts targets variables ys → (os : List Operand)
    → Contains (choices targets os) (map (rename_operand (name_for variables ys)) os)
args_choice targets variables ys h [] = Contains-here [] []
args_choice targets variables ys h (o ∷ os) =
    let a = rename_operand (name_for variables ys) o in
    let bs = map (rename_operand (name_for variables ys)) os in
    Contains-flat_mapped (λ b. map (λ bs. b ∷ bs) (choices targets os)) (arg_choices targets o) a (a ∷ bs) (operand_choice targets variables ys h o)
    (Contains-mapped (λ bs. a ∷ bs) (choices targets os) bs (args_choice targets variables ys h os))

pub source_choice : (targets variables : List Variable) (ys : List Name) → Sorts targets variables ys → (target : Target) (s : SkolemTerm)
    → rename_target (name_for variables ys) target ≡ made s → Contains (source_choices targets target) s
source_choice targets variables ys h (plain o) s e = cc
source_choice targets variables ys h (summed a) s e = cc
source_choice targets variables ys h (made t) s e =
    let same : rename_term (name_for variables ys) t ≡ s = cc in
    subst (Contains (source_choices targets (made t))) same
    (Contains-mapped (λ bs. record { function = t.function; args = bs }) (choices targets t.args) (map (rename_operand (name_for variables ys)) t.args) (args_choice targets variables ys h t.args))

-- ---- lists of reached terms

abbrev pub Covers : List Reached → SkolemTerm → Type 0
Covers seen s = (r : Reached) × Contains seen r × (r.term ≡ s)

abbrev pub Grown : List Reached → List Reached → Type 0
Grown old new = (more : List Reached) × (new ≡ old ++ more)

same_list : (xs ys : List Reached) (zs : List Reached) → xs ≡ zs → xs ++ ys ≡ zs ++ ys
same_list xs ys zs e = ap (λ ws. ws ++ ys) e

grouped : (xs ys zs : List Reached) → (xs ++ ys) ++ zs ≡ xs ++ (ys ++ zs)
grouped [] ys zs = refl
grouped (x ∷ xs) ys zs = ap (λ ws. x ∷ ws) (grouped xs ys zs)

nothing_more : (xs : List Reached) → xs ++ [] ≡ xs
nothing_more [] = refl
nothing_more (x ∷ xs) = ap (λ ws. x ∷ ws) (nothing_more xs)

grown_none : (xs : List Reached) → Grown xs xs
grown_none xs = ([], sym (nothing_more xs))

grown_on : (xs ys zs : List Reached) → Grown xs ys → Grown ys zs → Grown xs zs
grown_on xs ys zs (more, e) (later, f) = (more ++ later, f ∙ ap (λ ws. ws ++ later) e ∙ grouped xs more later)

grown_has : (xs ys : List Reached) → Grown xs ys → (r : Reached) → Contains xs r → Contains ys r
grown_has xs ys (more, e) r m = subst (λ zs. Contains zs r) (sym e) (Contains-append_left xs more r m)

grown_covers : (xs ys : List Reached) → Grown xs ys → (s : SkolemTerm) → Covers xs s → Covers ys s
grown_covers xs ys g s (r, m, e) = (r, grown_has xs ys g r m, e)

-- a fold whose every step only adds, only adds
fold_grows : {X : Type 0} (g : List Reached → X → List Reached) → ((seen : List Reached) (x : X) → Grown seen (g seen x)) → (xs : List X) (seen : List Reached) → Grown seen (fold_over g seen xs)
fold_grows g step [] seen = grown_none seen
fold_grows g step (x ∷ xs) seen = grown_on seen (g seen x) (fold_over g (g seen x) xs) (step seen x) (fold_grows g step xs (g seen x))

take_front : (xs ys : List Reached) → take (length xs) (xs ++ ys) ≡ xs
take_front [] ys = refl
take_front (x ∷ xs) ys = ap (λ ws. x ∷ ws) (take_front xs ys)

split_at : (n : ℕ) (xs : List Reached) (r : Reached) → Contains xs r → Contains (take n xs) r ⊎ Contains (drop n xs) r
split_at zero xs r m = inr m
split_at (suc n) [] r m = absurd (Contains-nil r m)
split_at (suc n) (x ∷ xs) r m = elim (Contains-cons_cases x xs r m) [
  | inl e ↦ inl (subst (Contains (x ∷ take n xs)) e (Contains-here x (take n xs)))
  | inr back ↦ elim (split_at n xs r back) [ inl front ↦ inl (Contains-there x (take n xs) r front) | inr later ↦ inr later ]
]

dropped_has : (n : ℕ) (xs : List Reached) (r : Reached) → Contains (drop n xs) r → Contains xs r
dropped_has zero xs r m = m
dropped_has (suc n) [] r m = absurd (Contains-nil r m)
dropped_has (suc n) (x ∷ xs) r m = Contains-there x xs r (dropped_has n xs r m)

module _ (known : Regex → Type 0) (tests : Tests) (are : AreTests known tests) (q : Scope) (ks : AreKnown known q) (S : List Condition) (kS : All (IsKnown known) S) where
  -- a use leads from s to t
  pub record Back (t s : SkolemTerm) : Type 0 where
    pub given : LinkUse
    pub link : PlacedLink
    pub is_use : IsUseOf q S given link
    pub ends : target_of link given ≡ made t
    pub starts : source_of link given ≡ made s

  -- the uses lead back from t to s
  abbrev pub Leads : SkolemTerm → List LinkUse → SkolemTerm → Type 0
  Leads t [] s = t ≡ s
  Leads t (u ∷ uses) s =
      (k : PlacedLink) × IsUseOf q S u k × (target_of k u ≡ made t) × (m : SkolemTerm) × (source_of k u ≡ made m) × Leads m uses s

  leads_root : (root : Name) (uses : List LinkUse) (t : SkolemTerm) → Leads t uses (root_term root) → LeadBack q root S t uses
  leads_root root [] t e = e
  leads_root root (u ∷ uses) t (k, used, target, m, source, rest) = (k, used, target, m, source, leads_root root uses m rest)

  root_leads : (root : Name) (uses : List LinkUse) (t : SkolemTerm) → LeadBack q root S t uses → Leads t uses (root_term root)
  root_leads root [] t e = e
  root_leads root (u ∷ uses) t (k, used, target, m, source, rest) = (k, used, target, m, source, root_leads root uses m rest)

  one_more : (uses : List LinkUse) (t m s : SkolemTerm) (u : LinkUse) (k : PlacedLink) → Leads t uses m → IsUseOf q S u k → target_of k u ≡ made m → source_of k u ≡ made s → Leads t (uses ++ u ∷ []) s
  one_more [] t m s u k e used target source = (k, used, target ∙ ap made (sym e), s, source, refl)
  one_more (v ∷ uses) t m s u k (l, other, end, n, start, rest) used target source = (l, other, end, n, start, one_more uses n m s u k rest used target source)

  -- ---- one source

  found_grows : (e : Reached) (n : Numbered) (seen : List Reached) (s : SkolemTerm) (o : Option (List Name)) → Grown seen (add_found tests q S e n seen s o)
  found_grows e n seen s None = grown_none seen
  found_grows e n seen s (Some ys) = (record { term = s; uses = e.uses ++ record { link = n.number; names = ys } ∷ [] } ∷ [], refl)

  source_grows : (e : Reached) (n : Numbered) (seen : List Reached) (s : SkolemTerm) → Grown seen (add_source tests q S e n seen s)
  source_grows e n seen s = by_test (list_any (λ r. same_term r.term s) seen)
    where
      by_test : (b : Bool) → Grown seen (if b then seen else add_found tests q S e n seen s (find_names tests q.version S n.link s (Some e.term)))
      by_test true = grown_none seen
      by_test false = found_grows e n seen s (find_names tests q.version S n.link s (Some e.term))

  sources_grow : (e : Reached) (seen : List Reached) (n : Numbered) → Grown seen (add_sources tests q S e seen n)
  sources_grow e seen n = fold_grows (add_source tests q S e n) (source_grows e n) (source_choices (variables_of S) n.link.link.source) seen

  links_grow : (seen : List Reached) (e : Reached) → Grown seen (add_links tests q S seen e)
  links_grow seen e = fold_grows (add_sources tests q S e) (sources_grow e) (numbered_from 1 (links_of q)) seen

  level_grows : (es seen : List Reached) → Grown seen (fold_over (add_links tests q S) seen es)
  level_grows es seen = fold_grows (add_links tests q S) links_grow es seen

  -- ---- what is reached is reached by uses

  module _ (first : SkolemTerm) (bound : ℕ) where
    abbrev Valid : Reached → Type 0
    Valid r = Leads first r.uses r.term × (length r.uses ≤ bound)

    abbrev AllValid : List Reached → Type 0
    AllValid seen = (r : Reached) → Contains seen r → Valid r

    added_valid : (e : Reached) → Leads first e.uses e.term → suc (length e.uses) ≤ bound → (n : Numbered) → IsNumbered (links_of q) n.number n.link
        → (kk : All (IsKnown known) n.link.conditions) (seen : List Reached) (s : SkolemTerm) → AllValid seen → (o : Option (List Name))
        → Finds (IsUseWith known tests are q.version S kS n.link kk s (Some e.term)) o → AllValid (add_found tests q S e n seen s o)
    added_valid e leads short n numbered kk seen s valid None h r m = valid r m
    added_valid e leads short n numbered kk seen s valid (Some ys) h r m =
        let u : LinkUse = record { link = n.number; names = ys } in
        let new : Reached = record { term = s; uses = e.uses ++ u ∷ [] } in
        elim (Contains-append_cases seen (new ∷ []) r m) [
          | inl old ↦ valid r old
          | inr added ↦ elim (Contains-cons_cases new [] r added) [
            | inl is ↦ subst Valid is (
              one_more e.uses first e.term s u n.link leads (record { numbered = numbered; is_use = h.0 }) h.2 h.1,
              (let size = length-append e.uses (u ∷ []) in omega arith),
            )
            | inr none ↦ absurd (Contains-nil r none)
          ]
        ]

    source_valid : (e : Reached) → Leads first e.uses e.term → suc (length e.uses) ≤ bound → (n : Numbered) → Contains (numbered_from 1 (links_of q)) n
        → (seen : List Reached) (s : SkolemTerm) → AllValid seen → AllValid (add_source tests q S e n seen s)
    source_valid e leads short n within seen s valid =
        let numbered = is_numbered (links_of q) n within in
        let kk = link_known known tests are q ks n.link (numbered_within (links_of q) n.number n.link numbered) in
        by_test (list_any (λ r. same_term r.term s) seen)
        (added_valid e leads short n numbered kk seen s valid (find_names tests q.version S n.link s (Some e.term)) (names_found known tests are q.version S kS n.link kk s (Some e.term)))
      where
        by_test : (b : Bool) → AllValid (add_found tests q S e n seen s (find_names tests q.version S n.link s (Some e.term)))
            → AllValid (if b then seen else add_found tests q S e n seen s (find_names tests q.version S n.link s (Some e.term)))
        by_test true h = valid
        by_test false h = h

    links_valid : (e : Reached) → Leads first e.uses e.term → suc (length e.uses) ≤ bound → (seen : List Reached) → AllValid seen → AllValid (add_links tests q S seen e)
    links_valid e leads short seen valid =
        fold_keeps AllValid (add_sources tests q S e) (numbered_from 1 (links_of q))
        (λ old n within ok. fold_keeps AllValid (add_source tests q S e n) (source_choices (variables_of S) n.link.link.source) (λ older s m fine. source_valid e leads short n within older s fine) old ok)
        seen valid

  weaker : (first : SkolemTerm) (m n : ℕ) → m ≤ n → (seen : List Reached) → AllValid first m seen → AllValid first n seen
  weaker first m n le seen valid r within = let v = valid r within in (v.0, (let w = v.1 in omega arith))

  levels_valid : (first : SkolemTerm) (n place j : ℕ) (seen : List Reached) → AllValid first j seen → AllValid first (j + n) (levels tests q S n place seen)
  levels_valid first zero place j seen valid = weaker first j (j + 0) (omega arith) seen valid
  levels_valid first (suc n) place j seen valid =
      let next = fold_over (add_links tests q S) seen (drop place seen) in
      let sound = fold_keeps (AllValid first (suc j)) (add_links tests q S) (drop place seen)
      (λ old e m ok. let v = valid e (dropped_has place seen e m) in links_valid first (suc j) e v.0 (let w = v.1 in omega arith) old ok)
      seen (weaker first j (suc j) (omega arith) seen valid) in
      weaker first (suc j + n) (j + suc n) (omega arith) (levels tests q S n (length seen) next) (levels_valid first n (length seen) (suc j) next sound)

  -- ---- what uses reach is reached

  added_covered : (e : Reached) (seen : List Reached) (n : Numbered) (kk : All (IsKnown known) n.link.conditions) (s : SkolemTerm) (u : LinkUse)
      → IsUseOf q S u n.link → target_of n.link u ≡ made e.term → source_of n.link u ≡ made s → (o : Option (List Name))
      → Finds (IsUseWith known tests are q.version S kS n.link kk s (Some e.term)) o → Covers (add_found tests q S e n seen s o) s
  added_covered e seen n kk s u used ends starts None h = absurd (h u.names (used.is_use, starts, ends))
  added_covered e seen n kk s u used ends starts (Some ys) h =
      let r : Reached = record { term = s; uses = e.uses ++ record { link = n.number; names = ys } ∷ [] } in
      (r, Contains-append_right seen (r ∷ []) r (Contains-here r []), refl)

  source_covered : (e : Reached) (seen : List Reached) (n : Numbered) → Contains (numbered_from 1 (links_of q)) n → (s : SkolemTerm) (u : LinkUse)
      → IsUseOf q S u n.link → target_of n.link u ≡ made e.term → source_of n.link u ≡ made s → Covers (add_source tests q S e n seen s) s
  source_covered e seen n within s u used ends starts =
      let kk = link_known known tests are q ks n.link (numbered_within (links_of q) n.number n.link (is_numbered (links_of q) n within)) in
      by_test (list_any (λ r. same_term r.term s) seen) (some (λ (r : Reached). same_term r.term s) (λ (r : Reached). r.term ≡ s) (λ r. term_decides r.term s) seen)
      (added_covered e seen n kk s u used ends starts (find_names tests q.version S n.link s (Some e.term)) (names_found known tests are q.version S kS n.link kk s (Some e.term)))
    where
      by_test : (b : Bool) → Decides b ((r : Reached) × Contains seen r × (r.term ≡ s)) → Covers (add_found tests q S e n seen s (find_names tests q.version S n.link s (Some e.term))) s
          → Covers (if b then seen else add_found tests q S e n seen s (find_names tests q.version S n.link s (Some e.term))) s
      by_test true d h = d.0 refl
      by_test false d h = h

  links_cover : (e : Reached) (seen : List Reached) (s : SkolemTerm) → Back e.term s → Covers (add_links tests q S seen e) s
  links_cover e seen s b =
      let n : Numbered = record { number = b.given.link; link = b.link } in
      let within = has_numbered (links_of q) b.given.link b.link b.is_use.numbered in
      let choice = source_choice (variables_of S) (variables_of b.link.conditions) b.given.names b.is_use.is_use.sorts b.link.link.source s b.starts in
      fold_makes (λ now. Covers now s) (add_sources tests q S e) (numbered_from 1 (links_of q)) n within
      (λ old. fold_makes (λ now. Covers now s) (add_source tests q S e n) (source_choices (variables_of S) b.link.link.source) s choice
      (λ older. source_covered e older n within s b.given b.is_use b.ends b.starts)
      (λ older w c. grown_covers older (add_source tests q S e n older w) (source_grows e n older w) s c) old)
      (λ old w c. grown_covers old (add_sources tests q S e old w) (sources_grow e old w) s c) seen

  -- what is before the place has its sources among what was seen
  abbrev Closed : ℕ → List Reached → Type 0
  Closed place seen = (r : Reached) → Contains (take place seen) r → (s : SkolemTerm) → Back r.term s → Covers seen s

  level_covers : (place : ℕ) (seen : List Reached) → Closed place seen → (r : Reached) → Contains seen r → (s : SkolemTerm) → Back r.term s → Covers (fold_over (add_links tests q S) seen (drop place seen)) s
  level_covers place seen closed r m s b = elim (split_at place seen r m) [
    | inl front ↦ grown_covers seen (fold_over (add_links tests q S) seen (drop place seen)) (level_grows (drop place seen) seen) s (closed r front s b)
    | inr later ↦ fold_makes (λ now. Covers now s) (add_links tests q S) (drop place seen) r later (λ old. links_cover r old s b)
        (λ old w c. grown_covers old (add_links tests q S old w) (links_grow old w) s c) seen
  ]

  level_closed : (place : ℕ) (seen : List Reached) → Closed place seen → Closed (length seen) (fold_over (add_links tests q S) seen (drop place seen))
  level_closed place seen closed r m s b =
      let grown = level_grows (drop place seen) seen in
      let front : take (length seen) (fold_over (add_links tests q S) seen (drop place seen)) ≡ seen = ap (take (length seen)) grown.1 ∙ take_front seen grown.0 in
      level_covers place seen closed r (subst (λ zs. Contains zs r) front m) s b

  levels_grow : (n place : ℕ) (seen : List Reached) → Grown seen (levels tests q S n place seen)
  levels_grow zero place seen = grown_none seen
  levels_grow (suc n) place seen =
      let next = fold_over (add_links tests q S) seen (drop place seen) in
      grown_on seen next (levels tests q S n (length seen) next) (level_grows (drop place seen) seen) (levels_grow n (length seen) next)

  levels_cover : (n place : ℕ) (seen : List Reached) → Closed place seen → (uses : List LinkUse) (t s : SkolemTerm) → length uses ≤ n → Covers seen t → Leads t uses s → Covers (levels tests q S n place seen) s
  levels_cover n place seen closed [] t s le covered e = grown_covers seen (levels tests q S n place seen) (levels_grow n place seen) s (subst (Covers seen) e covered)
  levels_cover zero place seen closed (u ∷ uses) t s le covered leads = absurd (omega arith)
  levels_cover (suc n) place seen closed (u ∷ uses) t s le (r, m, is) (k, used, target, middle, source, rest) =
      let b : Back r.term middle = record { given = u; link = k; is_use = used; ends = target ∙ ap made (sym is); starts = source } in
      levels_cover n (length seen) (fold_over (add_links tests q S) seen (drop place seen)) (level_closed place seen closed) uses middle s (omega arith)
      (level_covers place seen closed r m middle b) rest

  -- ---- the way back to the root

  abbrev limit : ℕ
  limit = length (links_of q)

  abbrev start : SkolemTerm → Reached
  start t = record { term = t; uses = [] }

  abbrev all : SkolemTerm → List Reached
  all t = levels tests q S limit 0 (start t ∷ [])

  all_valid : (t : SkolemTerm) → AllValid t limit (all t)
  all_valid t = weaker t (0 + limit) limit (omega arith) (all t) (levels_valid t limit 0 0 (start t ∷ []) (λ r m. elim (Contains-cons_cases (start t) [] r m) [
    | inl e ↦ subst (Valid t 0) e (refl, omega arith)
    | inr none ↦ absurd (Contains-nil r none)
  ]))

  none_closed : (t : SkolemTerm) → Closed 0 (start t ∷ [])
  none_closed t r m s b = absurd (Contains-nil r m)

  abbrev IsRootBy : Name → Reached → List LinkUse → Type 0
  IsRootBy root r uses = (r.term ≡ root_term root) × (uses ≡ r.uses)

  abbrev IsBack : Name → SkolemTerm → List LinkUse → Type 0
  IsBack root t uses = (length uses ≤ limit) × LeadBack q root S t uses

  back_to : (root : Name) (t : SkolemTerm) (uses : List LinkUse) → ((r : Reached) × Contains (all t) r × IsRootBy root r uses) → IsBack root t uses
  back_to root t uses (r, m, by) =
      let v = all_valid t r m in (
        subst (λ z. length z ≤ limit) (sym by.1) v.1,
        leads_root root uses t (subst (λ z. Leads t z (root_term root)) (sym by.1) (subst (Leads t r.uses) by.0 v.0)),
      )

  back_from : (root : Name) (t : SkolemTerm) (uses : List LinkUse) → IsBack root t uses → (r : Reached) × Contains (all t) r × (r.term ≡ root_term root)
  back_from root t uses h = levels_cover limit 0 (start t ∷ []) (none_closed t) uses t (root_term root) h.0 (start t, Contains-here (start t) [], refl) (root_leads root uses t h.1)

  joined_back : (root : Name) (t : SkolemTerm) (o : Option (List LinkUse)) → Finds (λ uses. (r : Reached) × Contains (all t) r × IsRootBy root r uses) o → Finds (IsBack root t) o
  joined_back root t None n = λ uses h. let c = back_from root t uses h in n c.0.uses (c.0, c.1, (c.2, refl))
  joined_back root t (Some uses) h = back_to root t uses h

  pub back_finds : (root : Name) (t : SkolemTerm) → Finds (λ uses. (length uses ≤ length (links_of q)) × LeadBack q root S t uses) (find_back tests q S root t)
  back_finds root t =
      joined_back root t (find_back tests q S root t)
      (first_finds (λ r. if same_term r.term (root_term root) then Some r.uses else None) (IsRootBy root) (all t)
      (λ r m. finds_if (IsRootBy root r) (r.term ≡ root_term root) (λ uses h. h.0) (same_term r.term (root_term root)) (term_decides r.term (root_term root)) (Some r.uses) (λ e. (e, refl))))
