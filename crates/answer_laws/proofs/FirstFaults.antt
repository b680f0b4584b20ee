-- A query that is written has no fault, or a first one: each part has one or none, and of two the earlier is the first.
use Rattle.std.proofs.Common.{◌≡◌, ◌⊎◌, ℕ, ◌≤◌, ◌<◌, Bool, true, false, List, [], ◌∷◌, ◌++◌, length, refl, sym, ap, subst, ◌∙◌, inl, inr, arith, length-append, append_assoc, Option, Some, None}
use Rattle.std.specs.Prelude.{nat_lt, ◌||◌, ◌&&◌, not}
use Rattle.std.specs.List.{list_any}
use Rattle.std.proofs.lemmas.Bool.Decides.{nat_tests}
use Rattle.std.proofs.lemmas.List.{append-nil}
use Rattle.query_spec.specs.Mentions.{same_name}
use Rattle.struql_ast.specs.Written.{Condition, Link, Collect, Query}
use Rattle.struql_check.specs.declared.faults.Check.{Check}
use Rattle.struql_check.specs.declared.faults.Check.TheVariants.{TooManyPositions, LinkFromData, Reserved, TooManyVariables}
use Rattle.struql_check.specs.declared.faults.Fault.{Fault}
use Rattle.struql_check.specs.declared.mentions.VariableUse.{VariableUse}
use Rattle.struql_check.specs.declared.terms.SeenTerm.{SeenTerm}
use Rattle.struql_check.specs.Scope.{sort_of, ScopedBlock, scoped, chain_mentions, block_mentions, terms}
use Rattle.struql_check.specs.Faults.{SomeIn, MentionFault, IsPast, ChainFault, large_place, ConditionFault, is_plain, LinkFault, is_reserved, CollectFault, BlockFault}
use Rattle.struql_check.specs.Faults.{is_created, first_arity, is_index, TermFault, Faulty}
use Rattle.struql_check.specs.First.{IsFirst, earlier, fault_at, broken_role}
use Rattle.struql_check.specs.Known.{names_of, differs, broken_term}
use Rattle.struql_check.proofs.ChainNames.{past_here, past_more}
use Rattle.struql_check.proofs.Exactly.{role_first, chain_past, chain_few}
use Rattle.struql_check.proofs.Firsts.{first_exactly, first_both, first_nil}
use Rattle.struql_check.proofs.NameLists.{names_new, names_known}
use Rattle.struql_check.proofs.Tables.{term_first}
use Rattle.struql_check.proofs.WalkParts.{first_cons}

-- there is a first fault, or none
abbrev pub HasFirst : (Check → ℕ → Type 0) → Type 0
HasFirst P = (o : Option Fault) × IsFirst P o

both : (P Q : Check → ℕ → Type 0) → HasFirst P → HasFirst Q → HasFirst (λ check at. P check at ⊎ Q check at)
both P Q a b = (earlier a.0 b.0, first_both P Q a.0 b.0 a.1 b.1)

in_all : {X : Type 0} (F : X → Check → ℕ → Type 0) → ((x : X) → HasFirst (F x)) → (xs : List X) → HasFirst (SomeIn F xs)
in_all F first [] = (None, first_nil F)
in_all F first (x ∷ xs) =
    let a = first x in
    let b = in_all F first xs in
    (earlier a.0 b.0, first_cons F x xs a.0 b.0 a.1 b.1)

-- where there is this one fault, or none, as a test says
if_so : (P : Check → ℕ → Type 0) (test : Bool) (f : Fault) → (test ≡ true → P f.check f.at)
    → ((check : Check) (at : ℕ) → P check at → (test ≡ true) × (Some f ≡ Some (record { check = check; at = at }))) → HasFirst P
if_so P true f is told = (
  Some f,
  first_exactly P (Some f) (λ check at h. (told check at h).1) (λ g e. let same : f ≡ g = cc in subst (λ (k : Fault). P k.check k.at) same (is refl)),
)
if_so P false f is told = (None, λ check at h. let wrong = (told check at h).0 in cc)

-- ---- the parts of a block

in_mention : (round : List (List VariableUse)) (x : VariableUse) → HasFirst (MentionFault round x)
in_mention round x = (fault_at (broken_role (sort_of round x.name) x.role) x.at, role_first (sort_of round x.name) x.role x.at)

in_condition : (c : Condition) → HasFirst (ConditionFault c)
in_condition c = by (large_place c) refl
  where
    told : (here : ℕ) → large_place c ≡ Some here → (check : Check) (at : ℕ) → ConditionFault c check at
        → (true ≡ true) × (◌≡◌ {A = Option Fault} (Some (record { check = TooManyPositions; at = here })) (Some (record { check = check; at = at })))
    told here is TooManyPositions at h =
        let same : Some here ≡ Some at = sym is ∙ h in
        let there : here ≡ at = cc in
        (refl, ap (λ p. Some (record { check = TooManyPositions; at = p })) there)
    told here is check at h = absurd h

    never : large_place c ≡ None → (check : Check) (at : ℕ) → ConditionFault c check at → ⊥
    never is TooManyPositions at h = let wrong : None ≡ Some at = sym is ∙ h in cc
    never is check at h = h

    by : (o : Option ℕ) → large_place c ≡ o → HasFirst (ConditionFault c)
    by None is = (None, never is)
    by (Some here) is = if_so (ConditionFault c) true (record { check = TooManyPositions; at = here }) (λ _. is) (told here is)

in_link : (k : Link) → HasFirst (LinkFault k)
in_link k = if_so (LinkFault k) (is_plain k.source) (record { check = LinkFromData; at = k.span.start }) (λ is. (is, refl)) told
  where
    told : (check : Check) (at : ℕ) → LinkFault k check at
        → (is_plain k.source ≡ true) × (◌≡◌ {A = Option Fault} (Some (record { check = LinkFromData; at = k.span.start })) (Some (record { check = check; at = at })))
    told LinkFromData at h = (h.0, ap (λ p. Some (record { check = LinkFromData; at = p })) (sym h.1))
    told check at h = absurd h

in_collect : (version : ℕ) (o : Collect) → HasFirst (CollectFault version o)
in_collect version o = if_so (CollectFault version o) (is_reserved version o.collection) (record { check = Reserved; at = o.span.start }) (λ is. (is, refl)) told
  where
    told : (check : Check) (at : ℕ) → CollectFault version o check at
        → (is_reserved version o.collection ≡ true) × (◌≡◌ {A = Option Fault} (Some (record { check = Reserved; at = o.span.start })) (Some (record { check = check; at = at })))
    told Reserved at h = (h.0, ap (λ p. Some (record { check = Reserved; at = p })) (sym h.1))
    told check at h = absurd h

-- ---- the variables of a chain

abbrev FewOrPast : List VariableUse → Type 0
FewOrPast ms = (length (names_of ms) ≤ 32) ⊎ ((at : ℕ) × IsPast ms at)

few_or_past : (before ms : List VariableUse) → length (names_of before) ≤ 32 → FewOrPast (before ++ ms)
few_or_past before [] few = subst FewOrPast (sym (append-nil before)) (inl few)
few_or_past before (m ∷ ms) few =
    subst FewOrPast (append_assoc before (m ∷ []) ms)
    (by (few_or_past (before ++ m ∷ []) ms) (list_any (same_name m.name) (names_of before)) refl (nat_lt (length (names_of before)) 32) refl)
  where
    by : (length (names_of (before ++ m ∷ [])) ≤ 32 → FewOrPast ((before ++ m ∷ []) ++ ms))
        → (known : Bool) → list_any (same_name m.name) (names_of before) ≡ known
        → (room : Bool) → nat_lt (length (names_of before)) 32 ≡ room → FewOrPast ((before ++ m ∷ []) ++ ms)
    by more true is room has = more (let same = ap length (names_known before m is) in omega (arith, same, few))
    by more false is true has =
        let less : length (names_of before) < 32 = grind (arith, nat_tests) in
        let same = ap length (names_new before m is) in
        let one = length-append (names_of before) (m.name ∷ []) in
        more (omega (arith, same, one, less))
    by more false is false has =
        let most : 32 ≤ length (names_of before) = grind (arith, nat_tests) in
        inr (m.at, past_more (before ++ m ∷ []) ms m.at (past_here before m (names_of before) refl few most is))

in_chain : (ms : List VariableUse) → HasFirst (ChainFault ms)
in_chain ms = by (few_or_past [] ms (omega arith))
  where
    by : FewOrPast ms → HasFirst (ChainFault ms)
    by (inl few) = (None, chain_few ms few)
    by (inr past) = (Some (record { check = TooManyVariables; at = past.0 }), chain_past ms past.0 past.1)

-- ---- blocks, terms and the query

in_block : (version : ℕ) (b : ScopedBlock) → HasFirst (BlockFault version b)
in_block version b =
    both (SomeIn (MentionFault b.round) (block_mentions b.clauses)) _
    (in_all (MentionFault b.round) (in_mention b.round) (block_mentions b.clauses))
    (both (ChainFault (chain_mentions b)) _ (in_chain (chain_mentions b))
    (both (SomeIn ConditionFault b.clauses.conditions) _ (in_all ConditionFault in_condition b.clauses.conditions)
    (both (SomeIn LinkFault b.clauses.links) (SomeIn (CollectFault version) b.clauses.collects) (in_all LinkFault in_link b.clauses.links)
    (in_all (CollectFault version) (in_collect version) b.clauses.collects))))

in_term : (version : ℕ) (all : List SeenTerm) (t : SeenTerm) → HasFirst (TermFault version all t)
in_term version all t = (
  fault_at (broken_term (t.linked && not (is_created all t.function)) (differs (first_arity all t.function) t.arity) (is_index t.function || is_reserved version t.function)) t.at,
  term_first version all t,
)

pub first_fault : (q : Query) → HasFirst (Faulty q)
first_fault q =
    both (SomeIn (BlockFault q.version) (scoped q)) (SomeIn (TermFault q.version (terms q)) (terms q))
    (in_all (BlockFault q.version) (in_block q.version) (scoped q))
    (in_all (TermFault q.version (terms q)) (in_term q.version (terms q)) (terms q))
