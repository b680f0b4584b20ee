-- A query without faults, by evaluation of its checks.
use Rattle.std.proofs.Common.{◌≡◌, inl, inr, ℕ, ◌≤◌, Bool, true, false, List, [], ◌∷◌, length, refl}
use Rattle.std.proofs.Common.{Option, Some, None, arith}
use Rattle.std.specs.Prelude.{◌&&◌, ◌||◌, not, nat_le}
use Rattle.std.specs.Option.{is_none}
use Rattle.std.proofs.lemmas.Bool.Decides.{nat_tests}
use Rattle.struql_ast.specs.Written.{Condition, Link, Collect, Query}
use Rattle.struql_check.specs.declared.faults.Check.{Check}
use Rattle.struql_check.specs.declared.faults.Check.TheVariants.{TooManyPositions, LinkFromData, Reserved}
use Rattle.struql_check.specs.declared.mentions.VariableUse.{VariableUse}
use Rattle.struql_check.specs.declared.terms.SeenTerm.{SeenTerm}
use Rattle.struql_check.specs.Scope.{sort_of, ScopedBlock, scoped, chain_mentions, block_mentions, terms}
use Rattle.struql_check.specs.Faults.{SomeIn, MentionFault, ChainFault, large_place, ConditionFault}
use Rattle.struql_check.specs.Faults.{is_plain, LinkFault, is_reserved, CollectFault, BlockFault}
use Rattle.struql_check.specs.Faults.{is_created, first_arity, is_index, TermFault, IsFaultless}
use Rattle.struql_check.specs.First.{IsFirst, earlier, fault_at, broken_role}
use Rattle.struql_check.specs.Known.{names_of, differs, broken_term}
use Rattle.struql_check.proofs.Exactly.{role_first, chain_few}
use Rattle.struql_check.proofs.Firsts.{first_nil}
use Rattle.struql_check.proofs.Tables.{term_first}
use Rattle.struql_check.proofs.WalkParts.{first_cons}

both : (x y : Bool) → (x && y) ≡ true → (x ≡ true) × (y ≡ true)
both true y e = (refl, e)
both false y e = absurd cc

-- nothing has the fault
abbrev Never : (Check → ℕ → Type 0) → Type 0
Never P = (check : Check) (at : ℕ) → P check at → ⊥

-- each of the items passes the test
unfoldable pub each : {X : Type 0} → (X → Bool) → List X → Bool
each test [] = true
each test (x ∷ xs) = test x && each test xs

each_never : {X : Type 0} (F : X → Check → ℕ → Type 0) (test : X → Bool) → ((x : X) → test x ≡ true → Never (F x))
    → (xs : List X) → each test xs ≡ true → Never (SomeIn F xs)
unfolding each earlier
each_never F test one [] e = first_nil F
each_never F test one (x ∷ xs) e =
    let parts = both (test x) (each test xs) e in
    first_cons F x xs None None (one x parts.0) (each_never F test one xs parts.1)

none_is : {A : Type 0} (o : Option A) → is_none o ≡ true → o ≡ None
none_is None e = refl
none_is (Some x) e = absurd cc

not_is : (b : Bool) → not b ≡ true → b ≡ false
not_is true e = absurd cc
not_is false e = refl

never_by : (P : Check → ℕ → Type 0) (o : Option Check) (at : ℕ) → IsFirst P (fault_at o at) → is_none o ≡ true → Never P
never_by P None at first e = first
never_by P (Some check) at first e = absurd cc

-- ---- the variables of a block

unfoldable pub plays : List (List VariableUse) → VariableUse → Bool
plays round m = is_none (broken_role (sort_of round m.name) m.role)

plays_never : (round : List (List VariableUse)) (m : VariableUse) → plays round m ≡ true → Never (MentionFault round m)
unfolding plays
plays_never round m e =
    never_by (MentionFault round m) (broken_role (sort_of round m.name) m.role) m.at (role_first (sort_of round m.name) m.role m.at) e

unfoldable pub few : List VariableUse → Bool
few ms = nat_le (length (names_of ms)) 32

few_never : (ms : List VariableUse) → few ms ≡ true → Never (ChainFault ms)
unfolding few
few_never ms e = let h : length (names_of ms) ≤ 32 = grind (arith, nat_tests) in chain_few ms h

-- ---- its other clauses

unfoldable pub small : Condition → Bool
small c = is_none (large_place c)

small_never : (c : Condition) → small c ≡ true → Never (ConditionFault c)
unfolding small
small_never c e TooManyPositions at h = let none = none_is (large_place c) e in absurd cc
small_never c e check at h = h

unfoldable pub from_page : Link → Bool
from_page k = not (is_plain k.source)

from_page_never : (k : Link) → from_page k ≡ true → Never (LinkFault k)
unfolding from_page
from_page_never k e LinkFromData at h = let no = not_is (is_plain k.source) e in absurd cc
from_page_never k e check at h = h

unfoldable pub collects : ℕ → Collect → Bool
collects version o = not (is_reserved version o.collection)

collects_never : (version : ℕ) (o : Collect) → collects version o ≡ true → Never (CollectFault version o)
unfolding collects
collects_never version o e Reserved at h = let no = not_is (is_reserved version o.collection) e in absurd cc
collects_never version o e check at h = h

unfoldable pub sound_block : ℕ → ScopedBlock → Bool
sound_block version b =
    each (plays b.round) (block_mentions b.clauses) &&
    (few (chain_mentions b) &&
    (each small b.clauses.conditions && (each from_page b.clauses.links && each (collects version) b.clauses.collects)))

mentions_never : (b : ScopedBlock) → each (plays b.round) (block_mentions b.clauses) ≡ true
    → Never (SomeIn (MentionFault b.round) (block_mentions b.clauses))
mentions_never b = each_never (MentionFault b.round) (plays b.round) (plays_never b.round) (block_mentions b.clauses)

block_never : (version : ℕ) (b : ScopedBlock) → sound_block version b ≡ true → Never (BlockFault version b)
unfolding sound_block
block_never version b e check at h =
    let one = both (each (plays b.round) (block_mentions b.clauses)) _ e in
    let two = both (few (chain_mentions b)) _ one.1 in
    let three = both (each small b.clauses.conditions) _ two.1 in
    let four = both (each from_page b.clauses.links) (each (collects version) b.clauses.collects) three.1 in
    elim h as (λ _. ⊥) [
      | inl m ↦ mentions_never b one.0 check at m
      | inr h ↦ elim h as (λ _. ⊥) [
        | inl c ↦ few_never (chain_mentions b) two.0 check at c
        | inr h ↦ elim h as (λ _. ⊥) [
          | inl c ↦ each_never ConditionFault small small_never b.clauses.conditions three.0 check at c
          | inr h ↦ elim h as (λ _. ⊥) [
            | inl l ↦ each_never LinkFault from_page from_page_never b.clauses.links four.0 check at l
            | inr o ↦ each_never (CollectFault version) (collects version) (collects_never version) b.clauses.collects four.1 check at o
          ]
        ]
      ]
    ]

-- ---- terms

unfoldable pub sound_term : ℕ → List SeenTerm → SeenTerm → Bool
sound_term version all t =
    is_none (broken_term (t.linked && not (is_created all t.function)) (differs (first_arity all t.function) t.arity)
    (is_index t.function || is_reserved version t.function))

term_never : (version : ℕ) (all : List SeenTerm) (t : SeenTerm) → sound_term version all t ≡ true
    → Never (TermFault version all t)
unfolding sound_term
term_never version all t e = never_by (TermFault version all t) _ t.at (term_first version all t) e

terms_never : (version : ℕ) (all ts : List SeenTerm) → each (sound_term version all) ts ≡ true
    → Never (SomeIn (TermFault version all) ts)
terms_never version all = each_never (TermFault version all) (sound_term version all) (term_never version all)

-- ---- the whole

-- no check finds a fault
unfoldable pub sound_query : Query → Bool
sound_query q =
    each (sound_block q.version) (scoped q) && each (sound_term q.version (terms q)) (terms q)

pub sound_faultless : (q : Query) → sound_query q ≡ true → IsFaultless q
unfolding sound_query
sound_faultless q e check at h =
    let parts = both (each (sound_block q.version) (scoped q)) (each (sound_term q.version (terms q)) (terms q)) e in
    elim h as (λ _. ⊥) [
      | inl b ↦ each_never (BlockFault q.version) (sound_block q.version) (block_never q.version) (scoped q) parts.0 check at b
      | inr t ↦ terms_never q.version (terms q) (terms q) parts.1 check at t
    ]
