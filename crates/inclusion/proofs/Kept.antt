-- Lists of expressions that grow.
use Rattle.std.proofs.Common.{◌≡◌, List, [], ◌∷◌, ◌++◌, refl, sym, subst, length, get_or, take, ◌<◌, ◌≤◌, ◌+◌, ℕ, ◌∙◌}
use Rattle.std.specs.Prelude.{Bool, true, false, ◌||◌, map, All, Contains}
use Rattle.std.specs.List.{list_any}
use Rattle.std.proofs.lemmas.List.{map-append, take_all}
use Rattle.std.proofs.lemmas.List.Elements.{Contains-push, All-weaker, All-more, All-map, All-contains}
use Rattle.sd_value.specs.Members.{Contains-here, Contains-there}
use Rattle.rpe.specs.declared.Rpe.{Rpe}
use Rattle.rpe.specs.Regex.{Regex}
use Rattle.rpe.specs.Reading.{regex_of}
use Rattle.query_spec.specs.Query.{Condition, member, path, compare, one_of, kind, negation, arc_variable, expression, Body}
use Rattle.query_blocks.specs.declared.QueryBlocks.{QueryBlocks}
use Rattle.query_blocks.specs.Blocks.{body_of, scope_of}
use Rattle.query_parts.specs.Same.{same_regex}
use Rattle.constraint_recheck.specs.Entails.{IsKnown, AreKnown}
use Rattle.query_parts.proofs.Same.{regex_decides}
use Rattle.inclusion.specs.Known.{Keeps, IsKnownBody, AreKnownBlocks}

by_test : (all : List Rpe) (e : Rpe) (r : Regex) (b rest : Bool) → (b ≡ true → regex_of e ≡ r) → (rest ≡ true → Contains (map regex_of all) r) → (b || rest) ≡ true → Contains (regex_of e ∷ map regex_of all) r
by_test all e r true rest is later k = subst (Contains (regex_of e ∷ map regex_of all)) (is refl) (Contains-here (regex_of e) (map regex_of all))
by_test all e r false rest is later k = Contains-there (regex_of e) (map regex_of all) r (later k)

found_there : (all : List Rpe) (r : Regex) → list_any (λ e. same_regex (regex_of e) r) all ≡ true → Contains (map regex_of all) r
found_there [] r h = absurd (let f : ⊥ = cc in f)
found_there (e ∷ all) r h = by_test all e r (same_regex (regex_of e) r) (list_any (λ e. same_regex (regex_of e) r) all) (regex_decides (regex_of e) r).0 (found_there all r) h

-- an expression that a scan finds is there
pub found_scanned : (all scanned : List Rpe) (r : Regex) (b : Bool) → scanned ≡ all → b ≡ list_any (λ e. same_regex (regex_of e) r) scanned → b ≡ true → Contains (map regex_of all) r
found_scanned all scanned r b same is t = found_there all r (subst (λ l. list_any (λ e. same_regex (regex_of e) r) l ≡ true) same (sym is ∙ t))

pub has_pushed : (all : List Rpe) (e : Rpe) (r : Regex) → regex_of e ≡ r → Contains (map regex_of (all ++ e ∷ [])) r
has_pushed all e r is = subst (λ l. Contains l r) (sym (map-append regex_of all (e ∷ []))) (subst (Contains (map regex_of all ++ regex_of e ∷ [])) is (Contains-push (map regex_of all) (regex_of e)))

-- what is known stays known
pub known_kept : (old new : List Rpe) → Keeps old new → (c : Condition) → IsKnown (Contains (map regex_of old)) c → IsKnown (Contains (map regex_of new)) c
known_kept old new k (path t (expression r) u) h = k r h
known_kept old new k (path t (arc_variable a) u) h = tt
known_kept old new k (negation c) h = known_kept old new k c h
known_kept old new k (member c x) h = tt
known_kept old new k (compare t op u) h = tt
known_kept old new k (one_of t vs) h = tt
known_kept old new k (kind test x) h = tt

-- a loop's step: one item more, whose expressions are known to the new list
pub all_known_more : {X : Type 0} (P : List Rpe → X → Type 0) → ((old new : List Rpe) → Keeps old new → (x : X) → P old x → P new x) → (old new : List Rpe) → Keeps old new → (xs : List X) (i : ℕ) (x : X) → i < length xs → x ≡ get_or xs i x → All (P old) (take i xs) → P new x → All (P new) (take (i + 1) xs)
all_known_more P keep old new k xs i x lt is before here =
    All-more (P new) xs i x lt (All-weaker (P old) (P new) (keep old new k) (take i xs) before) (subst (P new) is here)

-- and its end
pub all_of_taken : {X : Type 0} (P : X → Type 0) (xs : List X) (i : ℕ) → length xs ≤ i → All P (take i xs) → All P xs
all_of_taken P xs i le h = subst (All P) (take_all i xs le) h

pub body_kept : (old new : List Rpe) → Keeps old new → (b : Body) → IsKnownBody old b → IsKnownBody new b
body_kept old new k b h = All-weaker (IsKnown (Contains (map regex_of old))) (IsKnown (Contains (map regex_of new))) (known_kept old new k) b.conditions h

-- the query's expressions are known where those of its blocks are
pub query_known : (all : List Rpe) (q : QueryBlocks) → AreKnownBlocks all q.blocks.items → AreKnown (Contains (map regex_of all)) (scope_of q)
query_known all q h b m = All-contains (IsKnownBody all) (map body_of q.blocks.items) b (All-map (IsKnownBody all) body_of q.blocks.items h) m
