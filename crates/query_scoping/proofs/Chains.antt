-- The chain of a block in a query without faults.
use Rattle.std.proofs.Common.{◌≡◌, ℕ, List, [], ◌∷◌, ◌++◌, refl, sym, ap, ◌∙◌, subst, append_assoc, ⊎_elim}
use Rattle.std.specs.Prelude.{true, false, map, Contains, Some}
use Rattle.std.specs.List.{flat_map, list_any}
use Rattle.std.proofs.lemmas.List.{map-append}
use Rattle.std.proofs.lemmas.List.Elements.{Contains-append_left, Contains-append_right, Contains-append_cases}
use Rattle.sd_value.specs.Members.{Contains-nil, Contains-cons_cases, Contains-here, Contains-there}
use Rattle.query_spec.specs.Query as plain
use Rattle.query_spec.specs.Mentions.{same_name, operand_names, names, arc_names, node_names, first_mentions}
use Rattle.struql_ast.specs.declared.Operand.{Operand}
use Rattle.struql_ast.specs.declared.Operand.TheVariants as operands
use Rattle.struql_ast.specs.Reading.{operand_of}
use Rattle.struql_ast.specs.Written.{Name, Condition, arc_variable, expression, member, path, compare, one_of, kind, negation}
use Rattle.struql_check.specs.declared.mentions.VariableUse.{VariableUse}
use Rattle.struql_check.specs.declared.mentions.Role.{Role}
use Rattle.struql_check.specs.declared.mentions.Role.TheVariants.{Arc, End, Other}
use Rattle.struql_check.specs.Scope.{operand_mentions, step_mentions, mentions, sort_of}
use Rattle.query_spec.proofs.MentionLaws.{same_is, same_itself, by_test, any_first}
use Rattle.query_scoping.proofs.Plain.{condition_plain}
use Rattle.query_scoping.proofs.Placed.{joined, round_of}
use Rattle.query_scoping.proofs.Sorts.{IsSound}

abbrev pub name_of : VariableUse → Name
name_of m = m.name

operand_same : (role : Role) (o : Operand) → operand_names (operand_of o) ≡ map name_of (operand_mentions role o)
operand_same role (operands.Variable x span) = refl
operand_same role (operands.Constant v span) = refl

-- the names of a condition are those of its mentions
pub names_same : (c : Condition) → names (condition_plain c) ≡ map name_of (mentions c)
names_same (member c x x_span span) = refl
names_same (path t (arc_variable x place) u span) =
    rw (operand_same End t, operand_same End u, map-append name_of (operand_mentions End t ++ step_mentions (arc_variable x place)) (operand_mentions End u), map-append name_of (operand_mentions End t) (step_mentions (arc_variable x place))) refl
names_same (path t (expression r place) u span) =
    rw (operand_same End t, operand_same End u, map-append name_of (operand_mentions End t ++ []) (operand_mentions End u), map-append name_of (operand_mentions End t) []) refl
names_same (compare t o u span) = rw (operand_same Other t, operand_same Other u, map-append name_of (operand_mentions Other t) (operand_mentions Other u)) refl
names_same (one_of t vs span) = operand_same Other t
names_same (kind k x x_span span) = refl
names_same (negation c span) = names_same c

pub all_names_same : (cs : List Condition) → flat_map names (map condition_plain cs) ≡ map name_of (flat_map mentions cs)
all_names_same [] = refl
all_names_same (c ∷ cs) = rw (names_same c, all_names_same cs, map-append name_of (mentions c) (flat_map mentions cs)) refl

-- a mention of the role, with the name
abbrev pub HasRole : Role → List VariableUse → Name → Type 0
HasRole role ms x = (m : VariableUse) × Contains ms m × (m.role ≡ role) × (m.name ≡ x)

role_left : (role : Role) (ms ns : List VariableUse) (x : Name) → HasRole role ms x → HasRole role (ms ++ ns) x
role_left role ms ns x h = (h.0, Contains-append_left ms ns h.0 h.1, h.2, h.3)

role_right : (role : Role) (ms ns : List VariableUse) (x : Name) → HasRole role ns x → HasRole role (ms ++ ns) x
role_right role ms ns x h = (h.0, Contains-append_right ms ns h.0 h.1, h.2, h.3)

one_of_role : (role : Role) (x y : Name) (at : ℕ) → Contains (x ∷ []) y → HasRole role (record { name = x; role = role; at = at } ∷ []) y
one_of_role role x y at h =
    ⊎_elim (λ e. (record { name = x; role = role; at = at }, Contains-here _ [], refl, e)) (λ k. absurd (Contains-nil y k)) (Contains-cons_cases x [] y h)

operand_role : (role : Role) (o : Operand) (x : Name) → Contains (operand_names (operand_of o)) x → HasRole role (operand_mentions role o) x
operand_role role (operands.Variable y span) x h = one_of_role role y x span.start h
operand_role role (operands.Constant v span) x h = absurd (Contains-nil x h)

arcs_role : (c : Condition) (x : Name) → Contains (arc_names (condition_plain c)) x → HasRole Arc (mentions c) x
arcs_role (member c y x_span span) x h = absurd (Contains-nil x h)
arcs_role (path t (arc_variable y place) u span) x h =
    role_left Arc (operand_mentions End t ++ step_mentions (arc_variable y place)) (operand_mentions End u) x
    (role_right Arc (operand_mentions End t) (step_mentions (arc_variable y place)) x (one_of_role Arc y x place.start h))
arcs_role (path t (expression r place) u span) x h = absurd (Contains-nil x h)
arcs_role (compare t o u span) x h = absurd (Contains-nil x h)
arcs_role (one_of t vs span) x h = absurd (Contains-nil x h)
arcs_role (kind k y x_span span) x h = absurd (Contains-nil x h)
arcs_role (negation c span) x h = arcs_role c x h

nodes_role : (c : Condition) (x : Name) → Contains (node_names (condition_plain c)) x → HasRole End (mentions c) x
nodes_role (member c y x_span span) x h = one_of_role End y x x_span.start h
nodes_role (path t s u span) x h =
    ⊎_elim
    (λ k. role_left End (operand_mentions End t ++ step_mentions s) (operand_mentions End u) x (role_left End (operand_mentions End t) (step_mentions s) x (operand_role End t x k)))
    (λ k. role_right End (operand_mentions End t ++ step_mentions s) (operand_mentions End u) x (operand_role End u x k))
    (Contains-append_cases (operand_names (operand_of t)) (operand_names (operand_of u)) x h)
nodes_role (compare t o u span) x h = absurd (Contains-nil x h)
nodes_role (one_of t vs span) x h = absurd (Contains-nil x h)
nodes_role (kind k y x_span span) x h = absurd (Contains-nil x h)
nodes_role (negation c span) x h = nodes_role c x h

all_role : (f : plain.Condition → List Name) (role : Role) → ((c : Condition) (x : Name) → Contains (f (condition_plain c)) x → HasRole role (mentions c) x)
    → (cs : List Condition) (x : Name) → Contains (flat_map f (map condition_plain cs)) x → HasRole role (flat_map mentions cs) x
all_role f role each [] x h = absurd (Contains-nil x h)
all_role f role each (c ∷ cs) x h =
    ⊎_elim
    (λ k. role_left role (mentions c) (flat_map mentions cs) x (each c x k))
    (λ k. role_right role (mentions c) (flat_map mentions cs) x (all_role f role each cs x k))
    (Contains-append_cases (f (condition_plain c)) (flat_map f (map condition_plain cs)) x h)

-- the mentions of all levels
pub round_joined : (levels : List (List Condition)) → joined (round_of levels) ≡ flat_map mentions (joined levels)
round_joined [] = refl
round_joined (cs ∷ levels) = ap (λ l. flat_map mentions cs ++ l) (round_joined levels) ∙ sym (flat_append cs (joined levels)) where
  flat_append : (cs ds : List Condition) → flat_map mentions (cs ++ ds) ≡ flat_map mentions cs ++ flat_map mentions ds
  flat_append [] ds = refl
  flat_append (c ∷ cs) ds = ap (λ l. mentions c ++ l) (flat_append cs ds) ∙ sym (append_assoc (mentions c) (flat_map mentions cs) (flat_map mentions ds))

-- no name is both an end and an arc
pub never_both : (levels : List (List Condition)) (x : Name) → IsSound (round_of levels)
    → Contains (flat_map node_names (map condition_plain (joined levels))) x → Contains (flat_map arc_names (map condition_plain (joined levels))) x → ⊥
never_both levels x s n a =
    let ms = joined (round_of levels) in
    let at_end = all_role node_names End nodes_role (joined levels) x n in
    let at_arc = all_role arc_names Arc arcs_role (joined levels) x a in
    let e = s.ends at_end.0 (subst (λ (l : List VariableUse). Contains l at_end.0) (sym (round_joined levels)) at_end.1) at_end.2 in
    let f = s.arcs at_arc.0 (subst (λ (l : List VariableUse). Contains l at_arc.0) (sym (round_joined levels)) at_arc.1) at_arc.2 in
    let e' : sort_of (round_of levels) x ≡ Some false = subst (λ (y : Name). sort_of (round_of levels) y ≡ Some false) at_end.3 e in
    let f' : sort_of (round_of levels) x ≡ Some true = subst (λ (y : Name). sort_of (round_of levels) y ≡ Some true) at_arc.3 f in
    cc

-- ---- names each once

pub any_contains : (x : Name) (xs : List Name) → list_any (same_name x) xs ≡ true → Contains xs x
any_contains x [] t = absurd cc
any_contains x (y ∷ ys) t =
    by_test (same_name x y) (Contains (y ∷ ys) x)
    (λ e. subst (λ (z : Name). Contains (y ∷ ys) z) (sym (same_is x y e)) (Contains-here y ys))
    (λ f. Contains-there y ys x (any_contains x ys (rw f at t)))

pub contains_any : (x : Name) (xs : List Name) → Contains xs x → list_any (same_name x) xs ≡ true
contains_any x [] h = absurd (Contains-nil x h)
contains_any x (y ∷ ys) h =
    ⊎_elim
    (λ e. (let s : same_name x y ≡ true = subst (λ (z : Name). same_name x z ≡ true) (sym e) (same_itself x) in rw s refl))
    (λ k. by_test (same_name x y) (list_any (same_name x) (y ∷ ys) ≡ true) (λ t. rw t refl) (λ f. rw f (contains_any x ys k)))
    (Contains-cons_cases y ys x h)

pub first_to : (xs : List Name) (x : Name) → Contains xs x → Contains (first_mentions xs) x
first_to xs x h = any_contains x (first_mentions xs) (any_first x xs ∙ contains_any x xs h)

pub first_from : (xs : List Name) (x : Name) → Contains (first_mentions xs) x → Contains xs x
first_from xs x h = any_contains x xs (sym (any_first x xs) ∙ contains_any x (first_mentions xs) h)
