-- A variable that is an arc variable by its sort stands between arrows in a condition.
use Rattle.std.proofs.Common.{◌≡◌, List, [], ◌∷◌, ◌++◌, refl, sym, ap, ◌∙◌, subst, ⊎_elim}
use Rattle.std.specs.Prelude.{Bool, true, false, ◌&&◌, Some, map, Contains}
use Rattle.std.specs.List.{flat_map, list_any}
use Rattle.std.proofs.lemmas.List.Elements.{Contains-append_left, Contains-append_right, Contains-append_cases}
use Rattle.sd_value.specs.Members.{Contains-nil, Contains-cons_cases, Contains-here, Contains-there, Contains-mapped, Contains-flat_map, Contains-flat_mapped}
use Rattle.query_spec.specs.Mentions.{same_name, arc_names}
use Rattle.struql_ast.specs.declared.Operand.{Operand}
use Rattle.struql_ast.specs.declared.Operand.TheVariants as operands
use Rattle.struql_ast.specs.Written.{Name, Condition, arc_variable, expression, member, path, compare, one_of, kind, negation}
use Rattle.struql_check.specs.declared.mentions.VariableUse.{VariableUse}
use Rattle.struql_check.specs.declared.mentions.Role.{Role}
use Rattle.struql_check.specs.declared.mentions.Role.TheVariants.{Arc, End, Label, Other}
use Rattle.struql_check.specs.Scope.{operand_mentions, mentions, is_arc_role, is_in, is_between_arrows, sort_of}
use Rattle.query_spec.proofs.MentionLaws.{same_is, by_test}
use Rattle.query_scoping.proofs.Plain.{condition_plain}
use Rattle.query_scoping.proofs.Placed.{joined, round_of}
use Rattle.query_scoping.proofs.Chains.{round_joined}

any_found : {X : Type 0} (test : X → Bool) (xs : List X) → list_any test xs ≡ true → (x : X) × Contains xs x × (test x ≡ true)
any_found test [] e = absurd cc
any_found test (x ∷ xs) e =
    by_test (test x) ((y : _) × Contains (x ∷ xs) y × (test y ≡ true))
    (λ t. (x, Contains-here x xs, t))
    (λ f. let rest = any_found test xs (rw f at e) in (rest.0, Contains-there x xs rest.0 rest.1, rest.2))

both_true : (a b : Bool) → (a && b) ≡ true → (a ≡ true) × (b ≡ true)
both_true true b e = (refl, e)
both_true false b e = absurd cc

arc_role : (r : Role) → is_arc_role r ≡ true → r ≡ Arc
arc_role Arc e = refl
arc_role End e = cc
arc_role Label e = cc
arc_role Other e = cc

some_is : (a b : Bool) → Some a ≡ Some b → a ≡ b
some_is a b e = cc

-- a mention between arrows, of the name
abbrev pub HasArc : List VariableUse → Name → Type 0
HasArc ms x = (m : VariableUse) × Contains ms m × (m.role ≡ Arc) × (m.name ≡ x)

here_found : (ms : List VariableUse) (x : Name) → is_between_arrows ms x ≡ true → HasArc ms x
here_found ms x e =
    let at = any_found (λ (m : VariableUse). same_name x m.name && is_arc_role m.role) ms e in
    let both = both_true (same_name x at.0.name) (is_arc_role at.0.role) at.2 in
    (at.0, at.1, arc_role at.0.role both.1, sym (same_is x at.0.name both.0))

pub sort_found : (round : List (List VariableUse)) (x : Name) → sort_of round x ≡ Some true → HasArc (joined round) x
sort_found [] x e = cc
sort_found (here ∷ deeper) x e =
    by_test (is_in here x) (HasArc (joined (here ∷ deeper)) x)
    (λ t. let at = here_found here x (some_is (is_between_arrows here x) true (rw t at e)) in (at.0, Contains-append_left here (joined deeper) at.0 at.1, at.2, at.3))
    (λ f. let at = sort_found deeper x (rw f at e) in (at.0, Contains-append_right here (joined deeper) at.0 at.1, at.2, at.3))

operand_role : (role : Role) (o : Operand) (m : VariableUse) → Contains (operand_mentions role o) m → m.role ≡ role
operand_role role (operands.Variable y span) m h =
    ⊎_elim (λ e. ap (λ (z : VariableUse). z.role) (sym e)) (λ k. absurd (Contains-nil m k)) (Contains-cons_cases (record { name = y; role = role; at = span.start }) [] m h)
operand_role role (operands.Constant v span) m h = absurd (Contains-nil m h)

end_is_no_arc : (r : Role) → r ≡ End → r ≡ Arc → ⊥
end_is_no_arc r e f = let g : End ≡ Arc = sym e ∙ f in cc

other_is_no_arc : (r : Role) → r ≡ Other → r ≡ Arc → ⊥
other_is_no_arc r e f = let g : Other ≡ Arc = sym e ∙ f in cc

single : (n m : VariableUse) (role : Role) → n.role ≡ role → Contains (n ∷ []) m → m.role ≡ role
single n m role e h = ⊎_elim (λ g. ap (λ (z : VariableUse). z.role) (sym g) ∙ e) (λ k. absurd (Contains-nil m k)) (Contains-cons_cases n [] m h)

arc_back : (c : Condition) (m : VariableUse) → Contains (mentions c) m → m.role ≡ Arc → Contains (arc_names (condition_plain c)) m.name
arc_back (member c y x_span span) m h r = absurd (end_is_no_arc m.role (single (record { name = y; role = End; at = x_span.start }) m End refl h) r)
arc_back (path t (arc_variable y place) u span) m h r =
    let a : VariableUse = record { name = y; role = Arc; at = place.start } in
    ⊎_elim
    (λ front. ⊎_elim
    (λ k. absurd (end_is_no_arc m.role (operand_role End t m k) r))
    (λ k. ⊎_elim (λ e. subst (λ (z : VariableUse). Contains (y ∷ []) z.name) e (Contains-here y [])) (λ none. absurd (Contains-nil m none)) (Contains-cons_cases a [] m k))
    (Contains-append_cases (operand_mentions End t) (a ∷ []) m front))
    (λ k. absurd (end_is_no_arc m.role (operand_role End u m k) r))
    (Contains-append_cases (operand_mentions End t ++ a ∷ []) (operand_mentions End u) m h)
arc_back (path t (expression e place) u span) m h r =
    ⊎_elim
    (λ front. ⊎_elim
    (λ k. absurd (end_is_no_arc m.role (operand_role End t m k) r))
    (λ none. absurd (Contains-nil m none))
    (Contains-append_cases (operand_mentions End t) [] m front))
    (λ k. absurd (end_is_no_arc m.role (operand_role End u m k) r))
    (Contains-append_cases (operand_mentions End t ++ []) (operand_mentions End u) m h)
arc_back (compare t o u span) m h r =
    ⊎_elim
    (λ k. absurd (other_is_no_arc m.role (operand_role Other t m k) r))
    (λ k. absurd (other_is_no_arc m.role (operand_role Other u m k) r))
    (Contains-append_cases (operand_mentions Other t) (operand_mentions Other u) m h)
arc_back (one_of t vs span) m h r = absurd (other_is_no_arc m.role (operand_role Other t m h) r)
arc_back (kind k y x_span span) m h r = absurd (other_is_no_arc m.role (single (record { name = y; role = Other; at = x_span.start }) m Other refl h) r)
arc_back (negation c span) m h r = arc_back c m h r

pub arc_named : (levels : List (List Condition)) (x : Name) → sort_of (round_of levels) x ≡ Some true → Contains (flat_map arc_names (map condition_plain (joined levels))) x
arc_named levels x e =
    let at = sort_found (round_of levels) x e in
    let there : Contains (flat_map mentions (joined levels)) at.0 = subst (λ (l : List VariableUse). Contains l at.0) (round_joined levels) at.1 in
    let c = Contains-flat_map mentions (joined levels) at.0 there in
    let own = arc_back c.0 at.0 c.2 at.2 in
    subst (Contains (flat_map arc_names (map condition_plain (joined levels)))) at.3
    (Contains-flat_mapped arc_names (map condition_plain (joined levels)) (condition_plain c.0) at.0.name (Contains-mapped condition_plain (joined levels) c.0 c.1) own)
