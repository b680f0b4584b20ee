-- Each block of a query without faults is safe.
use Rattle.std.proofs.Common.{◌≡◌, ℕ, ◌<◌, ◌≤◌, ◌^◌, List, [], ◌∷◌, ◌++◌, length, refl, sym, ap, ◌∙◌, subst, ⊎_elim, inl, inr, arith}
use Rattle.std.specs.Prelude.{true, nat_lt, map, Contains, All, Some, None, if◌then◌else◌}
use Rattle.std.specs.List.{flat_map, list_any}
use Rattle.std.proofs.lemmas.Bool.Decides.{nat_tests}
use Rattle.std.proofs.lemmas.List.{map-append}
use Rattle.std.proofs.lemmas.List.Elements.{All-nil, All-cons, All-append, All-map, Contains-append_left, Contains-append_right, Contains-append_cases}
use Rattle.sd_value.specs.Members.{Contains-nil, Contains-cons_cases, Contains-here, Contains-there, Contains-map, Contains-flat_map, Contains-flat_mapped}
use Rattle.rpe.specs.Language.{positions}
use Rattle.query_spec.specs.declared.Variable.{Variable}
use Rattle.query_spec.specs.Query as plain
use Rattle.query_spec.specs.Mentions.{same_name, names, variables_of, IsDeclared, IsFlat, condition_positions, IsVersion}
use Rattle.site_spec.specs.Site as site
use Rattle.struql_ast.specs.declared.Operand.{Operand}
use Rattle.struql_ast.specs.declared.Operand.TheVariants as operands
use Rattle.struql_ast.specs.Reading.{operand_of}
use Rattle.struql_ast.specs.Written as written
use Rattle.struql_ast.specs.Written.{Name, Condition, member, path, compare, one_of, kind, negation, arc_variable, expression, Term, made, Link, Collect, Clauses, Blocks, no_blocks, block}
use Rattle.struql_check.specs.declared.faults.Check.{Check}
use Rattle.struql_check.specs.declared.faults.Check.TheVariants.{TooManyPositions, Unbound, LinkFromData, TooManyVariables}
use Rattle.struql_check.specs.declared.mentions.VariableUse.{VariableUse}
use Rattle.struql_check.specs.declared.mentions.Role.TheVariants.{Other}
use Rattle.struql_check.specs.Scope.{operand_mentions, mentions, term_mentions, target_mentions, label_mentions, link_mentions, collect_mentions, uses}
use Rattle.struql_check.specs.Faults.{SomeIn, MentionFault, large_place}
use Rattle.query_blocks.specs.Blocks.{IsMade}
use Rattle.query_scoping.specs.Blocks.{IsSafe}
use Rattle.query_spec.proofs.MentionLaws.{by_test}
use Rattle.struql_check.proofs.NameLists.{in_names}
use Rattle.query_scoping.proofs.Plain.{condition_plain, term_plain, target_plain, link_plain, collect_plain, clauses_plain}
use Rattle.query_scoping.proofs.Placed.{Placed, joined, round_of, body_at, joined_push}
use Rattle.query_scoping.proofs.Sorts.{IsSound, NoFault, sound_step, sorted_in}
use Rattle.query_scoping.proofs.Chains.{name_of, all_names_same, round_joined, any_contains}
use Rattle.query_scoping.proofs.WellMade.{all_of, chain_conditions, well_made}

-- ---- what is kept on the way down to a block

pub record IsKept (levels : List (List Condition)) : Type 0 where
  pub sound : IsSound (round_of levels)
  pub small : All (λ k. condition_positions k ≤ 256) (chain_conditions levels)
  pub flat : All IsFlat (chain_conditions levels)

pub record IsFine (version : ℕ) (p : Placed) : Type 0 where
  pub faultless : NoFault version p
  pub flat : All IsFlat (map condition_plain p.clauses.conditions)

small_positions : (n place : ℕ) → ((at : ℕ) → (if nat_lt 256 n then Some place else None) ≡ Some at → ⊥) → n ≤ 256
small_positions n place h =
    by_test (nat_lt 256 n) (n ≤ 256)
    (λ t. absurd (h place (rw t refl)))
    (λ f. grind (arith, nat_tests))

small_condition : (c : Condition) → ((at : ℕ) → large_place c ≡ Some at → ⊥) → condition_positions (condition_plain c) ≤ 256
small_condition (member c x x_span span) h = omega arith
small_condition (path t (arc_variable x place) u span) h = omega arith
small_condition (path t (expression r place) u span) h = small_positions (positions r) place.start h
small_condition (compare t o u span) h = omega arith
small_condition (one_of t vs span) h = omega arith
small_condition (kind k x x_span span) h = omega arith
small_condition (negation c span) h = small_condition c h

chain_push : (levels : List (List Condition)) (cs : List Condition) → chain_conditions (levels ++ cs ∷ []) ≡ chain_conditions levels ++ map condition_plain cs
chain_push levels cs = ap (map condition_plain) (joined_push levels cs) ∙ map-append condition_plain (joined levels) cs

pub kept_step : (version : ℕ) (levels : List (List Condition)) (c : Clauses) → IsKept levels → IsFine version (record { levels = levels ++ c.conditions ∷ []; clauses = c }) → IsKept (levels ++ c.conditions ∷ [])
kept_step version levels c k n =
    let here = levels ++ c.conditions ∷ [] in
    let own = flat_map mentions c.conditions in
    let e : round_of here ≡ round_of levels ++ own ∷ [] = map-append (flat_map mentions) levels (c.conditions ∷ []) in
    let never : (check : Check) (at : ℕ) → SomeIn (MentionFault (round_of levels ++ own ∷ [])) own check at → ⊥ = λ check at h.
    n.faultless check at (inl (h.0, Contains-append_left own (uses c) h.0 h.1, subst (λ (r : List (List VariableUse)). MentionFault r h.0 check at) (sym e) h.2)) in
    record {
      sound = subst IsSound (sym e) (sound_step (round_of levels) own k.sound never);
      small = rw (chain_push levels c.conditions) (All-append (λ q. condition_positions q ≤ 256) (chain_conditions levels) (map condition_plain c.conditions) k.small
          (All-map (λ q. condition_positions q ≤ 256) condition_plain c.conditions
          (all_of (λ q. condition_positions (condition_plain q) ≤ 256) c.conditions (λ q h. small_condition q (λ at l. n.faultless TooManyPositions at (inr (inr (inl (q, h, l)))))))));
      flat = rw (chain_push levels c.conditions) (All-append IsFlat (chain_conditions levels) (map condition_plain c.conditions) k.flat n.flat);
    }

pub kept_none : IsKept []
kept_none = record {
  sound = record { ends = λ m h role. absurd (Contains-nil m h); arcs = λ m h role. absurd (Contains-nil m h) };
  small = All-nil (λ k. condition_positions k ≤ 256);
  flat = All-nil IsFlat;
}

-- ---- the terms of a block

abbrev pub IsNamed : List Variable → Name → Type 0
IsNamed variables x = Contains (map (λ v. v.name) variables) x

args_declared : (vs : List Variable) (args : List Operand) → ((m : VariableUse) → Contains (flat_map (operand_mentions Other) args) m → IsNamed vs m.name) → All (IsDeclared vs) (map operand_of args)
args_declared vs [] h = All-nil (IsDeclared vs)
args_declared vs (operands.Variable x span ∷ os) h =
    All-cons (IsDeclared vs) (plain.variable x) (map operand_of os) (h (record { name = x; role = Other; at = span.start }) (Contains-here _ (flat_map (operand_mentions Other) os)))
    (args_declared vs os (λ m k. h m (Contains-there _ (flat_map (operand_mentions Other) os) m k)))
args_declared vs (operands.Constant v span ∷ os) h = All-cons (IsDeclared vs) (plain.constant v) (map operand_of os) tt (args_declared vs os h)

target_declared : (vs : List Variable) (g : written.Target) (t : plain.SkolemTerm) → Contains (site.target_terms (target_plain g)) t → ((m : VariableUse) → Contains (target_mentions g) m → IsNamed vs m.name) → All (IsDeclared vs) t.args
target_declared vs (written.plain o) t h u = absurd (Contains-nil t h)
target_declared vs (written.summed a span) t h u = absurd (Contains-nil t h)
target_declared vs (made w) t h u =
    ⊎_elim (λ e. subst (λ (s : plain.SkolemTerm). All (IsDeclared vs) s.args) e (args_declared vs w.args u)) (λ k. absurd (Contains-nil t k)) (Contains-cons_cases (term_plain w) [] t h)

link_declared : (vs : List Variable) (k : Link) (t : plain.SkolemTerm) → Contains (site.ends_of (link_plain k)) t → ((m : VariableUse) → Contains (link_mentions k) m → IsNamed vs m.name) → All (IsDeclared vs) t.args
link_declared vs k t h u =
    let s = target_mentions k.source in
    let l = label_mentions k.label in
    let g = target_mentions k.target in
    ⊎_elim
    (λ i. target_declared vs k.source t i (λ m n. u m (Contains-append_left (s ++ l) g m (Contains-append_left s l m n))))
    (λ i. target_declared vs k.target t i (λ m n. u m (Contains-append_right (s ++ l) g m n)))
    (Contains-append_cases (site.target_terms (target_plain k.source)) (site.target_terms (target_plain k.target)) t h)

pub terms_declared : (vs : List Variable) (c : Clauses) (ks : List plain.Condition) (t : plain.SkolemTerm) → Contains (site.terms_of (record (clauses_plain c) { conditions = ks })) t → ((m : VariableUse) → Contains (uses c) m → IsNamed vs m.name) → All (IsDeclared vs) t.args
terms_declared vs c ks t h u =
    let a = flat_map term_mentions c.creates in
    let b = flat_map link_mentions c.links in
    let d = flat_map collect_mentions c.collects in
    let by_create : Contains (map term_plain c.creates) t → All (IsDeclared vs) t.args = λ i.
    (let o = Contains-map term_plain c.creates t i in
    subst (λ (s : plain.SkolemTerm). All (IsDeclared vs) s.args) o.1
    (args_declared vs o.0.args (λ m n. u m (Contains-append_left (a ++ b) d m (Contains-append_left a b m (Contains-flat_mapped term_mentions c.creates o.0 m o.2 n)))))) in
    let by_link : Contains (flat_map site.ends_of (map link_plain c.links)) t → All (IsDeclared vs) t.args = λ i.
    (let f = Contains-flat_map site.ends_of (map link_plain c.links) t i in
    let o = Contains-map link_plain c.links f.0 f.1 in
    link_declared vs o.0 t (subst (λ (k : plain.Link). Contains (site.ends_of k) t) (sym o.1) f.2)
    (λ m n. u m (Contains-append_left (a ++ b) d m (Contains-append_right a b m (Contains-flat_mapped link_mentions c.links o.0 m o.2 n))))) in
    let by_collect : Contains (flat_map (λ (o : plain.Collect). site.target_terms o.target) (map collect_plain c.collects)) t → All (IsDeclared vs) t.args = λ i.
    (let f = Contains-flat_map (λ (o : plain.Collect). site.target_terms o.target) (map collect_plain c.collects) t i in
    let o = Contains-map collect_plain c.collects f.0 f.1 in
    target_declared vs o.0.target t (subst (λ (k : plain.Collect). Contains (site.target_terms k.target) t) (sym o.1) f.2)
    (λ m n. u m (Contains-append_right (a ++ b) d m (Contains-flat_mapped collect_mentions c.collects o.0 m o.2 n)))) in
    ⊎_elim
    (λ i. ⊎_elim by_create by_link (Contains-append_cases (map term_plain c.creates) (flat_map site.ends_of (map link_plain c.links)) t i))
    by_collect
    (Contains-append_cases (map term_plain c.creates ++ flat_map site.ends_of (map link_plain c.links)) (flat_map (λ (o : plain.Collect). site.target_terms o.target) (map collect_plain c.collects)) t h)

-- ---- a block whose chain is known

used_named : (version : ℕ) (p : Placed) → NoFault version p → (m : VariableUse) → Contains (uses p.clauses) m → Contains (flat_map names (chain_conditions p.levels)) m.name
used_named version p n m h =
    let own = flat_map mentions p.clauses.conditions in
    let sorted = sorted_in (round_of p.levels) m.name (λ e. n Unbound m.at (inl (m, Contains-append_right own (uses p.clauses) m h, (e, refl)))) in
    let among : list_any (same_name m.name) (map name_of (joined (round_of p.levels))) ≡ true = sym (in_names (joined (round_of p.levels)) m.name) ∙ sorted in
    let same : map name_of (joined (round_of p.levels)) ≡ flat_map names (chain_conditions p.levels) = ap (map name_of) (round_joined p.levels) ∙ sym (all_names_same (joined p.levels)) in
    subst (λ (xs : List Name). Contains xs m.name) same (any_contains m.name (map name_of (joined (round_of p.levels))) among)

source_made : (version : ℕ) (p : Placed) → NoFault version p → (k : Link) → Contains p.clauses.links k → IsMade (target_plain k.source)
source_made version p n k h = by_source k.source refl where
  by_source : (g : written.Target) → k.source ≡ g → IsMade (target_plain g)
  by_source (made t) e = (term_plain t, refl)
  by_source (written.plain o) e = absurd (n LinkFromData k.span.start (inr (inr (inr (inl (k, h, (rw e refl, refl)))))))
  by_source (written.summed a span) e = absurd (n LinkFromData k.span.start (inr (inr (inr (inl (k, h, (rw e refl, refl)))))))

pub placed_safe : (version : ℕ) (p : Placed) → IsVersion version → NoFault version p → IsKept p.levels → length (chain_conditions p.levels) < 2 ^ 32 → IsSafe version (body_at p)
placed_safe version p v n k few =
    let chain = well_made version p.levels v k.sound (λ at past. n TooManyVariables at (inr (inl past))) k.flat k.small few in
    record {
      well_made = chain;
      terms = λ t h. terms_declared (variables_of (chain_conditions p.levels)) p.clauses (chain_conditions p.levels) t h (λ m u. chain.declared m.name (used_named version p n m u));
      sources = λ l h. (let o = Contains-map link_plain p.clauses.links l h in subst (λ (q : plain.Link). IsMade q.source) o.1 (source_made version p n o.0 o.2));
    }
