-- How many values and labels there are after one edge was put in or taken out.
use Rattle.std.specs.Prelude.{◌≡◌, ◌≢◌, ◌⊎◌, ◌↔◌, ◌≤◌, ◌+◌, ◌-◌, ◌&&◌, ℕ, Bool, true, false, IsTrue, List, [], length, Contains}
use Rattle.std.proofs.Common.{arith, refl, sym, ap, ◌∙◌, subst, inl, inr, nat_lt}
use Rattle.std.proofs.lemmas.Bool.{ltb-true, lt-ltb}
use Rattle.sd_value.specs.declared.Datum.TheVariants.{Int, Text, Url, File, Node}
use Rattle.sd_value.specs.declared.Value.{Value}
use Rattle.sd_value.specs.declared.Value.TheVariants.{Data, Page}
use Rattle.sd_value.specs.Order.{bytes_cmp, value_cmp}
use Rattle.sd_value.specs.OrderLaws.{bytes_cmp-total, bytes_cmp-exact, value_cmp-total, value_cmp-exact}
use Rattle.sd_value.specs.AscendingLaws.{lists_nothing}
use Rattle.graph_spec.specs.declared.Edge.{Edge}
use Rattle.graph_spec.specs.DataGraph.{DataGraph, Name, node, IsWellFormed, IsValueOf, IsLabelOf, HasEdge}
use Rattle.graph_spec.specs.Orders.{edge_cmp, edge_cmp-total, edge_cmp-exact, step_cmp, step_cmp-total, step_cmp-exact}
use Rattle.graph_spec.specs.Steps.{IsStepTo, IsLabelled, IsCountOf}
use Rattle.edge_queries.specs.Places.{step_to}
use Rattle.index_store.specs.Indexed.{IsNodeOf}
use Rattle.index_store.proofs.ValueLaws.{reached_values}
use Rattle.live_layers.proofs.PickLaws.{images, counted_as}
use Rattle.live_store.specs.Shift.{Shift}
use Rattle.live_store.specs.Live.{IsAtom}
use Rattle.live_store.specs.Counts.{one_if, OneEdge}
use Rattle.live_store.proofs.ListLaws.{shift_counts}
use Rattle.live_store.proofs.CountLaws.{moved, some_there}

-- a value that is no node
abbrev pub IsAtomOf : DataGraph → Value → Type 0
IsAtomOf G v = IsAtom v × IsValueOf G v

-- a node of the graph
abbrev IsNamed : DataGraph → Value → Type 0
IsNamed G v = (n : Name) × Contains G.nodes n × (node n ≡ v)

named_count : (G : DataGraph) → IsWellFormed G → IsCountOf value_cmp (IsNamed G) (length G.nodes)
named_count G well = images value_cmp value_cmp-total value_cmp-exact bytes_cmp bytes_cmp-total node G.nodes
    well.nodes_ascend (λ m n a b e. same m n e)
  where
    same : (m n : Name) → node m ≡ node n → m ≡ n
    same m n e = cc

none_count : IsCountOf value_cmp (λ v. ⊥) 0
none_count = ([], lists_nothing value_cmp (λ v. ⊥) (λ v h. h), refl)

no_atom : (G : DataGraph) (v : Value) → IsNamed G v → IsAtom v → ⊥
no_atom G v (n, m, is) atom = let h : IsAtom (node n) = subst IsAtom (sym is) atom in h

named_value : (G : DataGraph) (v : Value) → IsNamed G v → IsValueOf G v
named_value G v (n, m, is) = subst (IsValueOf G) is m

-- a value is a node or an atom
value_cases : (G : DataGraph) (v : Value) → IsValueOf G v → IsNamed G v ⊎ IsAtom v
value_cases G (Data (Node n)) h = inl (n, h, refl)
value_cases G (Data (Int i)) h = inr tt
value_cases G (Data (Text t)) h = inr tt
value_cases G (Data (Url t)) h = inr tt
value_cases G (Data (File t)) h = inr tt
value_cases G (Page p) h = inr tt

-- the values without the nodes
pub atoms_counted : (G : DataGraph) → IsWellFormed G → (n : ℕ) → IsCountOf value_cmp (IsValueOf G) n
    → (length G.nodes ≤ n) × IsCountOf value_cmp (IsAtomOf G) (n - length G.nodes)
atoms_counted G well n count =
    let moves : Shift (IsValueOf G) (IsAtomOf G) (IsNamed G) (λ v. ⊥) = λ v. record {
      stays = λ p none. (elim (value_cases G v p) [ inl named ↦ absurd (none named) | inr atom ↦ atom ], p);
      comes = λ c. absurd c;
      was = named_value G v;
      went = λ d q. no_atom G v d q.0;
      is_new = λ c p. c;
      all = λ q. inl q.1;
    } in
    let (most, left) = shift_counts value_cmp value_cmp-total value_cmp-exact {P = IsValueOf G} {Q = IsAtomOf G}
    {D = IsNamed G} {C = λ v. ⊥} moves n (length G.nodes) 0 count (named_count G well) none_count in
    (most, subst (IsCountOf value_cmp (IsAtomOf G)) (omega arith) left)

-- and with them
pub values_counted : (G : DataGraph) → IsWellFormed G → (n : ℕ) → IsCountOf value_cmp (IsAtomOf G) n
    → IsCountOf value_cmp (IsValueOf G) (n + length G.nodes)
values_counted G well n count =
    let moves : Shift (IsAtomOf G) (IsValueOf G) (λ v. ⊥) (IsNamed G) = λ v. record {
      stays = λ p none. p.1;
      comes = named_value G v;
      was = λ d. absurd d;
      went = λ d q. d;
      is_new = λ c p. no_atom G v c p.0;
      all = λ q. elim (value_cases G v q) [ inl named ↦ inr named | inr atom ↦ inl (atom, q) ];
    } in
    let (most, whole) = shift_counts value_cmp value_cmp-total value_cmp-exact {P = IsAtomOf G} {Q = IsValueOf G}
    {D = λ v. ⊥} {C = IsNamed G} moves n 0 (length G.nodes) count none_count (named_count G well) in
    subst (IsCountOf value_cmp (IsValueOf G)) (omega arith) whole

atom_is_no_node : (G : DataGraph) (v : Value) → IsAtom v → IsNodeOf G.nodes v → ⊥
atom_is_no_node G (Data (Node n)) atom h = atom
atom_is_no_node G (Data (Int i)) atom h = h
atom_is_no_node G (Data (Text t)) atom h = h
atom_is_no_node G (Data (Url t)) atom h = h
atom_is_no_node G (Data (File t)) atom h = h
atom_is_no_node G (Page p) atom h = h

both : (a b : Bool) → IsTrue (a && b) → IsTrue a × IsTrue b
both true b h = (refl, h)
both false b h = cc

both_from : (a b : Bool) → IsTrue a → IsTrue b → IsTrue (a && b)
both_from true b h k = k
both_from false b h k = cc

-- an atom is a value exactly where an edge goes there
atom_test : (G : DataGraph) → IsWellFormed G → (v : Value) (atom : Bool) → IsTrue atom ↔ IsAtom v → (n : ℕ)
    → IsCountOf step_cmp (IsStepTo G v) n → IsTrue (atom && nat_lt 0 n) ↔ IsAtomOf G v
atom_test G well v atom is n count = (
  λ t. (let h = both atom (nat_lt 0 n) t in
      let a = is.0 h.0 in
      (a, (reached_values G well v (atom_is_no_node G v a) n count).0 (ltb-true 0 n h.1))),
  λ (a, p). both_from atom (nat_lt 0 n) (is.1 a)
      (lt-ltb 0 n ((reached_values G well v (atom_is_no_node G v a) n count).1 p)),
)

-- a label is one exactly where an edge has it
pub label_there : (G : DataGraph) (l : Name) (n : ℕ) → IsCountOf edge_cmp (IsLabelled G l) n
    → IsTrue (nat_lt 0 n) ↔ IsLabelOf G l
label_there G l n count =
    let there = some_there n count in
    (λ t. (let (e, h) = there.0 t in (e, h.0, h.1)), λ (e, m, is). there.1 (e, (m, is)))

module _ (L H : DataGraph) (x : Edge) (was is : Bool) (one : OneEdge L H x is) (there : IsTrue was ↔ Contains L.edges x) where
  -- ---- the edges to its end

  step_others : (u : Value) (l : Name) → (record { label = l; end = u } ≢ step_to x) → HasEdge L u l x.to ↔ HasEdge H u l x.to
  step_others (Data (Node n)) l other = one.others (record { from = n; label = l; to = x.to })
      (λ e. other (ap step_to e))
  step_others (Data (Int i)) l other = (λ h. h, λ h. h)
  step_others (Data (Text t)) l other = (λ h. h, λ h. h)
  step_others (Data (Url t)) l other = (λ h. h, λ h. h)
  step_others (Data (File t)) l other = (λ h. h, λ h. h)
  step_others (Page p) l other = (λ h. h, λ h. h)

  pub degree_moved : (n : ℕ) → IsCountOf step_cmp (IsStepTo L x.to) n
      → (IsTrue was → 1 ≤ n) × IsCountOf step_cmp (IsStepTo H x.to) (n - one_if was + one_if is)
  degree_moved n count = moved step_cmp step_cmp-total step_cmp-exact {Q = IsStepTo L x.to} {Q' = IsStepTo H x.to}
      (step_to x) n count (λ s other. step_others s.end s.label other) was is there one.there

  -- ---- the edges of its label

  pub labelled_moved : (n : ℕ) → IsCountOf edge_cmp (IsLabelled L x.label) n
      → (IsTrue was → 1 ≤ n) × IsCountOf edge_cmp (IsLabelled H x.label) (n - one_if was + one_if is)
  labelled_moved n count = moved edge_cmp edge_cmp-total edge_cmp-exact {Q = IsLabelled L x.label} {Q' = IsLabelled H x.label}
      x n count
      (λ k other. (λ h. ((one.others k other).0 h.0, h.1), λ h. ((one.others k other).1 h.0, h.1)))
      was is (λ t. (there.0 t, refl), λ h. there.1 h.0) (λ t. (one.there.0 t, refl), λ h. one.there.1 h.0)

  label_test : (G : DataGraph) (n : ℕ) → IsCountOf edge_cmp (IsLabelled G x.label) n
      → IsTrue (nat_lt 0 n) ↔ IsLabelOf G x.label
  label_test G n count = label_there G x.label n count

  pub labels_moved : (n b c : ℕ) → IsCountOf bytes_cmp (IsLabelOf L) n → IsCountOf edge_cmp (IsLabelled L x.label) b
      → IsCountOf edge_cmp (IsLabelled H x.label) c
      → (IsTrue (nat_lt 0 b) → 1 ≤ n)
      × IsCountOf bytes_cmp (IsLabelOf H) (n - one_if (nat_lt 0 b) + one_if (nat_lt 0 c))
  labels_moved n b c count before after =
      moved bytes_cmp bytes_cmp-total bytes_cmp-exact {Q = IsLabelOf L} {Q' = IsLabelOf H} x.label n count
      (λ l other. (
        λ (k, m, e). (k, (one.others k (λ same. other (sym e ∙ ap (λ (z : Edge). z.label) same))).0 m, e),
        λ (k, m, e). (k, (one.others k (λ same. other (sym e ∙ ap (λ (z : Edge). z.label) same))).1 m, e),
      ))
      (nat_lt 0 b) (nat_lt 0 c) (label_test L b before) (label_test H c after)

  -- ---- the atoms

  ended : (v : Value) → v ≢ x.to → ((e : Edge) × Contains L.edges e × (e.to ≡ v)) ↔ ((e : Edge) × Contains H.edges e × (e.to ≡ v))
  ended v other = (
    λ (k, m, e). (k, (one.others k (λ same. other (sym e ∙ ap (λ (z : Edge). z.to) same))).0 m, e),
    λ (k, m, e). (k, (one.others k (λ same. other (sym e ∙ ap (λ (z : Edge). z.to) same))).1 m, e),
  )

  atom_others : (v : Value) → v ≢ x.to → IsAtomOf L v ↔ IsAtomOf H v
  atom_others (Data (Node n)) other = (λ h. absurd h.0, λ h. absurd h.0)
  atom_others (Data (Int i)) other = let k = ended (Data (Int i)) other in (λ h. (tt, k.0 h.1), λ h. (tt, k.1 h.1))
  atom_others (Data (Text t)) other = let k = ended (Data (Text t)) other in (λ h. (tt, k.0 h.1), λ h. (tt, k.1 h.1))
  atom_others (Data (Url t)) other = let k = ended (Data (Url t)) other in (λ h. (tt, k.0 h.1), λ h. (tt, k.1 h.1))
  atom_others (Data (File t)) other = let k = ended (Data (File t)) other in (λ h. (tt, k.0 h.1), λ h. (tt, k.1 h.1))
  atom_others (Page p) other = (λ h. absurd h.1, λ h. absurd h.1)

  pub atoms_moved : IsWellFormed L → IsWellFormed H → (atom : Bool) → IsTrue atom ↔ IsAtom x.to → (n b c : ℕ)
      → IsCountOf value_cmp (IsAtomOf L) n → IsCountOf step_cmp (IsStepTo L x.to) b
      → IsCountOf step_cmp (IsStepTo H x.to) c
      → IsCountOf value_cmp (IsAtomOf H) (n - one_if (atom && nat_lt 0 b) + one_if (atom && nat_lt 0 c))
  atoms_moved well formed atom at n b c count before after =
      (moved value_cmp value_cmp-total value_cmp-exact {Q = IsAtomOf L} {Q' = IsAtomOf H} x.to n count atom_others
      (atom && nat_lt 0 b) (atom && nat_lt 0 c) (atom_test L well x.to atom at b before)
      (atom_test H formed x.to atom at c after)).1

-- what is counted as an atom is one
pub atom_before : (L : DataGraph) → IsWellFormed L → (v : Value) (atom : Bool) → IsTrue atom ↔ IsAtom v → (n b : ℕ)
    → IsCountOf value_cmp (IsAtomOf L) n → IsCountOf step_cmp (IsStepTo L v) b → IsTrue (atom && nat_lt 0 b) → 1 ≤ n
atom_before L well v atom at n b count before sure =
    (moved value_cmp value_cmp-total value_cmp-exact {Q = IsAtomOf L} {Q' = IsAtomOf L} v n count
    (λ w other. (λ h. h, λ h. h)) (atom && nat_lt 0 b) (atom && nat_lt 0 b) (atom_test L well v atom at b before)
    (atom_test L well v atom at b before)).0 sure

-- and what is counted as a label is one
pub label_before : (L : DataGraph) (l : Name) (n b : ℕ) → IsCountOf bytes_cmp (IsLabelOf L) n
    → IsCountOf edge_cmp (IsLabelled L l) b → IsTrue (nat_lt 0 b) → 1 ≤ n
label_before L l n b count before sure =
    (moved bytes_cmp bytes_cmp-total bytes_cmp-exact {Q = IsLabelOf L} {Q' = IsLabelOf L} l n count
    (λ w other. (λ h. h, λ h. h)) (nat_lt 0 b) (nat_lt 0 b) (label_there L l b before) (label_there L l b before)).0 sure

-- the graph itself, as one that differs by nothing
pub one_itself : (L : DataGraph) (x : Edge) (was : Bool) → IsTrue was ↔ Contains L.edges x → OneEdge L L x was
one_itself L x was there = record { there = there; others = λ k other. (λ h. h, λ h. h) }

-- with the same edges there are the same atoms
end_same : (L H : DataGraph) → H.edges ≡ L.edges → (v : Value)
    → (Unit {0} × ((e : Edge) × Contains L.edges e × (e.to ≡ v))) ↔ (Unit {0} × ((e : Edge) × Contains H.edges e × (e.to ≡ v)))
end_same L H same v = (
  λ h. (h.0, (h.1.0, subst (λ (es : List Edge). Contains es h.1.0) (sym same) h.1.1, h.1.2)),
  λ h. (h.0, (h.1.0, subst (λ (es : List Edge). Contains es h.1.0) same h.1.1, h.1.2)),
)

atom_same : (L H : DataGraph) → H.edges ≡ L.edges → (v : Value) → IsAtomOf L v ↔ IsAtomOf H v
atom_same L H same (Data (Node n)) = (λ h. absurd h.0, λ h. absurd h.0)
atom_same L H same (Data (Int i)) = end_same L H same (Data (Int i))
atom_same L H same (Data (Text t)) = end_same L H same (Data (Text t))
atom_same L H same (Data (Url t)) = end_same L H same (Data (Url t))
atom_same L H same (Data (File t)) = end_same L H same (Data (File t))
atom_same L H same (Page p) = (λ h. absurd h.1, λ h. absurd h.1)

pub atoms_same : (L H : DataGraph) → H.edges ≡ L.edges → (n : ℕ) → IsCountOf value_cmp (IsAtomOf L) n
    → IsCountOf value_cmp (IsAtomOf H) n
atoms_same L H same n count = counted_as value_cmp value_cmp-total value_cmp-exact n count
    (λ v. (atom_same L H same v).0) (λ v. (atom_same L H same v).1)

pub labels_same : (L H : DataGraph) → H.edges ≡ L.edges → (n : ℕ) → IsCountOf bytes_cmp (IsLabelOf L) n
    → IsCountOf bytes_cmp (IsLabelOf H) n
labels_same L H same n count = subst (λ (es : List Edge). IsCountOf bytes_cmp
    (λ (l : Name). (e : Edge) × Contains es e × (e.label ≡ l)) n) (sym same) count
