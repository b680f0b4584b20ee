-- What is read of a row is its first values.
use Rattle.std.proofs.Common.{◌≡◌, ℕ, ◌+◌, ◌<◌, ◌≤◌, List, [], ◌∷◌, ◌++◌, map, length, take, get_or, inl, ⊎_elim, sym, ap, ◌∙◌, subst}
use Rattle.std.specs.Prelude.{Some, Contains}
use Rattle.std.specs.List.{AllZip}
use Rattle.std.proofs.lemmas.List.{take-take, take_more, take_all}
use Rattle.std.proofs.lemmas.List.Elements.{Contains-push_cases}
use Rattle.sd_value.specs.Members.{Contains-nil, Contains-here, Contains-there, Contains-map, Contains-mapped}
use Rattle.sd_value.specs.declared.Term.{Term}
use Rattle.sd_value.specs.declared.Datum.{Datum}
use Rattle.sd_value.specs.declared.Value.{Value}
use Rattle.sd_value.specs.declared.Value.TheVariants.{Data, Page}
use Rattle.query_spec.specs.declared.Variable.{Variable}
use Rattle.graph_spec.specs.DataGraph.{Name}
use Rattle.query_spec.specs.Query.{Operand, SkolemTerm, plain, made, label_variable, Link, Collect}
use Rattle.query_spec.specs.Holds.{Assignment, operand_value}
use Rattle.query_spec.specs.Rows.{value_in}
use Rattle.struql_ast.specs.declared.Operand.{Operand as Written}
use Rattle.struql_ast.specs.Reading.{operand_of}
use Rattle.site_spec.specs.Site.{SomeOf, IsTermUnder, IsTargetUnder, IsLabelUnder}
use Rattle.site_lookups.proofs.Some.{some_from}
use Rattle.site_build.specs.Gains.{Gains}
use Rattle.site_build.specs.Materialised.{IsJoin, IsPutUnder}
use Rattle.site_build.specs.Widths.{OnlyReads, OnlyAsks}

-- each of the operands is read of the first values
abbrev pub ReadsTerm : List Variable → ℕ → List Operand → Type 0
ReadsTerm vs width operands = (operand : Operand) → Contains operands operand → OnlyReads width (λ row. operand_value (value_in vs row) operand)

-- more of a row decides no less
pub reads_wider : {X : Type 0} (f : List Value → X) (n m : ℕ) → n ≤ m → OnlyReads n f → OnlyReads m f
reads_wider f n m l reads row other same = reads row other (sym (take-take n m row l) ∙ ap (take n) same ∙ take-take n m other l)

pub reads_nothing : (vs : List Variable) → ReadsTerm vs 0 []
reads_nothing vs o h = absurd (Contains-nil o h)

pub reads_one_more : (vs : List Variable) (n m w : ℕ) (xs : List Written) (i : ℕ) (x : Written) → i < length xs → x ≡ get_or xs i x → n ≤ w → m ≤ w → ReadsTerm vs n (map operand_of (take i xs))
    → OnlyReads m (λ row. operand_value (value_in vs row) (operand_of x)) → ReadsTerm vs w (map operand_of (take (i + 1) xs))
reads_one_more vs n m w xs i x l is n_fits m_fits reads reads_x o h =
    let found = Contains-map operand_of (take (i + 1) xs) o h in
    let at = subst (λ (ys : List Written). Contains ys found.0) (take_more xs i x l ∙ ap (λ z. take i xs ++ z ∷ []) (sym is)) found.2 in
    ⊎_elim
    (λ before. reads_wider (λ row. operand_value (value_in vs row) o) n w n_fits (reads o (subst (Contains (map operand_of (take i xs))) found.1 (Contains-mapped operand_of (take i xs) found.0 before))))
    (λ e. reads_wider (λ row. operand_value (value_in vs row) o) m w m_fits (subst (λ z. OnlyReads m (λ row. operand_value (value_in vs row) z)) (ap operand_of e ∙ found.1) reads_x))
    (Contains-push_cases (take i xs) x found.0 at)

pub reads_all : (vs : List Variable) (n : ℕ) (xs : List Written) (i : ℕ) → length xs ≤ i → ReadsTerm vs n (map operand_of (take i xs)) → ReadsTerm vs n (map operand_of xs)
reads_all vs n xs i l reads = subst (λ (ys : List Written). ReadsTerm vs n (map operand_of ys)) (take_all i xs l) reads

same_args : (s t : Assignment) (os : List Operand) (ds : List Datum) → ((o : Operand) → Contains os o → operand_value s o ≡ operand_value t o)
    → AllZip (λ o d. operand_value s o ≡ Some (Data d)) os ds → AllZip (λ o d. operand_value t o ≡ Some (Data d)) os ds
same_args s t [] [] same all = all
same_args s t [] (d ∷ ds) same all = all
same_args s t (o ∷ os) [] same all = all
same_args s t (o ∷ os) (d ∷ ds) same all = (sym (same o (Contains-here o os)) ∙ all.0, same_args s t os ds (λ p h. same p (Contains-there o os p h)) all.1)

-- rows with the same first values name the same term
pub same_named : (vs : List Variable) (n : ℕ) (t : SkolemTerm) (row other : List Value) (p : Term) → ReadsTerm vs n t.args → take n row ≡ take n other → IsTermUnder (value_in vs row) t p → IsTermUnder (value_in vs other) t p
same_named vs n t row other p reads same named = record {
  function = named.function;
  args = same_args (value_in vs row) (value_in vs other) t.args p.args (λ o h. reads o h row other same) named.args;
}

pub asks_term : (vs : List Variable) (n : ℕ) (t : SkolemTerm) → ReadsTerm vs n t.args → OnlyAsks n (λ row p. IsTermUnder (value_in vs row) t p)
asks_term vs n t reads row other same p named = same_named vs n t row other p reads same named

pub asks_plain : (vs : List Variable) (n : ℕ) (o : Operand) → OnlyReads n (λ row. operand_value (value_in vs row) o) → OnlyAsks n (λ row v. IsTargetUnder (value_in vs row) (plain o) v)
asks_plain vs n o reads row other same v h = sym (reads row other same) ∙ h

pub asks_made : (vs : List Variable) (n : ℕ) (t : SkolemTerm) → OnlyAsks n (λ row p. IsTermUnder (value_in vs row) t p) → OnlyAsks n (λ row v. IsTargetUnder (value_in vs row) (made t) v)
asks_made vs n t asks row other same v h = (h.0, asks row other same h.0 h.1, h.2)

pub asks_label : (vs : List Variable) (n : ℕ) (x : Name) → OnlyReads n (λ row. value_in vs row x) → OnlyAsks n (λ row l. IsLabelUnder (value_in vs row) (label_variable x) l)
asks_label vs n x reads row other same l h = sym (reads row other same) ∙ h

pub asks_link : (vs : List Variable) (k : Link) (from label to n : ℕ) → from ≤ n → label ≤ n → to ≤ n → OnlyAsks from (λ row v. IsTargetUnder (value_in vs row) k.source v)
    → OnlyAsks label (λ row l. IsLabelUnder (value_in vs row) k.label l) → OnlyAsks to (λ row v. IsTargetUnder (value_in vs row) k.target v) → OnlyAsks n (λ row j. IsJoin k (value_in vs row) j)
asks_link vs k from label to n f l t starts labels ends row other same j h = record {
  from = starts row other (fewer from f) (Page j.from) h.from;
  by = labels row other (fewer label l) j.label h.by;
  to = ends row other (fewer to t) j.to h.to;
}
  where
    fewer : (m : ℕ) → m ≤ n → take m row ≡ take m other
    fewer m below = sym (take-take m n row below) ∙ ap (take m) same ∙ take-take m n other below

pub asks_put : (vs : List Variable) (k : Collect) (n : ℕ) → OnlyAsks n (λ row v. IsTargetUnder (value_in vs row) k.target v) → OnlyAsks n (λ row p. IsPutUnder k (value_in vs row) p)
asks_put vs k n asks row other same p h = (h.0, asks row other same p.value h.1)

-- of a row that begins like one before it nothing new is made
pub gains_again : {X : Type 0} (Q : List Value → X → Type 0) (n : ℕ) (before : List (List Value)) (row : List Value) (old now : List X) → OnlyAsks n Q → SomeOf (λ other. take n other ≡ take n row) before
    → Gains (λ x. SomeOf (λ other. Q other x) before) old now → Gains (Q row) now now
gains_again Q n before row old now asks again g = record {
  to = λ x h. inl h;
  kept = λ x h. h;
  gained = λ x q. g.gained x (some_from (λ other. Q other x) before again.item again.within (asks row again.item (sym again.holds) x q));
}
