-- Of links that are sorted by the functions at which they start, those of one function: they stand together, and in the
-- order in which they stood.
use Rattle.std.proofs.Common.{◌≡◌, ℕ, zero, suc, ◌+◌, ◌<◌, ◌≤◌, ◌-◌, List, [], ◌∷◌, Bool, true, false, length, map, get_or, refl, sym, ap, subst, ◌∙◌, arith}
use Rattle.std.specs.Prelude.{cond, filter, Contains, None, not, ◌&&◌}
use Rattle.std.specs.declared.cmp.Ordering.{Ordering}
use Rattle.std.specs.declared.cmp.Ordering.TheVariants.{Less, Equal, Greater}
use Rattle.std.specs.Ordering.{is_eq, is_lt, is_gt, ordering_index, ordering_reverse}
use Rattle.std.specs.List.Sorted.{IsSorted, IsStable}
use Rattle.std.specs.Cmp.{IsTotalOrder}
use Rattle.list_lookup.specs.Picked.{IsPlaced}
use Rattle.sd_value.specs.Members.{Contains-here, Contains-there}
use Rattle.sd_value.specs.Names.{Name}
use Rattle.sd_value.specs.Order.{bytes_cmp}
use Rattle.sd_value.specs.OrderLaws.{bytes_cmp-total}
use Rattle.query_spec.specs.Query as plain
use Rattle.query_spec.specs.Query.{Target, made}
use Rattle.query_blocks.specs.Blocks.{IsMade}
use Rattle.site_spec.specs.Schema as spec
use Rattle.site_spec.specs.Schema.{starts_at, is_made_by}
use Rattle.schema.specs.declared.SchemaEdge.{SchemaEdge}
use Rattle.schema.specs.Orders.{edge_cmp}
use Rattle.schema.specs.Rows.{row, source_function, rows_from}

-- ---- sorted links stand below, at and above the function

lower : (x y f : List ℕ) → is_lt (bytes_cmp y x) ≡ false → ordering_index (bytes_cmp x f) ≤ ordering_index (bytes_cmp y f)
lower x y f h = by (bytes_cmp y x) refl h
  where
    below : (r s : Ordering) → bytes_cmp x f ≡ s → bytes_cmp y f ≡ r → bytes_cmp x y ≡ Less → ordering_index s ≤ ordering_index r
    below Less s at is up = let one : s ≡ Less = sym at ∙ bytes_cmp-total.trans x y f up is in rw one (omega arith)
    below Equal s at is up =
        let one : s ≡ Less = sym at ∙ (bytes_cmp-total.antisymm x f ∙ (ap ordering_reverse (sym (bytes_cmp-total.congr y f x is)) ∙ (sym (bytes_cmp-total.antisymm x y) ∙ up))) in
        rw one (omega arith)
    below Greater Less at is up = omega arith
    below Greater Equal at is up = omega arith
    below Greater Greater at is up = omega arith

    by : (o : Ordering) → bytes_cmp y x ≡ o → is_lt o ≡ false → ordering_index (bytes_cmp x f) ≤ ordering_index (bytes_cmp y f)
    by Less is h = cc
    by Equal is h = rw (bytes_cmp-total.congr y x f is) (omega arith)
    by Greater is h = below (bytes_cmp y f) (bytes_cmp x f) refl refl (bytes_cmp-total.antisymm x y ∙ ap ordering_reverse is)

pub sorted_is_placed : (f : Name) (edges : List SchemaEdge) → IsSorted edge_cmp edges → IsPlaced (λ e. bytes_cmp e.source.name f) edges
sorted_is_placed f edges sorted i j d up fits = up_by (j - i) (omega (arith, up))
  where
    index : ℕ → ℕ
    index k = ordering_index (bytes_cmp (get_or edges k d).source.name f)

    step : (k : ℕ) → k + 1 < length edges → index k ≤ index (k + 1)
    step k l = lower (get_or edges k d).source.name (get_or edges (k + 1) d).source.name f (sorted k d (omega arith) l)

    far : (n : ℕ) → i + n < length edges → index i ≤ index (i + n)
    far zero l =
        let same : i + zero ≡ i = omega arith in
        rw same (omega arith)
    far (suc n) l =
        let before = far n (omega (arith, l)) in
        let same : i + suc n ≡ i + n + 1 = omega arith in
        let last = step (i + n) (omega (arith, l)) in
        rw same (omega (arith, before, last))

    up_by : (n : ℕ) → j ≡ i + n → index i ≤ index j
    up_by n is = rw is (far n (omega (arith, fits, is)))

-- ---- the links that tie with one of the function are those of the function

filter_same : {X : Type 0} (p q : X → Bool) (xs : List X) → ((x : X) → p x ≡ q x) → filter p xs ≡ filter q xs
filter_same p q [] same = refl
filter_same p q (x ∷ xs) same = rw (same x, filter_same p q xs same) refl

tie_is : (a b : List ℕ) → (not (is_lt (bytes_cmp b a)) && not (is_lt (bytes_cmp a b))) ≡ is_eq (bytes_cmp a b)
tie_is a b = rw (bytes_cmp-total.antisymm b a) (by (bytes_cmp a b))
  where
    by : (o : Ordering) → (not (is_lt (ordering_reverse o)) && not (is_lt o)) ≡ is_eq o
    by Less = refl
    by Equal = refl
    by Greater = refl

-- some link that starts at the function
abbrev link_at : Name → SchemaEdge
link_at f = record { number = 0; path = []; conditions = []; link = []; label = []; source = record { name = f; arity = 0 }; target = None }

pub kept_in_order : (f : Name) (old new : List SchemaEdge) → IsStable edge_cmp old new → rows_from f new ≡ rows_from f old
kept_in_order f old new stable =
    let ties = λ (e : SchemaEdge). not (is_lt (bytes_cmp f e.source.name)) && not (is_lt (bytes_cmp e.source.name f)) in
    let place = λ (e : SchemaEdge). is_eq (bytes_cmp e.source.name f) in
    sym (filter_same ties place new (λ e. tie_is e.source.name f)) ∙ (stable (link_at f) ∙ filter_same ties place old (λ e. tie_is e.source.name f))

-- ---- the links of the schema

one_row : (f : Name) (t : Target) → IsMade t → is_eq (bytes_cmp (source_function t).name f) ≡ is_made_by f t
one_row f (made t) h = refl
one_row f (plain.plain operand) (t, h) = absurd cc
one_row f (plain.summed a) (t, h) = absurd cc

pub rows_of_function : (version : ℕ) (f : Name) (edges : List spec.SchemaEdge) → ((e : spec.SchemaEdge) → Contains edges e → IsMade e.link.source)
    → rows_from f (map (row version) edges) ≡ map (row version) (filter (starts_at f) edges)
rows_of_function version f [] all_made = refl
rows_of_function version f (e ∷ edges) all_made =
    rw (one_row f e.link.source (all_made e (Contains-here e edges)), rows_of_function version f edges (λ x h. all_made x (Contains-there e edges x h)))
    (by (starts_at f e))
  where
    by : (b : Bool) → cond b (row version e ∷ map (row version) (filter (starts_at f) edges)) (map (row version) (filter (starts_at f) edges)) ≡ map (row version) (cond b (e ∷ filter (starts_at f) edges) (filter (starts_at f) edges))
    by true = refl
    by false = refl
