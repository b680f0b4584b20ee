-- Links that end at aggregates: what they tell is one value, and rests on the rows of their chain.
use Rattle.std.proofs.Common.{◌≡◌, ◌⊎◌, ⊎_elim, List, [], ◌∷◌, refl, sym, ◌∙◌, inl, inr, subst}
use Rattle.std.specs.Prelude.{◌≢◌, ◌-◌, zero, suc, ℕ, ℤ, Bool, true, false, Option, Some, Contains, length, slice_get, if◌then◌else◌}
use Rattle.std.specs.Bool.{MatchBool}
use Rattle.std.specs.List.{AllZip}
use Rattle.sd_value.specs.Ascending.{ListsExactly}
use Rattle.sd_value.specs.AscendingLaws.{one_list, listed_as}
use Rattle.sd_value.specs.Members.{Contains-here, Contains-there}
use Rattle.sd_value.specs.Names.{Name, Label}
use Rattle.sd_value.specs.Order.{value_cmp}
use Rattle.sd_value.specs.OrderLaws.{value_cmp-total}
use Rattle.sd_value.specs.declared.Datum.TheVariants.{Int, Text}
use Rattle.sd_value.specs.declared.Term.{Term}
use Rattle.sd_value.specs.declared.Value.{Value}
use Rattle.sd_value.specs.declared.Value.TheVariants.{Data, Page}
use Rattle.graph_spec.specs.DataGraph.{DataGraph, IsValueOf, IsLabelValueOf}
use Rattle.query_spec.specs.declared.Variable.{Variable}
use Rattle.query_spec.specs.Mentions.{same_name}
use Rattle.query_spec.specs.Query.{variable, Aggregate, count_of, min_of, max_of, sum_of, Target, plain, made, summed}
use Rattle.query_spec.specs.Query.{Link, Chain}
use Rattle.query_spec.specs.Rows.{value_in, IsInDomain, IsRow}
use Rattle.site_spec.specs.Site.{IsTargetUnder, IsLabelUnder, IsPerRow, SomeRow, IsRowJoined, ended, part_of, part_link, IsTold}
use Rattle.site_spec.specs.Site.{IsToldOf, IsSummed, IsSum, IsJoined}

-- ---- rows that give a source and a label

-- what a list that isn't empty has
pub first_of : {X : Type 0} (xs : List X) → xs ≢ [] → (x : X) × Contains xs x
first_of [] n = absurd (n refl)
first_of (x ∷ xs) n = (x, Contains-here x xs)

-- a row under which the link starts at u and has the label
abbrev pub IsGiven : DataGraph → Chain → Value → Label → Link → Type 0
IsGiven G c u label k = SomeRow G c (λ s. IsTargetUnder s k.source u × IsLabelUnder s k.label label)

pub row_given : (G : DataGraph) (c : Chain) (u : Value) (label : Label) (v : Value) (k : Link) → IsRowJoined G c u label v k → IsGiven G c u label k
row_given G c u label v k r = record { row = r.row; is_row = r.is_row; holds = (r.holds.from, r.holds.by) }

pub sum_given : (G : DataGraph) (c : Chain) (u : Value) (label : Label) (v : Value) (k : Link) (a : Aggregate) → IsSummed G c u label v k a → IsGiven G c u label k
sum_given G c u label v k a h =
    let one = first_of h.parts h.told.some in
    let r = h.all.sound one.0 one.1 in
    record { row = r.row; is_row = r.is_row; holds = (r.holds.from, r.holds.by) }

target_given : (G : DataGraph) (c : Chain) (u : Value) (label : Label) (v : Value) (k : Link) (t : Target) → IsSum G c u label v k t → IsGiven G c u label k
target_given G c u label v k (plain o) h = absurd h
target_given G c u label v k (made t) h = absurd h
target_given G c u label v k (summed a) h = sum_given G c u label v k a h

-- whatever a link joins, some row gives the source and the label
pub joined_given : (G : DataGraph) (c : Chain) (u : Value) (label : Label) (v : Value) (k : Link) → IsJoined G c u label v k → IsGiven G c u label k
joined_given G c u label v k (inl r) = row_given G c u label v k r
joined_given G c u label v k (inr h) = target_given G c u label v k k.target h

-- ---- sums rest on rows

pub row_joined_to : (G H : DataGraph) (c : Chain) (u : Value) (label : Label) (v : Value) (k : Link) → ((row : List Value) → IsRow G c row → IsRow H c row) → IsRowJoined G c u label v k → IsRowJoined H c u label v k
row_joined_to G H c u label v k to r = record { row = r.row; is_row = to r.row r.is_row; holds = r.holds }

pub sum_to : (G H : DataGraph) (c : Chain) (u : Value) (label : Label) (v : Value) (k : Link) (a : Aggregate) → ((row : List Value) → IsRow G c row → IsRow H c row) → ((row : List Value) → IsRow H c row → IsRow G c row)
    → IsSummed G c u label v k a → IsSummed H c u label v k a
sum_to G H c u label v k a to from h = record {
  parts = h.parts;
  all = listed_as h.all (λ w r. row_joined_to G H c u label w (part_link a k) to r) (λ w r. row_joined_to H G c u label w (part_link a k) from r);
  told = h.told;
}

target_to : (G H : DataGraph) (c : Chain) (u : Value) (label : Label) (v : Value) (k : Link) (t : Target) → ((row : List Value) → IsRow G c row → IsRow H c row) → ((row : List Value) → IsRow H c row → IsRow G c row)
    → IsSum G c u label v k t → IsSum H c u label v k t
target_to G H c u label v k (plain o) to from h = h
target_to G H c u label v k (made t) to from h = h
target_to G H c u label v k (summed a) to from h = sum_to G H c u label v k a to from h

-- links are the same where the rows of their chain are
pub joined_to : (G H : DataGraph) (c : Chain) (u : Value) (label : Label) (v : Value) (k : Link) → ((row : List Value) → IsRow G c row → IsRow H c row) → ((row : List Value) → IsRow H c row → IsRow G c row)
    → IsJoined G c u label v k → IsJoined H c u label v k
joined_to G H c u label v k to from (inl r) = inl (row_joined_to G H c u label v k to r)
joined_to G H c u label v k to from (inr h) = inr (target_to G H c u label v k k.target to from h)

-- ---- one value

some_same : (v w : Value) → Some v ≡ Some w → v ≡ w
some_same v w e = cc

pub told_once : (a : Aggregate) (parts : List Value) (v w : Value) → IsTold a parts v → IsTold a parts w → v ≡ w
told_once (count_of x) parts v w h g = h ∙ sym g
told_once (min_of x) parts v w h g = some_same v w (sym h ∙ g)
told_once (max_of x) parts v w h g = some_same v w (sym h ∙ g)
told_once (sum_of y x) parts v w h g = h.2 ∙ sym g.2

-- one end for each source, label and aggregate
pub one_sum : (G : DataGraph) (c : Chain) (u : Value) (label : Label) (v w : Value) (k : Link) (a : Aggregate) → IsSummed G c u label v k a → IsSummed G c u label w k a → v ≡ w
one_sum G c u label v w k a h g =
    let same : g.parts ≡ h.parts = one_list value_cmp-total (λ w. IsRowJoined G c u label w (part_link a k)) g.parts h.parts g.all h.all in
    told_once a h.parts v w h.told.told (subst (λ ps. IsTold a ps w) same g.told.told)

-- ---- values that aggregates tell

pub slice_in : {A : Type 0} (xs : List A) (i : ℕ) (x : A) → slice_get xs i ≡ Some x → Contains xs x
slice_in [] i x e = cc
slice_in {A} (y ∷ ys) zero x e = subst (Contains (y ∷ ys)) (let h : y ≡ x = cc in h) (Contains-here y ys)
slice_in (y ∷ ys) (suc i) x e = Contains-there y ys x (slice_in ys i x e)

-- a value of rows that a sum of links tells
pub record IsPart (a : Aggregate) (parts : List Value) (v : Value) : Type 0 where
  pub name : Name
  pub is : part_of a ≡ plain (variable name)
  pub within : Contains parts v

-- v is no number
abbrev pub IsNoInt : Value → Type 0
IsNoInt v = (n : ℤ) → v ≡ Data (Int n) → ⊥

-- a number, or one of the values of rows
pub told_part : (a : Aggregate) (parts : List Value) (v : Value) → IsNoInt v → IsTold a parts v → IsPart a parts v
told_part (count_of x) parts v other h = absurd (other _ h)
told_part (min_of x) parts v other h = record { name = x; is = refl; within = slice_in parts 0 v h }
told_part (max_of x) parts v other h = record { name = x; is = refl; within = slice_in parts (length parts - 1) v h }
told_part (sum_of y x) parts v other h = absurd (other _ h.2)

-- a value that is no number is that of a variable in a row
pub record IsOfRow (G : DataGraph) (c : Chain) (v : Value) : Type 0 where
  pub row : List Value
  pub is_row : IsRow G c row
  pub name : Name
  pub is : value_in c.variables row name ≡ Some v

pub sum_of_row : (G : DataGraph) (c : Chain) (u : Value) (label : Label) (v : Value) (k : Link) (a : Aggregate) → IsNoInt v → IsSummed G c u label v k a → IsOfRow G c v
sum_of_row G c u label v k a other h =
    let part = told_part a h.parts v other h.told.told in
    let r = h.all.sound v part.within in
    record { row = r.row; is_row = r.is_row; name = part.name; is = subst (λ t. IsTargetUnder (value_in c.variables r.row) t v) part.is r.holds.to }

target_of_row : (G : DataGraph) (c : Chain) (u : Value) (label : Label) (v : Value) (k : Link) (t : Target) → IsNoInt v → IsSum G c u label v k t → IsOfRow G c v
target_of_row G c u label v k (plain o) other h = absurd h
target_of_row G c u label v k (made t) other h = absurd h
target_of_row G c u label v k (summed a) other h = sum_of_row G c u label v k a other h

-- what a link joins to, if it is no number, a row joins it to or is the value of a variable in a row
pub joined_row : (G : DataGraph) (c : Chain) (u : Value) (label : Label) (v : Value) (k : Link) → IsNoInt v → IsJoined G c u label v k → IsRowJoined G c u label v k ⊎ IsOfRow G c v
joined_row G c u label v k other (inl r) = inl r
joined_row G c u label v k other (inr h) = inr (target_of_row G c u label v k k.target other h)

-- ---- no page is told

page_is_no_label : (p : Term) (label : Name) → Page p ≡ Data (Text label) → ⊥
page_is_no_label p label e = cc

in_no_domain : (G : DataGraph) (p : Term) (arc : Bool) → MatchBool arc (IsLabelValueOf G (Page p)) (IsValueOf G (Page p)) → ⊥
in_no_domain G p true h = page_is_no_label p h.0 h.2
in_no_domain G p false h = h

either_value : (b : Bool) (a : Value) (o : Option Value) (v : Value) → (if b then Some a else o) ≡ Some v → (a ≡ v) ⊎ (o ≡ Some v)
either_value true a o v e = inl (some_same a v e)
either_value false a o v e = inr e

-- the values of a row are data
pub no_page_in : (G : DataGraph) (variables : List Variable) (row : List Value) (x : Name) (p : Term) → AllZip (IsInDomain G) variables row → value_in variables row x ≡ Some (Page p) → ⊥
no_page_in G [] row x p d e = cc
no_page_in G (v ∷ variables) [] x p d e = cc
no_page_in G (v ∷ variables) (a ∷ row) x p d e =
    ⊎_elim (λ h. in_no_domain G p v.arc (subst (IsInDomain G v) h d.0)) (λ h. no_page_in G variables row x p d.1 h)
    (either_value (same_name v.name x) a (value_in variables row x) (Page p) e)

page_is_no_int : (p : Term) → IsNoInt (Page p)
page_is_no_int p n e = cc

-- a page to which a link leads, some row joins
pub page_joined : (G : DataGraph) (c : Chain) (u : Value) (label : Label) (p : Term) (k : Link) → IsJoined G c u label (Page p) k → IsRowJoined G c u label (Page p) k
page_joined G c u label p k h =
    ⊎_elim (λ r. r) (λ o. absurd (no_page_in G c.variables o.row o.name p o.is_row.in_domain o.is))
    (joined_row G c u label (Page p) k (page_is_no_int p) h)

-- ---- links that end at no aggregate

pub no_sum : (G : DataGraph) (c : Chain) (u : Value) (label : Label) (v : Value) (k : Link) (t : Target) → IsPerRow t → IsSum G c u label v k t → ⊥
no_sum G c u label v k (plain o) per h = h
no_sum G c u label v k (made t) per h = h
no_sum G c u label v k (summed a) per h = per

pub per_row_joined : (G : DataGraph) (c : Chain) (u : Value) (label : Label) (v : Value) (k : Link) → IsPerRow k.target → IsJoined G c u label v k → IsRowJoined G c u label v k
per_row_joined G c u label v k per (inl r) = r
per_row_joined G c u label v k per (inr h) = absurd (no_sum G c u label v k k.target per h)
