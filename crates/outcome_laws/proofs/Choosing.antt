-- Whether a test of a template holds, and whether a value has a template.
use Rattle.std.proofs.Common.{◌≡◌, ℕ, Bool, true, false, List, [], ◌∷◌, inl, inr, refl, ap, subst}
use Rattle.std.specs.Prelude.{Contains, length, pos}
use Rattle.std.specs.Ordering.{int_cmp}
use Rattle.std.specs.declared.cmp.Ordering.{Ordering}
use Rattle.std.specs.declared.cmp.Ordering.TheVariants.{Less, Equal, Greater}
use Rattle.sd_value.specs.Names.{Name}
use Rattle.sd_value.specs.Order.{value_cmp}
use Rattle.sd_value.specs.OrderLaws.{value_cmp-total, value_cmp-exact}
use Rattle.sd_value.specs.Ascending.{ListsExactly}
use Rattle.page_spec.proofs.Unique.{listing_unique}
use Rattle.sd_value.specs.Members.{Contains-nil, Contains-here}
use Rattle.sd_value.specs.declared.Datum.TheVariants.{Int, Text, Url, File, Node}
use Rattle.sd_value.specs.declared.Value.{Value}
use Rattle.sd_value.specs.declared.Value.TheVariants.{Data, Page}
use Rattle.tmpl.specs.declared.Expr.{Expr}
use Rattle.tmpl.specs.declared.Test.{Test}
use Rattle.tmpl.specs.declared.Test.TheVariants.{Any, Compares, Counts, Same}
use Rattle.tmpl.specs.declared.Cmp.{Cmp}
use Rattle.tmpl.specs.declared.Cmp.TheVariants.{Eq, Ne, Lt, Le, Gt, Ge}
use Rattle.tmpl.specs.Body.{Named, TemplateFile}
use Rattle.page_spec.specs.Site.{Site, Env, InRange}
use Rattle.page_spec.specs.Pieces.{First, AreComparable, HoldsBetween, holds_of, Taken, TestHolds, HasTemplate}
use Rattle.site_graphs.proofs.Decide.{Dec, yes, no, dec_as, dec_not, dec_both, dec_some}
use Rattle.site_graphs.proofs.Lists.{AllOf}
use Rattle.outcome_laws.proofs.Listing.{IsListed, same_name, same_value, all_in_range, values_of}

-- ---- comparisons

is_less : (o : Ordering) → Dec (o ≡ Less)
is_less Less = yes refl
is_less Equal = no (λ e. cc)
is_less Greater = no (λ e. cc)

is_greater : (o : Ordering) → Dec (o ≡ Greater)
is_greater Less = no (λ e. cc)
is_greater Equal = no (λ e. cc)
is_greater Greater = yes refl

comparable : (v w : Value) → Dec (AreComparable v w)
comparable (Data (Int i)) (Data (Int j)) = yes tt
comparable (Data (Text a)) (Data (Text b)) = yes tt
comparable v w = no (λ h. h)

holds_between : (c : Cmp) (v w : Value) → Dec (HoldsBetween c v w)
holds_between Eq v w = same_value v w
holds_between Ne v w = dec_not (same_value v w)
holds_between Lt v w = dec_both (comparable v w) (is_less (value_cmp v w))
holds_between Le v w = dec_both (comparable v w) (dec_not (is_greater (value_cmp v w)))
holds_between Gt v w = dec_both (comparable v w) (is_greater (value_cmp v w))
holds_between Ge v w = dec_both (comparable v w) (dec_not (is_less (value_cmp v w)))

-- ---- tests

-- something has P
some_of : {X : Type 0} (P : X → Type 0) → AllOf P → Dec ((x : X) × P x)
some_of {X} P all = by all.items all.sound all.complete
  where
    by : (xs : List X) → ((x : X) → Contains xs x → P x) → ((x : X) → P x → Contains xs x) → Dec ((x : X) × P x)
    by [] sound complete = no (λ h. Contains-nil h.0 (complete h.0 h.1))
    by (x ∷ xs) sound complete = yes (x, sound x (Contains-here x xs))

-- the value is among the others
dec_among : (v : Value) (vs : List Value) → Dec (Contains vs v)
dec_among v vs = dec_as (λ h. subst (Contains vs) h.2 h.1) (λ c. (v, c, refl)) (dec_some (λ u. u ≡ v) (λ u. same_value u v) vs)

module _ (site : Site) (listed : IsListed site) where
  holds : (e : Env) (x : Expr) (test : Test) → Dec (TestHolds site e x test)
  holds e x Any = some_of (InRange site e x) (all_in_range site listed e x)
  holds e x (Counts n) = by (holds_of n.compare (int_cmp (pos (length vs.0)) n.constant)) refl
    where
      vs : (vs : List Value) × ListsExactly value_cmp (InRange site e x) vs
      vs = values_of site listed e x

      by : (b : Bool) → holds_of n.compare (int_cmp (pos (length vs.0)) n.constant) ≡ b → Dec (TestHolds site e x (Counts n))
      by true is = yes (vs.0, vs.1, is)
      by false is = no (λ h.
          let same = listing_unique value_cmp value_cmp-total value_cmp-exact (InRange site e x) h.0 vs.0 h.1 vs.1 in
          let at = ap (λ (l : List Value). holds_of n.compare (int_cmp (pos (length l)) n.constant)) same in
          let it : holds_of n.compare (int_cmp (pos (length h.0)) n.constant) ≡ true = h.2 in cc)
  holds e x (Same y) =
      let all = all_in_range site listed e x in
      let others = all_in_range site listed e y in
      dec_as
      (λ h. (h.0, all.sound h.0 h.1, others.sound h.0 h.2)) (λ h. (h.0, all.complete h.0 h.1, others.complete h.0 h.2))
      (dec_some (Contains others.items) (λ v. dec_among v others.items) all.items)
  holds e x (Compares a) =
      let all = all_in_range site listed e x in
      dec_as
      (λ h. (h.0, all.sound h.0 h.1, h.2)) (λ h. (h.0, all.complete h.0 h.1, h.2))
      (dec_some (λ v. HoldsBetween a.compare v a.constant) (λ v. holds_between a.compare v a.constant) all.items)

  taken_by : (negated : Bool) (P : Type 0) → Dec P → Dec (Taken negated P)
  taken_by false P d = d
  taken_by true P d = dec_not d

  -- the first branch of a choice is taken, or the other one
  pub taken : (e : Env) (negated : Bool) (x : Expr) (test : Test)
      → Dec (Taken negated (TestHolds site e x test))
  taken e negated x test = taken_by negated (TestHolds site e x test) (holds e x test)

-- ---- templates

first : (P : Name → Type 0) → ((n : Name) → Dec (P n)) → (ns : List Named) → Dec ((k : ℕ) × First P ns k)
first P each [] = no (λ h. h.1)
first P each (n ∷ ns) = by (each n.name) (first P each ns)
  where
    by : Dec (P n.name) → Dec ((k : ℕ) × First P ns k) → Dec ((k : ℕ) × First P (n ∷ ns) k)
    by (yes p) rest = yes (n.number, inl (p, refl))
    by (no m) (yes later) = yes (later.0, inr (m, later.1))
    by (no m) (no none) = no (λ h. elim h.1 [ inl here ↦ m here.0 | inr later ↦ none (h.0, later.1) ])

module _ (site : Site) (listed : IsListed site) (templates : TemplateFile) where
  pub has_template : (v : Value) → Dec ((k : ℕ) × HasTemplate site templates v k)
  has_template (Page t) = first (λ name. name ≡ t.function) (λ name. same_name name t.function) templates.functions
  has_template (Data (Node n)) = first (λ name. site.member name n) (λ name. listed.member name n) templates.collections
  has_template (Data (Int i)) = no (λ h. h.1)
  has_template (Data (Text a)) = no (λ h. h.1)
  has_template (Data (Url a)) = no (λ h. h.1)
  has_template (Data (File a)) = no (λ h. h.1)
