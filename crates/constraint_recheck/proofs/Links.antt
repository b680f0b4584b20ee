-- The tests of links and of labels decide.
use Rattle.std.proofs.Common.{◌≡◌, ◌≢◌, ℕ, suc, zero, ◌-◌, ◌<◌, List, [], ◌∷◌, length, get_or, refl, ap, sym, ◌∙◌, subst, inl, inr, arith}
use Rattle.std.specs.Prelude.{Bool, true, false, not, ◌&&◌, ◌||◌, Contains, All, filter, slice_get}
use Rattle.std.specs.Bool.{Decides}
use Rattle.std.specs.List.{AllZip, list_any, list_all}
use Rattle.std.proofs.lemmas.List.Elements.{All-contains, Contains-get_or}
use Rattle.sd_value.specs.Members.{Contains-nil, Contains-cons_cases, Contains-here, Contains-there}
use Rattle.sd_value.specs.declared.Datum.TheVariants.{Int, Text, Url, File, Node}
use Rattle.sd_value.specs.declared.Value.{Value}
use Rattle.sd_value.specs.declared.Value.TheVariants.{Data, Page}
use Rattle.rpe.specs.Regex.{Regex}
use Rattle.graph_spec.specs.DataGraph.{Name, text}
use Rattle.query_spec.specs.declared.Op.TheVariants.{Eq, Ne}
use Rattle.query_spec.specs.declared.Variable.{Variable}
use Rattle.query_spec.specs.Query.{variable, constant, Condition, member, path, compare, one_of, kind, negation, SkolemTerm, Target, plain, made, summed, LinkLabel, quoted, label_variable}
use Rattle.query_spec.specs.Mentions.{same_name, variables_of}
use Rattle.constraint_spec.specs.Placed.{PlacedLink, IsNumbered}
use Rattle.constraint_spec.specs.Entailed.{IsAmong, IsEntailed}
use Rattle.constraint_spec.specs.Use.{naming, rename, IsUse}
use Rattle.site_spec.specs.Site.{IsPerRow}
use Rattle.constraint_spec.specs.Certificate.{IsOtherLabel, IsNotLabel, IsOtherList, Forbids, MayBe, IsOf, target_names}
use Rattle.constraint_laws.proofs.Names.{by_test}
use Rattle.query_parts.specs.Same.{same_operand, same_condition}
use Rattle.constraint_recheck.specs.Entails.{Tests, IsKnown, AreTests, among, fixes, entails}
use Rattle.constraint_recheck.specs.Recheck.{zip_all, same_sort, is_empty, on_link, link_at, on_made, is_of, is_other_text, is_not_label, is_quoted, is_other_list, forbids, may_be, may_carry, is_variable, is_use, is_per_row, determined}
use Rattle.query_parts.proofs.Bools.{never, always, as_well, both, either, denied, some, every, every_in}
use Rattle.query_parts.proofs.Same.{name_decides, operand_decides, condition_decides}
use Rattle.constraint_recheck.proofs.Entails.{Fixes, fixes_decides, among_decides, entails_decides, known_renamed}

-- ---- lists

pub zip_in : {X Y : Type 0} (f : X → Y → Bool) (R : X → Y → Type 0) (xs : List X) → ((x : X) → Contains xs x → (y : Y) → Decides (f x y) (R x y)) → (ys : List Y) → Decides (zip_all f xs ys) (AllZip R xs ys)
zip_in f R [] d [] = always tt
zip_in f R [] d (y ∷ ys) = never (λ h. h)
zip_in f R (x ∷ xs) d [] = never (λ h. h)
zip_in f R (x ∷ xs) d (y ∷ ys) = both (f x y) (zip_all f xs ys) (d x (Contains-here x xs) y) (zip_in f R xs (λ z m. d z (Contains-there x xs z m)) ys)

pub zip_decides : {X Y : Type 0} (f : X → Y → Bool) (R : X → Y → Type 0) → ((x : X) (y : Y) → Decides (f x y) (R x y)) → (xs : List X) (ys : List Y) → Decides (zip_all f xs ys) (AllZip R xs ys)
zip_decides f R d xs ys = zip_in f R xs (λ x m y. d x y) ys

pub filter_from : {X : Type 0} (test : X → Bool) (xs : List X) (x : X) → Contains (filter test xs) x → Contains xs x × (test x ≡ true)
filter_from test [] x m = absurd (Contains-nil x m)
filter_from test (y ∷ ys) x m =
    by_test (test y) (Contains (y ∷ ys) x × (test x ≡ true))
    (λ t. elim (Contains-cons_cases y (filter test ys) x (rw t at m)) [
      | inl e ↦ (subst (Contains (y ∷ ys)) e (Contains-here y ys), subst (λ z. test z ≡ true) e t)
      | inr back ↦ (let rest = filter_from test ys x back in (Contains-there y ys x rest.0, rest.1))
    ])
    (λ f. let rest = filter_from test ys x (rw f at m) in (Contains-there y ys x rest.0, rest.1))

pub empty_decides : {X : Type 0} (xs : List X) → Decides (is_empty xs) (xs ≡ [])
empty_decides [] = always refl
empty_decides (x ∷ xs) = never (λ e. cc)

pub all_each : {X : Type 0} (P : X → Type 0) (xs : List X) → ((x : X) → Contains xs x → P x) → All P xs
all_each P xs h i d lt = h (get_or xs i d) (Contains-get_or xs i d lt)

-- each item passes
pub each_decides : {X : Type 0} (f : X → Bool) (P : X → Type 0) → ((x : X) → Decides (f x) (P x)) → (xs : List X) → Decides (list_all f xs) ((x : X) → Contains xs x → P x)
each_decides f P d xs = as_well (list_all f xs) (λ h x m. All-contains P xs x h m) (all_each P xs) (every f P d xs)

pub implies : {P Q : Type 0} (a b : Bool) → Decides a P → Decides b Q → Decides (not a || b) (P → Q)
implies true b d e = (λ t p. e.0 t, λ h. e.1 (h (d.0 refl)))
implies false b d e = (λ t p. (let f : false ≡ true = d.1 p in cc), λ h. refl)

pub sort_decides : (a b : Bool) → Decides (same_sort a b) (a ≡ b)
sort_decides true true = always refl
sort_decides true false = never (λ e. cc)
sort_decides false true = never (λ e. cc)
sort_decides false false = always refl

-- ---- the link of a number

at_decides : (f : PlacedLink → Bool) (P : PlacedLink → Type 0) (links : List PlacedLink) → ((k : PlacedLink) → Contains links k → Decides (f k) (P k)) → (i : ℕ)
    → Decides (on_link (slice_get links i) f) ((k : PlacedLink) × (i < length links) × (get_or links i k ≡ k) × P k)
at_decides f P [] d i = never (λ h. let lt = h.1 in absurd (omega arith))
at_decides f P (x ∷ links) d zero = as_well (f x) (λ p. (x, omega arith, refl, p)) (λ h. subst P (sym h.2) h.3) (d x (Contains-here x links))
at_decides f P (x ∷ links) d (suc i) =
    as_well (on_link (slice_get links i) f) (λ h. (h.0, (let lt = h.1 in omega arith), h.2, h.3)) (λ h. (h.0, (let lt = h.1 in omega arith), h.2, h.3))
    (at_decides f P links (λ k m. d k (Contains-there x links k m)) i)

pub link_decides : (f : PlacedLink → Bool) (P : PlacedLink → Type 0) (links : List PlacedLink) → ((k : PlacedLink) → Contains links k → Decides (f k) (P k)) → (n : ℕ)
    → Decides (on_link (link_at links n) f) ((k : PlacedLink) × IsNumbered links n k × P k)
link_decides f P links d zero = never (λ h. let one = h.1.from_one in absurd (omega arith))
link_decides f P links d (suc i) =
    let e : suc i - 1 ≡ i = omega arith in
    as_well (on_link (slice_get links i) f)
    (λ h. (h.0, record { from_one = omega arith; within = (let lt = h.1 in omega arith); there = subst (λ j. get_or links j h.0 ≡ h.0) (sym e) h.2 }, h.3))
    (λ h. (h.0, (let w = h.1.within in omega arith), subst (λ j. get_or links j h.0 ≡ h.0) e h.1.there, h.2))
    (at_decides f P links d i)

-- ---- terms and labels

pub made_decides : (f : SkolemTerm → Bool) (P : SkolemTerm → Type 0) → ((t : SkolemTerm) → Decides (f t) (P t)) → (target : Target) → Decides (on_made f target) ((t : SkolemTerm) × (target ≡ made t) × P t)
made_decides f P d (plain o) = never (λ h. let e = h.1 in cc)
made_decides f P d (summed a) = never (λ h. let e = h.1 in cc)
made_decides f P d (made t) = as_well (f t) (λ p. (t, refl, p)) (λ h. let g = h.1 in let e : t ≡ h.0 = cc in subst P (sym e) h.2) (d t)

pub of_decides : (f : Name) (target : Target) → Decides (is_of f target) (IsOf f target)
of_decides f target = made_decides (λ t. same_name t.function f) (λ t. t.function ≡ f) (λ t. name_decides t.function f) target

pub quoted_decides : (l : Name) (label : LinkLabel) → Decides (is_quoted l label) (label ≡ quoted l)
quoted_decides l (quoted m) = as_well (same_name m l) (ap quoted) (λ e. let p : m ≡ l = cc in p) (name_decides m l)
quoted_decides l (label_variable a) = never (λ e. cc)

other_text_decides : (l : Name) (v : Value) → Decides (is_other_text l v) ((k : Name) × (v ≡ text k) × (k ≢ l))
other_text_decides l (Data (Text k)) =
    as_well (is_other_text l (Data (Text k))) (λ n. (k, refl, n)) (λ h e. let g = h.1 in let s : k ≡ h.0 = cc in h.2 (sym s ∙ e)) (denied (same_name k l) (name_decides k l))
other_text_decides l (Data (Int n)) = never (λ h. let e = h.1 in cc)
other_text_decides l (Data (Url s)) = never (λ h. let e = h.1 in cc)
other_text_decides l (Data (File s)) = never (λ h. let e = h.1 in cc)
other_text_decides l (Data (Node s)) = never (λ h. let e = h.1 in cc)
other_text_decides l (Page p) = never (λ h. let e = h.1 in cc)

other_label_decides : (a l : Name) (c : Condition) → Decides (fixes (is_other_text l) (variable a) c) (IsOtherLabel a l c)
other_label_decides a l c =
    as_well (fixes (is_other_text l) (variable a) c) to from
    (fixes_decides (is_other_text l) (λ v. (k : Name) × (v ≡ text k) × (k ≢ l)) (other_text_decides l) (variable a) c)
  where
    to : Fixes (is_other_text l) (λ v. (k : Name) × (v ≡ text k) × (k ≢ l)) (other_text_decides l) (variable a) c → IsOtherLabel a l c
    to (v, inl e, (k, is, n)) = (k, n, inl (e ∙ ap (λ w. compare (variable a) Eq (constant w)) is))
    to (v, inr e, (k, is, n)) = (k, n, inr (e ∙ ap (λ w. compare (constant w) Eq (variable a)) is))

    from : IsOtherLabel a l c → Fixes (is_other_text l) (λ v. (k : Name) × (v ≡ text k) × (k ≢ l)) (other_text_decides l) (variable a) c
    from (k, n, inl e) = (text k, inl e, (k, refl, n))
    from (k, n, inr e) = (text k, inr e, (k, refl, n))

not_label_decides : (a l : Name) (c : Condition) → Decides (is_not_label a l c) (IsNotLabel a l c)
not_label_decides a l c =
    either (same_condition c (compare (variable a) Ne (constant (text l)))) (same_condition c (compare (constant (text l)) Ne (variable a)))
    (condition_decides c (compare (variable a) Ne (constant (text l)))) (condition_decides c (compare (constant (text l)) Ne (variable a)))

module _ (known : Regex → Type 0) (tests : Tests) (are : AreTests known tests) (version : ℕ) where
  other_list_decides : (a l : Name) (c : Condition) → Decides (is_other_list tests version a l c) (IsOtherList version a l c)
  other_list_decides a l (one_of t values) =
      as_well (is_other_list tests version a l (one_of t values))
      (λ h. (values, ap (λ z. one_of z values) h.0, h.1))
      (λ h. let e = h.1 in (let p : t ≡ variable a = cc in p, let s : h.0 ≡ values = cc in subst (λ vs. IsAmong version vs (text l) → ⊥) s h.2))
      (both (same_operand t (variable a)) (not (among tests version values (text l))) (operand_decides t (variable a)) (denied (among tests version values (text l)) (among_decides known tests are version values (text l))))
  other_list_decides a l (member c x) = never (λ h. let e = h.1 in cc)
  other_list_decides a l (path t s u) = never (λ h. let e = h.1 in cc)
  other_list_decides a l (compare t op u) = never (λ h. let e = h.1 in cc)
  other_list_decides a l (kind test x) = never (λ h. let e = h.1 in cc)
  other_list_decides a l (negation c) = never (λ h. let e = h.1 in cc)

  forbids_decides : (a l : Name) (c : Condition) → Decides (forbids tests version a l c) (Forbids version a l c)
  forbids_decides a l c =
      either (fixes (is_other_text l) (variable a) c) (is_not_label a l c || is_other_list tests version a l c) (other_label_decides a l c)
      (either (is_not_label a l c) (is_other_list tests version a l c) (not_label_decides a l c) (other_list_decides a l c))

  may_be_decides : (l : Name) (conditions : List Condition) (label : LinkLabel) → Decides (may_be tests version l conditions label) (MayBe version l conditions label)
  may_be_decides l conditions (quoted m) = name_decides m l
  may_be_decides l conditions (label_variable a) =
      each_decides (λ c. not (forbids tests version a l c)) (λ c. Forbids version a l c → ⊥) (λ c. denied (forbids tests version a l c) (forbids_decides a l c)) conditions

  pub may_decides : (f l : Name) (k : PlacedLink) → Decides (may_carry tests version f l k) (IsOf f k.link.source × MayBe version l k.conditions k.link.label)
  may_decides f l k = both (is_of f k.link.source) (may_be tests version l k.conditions k.link.label) (of_decides f k.link.source) (may_be_decides l k.conditions k.link.label)

  variable_decides : (variables : List Variable) (y : Name) (arc : Bool) → Decides (is_variable tests version variables y arc) (Contains variables (record { name = y; arc = arc }))
  variable_decides variables y arc =
      as_well (is_variable tests version variables y arc)
      (λ h. subst (Contains variables) (λ i. record { name = h.2.0 i; arc = h.2.1 i }) h.1)
      (λ m. (record { name = y; arc = arc }, m, (refl, refl)))
      (some (λ v. same_name v.name y && same_sort v.arc arc) (λ v. (v.name ≡ y) × (v.arc ≡ arc)) (λ v. both (same_name v.name y) (same_sort v.arc arc) (name_decides v.name y) (sort_decides v.arc arc)) variables)

  pub use_decides : (S : List Condition) → All (IsKnown known) S → (k : PlacedLink) → All (IsKnown known) k.conditions → (names : List Name) → Decides (is_use tests version S k names) (IsUse version S k names)
  use_decides S ks k kk names =
      as_well (is_use tests version S k names)
      (λ h. record { sorts = h.0; entailed = h.1 }) (λ u. (u.sorts, u.entailed))
      (both
      (zip_all (λ v y. is_variable tests version (variables_of S) y v.arc) (variables_of k.conditions) names)
      (list_all (λ c. entails tests version S (rename (naming k names) c)) k.conditions)
      (zip_decides (λ v y. is_variable tests version (variables_of S) y v.arc) (λ v y. Contains (variables_of S) (record { name = y; arc = v.arc })) (λ v y. variable_decides (variables_of S) y v.arc) (variables_of k.conditions) names)
      (every_in (λ c. entails tests version S (rename (naming k names) c)) (λ c. IsEntailed version S (rename (naming k names) c)) k.conditions
      (λ c m. entails_decides known tests are version S ks (rename (naming k names) c) (known_renamed known (naming k names) c (All-contains (IsKnown known) k.conditions c kk m)))))

per_row_decides : (t : Target) → Decides (is_per_row t) (IsPerRow t)
per_row_decides (plain o) = always tt
per_row_decides (made t) = always tt
per_row_decides (summed a) = never (λ h. h)

names_decides : (k : PlacedLink) → Decides (list_all (λ x. list_any (same_name x) (target_names k.link.source)) (target_names k.link.target)) ((x : Name) → Contains (target_names k.link.target) x → Contains (target_names k.link.source) x)
names_decides k =
    each_decides (λ x. list_any (same_name x) (target_names k.link.source)) (λ x. Contains (target_names k.link.source) x)
    (λ x. as_well (list_any (same_name x) (target_names k.link.source)) (λ h. subst (Contains (target_names k.link.source)) (sym h.2) h.1) (λ m. (x, m, refl))
    (some (same_name x) (λ y. x ≡ y) (name_decides x) (target_names k.link.source)))
    (target_names k.link.target)

pub determined_decides : (k : PlacedLink) → Decides (determined k) (IsPerRow k.link.target × ((x : Name) → Contains (target_names k.link.target) x → Contains (target_names k.link.source) x))
determined_decides k =
    both (is_per_row k.link.target) (list_all (λ x. list_any (same_name x) (target_names k.link.source)) (target_names k.link.target)) (per_row_decides k.link.target) (names_decides k)
