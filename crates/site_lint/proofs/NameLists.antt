-- Names among lists of names.
use Rattle.std.proofs.Common.{◌≡◌, ◌↔◌, Bool, true, false, List, [], ◌∷◌, ◌++◌, refl, sym, ap, ◌∙◌, subst, ⊎_elim}
use Rattle.std.specs.Prelude.{IsTrue, not, ◌||◌, Contains, map, Option, Some, Result, Ok, Err, IfOk}
use Rattle.sd_value.specs.declared.NoMemory.{NoMemory}
use Rattle.std.specs.List.{list_any, flat_map}
use Rattle.sd_value.specs.Names.{Name}
use Rattle.sd_value.specs.Members.{Contains-nil, Contains-cons_cases, Contains-here, Contains-there}
use Rattle.query_spec.specs.Mentions.{same_name}
use Rattle.query_spec.specs.Query as plain
use Rattle.query_spec.proofs.MentionLaws.{same_is, same_itself, by_test}
use Rattle.struql_ast.specs.declared.Condition as declared
use Rattle.struql_ast.specs.Reading.{condition_of}

pub any_contains : (x : Name) (xs : List Name) → list_any (same_name x) xs ≡ true → Contains xs x
any_contains x [] t = absurd cc
any_contains x (y ∷ ys) t =
    by_test (same_name x y) (Contains (y ∷ ys) x)
    (λ e. subst (λ (z : Name). Contains (y ∷ ys) z) (sym (same_is x y e)) (Contains-here y ys))
    (λ f. Contains-there y ys x (any_contains x ys (rw f at t)))

pub contains_any : (x : Name) (xs : List Name) → Contains xs x → list_any (same_name x) xs ≡ true
contains_any x [] h = absurd (Contains-nil x h)
contains_any x (y ∷ ys) h =
    ⊎_elim
    (λ e. (let s : same_name x y ≡ true = subst (λ (z : Name). same_name x z ≡ true) (sym e) (same_itself x) in rw s refl))
    (λ k. by_test (same_name x y) (list_any (same_name x) (y ∷ ys) ≡ true) (λ t. rw t refl) (λ f. rw f (contains_any x ys k)))
    (Contains-cons_cases y ys x h)

-- a name is among others where the test says so
pub among : (b : Bool) (x : Name) (xs : List Name) → b ≡ list_any (same_name x) xs → IsTrue b ↔ Contains xs x
among b x xs e = (λ t. any_contains x xs (sym e ∙ t), λ h. e ∙ contains_any x xs h)

not_true : (b : Bool) → b ≡ true → not b ≡ true → ⊥
not_true true e f = cc
not_true false e f = cc

true_or_not : (b : Bool) (P : Type 0) → (b ≡ true → P) → (P → ⊥) → not b ≡ true
true_or_not true P f n = absurd (n (f refl))
true_or_not false P f n = refl

-- and not where it says no
pub not_among : (b : Bool) (x : Name) (xs : List Name) → b ≡ list_any (same_name x) xs → IsTrue (not b) ↔ (Contains xs x → ⊥)
not_among b x xs e =
    let both = among b x xs e in
    (λ t h. not_true b (both.1 h) t, λ n. true_or_not b (Contains xs x) both.0 n)

-- what a test decides, turned
pub turned : (b : Bool) (P : Type 0) → IsTrue b ↔ P → IsTrue (not b) ↔ (P → ⊥)
turned b P both = (λ t h. not_true b (both.1 h) t, λ n. true_or_not b P both.0 n)

-- a name that isn't the one there is
pub other : (b : Bool) (r f : Name) (o : Option Name) → o ≡ Some r → b ≡ same_name r f → IsTrue (not b) ↔ (o ≡ Some f → ⊥)
other b r f o is e = (
  λ t h. (let same : r ≡ f = cc in not_true b (e ∙ subst (λ (z : Name). same_name r z ≡ true) same (same_itself r)) t),
  λ n. true_or_not b (o ≡ Some f) (λ t. is ∙ ap Some (same_is r f (sym e ∙ t))) n,
)

-- what is decided, and what is known besides
pub if_ok_and : (r : Result Bool NoMemory) (A B : Type 0) → B → IfOk r (λ b. IsTrue b ↔ A) → IfOk r (λ b. IsTrue b ↔ (A × B))
if_ok_and (Ok b) A B here h = (λ t. (h.0 t, here), λ p. h.1 p.0)
if_ok_and (Err e) A B here h = tt

-- ---- of conditions

or_grouped : (a b c : Bool) → (a || (b || c)) ≡ ((a || b) || c)
or_grouped true b c = refl
or_grouped false b c = refl

pub any_joined : {Y : Type 0} (f : Y → Bool) (xs ys : List Y) → list_any f (xs ++ ys) ≡ (list_any f xs || list_any f ys)
any_joined f [] ys = refl
any_joined f (x ∷ xs) ys = ap (λ b. f x || b) (any_joined f xs ys) ∙ or_grouped (f x) (list_any f xs) (list_any f ys)

any_flat : {X Y : Type 0} (f : Y → Bool) (g : X → List Y) (xs : List X) → list_any f (flat_map g xs) ≡ list_any (λ x. list_any f (g x)) xs
any_flat f g [] = refl
any_flat f g (x ∷ xs) = any_joined f (g x) (flat_map g xs) ∙ ap (λ b. list_any f (g x) || b) (any_flat f g xs)

any_mapped : {X Y : Type 0} (f : Y → Bool) (g : X → Y) (xs : List X) → list_any f (map g xs) ≡ list_any (λ x. f (g x)) xs
any_mapped f g [] = refl
any_mapped f g (x ∷ xs) = ap (λ b. f (g x) || b) (any_mapped f g xs)

-- some condition has the name, among those of a chain
pub some_has : (f : plain.Condition → List Name) (x : Name) (cs : List declared.Condition) (all : List plain.Condition) (b : Bool)
    → map condition_of cs ≡ all → b ≡ list_any (λ c. list_any (same_name x) (f (condition_of c))) cs → b ≡ list_any (same_name x) (flat_map f all)
some_has f x cs all b same e =
    e ∙ (sym (any_mapped (λ c. list_any (same_name x) (f c)) condition_of cs)
    ∙ (sym (any_flat (same_name x) f (map condition_of cs)) ∙ ap (λ (ks : List plain.Condition). list_any (same_name x) (flat_map f ks)) same))

-- ---- the same said of other names

pub same_absent : {A B : Type 0} → (A ↔ B) → (A → ⊥) ↔ (B → ⊥)
same_absent h = (λ n b. n (h.1 b), λ n a. n (h.0 a))

pub other_last : {A B C : Type 0} (b : Bool) → IsTrue b ↔ (C × A) → (A ↔ B) → IsTrue b ↔ (C × B)
other_last b h same = (λ t. (let p = h.0 t in (p.0, same.0 p.1)), λ p. h.1 (p.0, same.1 p.1))

pub other_first : {A B C : Type 0} (b : Bool) → IsTrue b ↔ (A × C) → (A ↔ B) → IsTrue b ↔ (B × C)
other_first b h same = (λ t. (let p = h.0 t in (same.0 p.0, p.1)), λ p. h.1 (same.1 p.0, p.1))

pub first_if_ok : (A B C : Type 0) (r : Result Bool NoMemory) → IfOk r (λ b. IsTrue b ↔ (A × C)) → (A ↔ B) → IfOk r (λ b. IsTrue b ↔ (B × C))
first_if_ok A B C (Ok b) h same = other_first b h same
first_if_ok A B C (Err e) h same = tt

pub other_all : {A B : Type 0} (b : Bool) → IsTrue b ↔ A → (A ↔ B) → IsTrue b ↔ B
other_all b h same = (λ t. same.0 (h.0 t), λ z. h.1 (same.1 z))
