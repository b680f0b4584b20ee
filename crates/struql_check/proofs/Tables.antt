-- The functions of terms, one term more; and the faults of a term, each told exactly.
use Rattle.std.proofs.Common.{◌≡◌, ◌≢◌, ℕ, ◌≤◌, List, [], ◌∷◌, ◌++◌, arith, refl, sym, ap, ◌∙◌, subst, inr}
use Rattle.std.specs.Prelude.{Bool, true, false, not, ◌||◌, ◌&&◌, nat_eq, Option, Some, None, option_map, find, if◌then◌else◌, cond}
use Rattle.std.specs.Option.{is_some, option_copied}
use denote.Bor.{Bor}
use Rattle.std.proofs.lemmas.Bool.Decides.{nat_tests}
use Rattle.std.proofs.lemmas.List.Folds.{list_any-append}
use Rattle.query_spec.specs.Mentions.{same_name}
use Rattle.struql_ast.specs.Written.{Name}
use Rattle.struql_check.specs.declared.faults.Check.{Check}
use Rattle.struql_check.specs.declared.faults.Check.TheVariants.{NeverCreated, Arity, Reserved}
use Rattle.struql_check.specs.declared.terms.SeenTerm.{SeenTerm}
use Rattle.struql_check.specs.Faults.{is_created, first_arity, TermFault, number, is_index, is_reserved}
use Rattle.struql_check.specs.First.{IsFirst, fault_at}
use Rattle.struql_check.specs.Known.{or_else, differs, broken_term}
use Rattle.query_spec.proofs.MentionLaws.{same_is, same_turned}

or_nil : (a b : Bool) → (a || (b || false)) ≡ (a || b)
or_nil true b = refl
or_nil false true = refl
or_nil false false = refl

pub created_push : (all : List SeenTerm) (t : SeenTerm) (f : Name) → is_created (all ++ t ∷ []) f ≡ (is_created all f || (same_name f t.function && not t.linked))
created_push all t f = list_any-append (λ (u : SeenTerm). same_name f u.function && not u.linked) all (t ∷ []) ∙ or_nil (is_created all f) (same_name f t.function && not t.linked)

pub arity_push : (all : List SeenTerm) (t : SeenTerm) (f : Name) → first_arity (all ++ t ∷ []) f ≡ or_else (first_arity all f) (if same_name f t.function then Some t.arity else None)
arity_push [] t f = by_test (same_name f t.function) where
  by_test : (b : Bool) → option_map (λ (u : SeenTerm). u.arity) (if b then Some t else None) ≡ (if b then Some t.arity else None)
  by_test true = refl
  by_test false = refl
arity_push (u ∷ all) t f = by_test (same_name f u.function) (arity_push all t f) where
  by_test : (b : Bool) → first_arity (all ++ t ∷ []) f ≡ or_else (first_arity all f) (if same_name f t.function then Some t.arity else None)
      → option_map (λ (v : SeenTerm). v.arity) (if b then Some u else find (λ v. same_name f v.function) (all ++ t ∷ [])) ≡ or_else (option_map (λ (v : SeenTerm). v.arity) (if b then Some u else find (λ v. same_name f v.function) all)) (if same_name f t.function then Some t.arity else None)
  by_test true e = refl
  by_test false e = e

-- what one more function does to the set
pub created_step : (old : Bool) (g f : Name) (linked : Bool) → linked ≡ false → cond (same_name g f) true old ≡ (old || (same_name f g && not linked))
created_step old g f linked e = rw (e, same_turned g f) (by_test old (same_name f g)) where
  by_test : (o b : Bool) → cond b true o ≡ (o || (b && true))
  by_test true true = refl
  by_test true false = refl
  by_test false true = refl
  by_test false false = refl

pub arity_new : (g f : Name) (o : Option ℕ) (a : ℕ) → (f ≡ g → o ≡ None) → cond (same_name g f) (Some a) o ≡ or_else o (if same_name f g then Some a else None)
arity_new g f o a h = rw (same_turned g f) (by_test o (same_name f g) (λ t. h (same_is f g t))) where
  by_test : (p : Option ℕ) (b : Bool) → (b ≡ true → p ≡ None) → cond b (Some a) p ≡ or_else p (if b then Some a else None)
  by_test None true k = refl
  by_test None false k = refl
  by_test (Some n) true k = (let e = k refl in cc)
  by_test (Some n) false k = refl

pub arity_old : (g f : Name) (o : Option ℕ) (a : ℕ) → (f ≡ g → o ≡ None → ⊥) → o ≡ or_else o (if same_name f g then Some a else None)
arity_old g f o a h = by_test o (same_name f g) (λ t. h (same_is f g t)) where
  by_test : (p : Option ℕ) (b : Bool) → (b ≡ true → p ≡ None → ⊥) → p ≡ or_else p (if b then Some a else None)
  by_test None true k = absurd (k refl refl)
  by_test None false k = refl
  by_test (Some n) true k = refl
  by_test (Some n) false k = refl

pub copied_none : {T : Type 0} (o : Option (Bor T)) (g : Option T) (b : Bool) → option_copied o ≡ g → is_some o ≡ not b → b ≡ true → g ≡ None
copied_none None g b e s t = sym e
copied_none (Some x) g b e s t = (let f : not b ≡ false = ap not t in cc)

pub copied_some : {T : Type 0} (o : Option (Bor T)) (g : Option T) (b : Bool) → option_copied o ≡ g → is_some o ≡ not b → b ≡ false → g ≡ None → ⊥
copied_some None g b e s t n = (let f : not b ≡ true = ap not t in cc)
copied_some (Some x) g b e s t n = cc

-- ---- the faults of a term

and_not : (a b : Bool) → (a && not b) ≡ true → (a ≡ true) × (b ≡ false)
and_not true true e = absurd cc
and_not true false e = (refl, refl)
and_not false b e = absurd cc

and_not_false : (a b : Bool) → (a && not b) ≡ false → a ≡ true → b ≡ false → ⊥
and_not_false true true e p q = cc
and_not_false true false e p q = cc
and_not_false false b e p q = cc

nat_same : (n : ℕ) → nat_eq n n ≡ true
nat_same n = grind (arith, nat_tests)

nat_apart : (m n : ℕ) → m ≢ n → nat_eq m n ≡ false
nat_apart m n ne = grind (arith, nat_tests)

differ_true : (o : Option ℕ) (a : ℕ) → differs o a ≡ true → (n : ℕ) × (o ≡ Some n) × (n ≢ a)
differ_true None a e = absurd cc
differ_true (Some n) a e = (n, refl, (λ s. (let t = nat_same n in let f : differs (Some n) n ≡ true = subst (λ (m : ℕ). differs (Some n) m ≡ true) (sym s) e in let g : not (nat_eq n n) ≡ false = ap not t in cc)))

differ_false : (o : Option ℕ) (a n : ℕ) → differs o a ≡ false → o ≡ Some n → n ≢ a → ⊥
differ_false None a n e is ne = cc
differ_false (Some m) a n e is ne = (let same : m ≡ n = cc in let f : nat_eq n a ≡ false = nat_apart n a ne in let g : differs (Some n) a ≡ false = subst (λ (k : ℕ). differs (Some k) a ≡ false) same e in let h : not (nat_eq n a) ≡ true = ap not f in cc)

term_at : (version : ℕ) (all : List SeenTerm) (t : SeenTerm) (other : Check) (place : ℕ) → TermFault version all t other place → (t.at ≡ place) × (62 ≤ number other)
term_at version all t NeverCreated place p = (sym p.2, omega arith)
term_at version all t Arity place p = (sym p.3, omega arith)
term_at version all t Reserved place p = (sym p.1, omega arith)
term_at version all t other place p = absurd p

term_but_created : (version : ℕ) (all : List SeenTerm) (t : SeenTerm) → (t.linked && not (is_created all t.function)) ≡ false → (other : Check) (place : ℕ) → TermFault version all t other place → 63 ≤ number other
term_but_created version all t u NeverCreated place p = absurd (and_not_false t.linked (is_created all t.function) u p.0 p.1)
term_but_created version all t u Arity place p = omega arith
term_but_created version all t u Reserved place p = omega arith
term_but_created version all t u other place p = absurd p

term_reserved : (version : ℕ) (all : List SeenTerm) (t : SeenTerm) → (t.linked && not (is_created all t.function)) ≡ false → differs (first_arity all t.function) t.arity ≡ false → (other : Check) (place : ℕ) → TermFault version all t other place → (67 ≤ number other) × ((is_index t.function || is_reserved version t.function) ≡ true)
term_reserved version all t u d NeverCreated place p = absurd (and_not_false t.linked (is_created all t.function) u p.0 p.1)
term_reserved version all t u d Arity place p = absurd (differ_false (first_arity all t.function) t.arity p.0 d p.1 p.2)
term_reserved version all t u d Reserved place p = (omega arith, p.0)
term_reserved version all t u d other place p = absurd p

term_test : (b : Bool) (P : Bool → Type 0) → (b ≡ true → P true) → (b ≡ false → P false) → P b
term_test true P t f = t refl
term_test false P t f = f refl

-- the fault of a term
pub term_first : (version : ℕ) (all : List SeenTerm) (t : SeenTerm) → IsFirst (TermFault version all t) (fault_at (broken_term (t.linked && not (is_created all t.function)) (differs (first_arity all t.function) t.arity) (is_index t.function || is_reserved version t.function)) t.at)
term_first version all t =
    let d = differs (first_arity all t.function) t.arity in
    let r = is_index t.function || is_reserved version t.function in
    term_test (t.linked && not (is_created all t.function)) (λ b. IsFirst (TermFault version all t) (fault_at (broken_term b d r) t.at))
    (λ u. record {
      is = (let parts = and_not t.linked (is_created all t.function) u in (parts.0, parts.1, refl));
      least = λ other place p. (let e = term_at version all t other place p in inr (e.0, e.1));
    })
    (λ u. term_test d (λ b. IsFirst (TermFault version all t) (fault_at (broken_term false b r) t.at))
    (λ e. record {
      is = (let parts = differ_true (first_arity all t.function) t.arity e in (parts.0, parts.1, parts.2, refl));
      least = λ other place p. inr ((term_at version all t other place p).0, term_but_created version all t u other place p);
    })
    (λ n. term_test r (λ b. IsFirst (TermFault version all t) (fault_at (broken_term false false b) t.at))
    (λ y. record {
      is = (y, refl);
      least = λ other place p. inr ((term_at version all t other place p).0, (term_reserved version all t u n other place p).0);
    })
    (λ z. λ other place p. (let y = (term_reserved version all t u n other place p).1 in let c : true ≡ false = sym y ∙ z in cc))))
