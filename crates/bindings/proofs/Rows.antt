-- The rows that fit a chain's goals are the chain's rows that agree with what is bound.
use Rattle.std.proofs.Common.{◌≡◌, ℕ, zero, suc, List, [], ◌∷◌, length, arith, refl, ap, sym, ◌∙◌, subst, get_or}
use Rattle.std.specs.Prelude.{◌↔◌, All, IsTrue, Bool, true, false, Option, None, Some, slice_get}
use Rattle.std.specs.Bool.{MatchBool}
use Rattle.std.specs.List.{AllZip}
use Rattle.std.proofs.lemmas.Option.{slice_get_within, slice_get-get_or}
use Rattle.sd_value.specs.declared.Value.{Value}
use Rattle.graph_spec.specs.DataGraph.{DataGraph, IsValueOf, IsLabelValueOf}
use Rattle.query_spec.specs.declared.Variable.{Variable}
use Rattle.query_spec.specs.Query.{Chain, Condition}
use Rattle.query_spec.specs.Holds.{Holds}
use Rattle.sd_value.specs.Ascending.{ListsExactly}
use Rattle.query_spec.specs.Rows as rows
use Rattle.query_spec.specs.Rows.{arcs_of, value_in, IsRow, IsInDomain, row_cmp, IsAnswer, SomeAnswer}
use Rattle.asker.specs.Wanted.{ListsSome}
use Rattle.condition_tests.specs.declared.literal.Goal.{Goal}
use Rattle.condition_tests.specs.Known.{Agrees, InDomains, KnownInDomains, IsCandidate, is_arc}
use Rattle.bindings.specs.Fits.{Fits, SomeFits}
use Rattle.bindings.proofs.Found.{fits_in_domains}
use Rattle.condition_tests.specs.Resolved.{AreGoalsOf}

tail : (v : Value) (o : Option Value) (t : List Value) (s : List (Option Value)) → Agrees (v ∷ t) (o ∷ s) → Agrees t s
tail v o t s a = record { as_long = (let e = a.as_long in omega (arith, e)); same = λ k w h. a.same (suc k) w h }

none_first : (v : Value) (t : List Value) (s : List (Option Value)) → Agrees t s → (k : ℕ) (w : Value) → slice_get (None ∷ s) k ≡ Some (Some w) → slice_get (v ∷ t) k ≡ Some w
none_first v t s r zero w h = cc
none_first v t s r (suc k) w h = r.same k w h

some_first : (v u : Value) → v ≡ u → (t : List Value) (s : List (Option Value)) → Agrees t s → (k : ℕ) (w : Value) → slice_get (Some u ∷ s) k ≡ Some (Some w) → slice_get (v ∷ t) k ≡ Some w
some_first v u e t s r zero w h = cc
some_first v u e t s r (suc k) w h = r.same k w h

by_arc : (G : DataGraph) (arc : Bool) (v : Value) → IsCandidate G arc v ↔ MatchBool arc (IsLabelValueOf G v) (IsValueOf G v)
by_arc G true v = ((λ h. h), (λ h. h))
by_arc G false v = ((λ h. h), (λ h. h))

domain_first : (G : DataGraph) (x : Variable) (xs : List Variable) (v : Value) (t : List Value) → IsCandidate G x.arc v → InDomains G (arcs_of xs) t → (k : ℕ) (w : Value) → slice_get (v ∷ t) k ≡ Some w → IsCandidate G (is_arc (arcs_of (x ∷ xs)) k) w
domain_first G x xs v t c r zero w h = let e : v ≡ w = cc in subst (λ u. IsCandidate G x.arc u) e c
domain_first G x xs v t c r (suc k) w h = r.each k w h

-- agreeing, place by place and by the structure of the lists
pub agrees_to : (t : List Value) (s : List (Option Value)) → Agrees t s → rows.Agrees t s
agrees_to [] [] a = tt
agrees_to [] (o ∷ s) a = (let e = a.as_long in cc)
agrees_to (v ∷ t) [] a = (let e = a.as_long in cc)
agrees_to (v ∷ t) (None ∷ s) a = agrees_to t s (tail v None t s a)
agrees_to (v ∷ t) (Some w ∷ s) a = ((let e = a.same zero w refl in cc), agrees_to t s (tail v (Some w) t s a))

pub agrees_from : (t : List Value) (s : List (Option Value)) → rows.Agrees t s → Agrees t s
agrees_from [] [] a = record { as_long = refl; same = λ k v h. cc }
agrees_from [] (o ∷ s) a = absurd a
agrees_from (v ∷ t) [] a = absurd a
agrees_from (v ∷ t) (None ∷ s) a = let r = agrees_from t s a in record { as_long = ap suc r.as_long; same = none_first v t s r }
agrees_from (v ∷ t) (Some w ∷ s) a = let r = agrees_from t s a.1 in record { as_long = ap suc r.as_long; same = some_first v w a.0 t s r }

-- each value is in its variable's domain
candidate : (G : DataGraph) (x : Variable) (v : Value) → IsCandidate G x.arc v ↔ IsInDomain G x v
candidate G x v = by_arc G x.arc v

pub domains_to : (G : DataGraph) (variables : List Variable) (t : List Value) → length t ≡ length variables → InDomains G (arcs_of variables) t → AllZip (IsInDomain G) variables t
domains_to G [] [] l d = tt
domains_to G [] (v ∷ t) l d = cc
domains_to G (x ∷ xs) [] l d = cc
domains_to G (x ∷ xs) (v ∷ t) l d = ((candidate G x v).0 (d.each zero v refl), domains_to G xs t (omega (arith, l)) (record { each = λ k w h. d.each (suc k) w h }))

pub domains_from : (G : DataGraph) (variables : List Variable) (t : List Value) → AllZip (IsInDomain G) variables t → InDomains G (arcs_of variables) t
domains_from G [] [] z = record { each = λ k v h. cc }
domains_from G [] (v ∷ t) z = absurd z
domains_from G (x ∷ xs) [] z = absurd z
domains_from G (x ∷ xs) (v ∷ t) z = let r = domains_from G xs t z.1 in record { each = domain_first G x xs v t ((candidate G x v).1 z.0) r }

pub long_of : (G : DataGraph) (variables : List Variable) (t : List Value) → AllZip (IsInDomain G) variables t → length t ≡ length variables
long_of G [] [] z = refl
long_of G [] (v ∷ t) z = absurd z
long_of G (x ∷ xs) [] z = absurd z
long_of G (x ∷ xs) (v ∷ t) z = ap suc (long_of G xs t z.1)

all_from_get : (P : Condition → Type 0) (ks : List Condition) → ((i : ℕ) (k : Condition) → slice_get ks i ≡ Some k → P k) → All P ks
all_from_get P ks h = λ i d l. h i (get_or ks i d) (slice_get-get_or ks i d l)

get_from_all : (P : Condition → Type 0) (ks : List Condition) → All P ks → (i : ℕ) (k : Condition) → slice_get ks i ≡ Some k → P k
get_from_all P ks h i k e = let l = slice_get_within ks i k e in let at = slice_get-get_or ks i k l in let same : get_or ks i k ≡ k = cc in subst P same (h i k l)

module _ (G : DataGraph) (c : Chain) (goals : List Goal) (resolved : AreGoalsOf c goals) where
  pub answer_from_fits : (s : List (Option Value)) (t : List Value) → length s ≡ length c.variables → Fits G c.version (arcs_of c.variables) goals 0 s t → IsAnswer G c s t
  answer_from_fits s t l f =
      let long : length t ≡ length c.variables = f.agrees.as_long ∙ l in
      record {
        is_row = record {
          in_domain = domains_to G c.variables t long f.in_domains;
          conditions_hold = all_from_get (λ k. Holds G c.version k (value_in c.variables t)) c.conditions
              (λ i k e. let r = resolved.each k i e in (r.3 G t long).0 (f.goals_hold r.0 r.1 (omega arith) r.2));
        };
        agrees = agrees_to t s f.agrees;
      }

  pub fits_from_answer : (s : List (Option Value)) (t : List Value) → IsAnswer G c s t → Fits G c.version (arcs_of c.variables) goals 0 s t
  fits_from_answer s t a = record {
    agrees = agrees_from t s a.agrees;
    in_domains = domains_from G c.variables t a.is_row.in_domain;
    goals_hold = λ j g le e. resolved.no_more g j e G t (long_of G c.variables t a.is_row.in_domain)
        (get_from_all (λ k. Holds G c.version k (value_in c.variables t)) c.conditions a.is_row.conditions_hold);
  }

  pub answers_listed : (s : List (Option Value)) (xs : List (List Value)) → length c.variables ≡ length s → ListsExactly row_cmp (Fits G c.version (arcs_of c.variables) goals 0 s) xs → ListsExactly row_cmp (IsAnswer G c s) xs
  answers_listed s xs l h = record {
    ascending = h.ascending;
    sound = λ t m. answer_from_fits s t (sym l) (h.sound t m);
    complete = λ t a. h.complete t (fits_from_answer s t a);
  }

  pub some_listed : (wanted : List Bool) (s : List (Option Value)) (xs : List (List Value)) → length c.variables ≡ length s → ListsSome wanted (Fits G c.version (arcs_of c.variables) goals 0 s) xs → ListsSome wanted (IsAnswer G c s) xs
  some_listed wanted s xs l h = record {
    ascending = h.ascending;
    sound = λ t m. answer_from_fits s t (sym l) (h.sound t m);
    each = λ t a. h.each t (fits_from_answer s t a);
  }

  pub some_answer : (s : List (Option Value)) (b : Bool) → length c.variables ≡ length s → (IsTrue b ↔ SomeFits G c.version (arcs_of c.variables) goals 0 s) → (IsTrue b ↔ SomeAnswer G c s)
  some_answer s b l h = (
    (λ yes. (let f = h.0 yes in record { row = f.row; is_answer = answer_from_fits s f.row (sym l) f.fits })),
    (λ a. h.1 (record { row = a.row; fits = fits_from_answer s a.row a.is_answer })),
  )

  pub no_answer : (s : List (Option Value)) → (KnownInDomains G (arcs_of c.variables) s → ⊥) → SomeAnswer G c s → ⊥
  no_answer s outside a = outside (fits_in_domains G c.version (arcs_of c.variables) goals 0 s a.row (fits_from_answer s a.row a.is_answer))
