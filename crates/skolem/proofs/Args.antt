-- The arguments of a term, place by place.
use Rattle.std.proofs.Common.{◌≡◌, ℕ, zero, suc, ◌+◌, ◌<◌, List, [], ◌∷◌, length, map, arith, refl, ap, sym, ◌∙◌, subst}
use Rattle.std.specs.Prelude.{◌⊎◌, Option, Some, slice_get}
use Rattle.std.specs.List.{AllZip}
use Rattle.std.proofs.Common.{inl, inr, ◌≤◌}
use Rattle.std.proofs.lemmas.Option.{slice_get_within, slice_get-map, get_or_from_slice_get}
use Rattle.std.proofs.lemmas.List.Elements.{All-get_or}
use Rattle.std.specs.Prelude.{All, option_map}
use Rattle.sd_value.specs.declared.Value.{Value}
use Rattle.sd_value.specs.declared.Value.TheVariants.{Data}
use Rattle.sd_value.specs.declared.Datum.{Datum}
use Rattle.sd_value.specs.declared.Term.{Term}
use Rattle.query_spec.specs.declared.Variable.{Variable}
use Rattle.query_spec.specs.Holds.{operand_value}
use Rattle.query_spec.specs.Mentions.{IsDeclared}
use Rattle.query_spec.specs.Rows.{value_in, Agrees}
use Rattle.struql_ast.specs.declared.Operand.{Operand as Written}
use Rattle.struql_ast.specs.declared.SkolemTerm.{SkolemTerm}
use Rattle.struql_ast.specs.Reading.{operand_of, term_of}
use Rattle.site_spec.specs.Site.{IsTermUnder}
use Rattle.std.proofs.Common.{◌++◌, take, get_or}
use Rattle.std.proofs.lemmas.List.{take_more}
use Rattle.query_spec.specs.Query.{Operand}
use Rattle.skolem.specs.Solved.{Adds, Refutes, SolvesOperand, Solves, HasNone}

pub zip_at : {A B C : Type 0} (R : B → C → Type 0) (f : A → B) (xs : List A) (ys : List C) (i : ℕ) (x : A) (y : C)
    → AllZip R (map f xs) ys → slice_get xs i ≡ Some x → slice_get ys i ≡ Some y → R (f x) y
zip_at R f [] ys i x y h e k = cc
zip_at R f (a ∷ xs) [] i x y h e k = absurd h
zip_at R f (a ∷ xs) (b ∷ ys) zero x y h e k = let p : a ≡ x = cc in let q : b ≡ y = cc in rw (← p, ← q) h.0
zip_at R f (a ∷ xs) (b ∷ ys) (suc i) x y h e k = zip_at R f xs ys i x y h.1 e k

pub zip_from : {A B C : Type 0} (R : B → C → Type 0) (f : A → B) (xs : List A) (ys : List C) → length xs ≡ length ys
    → ((i : ℕ) (x : A) (y : C) → slice_get xs i ≡ Some x → slice_get ys i ≡ Some y → R (f x) y) → AllZip R (map f xs) ys
zip_from R f [] [] e h = tt
zip_from R f [] (b ∷ ys) e h = absurd (omega (arith, e))
zip_from R f (a ∷ xs) [] e h = absurd (omega (arith, e))
zip_from R f (a ∷ xs) (b ∷ ys) e h = (h zero a b refl refl, zip_from R f xs ys (omega (arith, e)) (λ i x y p q. h (suc i) x y p q))

pub zip_long : {A B C : Type 0} (R : B → C → Type 0) (f : A → B) (xs : List A) (ys : List C) → AllZip R (map f xs) ys → length xs ≡ length ys
zip_long R f [] [] h = refl
zip_long R f [] (b ∷ ys) h = absurd h
zip_long R f (a ∷ xs) [] h = absurd h
zip_long R f (a ∷ xs) (b ∷ ys) h = ap suc (zip_long R f xs ys h.1)

-- the rows that agree are those that give the first i arguments
pub record Solved (variables : List Variable) (operands : List Written) (given : List Datum) (i : ℕ) (bound : List (Option Value)) : Type 0 where
  pub one_each : length bound ≡ length variables
  pub to : (row : List Value) → length row ≡ length variables → Agrees row bound → (j : ℕ) (o : Written) (d : Datum) → j < i → slice_get operands j ≡ Some o → slice_get given j ≡ Some d → SolvesOperand variables (operand_of o) d row
  pub from : (row : List Value) → length row ≡ length variables → ((j : ℕ) (o : Written) (d : Datum) → j < i → slice_get operands j ≡ Some o → slice_get given j ≡ Some d → SolvesOperand variables (operand_of o) d row) → Agrees row bound

split_below : (j n : ℕ) → j < n + 1 → (j < n) ⊎ (j ≡ n)
split_below j n h = search (arith, h)

some_operand : (x y : Written) → Some x ≡ Some y → x ≡ y
some_operand x y e = cc

some_datum : (x y : Datum) → Some x ≡ Some y → x ≡ y
some_datum x y e = cc

at_same : (variables : List Variable) (operands : List Written) (given : List Datum) (i j : ℕ) (o p : Written) (d e : Datum) (row : List Value)
    → slice_get operands i ≡ Some o → slice_get given i ≡ Some d → j ≡ i → slice_get operands j ≡ Some p → slice_get given j ≡ Some e → SolvesOperand variables (operand_of o) d row → SolvesOperand variables (operand_of p) e row
at_same variables operands given i j o p d e row oi di same pj ej g =
    let op : o ≡ p = some_operand o p (sym oi ∙ ap (slice_get operands) (sym same) ∙ pj) in
    let de : d ≡ e = some_datum d e (sym di ∙ ap (slice_get given) (sym same) ∙ ej) in
    rw (← op, ← de) g

pub solved-more : (variables : List Variable) (operands : List Written) (given : List Datum) (i : ℕ) (o : Written) (d : Datum) (old new : List (Option Value))
    → Solved variables operands given i old → slice_get operands i ≡ Some o → slice_get given i ≡ Some d
    → Adds (SolvesOperand variables (operand_of o) d) old new → Solved variables operands given (i + 1) new
solved-more variables operands given i o d old new s oi di a = record {
  one_each = a.one_each ∙ s.one_each;
  to = λ row l h j p e below pj ej. let both = a.to row (l ∙ sym s.one_each) h in elim (split_below j i below) [
    | inl m ↦ s.to row l both.0 j p e m pj ej
    | inr same ↦ at_same variables operands given i j o p d e row oi di same pj ej both.1
  ];
  from = λ row l f. a.from row (l ∙ sym s.one_each) (s.from row l (λ j p e m pj ej. f j p e (omega (arith, m)) pj ej)) (f i o d (omega arith) oi di);
}

pub solved-all : (variables : List Variable) (t : SkolemTerm) (p : Term) (n : ℕ) (bound : List (Option Value)) → Solved variables t.args.items p.args n bound
    → p.function ≡ t.function → length t.args.items ≡ length p.args → length p.args ≤ n → Solves variables (λ s. IsTermUnder s (term_of t) p) bound
solved-all variables t p n bound s f long past = record {
  one_each = s.one_each;
  to = λ row l a. record {
    function = f;
    args = zip_from (λ operand d. operand_value (value_in variables row) operand ≡ Some (Data d)) operand_of t.args.items p.args long
        (λ j o d oj dj. s.to row l a j o d (let m = slice_get_within p.args j d dj in omega (arith, m, past)) oj dj);
  };
  from = λ row l h. s.from row l (λ j o d below oj dj. zip_at (λ operand d. operand_value (value_in variables row) operand ≡ Some (Data d)) operand_of t.args.items p.args j o d h.args oj dj);
}

pub solved-never : (variables : List Variable) (t : SkolemTerm) (p : Term) (i : ℕ) (o : Written) (d : Datum) (bound : List (Option Value)) → Solved variables t.args.items p.args i bound
    → slice_get t.args.items i ≡ Some o → slice_get p.args i ≡ Some d → Refutes (SolvesOperand variables (operand_of o) d) bound → HasNone variables (λ s. IsTermUnder s (term_of t) p)
solved-never variables t p i o d bound s oi di r = record {
  never = λ row l h.
      let at : (j : ℕ) (o : Written) (d : Datum) → slice_get t.args.items j ≡ Some o → slice_get p.args j ≡ Some d → SolvesOperand variables (operand_of o) d row =
      (λ (j : ℕ) (o : Written) (d : Datum) oj dj. zip_at (λ operand d. operand_value (value_in variables row) operand ≡ Some (Data d)) operand_of t.args.items p.args j o d h.args oj dj) in
      r.never row (l ∙ sym s.one_each) (s.from row l (λ j o d below oj dj. at j o d oj dj)) (at i o d oi di);
}

pub other_function : (variables : List Variable) (t : SkolemTerm) (p : Term) → (p.function ≡ t.function → ⊥) → HasNone variables (λ s. IsTermUnder s (term_of t) p)
other_function variables t p n = record { never = λ row l h. n h.function }

pub other_length : (variables : List Variable) (t : SkolemTerm) (p : Term) → (length t.args.items ≡ length p.args → ⊥) → HasNone variables (λ s. IsTermUnder s (term_of t) p)
other_length variables t p n = record { never = λ row l h. n (zip_long (λ operand d. operand_value (value_in variables row) operand ≡ Some (Data d)) operand_of t.args.items p.args h.args) }

pub declared_at : (variables : List Variable) (operands : List Written) (i : ℕ) (o : Written) → All (IsDeclared variables) (map operand_of operands) → slice_get operands i ≡ Some o → IsDeclared variables (operand_of o)
declared_at variables operands i o h e =
    let at : slice_get (map operand_of operands) i ≡ Some (operand_of o) = slice_get-map operand_of operands i ∙ ap (option_map operand_of) e in
    subst (IsDeclared variables) (get_or_from_slice_get (map operand_of operands) i (operand_of o) (operand_of o) at)
    (All-get_or (IsDeclared variables) (map operand_of operands) i (operand_of o) (slice_get_within (map operand_of operands) i (operand_of o) at) h)

pub record IsZipped (R : Operand → Datum → Type 0) (operands : List Written) (given : List Datum) : Type 0 where
  pub each : AllZip R (map operand_of operands) given

zip_push : (R : Operand → Datum → Type 0) (xs : List Written) (ys : List Datum) (x : Written) (y : Datum) → AllZip R (map operand_of xs) ys → R (operand_of x) y → AllZip R (map operand_of (xs ++ x ∷ [])) (ys ++ y ∷ [])
zip_push R [] [] x y h r = (r, tt)
zip_push R [] (b ∷ ys) x y h r = absurd h
zip_push R (a ∷ xs) [] x y h r = absurd h
zip_push R (a ∷ xs) (b ∷ ys) x y h r = (h.0, zip_push R xs ys x y h.1 r)

pub zipped_none : (R : Operand → Datum → Type 0) → IsZipped R [] []
zipped_none R = record { each = tt }

pub zipped_more : (R : Operand → Datum → Type 0) (xs : List Written) (ys : List Datum) (i : ℕ) (x : Written) (y : Datum) → i < length xs → x ≡ get_or xs i x → IsZipped R (take i xs) ys → R (operand_of x) y → IsZipped R (take (i + 1) xs) (ys ++ y ∷ [])
zipped_more R xs ys i x y l is z r =
    subst (λ zs. IsZipped R zs (ys ++ y ∷ [])) (sym (take_more xs i x l ∙ ap (λ z. take i xs ++ z ∷ []) (sym is)))
    record { each = zip_push R (take i xs) ys x y z.each r }

zip_some : (R : Operand → Datum → Type 0) (xs : List Written) (ys : List Datum) (i : ℕ) (x : Written) → AllZip R (map operand_of xs) ys → i < length xs → x ≡ get_or xs i x → (y : Datum) × R (operand_of x) y
zip_some R [] ys i x h l is = absurd (omega (arith, l))
zip_some R (a ∷ xs) [] i x h l is = absurd h
zip_some R (a ∷ xs) (b ∷ ys) zero x h l is = (b, rw is h.0)
zip_some R (a ∷ xs) (b ∷ ys) (suc i) x h l is = zip_some R xs ys i x h.1 (omega (arith, l)) is

pub no_instance : (variables : List Variable) (row : List Value) (t : SkolemTerm) (i : ℕ) (o : Written) → i < length t.args.items → o ≡ get_or t.args.items i o → ((d : Datum) → SolvesOperand variables (operand_of o) d row → ⊥) → (p : Term) → IsTermUnder (value_in variables row) (term_of t) p → ⊥
no_instance variables row t i o l is n p h =
    let r = zip_some (λ operand d. operand_value (value_in variables row) operand ≡ Some (Data d)) t.args.items p.args i o h.args l is in n r.0 r.1
