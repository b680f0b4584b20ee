-- Where nothing is against the names as they come, a use has these ends, and the reverse.
use Rattle.std.proofs.Common.{◌≡◌, ℕ, suc, ◌≤◌, List, [], ◌∷◌, length, map, take, refl, ap, sym, ◌∙◌, subst, arith}
use Rattle.std.specs.Prelude.{Contains, All, Option, Some, None}
use Rattle.std.specs.Bool.{Decides}
use Rattle.std.specs.List.{AllZip, list_all}
use Rattle.std.proofs.lemmas.List.Elements.{All-contains}
use Rattle.std.proofs.lemmas.List.{length-take-le}
use Rattle.sd_value.specs.Names.{Name}
use Rattle.rpe.specs.Regex.{Regex}
use Rattle.query_spec.specs.declared.Variable.{Variable}
use Rattle.query_spec.specs.Query.{Operand, Condition, SkolemTerm, Target, plain, made, summed}
use Rattle.query_spec.specs.Mentions.{same_name, operand_names, names, variables_of}
use Rattle.constraint_spec.specs.Placed.{PlacedLink}
use Rattle.constraint_spec.specs.Entailed.{IsEntailed}
use Rattle.constraint_spec.specs.Use.{rename_operand, rename, rename_term, rename_target, naming, IsUse}
use Rattle.query_parts.specs.Same.{same_operand}
use Rattle.constraint_recheck.specs.Entails.{Tests, IsKnown, AreTests, entails}
use Rattle.constraint_recheck.specs.Recheck.{zip_all}
use Rattle.query_parts.proofs.Bools.{never, as_well, both, every_in}
use Rattle.query_parts.proofs.Same.{name_decides, operand_decides}
use Rattle.constraint_recheck.proofs.Entails.{entails_decides, known_renamed, number_decides}
use Rattle.constraint_recheck.proofs.Links.{zip_decides, implies, all_each}
use Rattle.constraint_recheck.specs.Options.{Finds}
use Rattle.constraint_recheck.specs.Search.{depth, is_due, due_arg, due_same, ends_fit, due_condition, may_go_on, find_names}
use Rattle.constraint_recheck.proofs.Options.{finds_as}
use Rattle.constraint_recheck.proofs.Mapped.{depth_within, rename_first, operand_first}
use Rattle.constraint_recheck.proofs.Extended.{Sorts, Always, names_find}

sorts_length : (targets variables : List Variable) (ys : List Name) → Sorts targets variables ys → length ys ≡ length variables
sorts_length targets [] [] h = refl
sorts_length targets [] (y ∷ ys) h = absurd h
sorts_length targets (v ∷ variables) [] h = absurd h
sorts_length targets (v ∷ variables) (y ∷ ys) h = ap suc (sorts_length targets variables ys h.1)

-- the term's target, where one is asked for
abbrev pub IfAsked : Option SkolemTerm → Target → Type 0
IfAsked None target = Unit {0}
IfAsked (Some t) target = target ≡ made t

module _ (known : Regex → Type 0) (tests : Tests) (are : AreTests known tests) (version : ℕ) (S : List Condition) (ks : All (IsKnown known) S) (k : PlacedLink) (kk : All (IsKnown known) k.conditions) where
  abbrev variables : List Variable
  variables = variables_of k.conditions

  -- ---- conditions

  abbrev Due : List Name → Type 0
  Due ys = (c : Condition) → Contains k.conditions c → depth variables (names c) ≡ length ys → IsEntailed version S (rename (naming k ys) c)

  due_decides : (ys : List Name) → Decides (list_all (due_condition variables tests version S ys) k.conditions) (Due ys)
  due_decides ys =
      as_well (list_all (due_condition variables tests version S ys) k.conditions) (λ h c m. All-contains (λ d. depth variables (names d) ≡ length ys → IsEntailed version S (rename (naming k ys) d)) k.conditions c h m)
      (all_each (λ d. depth variables (names d) ≡ length ys → IsEntailed version S (rename (naming k ys) d)) k.conditions)
      (every_in
      (due_condition variables tests version S ys)
      (λ c. depth variables (names c) ≡ length ys → IsEntailed version S (rename (naming k ys) c)) k.conditions
      (λ c m. implies (is_due variables (names c) ys) (entails tests version S (rename (naming k ys) c)) (number_decides (depth variables (names c)) (length ys))
      (entails_decides known tests are version S ks (rename (naming k ys) c) (known_renamed known (naming k ys) c (All-contains (IsKnown known) k.conditions c kk m)))))

  abbrev AllEntailed : List Name → Type 0
  AllEntailed ys = All (λ c. IsEntailed version S (rename (naming k ys) c)) k.conditions

  due_to : (ys : List Name) → length ys ≡ length variables → ((n : ℕ) → n ≤ length ys → Due (take n ys)) → AllEntailed ys
  due_to ys e h = all_each (λ c. IsEntailed version S (rename (naming k ys) c)) k.conditions (λ c m.
      let d = depth variables (names c) in
      let within : d ≤ length ys = (let w = depth_within variables (names c) in omega arith) in
      let size : length (take d ys) ≡ d = length-take-le d ys within in
      subst (IsEntailed version S) (rename_first variables ys d c (omega arith)) (h d within c m (sym size)))

  due_from : (ys : List Name) → AllEntailed ys → (n : ℕ) → n ≤ length ys → Due (take n ys)
  due_from ys all n le c m e =
      let size : length (take n ys) ≡ n = length-take-le n ys le in
      let within : depth variables (names c) ≤ n = omega arith in
      subst (IsEntailed version S) (sym (rename_first variables ys n c within)) (All-contains (λ d. IsEntailed version S (rename (naming k ys) d)) k.conditions c all m)

  -- ---- ends

  abbrev At : List Name → Operand → Operand → Type 0
  At ys o a = depth variables (operand_names o) ≡ length ys → rename_operand (naming k ys) o ≡ a

  abbrev End : Target → SkolemTerm → List Name → Type 0
  End (plain o) t ys = ⊥
  End (summed a) t ys = ⊥
  End (made s) t ys = (s.function ≡ t.function) × AllZip (At ys) s.args t.args

  end_decides : (target : Target) (t : SkolemTerm) (ys : List Name) → Decides (due_same variables target t ys) (End target t ys)
  end_decides (plain o) t ys = never (λ h. h)
  end_decides (summed a) t ys = never (λ h. h)
  end_decides (made s) t ys =
      both (same_name s.function t.function)
      (zip_all (due_arg variables ys) s.args t.args)
      (name_decides s.function t.function)
      (zip_decides (due_arg variables ys) (At ys)
      (λ o a. implies (is_due variables (operand_names o) ys) (same_operand (rename_operand (naming k ys) o) a) (number_decides (depth variables (operand_names o)) (length ys))
      (operand_decides (rename_operand (naming k ys) o) a)) s.args t.args)

  args_to : (ys : List Name) → length ys ≡ length variables → (os bs : List Operand) → ((n : ℕ) → n ≤ length ys → AllZip (At (take n ys)) os bs) → map (rename_operand (naming k ys)) os ≡ bs
  args_to ys e [] [] h = refl
  args_to ys e [] (a ∷ bs) h = absurd (h 0 (omega arith))
  args_to ys e (o ∷ os) [] h = absurd (h 0 (omega arith))
  args_to ys e (o ∷ os) (a ∷ bs) h =
      let d = depth variables (operand_names o) in
      let within : d ≤ length ys = (let w = depth_within variables (operand_names o) in omega arith) in
      let size : length (take d ys) ≡ d = length-take-le d ys within in
      let here : rename_operand (naming k ys) o ≡ a = sym (operand_first variables ys d o (omega arith)) ∙ (h d within).0 (sym size) in
      let rest = args_to ys e os bs (λ n le. (h n le).1) in
      λ i. here i ∷ rest i

  args_from : (ys : List Name) (os bs : List Operand) → map (rename_operand (naming k ys)) os ≡ bs → (n : ℕ) → n ≤ length ys → AllZip (At (take n ys)) os bs
  args_from ys [] [] e n le = tt
  args_from ys [] (a ∷ bs) e n le = cc
  args_from ys (o ∷ os) [] e n le = cc
  args_from ys (o ∷ os) (a ∷ bs) e n le =
      let size : length (take n ys) ≡ n = length-take-le n ys le in
      let here : rename_operand (naming k ys) o ≡ a = cc in
      let rest : map (rename_operand (naming k ys)) os ≡ bs = cc in (
        λ due. (let within : depth variables (operand_names o) ≤ n = omega arith in operand_first variables ys n o within ∙ here),
        args_from ys os bs rest n le,
      )

  end_to : (ys : List Name) → length ys ≡ length variables → (target : Target) (t : SkolemTerm) → ((n : ℕ) → n ≤ length ys → End target t (take n ys)) → rename_target (naming k ys) target ≡ made t
  end_to ys e (plain o) t h = absurd (h 0 (omega arith))
  end_to ys e (summed a) t h = absurd (h 0 (omega arith))
  end_to ys e (made s) t h =
      let args = args_to ys e s.args t.args (λ n le. (h n le).1) in
      let function = (h 0 (omega arith)).0 in
      λ i. made (record { function = function i; args = args i })

  end_from : (ys : List Name) (target : Target) (t : SkolemTerm) → rename_target (naming k ys) target ≡ made t → (n : ℕ) → n ≤ length ys → End target t (take n ys)
  end_from ys (plain o) t e n le = cc
  end_from ys (summed a) t e n le = cc
  end_from ys (made s) t e n le =
      let same : rename_term (naming k ys) s ≡ t = cc in
      (ap (λ (z : SkolemTerm). z.function) same, args_from ys s.args t.args (ap (λ (z : SkolemTerm). z.args) same) n le)

  -- ---- all of it

  abbrev Fits : SkolemTerm → Option SkolemTerm → List Name → Type 0
  Fits s None ys = End k.link.source s ys
  Fits s (Some t) ys = End k.link.source s ys × End k.link.target t ys

  fits_decides : (s : SkolemTerm) (t : Option SkolemTerm) (ys : List Name) → Decides (ends_fit variables k.link s t ys) (Fits s t ys)
  fits_decides s None ys = end_decides k.link.source s ys
  fits_decides s (Some t) ys =
      both (due_same variables k.link.source s ys) (due_same variables k.link.target t ys) (end_decides k.link.source s ys) (end_decides k.link.target t ys)

  -- the names are those of a use with these ends
  abbrev pub IsUseWith : SkolemTerm → Option SkolemTerm → List Name → Type 0
  IsUseWith s t ys =
      IsUse version S k ys × (rename_target (naming k ys) k.link.source ≡ made s) × IfAsked t (rename_target (naming k ys) k.link.target)

  pub step_decides : (s : SkolemTerm) (t : Option SkolemTerm) (ys : List Name) → Decides (may_go_on variables tests version S k.conditions k.link s t ys) (Due ys × Fits s t ys)
  step_decides s t ys = both (list_all (due_condition variables tests version S ys) k.conditions) (ends_fit variables k.link s t ys) (due_decides ys) (fits_decides s t ys)

  fits_to : (ys : List Name) → length ys ≡ length variables → (s : SkolemTerm) (t : Option SkolemTerm) → ((n : ℕ) → n ≤ length ys → Fits s t (take n ys))
      → (rename_target (naming k ys) k.link.source ≡ made s) × IfAsked t (rename_target (naming k ys) k.link.target)
  fits_to ys e s None h = (end_to ys e k.link.source s h, tt)
  fits_to ys e s (Some t) h = (end_to ys e k.link.source s (λ n le. (h n le).0), end_to ys e k.link.target t (λ n le. (h n le).1))

  fits_from : (ys : List Name) (s : SkolemTerm) (t : Option SkolemTerm) → (rename_target (naming k ys) k.link.source ≡ made s) → IfAsked t (rename_target (naming k ys) k.link.target)
      → (n : ℕ) → n ≤ length ys → Fits s t (take n ys)
  fits_from ys s None e f n le = end_from ys k.link.source s e n le
  fits_from ys s (Some t) e f n le = (end_from ys k.link.source s e n le, end_from ys k.link.target t f n le)

  use_to : (s : SkolemTerm) (t : Option SkolemTerm) (ys : List Name) → Sorts (variables_of S) variables ys → Always (may_go_on variables tests version S k.conditions k.link s t) (variables_of S) ys → IsUseWith s t ys
  use_to s t ys sorts h =
      let size = sorts_length (variables_of S) variables ys sorts in
      let steps : (n : ℕ) → n ≤ length ys → Due (take n ys) × Fits s t (take n ys) = (λ n le. (step_decides s t (take n ys)).0 (h n le)) in
      let ends = fits_to ys size s t (λ n le. (steps n le).1) in
      (record { sorts = sorts; entailed = due_to ys size (λ n le. (steps n le).0) }, ends.0, ends.1)

  use_from : (s : SkolemTerm) (t : Option SkolemTerm) (ys : List Name) → IsUseWith s t ys → Always (may_go_on variables tests version S k.conditions k.link s t) (variables_of S) ys
  use_from s t ys (used, source, target) n le = (step_decides s t (take n ys)).1 (due_from ys used.entailed n le, fits_from ys s t source target n le)

  pub names_found : (s : SkolemTerm) (t : Option SkolemTerm) → Finds (IsUseWith s t) (find_names tests version S k s t)
  names_found s t =
      finds_as (λ ys. Sorts (variables_of S) variables ys × Always (may_go_on variables tests version S k.conditions k.link s t) (variables_of S) ys) (IsUseWith s t)
      (λ ys h. use_to s t ys h.0 h.1) (λ ys h. (h.0.sorts, use_from s t ys h)) (find_names tests version S k s t)
      (names_find (may_go_on variables tests version S k.conditions k.link s t) (variables_of S) variables)
