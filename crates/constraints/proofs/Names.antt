-- The faults of names by the ascending list of a query's functions are those by its definition, and a text has one.
use Rattle.std.proofs.Common.{◌≡◌, ◌∙◌, ℕ, zero, suc, ◌+◌, ◌<◌, List, [], ◌∷◌, ◌++◌, Bool, true, false, refl, sym, ap, subst, inl, inr, true≢false, arith, length, take, drop, get_or, append-nil, append_assoc, lt-ltb}
use Rattle.std.specs.Prelude.{◌⊎◌, Contains, Option, Some, None, nat_lt, ◌||◌}
use Rattle.std.specs.List.{flat_map}
use Rattle.std.specs.Ordering.{is_eq}
use Rattle.std.proofs.lemmas.List.{take_more, take-append-drop}
use Rattle.sd_value.specs.Order.{bytes_cmp}
use Rattle.sd_value.specs.OrderLaws.{same_bytes, bytes_same}
use Rattle.sd_value.specs.Members.{Contains-nil, Contains-here, Contains-there, Contains-cons_cases}
use Rattle.list_lookup.specs.PickedLaws.{filter-sound, filter-complete}
use Rattle.schema.specs.declared.SchemaFunction.{SchemaFunction}
use Rattle.constraints.specs.declared.refusal.NameFault.{NameFault}
use Rattle.constraints.specs.declared.refusal.NameFault.TheVariants.{Unknown, HasArguments}
use Rattle.constraints.specs.declared.reading.Phrase.{Phrase}
use Rattle.constraints.specs.Names.{Named, names_in, HasFault, IsRight, FirstOf}
use Rattle.constraints.specs.Known.{named_so, has_arguments, fault_among, fault_from, or_else, first_from}

-- some function has arguments
any_yes : (fs : List SchemaFunction) → has_arguments fs ≡ true → (f : SchemaFunction) × Contains fs f × (nat_lt 0 f.arity ≡ true)
any_yes [] e = absurd (true≢false (sym e))
any_yes (f ∷ fs) e = by (any_yes fs) (nat_lt 0 f.arity) refl e
  where
    by : (has_arguments fs ≡ true → (g : SchemaFunction) × Contains fs g × (nat_lt 0 g.arity ≡ true)) → (b : Bool) → nat_lt 0 f.arity ≡ b → (b || has_arguments fs) ≡ true → (g : SchemaFunction) × Contains (f ∷ fs) g × (nat_lt 0 g.arity ≡ true)
    by rest true is h = (f, Contains-here f fs, is)
    by rest false is h = let (g, at, more) = rest h in (g, Contains-there f fs g at, more)

any_no : (fs : List SchemaFunction) → has_arguments fs ≡ false → (f : SchemaFunction) → Contains fs f → nat_lt 0 f.arity ≡ true → ⊥
any_no [] e f at more = Contains-nil f at
any_no (g ∷ fs) e f at more = by (λ none later. any_no fs none f later more) (nat_lt 0 g.arity) refl e (Contains-cons_cases g fs f at)
  where
    by : (has_arguments fs ≡ false → Contains fs f → ⊥) → (b : Bool) → nat_lt 0 g.arity ≡ b → (b || has_arguments fs) ≡ false → (g ≡ f) ⊎ Contains fs f → ⊥
    by rest true is h here = true≢false h
    by rest false is h (inl same) = true≢false (sym more ∙ sym (ap (λ (x : SchemaFunction). nat_lt 0 x.arity) same) ∙ is)
    by rest false is h (inr later) = rest h later

positive : (n : ℕ) → nat_lt 0 n ≡ true → (more : ℕ) × (n ≡ suc more)
positive zero e = absurd (true≢false (sym e))
positive (suc more) e = (more, refl)

has_some : (more : ℕ) → nat_lt 0 (suc more) ≡ true
has_some more = lt-ltb 0 (suc more) (omega arith)

module _ (functions : List SchemaFunction) (IsKnown : List ℕ → ℕ → Type 0)
    (sound : (f : SchemaFunction) → Contains functions f → IsKnown f.name f.arity)
    (complete : (name : List ℕ) (arity : ℕ) → IsKnown name arity → Contains functions (record { name = name; arity = arity })) where
  -- the functions of a name are those that are known by it
  listed : (name : List ℕ) (f : SchemaFunction) → Contains (named_so functions name) f → IsKnown name f.arity
  listed name f at =
      let found = filter-sound (λ g. is_eq (bytes_cmp g.name name)) functions f at in
      subst (λ n. IsKnown n f.arity) (same_bytes f.name name found.1) (sound f found.0)

  known_is_listed : (name : List ℕ) (arity : ℕ) → IsKnown name arity → Contains (named_so functions name) (record { name = name; arity = arity })
  known_is_listed name arity known =
      filter-complete (λ g. is_eq (bytes_cmp g.name name)) functions (record { name = name; arity = arity }) (complete name arity known) (bytes_same name)

  one_fault : (n : Named) (fs : List SchemaFunction) → ((f : SchemaFunction) → Contains fs f → IsKnown n.word.text f.arity)
      → ((arity : ℕ) → IsKnown n.word.text arity → Contains fs (record { name = n.word.text; arity = arity }))
      → ((fault : NameFault) × HasFault IsKnown n fault × (fault_among n fs ≡ Some fault)) ⊎ (IsRight IsKnown n × (fault_among n fs ≡ None))
  one_fault n [] are all = inl (Unknown n.word.place, (refl, λ arity known. Contains-nil _ (all arity known)), refl)
  one_fault n (f ∷ fs) are all = by (n.is_root) (has_arguments (f ∷ fs)) refl refl
    where
      by : (r a : Bool) → n.is_root ≡ r → has_arguments (f ∷ fs) ≡ a
          → ((fault : NameFault) × HasFault IsKnown n fault × (fault_among n (f ∷ fs) ≡ Some fault)) ⊎ (IsRight IsKnown n × (fault_among n (f ∷ fs) ≡ None))
      by true true r a =
          let (g, at, more) = any_yes (f ∷ fs) a in
          let (m, is) = positive g.arity more in
          inl (HasArguments n.word.place, (refl, r, m, subst (IsKnown n.word.text) is (are g at)), rw (r, a) refl)
      by true false r a = inr (
        record {
          known = (f.arity, are f (Contains-here f fs));
          bare = λ root more known. any_no (f ∷ fs) a (record { name = n.word.text; arity = suc more }) (all (suc more) known) (has_some more);
        },
        rw (r, a) refl,
      )
      by false a r h = inr (
        record {
          known = (f.arity, are f (Contains-here f fs));
          bare = λ root more known. true≢false (sym root ∙ r);
        },
        rw r refl,
      )

  -- the list's first fault is that of the definition
  pub first_is : (names : List Named) → FirstOf IsKnown names (first_from functions names)
  first_is [] = refl
  first_is (n ∷ names) =
      elim (one_fault n (named_so functions n.word.text) (listed n.word.text) (known_is_listed n.word.text)) [
        | inl h ↦ inl (h.0, h.1, ap (λ first. or_else first (first_from functions names)) h.2)
        | inr h ↦ inr (h.0, rw h.1 (first_is names))
      ]

-- ---- one fault of a list of names

module _ (IsKnown : List ℕ → ℕ → Type 0) where
  no_fault : (n : Named) (fault : NameFault) → HasFault IsKnown n fault → IsRight IsKnown n → ⊥
  no_fault n (Unknown at) h right = h.1 right.known.0 right.known.1
  no_fault n (HasArguments at) h right = right.bare h.1 h.2 h.3

  same_fault : (n : Named) (one other : NameFault) → HasFault IsKnown n one → HasFault IsKnown n other → one ≡ other
  same_fault n (Unknown at) (Unknown other) h k = ap Unknown (h.0 ∙ sym k.0)
  same_fault n (Unknown at) (HasArguments other) h k = absurd (h.1 (suc k.2) k.3)
  same_fault n (HasArguments at) (Unknown other) h k = absurd (k.1 (suc h.2) h.3)
  same_fault n (HasArguments at) (HasArguments other) h k = ap HasArguments (h.0 ∙ sym k.0)

  pub one_first : (names : List Named) (one other : Option NameFault) → FirstOf IsKnown names one → FirstOf IsKnown names other → one ≡ other
  one_first [] one other h k = h ∙ sym k
  one_first (n ∷ names) one other (inl h) (inl k) = h.2 ∙ ap Some (same_fault n h.0 k.0 h.1 k.1) ∙ sym k.2
  one_first (n ∷ names) one other (inl h) (inr k) = absurd (no_fault n h.0 h.1 k.0)
  one_first (n ∷ names) one other (inr h) (inl k) = absurd (no_fault n k.0 k.1 h.0)
  one_first (n ∷ names) one other (inr h) (inr k) = one_first names one other h.1 k.1

-- ---- the loop over constraints

pub first_append : (functions : List SchemaFunction) (xs ys : List Named) → first_from functions (xs ++ ys) ≡ or_else (first_from functions xs) (first_from functions ys)
first_append functions [] ys = refl
first_append functions (x ∷ xs) ys = ap (or_else (fault_from functions x)) (first_append functions xs ys) ∙ or_else_assoc (fault_from functions x) (first_from functions xs) (first_from functions ys)
  where
    or_else_assoc : (a b c : Option NameFault) → or_else a (or_else b c) ≡ or_else (or_else a b) c
    or_else_assoc None b c = refl
    or_else_assoc (Some x) b c = refl

no_names : (functions : List SchemaFunction) (ps : List Phrase) (i : ℕ) (p : Phrase) → i < length ps → p ≡ get_or ps i p
    → flat_map names_in (take (i + 1) ps) ≡ flat_map names_in (take i ps) ++ names_in p
no_names functions ps i p long here =
    let all : take (i + 1) ps ≡ take i ps ++ p ∷ [] = take_more ps i p long ∙ ap (λ (x : Phrase). take i ps ++ x ∷ []) (sym here) in
    ap (flat_map names_in) all ∙ flat_push (take i ps) p
  where
    flat_push : (xs : List Phrase) (x : Phrase) → flat_map names_in (xs ++ x ∷ []) ≡ flat_map names_in xs ++ names_in x
    flat_push [] x = append-nil (names_in x)
    flat_push (y ∷ ys) x = ap (λ rest. names_in y ++ rest) (flat_push ys x) ∙ sym (append_assoc (names_in y) (flat_map names_in ys) (names_in x))

pub none_so_far : (functions : List SchemaFunction) (ps : List Phrase) (i : ℕ) (p : Phrase) → i < length ps → p ≡ get_or ps i p
    → first_from functions (flat_map names_in (take i ps)) ≡ None → first_from functions (names_in p) ≡ None → first_from functions (flat_map names_in (take (i + 1) ps)) ≡ None
none_so_far functions ps i p long here before now =
    ap (first_from functions) (no_names functions ps i p long here) ∙ (first_append functions (flat_map names_in (take i ps)) (names_in p) ∙ rw (before, now) refl)

pub first_found : (functions : List SchemaFunction) (ps : List Phrase) (i : ℕ) (p : Phrase) (fault : NameFault) → i < length ps → p ≡ get_or ps i p
    → first_from functions (flat_map names_in (take i ps)) ≡ None → first_from functions (names_in p) ≡ Some fault → first_from functions (flat_map names_in ps) ≡ Some fault
first_found functions ps i p fault long here before now =
    let front : first_from functions (flat_map names_in (take (i + 1) ps)) ≡ Some fault =
    ap (first_from functions) (no_names functions ps i p long here) ∙ (first_append functions (flat_map names_in (take i ps)) (names_in p) ∙ rw (before, now) refl) in
    let split : flat_map names_in ps ≡ flat_map names_in (take (i + 1) ps) ++ flat_map names_in (drop (i + 1) ps) =
    ap (flat_map names_in) (sym (take-append-drop (i + 1) ps)) ∙ flat_append (take (i + 1) ps) (drop (i + 1) ps) in
    ap (first_from functions) split ∙ (first_append functions (flat_map names_in (take (i + 1) ps)) (flat_map names_in (drop (i + 1) ps)) ∙ rw front refl)
  where
    flat_append : (xs ys : List Phrase) → flat_map names_in (xs ++ ys) ≡ flat_map names_in xs ++ flat_map names_in ys
    flat_append [] ys = refl
    flat_append (x ∷ xs) ys = ap (λ rest. names_in x ++ rest) (flat_append xs ys) ∙ sym (append_assoc (names_in x) (flat_map names_in xs) (flat_map names_in ys))
