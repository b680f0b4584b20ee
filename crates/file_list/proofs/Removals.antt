-- File after file that is removed.
use Rattle.std.proofs.Common.{◌≡◌, ◌∙◌, ◌+◌, ◌<◌, ◌⊎◌, ⊎_elim, inl, inr, ℕ, List, [], ◌∷◌, ◌++◌, Bool, true, length, get_or, take, drop, refl, sym, ap, subst, append_assoc, append-nil}
use Rattle.std.specs.Prelude.{◌&&◌, Contains, Option, Some, None, Err}
use Rattle.std.specs.List.{All}
use Rattle.std.specs.Option.{IsSomeAnd}
use Rattle.std.proofs.lemmas.Bool.{and_parts}
use Rattle.std.proofs.lemmas.List.{take_more, take-append-drop}
use Rattle.std.proofs.lemmas.List.Elements.{All-nil, All-weaker, All-append, Contains-push, Contains-push_cases, Contains-append_left}
use Rattle.sd_value.specs.Members.{Contains-nil, Contains-here, Contains-cons_cases}
use Rattle.happenings.specs.Happening.{Happening, RemoveFailed}
use Rattle.edge_io.specs.Files.{FileMap}
use Rattle.files_spec.specs.declared.stop.Stop.{Stop}
use Rattle.files_spec.specs.declared.stop.Stop.TheVariants.{Faulty, Unwritten, NoMemory}
use Rattle.files_spec.specs.Writes.{Adds}
use Rattle.file_list.specs.Lists.{under, IsLeft}
use Rattle.file_list.specs.Calls.{IsRemoval, RemovalsAdd, StaysOrGoes, IsClean, CleanEnds}

-- ---- one step more

module _ (A B C : List ℕ → Type 0) (from_a : (p : List ℕ) → A p → C p) (from_b : (p : List ℕ) → B p → C p) where
  stays_on : (before mid now : FileMap) (path : List ℕ) → StaysOrGoes A before mid path → StaysOrGoes B mid now path → StaysOrGoes C before now path
  stays_on before mid now path a b =
      ⊎_elim (λ e. ⊎_elim (λ f. inl (e ∙ f)) (λ g. inr (from_a path g.0, e ∙ g.1)) a) (λ g. inr (from_b path g.0, g.1)) b

  none_again : (mid now : FileMap) (path : List ℕ) → mid path ≡ None → StaysOrGoes B mid now path → now path ≡ None
  none_again mid now path none b = ⊎_elim (λ e. e ∙ none) (λ g. g.1) b

  clean_on : ((p : List ℕ) → C p → A p ⊎ B p) → (before mid now : FileMap) (a g : Bool) → IsClean A before mid a → IsClean B mid now g → IsClean C before now (a && g)
  clean_on parts before mid now a g first then = record {
    each = λ path. stays_on before mid now path (first.each path) (then.each path);
    gone = λ all path c. ⊎_elim (λ h. none_again mid now path (first.gone (and_parts a g all).0 path h) (then.each path)) (then.gone (and_parts a g all).1 path) (parts path c);
  }

  stop_on : (before mid now : FileMap) (a : Bool) (stop : Stop) → IsClean A before mid a → CleanEnds B mid now (Err stop) → CleanEnds C before now (Err stop)
  stop_on before mid now a (Faulty term kind) first h = h
  stop_on before mid now a (Unwritten missed) first h = (from_b missed h.0, λ path differs. stays_on before mid now path (first.each path) (h.1 path differs))
  stop_on before mid now a NoMemory first h = λ path. stays_on before mid now path (first.each path) (h path)

  pub clean_more : ((p : List ℕ) → C p → A p ⊎ B p) → (o n : Option FileMap) (before : FileMap) (a g : Bool) → IsSomeAnd o (λ mid. IsClean A before mid a) → ((mid : FileMap) → o ≡ Some mid → IsSomeAnd n (λ now. IsClean B mid now g)) → IsSomeAnd n (λ now. IsClean C before now (a && g))
  clean_more parts None n before a g first then = absurd first
  clean_more parts (Some mid) n before a g first then = by n (then mid refl)
    where
      by : (n : Option FileMap) → IsSomeAnd n (λ now. IsClean B mid now g) → IsSomeAnd n (λ now. IsClean C before now (a && g))
      by None h = h
      by (Some now) h = clean_on parts before mid now a g first h

  pub clean_stops : (o n : Option FileMap) (before : FileMap) (a : Bool) (stop : Stop) → IsSomeAnd o (λ mid. IsClean A before mid a) → ((mid : FileMap) → o ≡ Some mid → IsSomeAnd n (λ now. CleanEnds B mid now (Err stop))) → IsSomeAnd n (λ now. CleanEnds C before now (Err stop))
  clean_stops None n before a stop first then = absurd first
  clean_stops (Some mid) n before a stop first then = by n (then mid refl)
    where
      by : (n : Option FileMap) → IsSomeAnd n (λ now. CleanEnds B mid now (Err stop)) → IsSomeAnd n (λ now. CleanEnds C before now (Err stop))
      by None h = h
      by (Some now) h = stop_on before mid now a stop first h

  removal_wider : (h : Happening) → IsRemoval A h → IsRemoval C h
  removal_wider h r = (r.0, from_a r.0 r.1, r.2)

  removal_wider_too : (h : Happening) → IsRemoval B h → IsRemoval C h
  removal_wider_too h r = (r.0, from_b r.0 r.1, r.2)

  pub removals_more : {before mid now : List Happening} → Adds before mid (All (IsRemoval A)) → Adds mid now (All (IsRemoval B)) → Adds before now (All (IsRemoval C))
  removals_more {before} first then = record {
    part = first.part ++ then.part;
    added = then.added ∙ ap (λ t. t ++ then.part) first.added ∙ append_assoc before first.part then.part;
    its = All-append (IsRemoval C) first.part then.part (All-weaker (IsRemoval A) (IsRemoval C) removal_wider first.part first.its) (All-weaker (IsRemoval B) (IsRemoval C) removal_wider_too then.part then.its);
  }

  pub removals_stop : (before mid now : List Happening) (stop : Stop) → Adds before mid (All (IsRemoval A)) → RemovalsAdd B mid now (Err stop) → RemovalsAdd C before now (Err stop)
  removals_stop before mid now (Faulty term kind) first then = then
  removals_stop before mid now (Unwritten path) first then = record {
    part = first.part ++ then.part;
    added = then.added ∙ ap (λ t. t ++ then.part) first.added ∙ append_assoc before first.part then.part;
    its = record {
      done = first.part ++ then.its.done;
      removals = All-append (IsRemoval C) first.part then.its.done (All-weaker (IsRemoval A) (IsRemoval C) removal_wider first.part first.its) (All-weaker (IsRemoval B) (IsRemoval C) removal_wider_too then.its.done then.its.removals);
      is_over = from_b path then.its.is_over;
      part_is = ap (λ p. first.part ++ p) then.its.part_is ∙ sym (append_assoc first.part then.its.done (RemoveFailed path ∷ []));
    };
  }
  removals_stop before mid now NoMemory first then = removals_more first then

-- ---- the names so far

module _ (folder : List ℕ) (new : List (List ℕ)) where
  abbrev Over : List (List ℕ) → List ℕ → Type 0
  Over names = IsLeft folder names new

  -- what is left over of some names is left over of more
  over_wider : (xs ys : List (List ℕ)) → ((n : List ℕ) → Contains xs n → Contains ys n) → (path : List ℕ) → Over xs path → Over ys path
  over_wider xs ys wider path h = (h.0, wider h.0 h.1, h.2, h.3)

  one_in : (names : List (List ℕ)) (name n : List ℕ) → Contains names name → Contains (name ∷ []) n → Contains names n
  one_in names name n k h = ⊎_elim (λ e. subst (Contains names) e k) (λ z. absurd (Contains-nil n z)) (Contains-cons_cases name [] n h)

  module _ (names : List (List ℕ)) (i : ℕ) (name : List ℕ) (lt : i < length names) (is : name ≡ get_or names i name) where
    step : take (i + 1) names ≡ take i names ++ name ∷ []
    step = take_more names i name lt ∙ ap (λ n. take i names ++ n ∷ []) (sym is)

    pub front : (path : List ℕ) → Over (take i names) path → Over (take (i + 1) names) path
    front = over_wider (take i names) (take (i + 1) names) (λ n k. subst (λ (ns : List (List ℕ)). Contains ns n) (sym step) (Contains-append_left (take i names) (name ∷ []) n k))

    pub here : (path : List ℕ) → Over (name ∷ []) path → Over (take (i + 1) names) path
    here = over_wider (name ∷ []) (take (i + 1) names) (λ n k. subst (λ (ns : List (List ℕ)). Contains ns n) (sym step) (one_in (take i names ++ name ∷ []) name n (Contains-push (take i names) name) k))

    pub parts : (path : List ℕ) → Over (take (i + 1) names) path → Over (take i names) path ⊎ Over (name ∷ []) path
    parts path h =
        ⊎_elim (λ k. inl (h.0, k, h.2, h.3)) (λ e. inr (h.0, subst (Contains (name ∷ [])) e (Contains-here name []), h.2, h.3))
        (Contains-push_cases (take i names) name h.0 (subst (λ (ns : List (List ℕ)). Contains ns h.0) step h.1))

    pub of_all : (path : List ℕ) → Over (name ∷ []) path → Over names path
    of_all = over_wider (name ∷ []) names (λ n k. one_in names name n (i, lt, sym is) k)

  pub some_of : (names : List (List ℕ)) (i : ℕ) (path : List ℕ) → Over (take i names) path → Over names path
  some_of names i = over_wider (take i names) names (λ n k. subst (λ (ns : List (List ℕ)). Contains ns n) (take-append-drop i names) (Contains-append_left (take i names) (drop i names) n k))

-- ---- none yet

pub clean_none : (folder : List ℕ) (new : List (List ℕ)) (o : Option FileMap) (before : FileMap) → o ≡ Some before → IsSomeAnd o (λ now. IsClean (IsLeft folder [] new) before now true)
clean_none folder new o before told =
    subst (λ (x : Option FileMap). IsSomeAnd x (λ now. IsClean (IsLeft folder [] new) before now true)) (sym told)
    (record { each = λ path. inl refl; gone = λ all path h. absurd (Contains-nil h.0 h.1) })

pub removals_none : (IsOver : List ℕ → Type 0) (before : List Happening) → Adds before before (All (IsRemoval IsOver))
removals_none IsOver before = record { part = []; added = sym (append-nil before); its = All-nil (IsRemoval IsOver) }

-- ---- one name

module _ (folder : List ℕ) (new : List (List ℕ)) (name : List ℕ) where
  abbrev One : List ℕ → Type 0
  One = IsLeft folder (name ∷ []) new

  pub its_path : (path : List ℕ) → One path → path ≡ under folder name
  its_path path h = ⊎_elim (λ e. h.3 ∙ ap (under folder) (sym e)) (λ z. absurd (Contains-nil h.0 z)) (Contains-cons_cases name [] h.0 h.1)

  pub its_own : (Contains new name → ⊥) → One (under folder name)
  its_own over = (name, Contains-here name [], over, refl)
