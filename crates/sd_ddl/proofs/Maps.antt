-- The tables, one part after another.
use Rattle.std.proofs.Common.{◌≡◌, ◌⊎◌, refl, sym, ap, subst, ◌∙◌, inl, inr, Bool, true, false, ◌&&◌, cond, List, [], ◌∷◌, ◌++◌, if◌then◌else◌, Some, None, Contains, ℕ, Result, Ok, Err}
use Rattle.std.specs.Result.{OnOk}
use Rattle.std.specs.List.{flat_map, list_all, list_any}
use Rattle.std.specs.Prelude.{◌||◌, length, nat_lt}
use Rattle.sd_value.specs.declared.NoMemory.{NoMemory}
use Rattle.std.specs.declared.cmp.Ordering.{Ordering}
use Rattle.std.specs.declared.cmp.Ordering.TheVariants.{Less, Equal, Greater}
use Rattle.std.specs.Ordering.{is_eq, ordering_then}
use Rattle.std.specs.BTreeMap.{BTreeMap, get, is_at}
use Rattle.std.specs.BTreeSet.{insert_key}
use Rattle.std.proofs.lemmas.Grind.{flat_map-append}
use Rattle.sd_value.specs.Order.{bytes_cmp}
use Rattle.sd_value.specs.OrderLaws.{bytes_cmp-exact, bytes_same}
use Rattle.std.proofs.lemmas.Map.Views.{Contains-from_any}
use Rattle.sd_value.specs.Members.{IsOneOf, Contains-nil, Contains-cons_cases, Contains-here, Contains-there, Contains-flat_map, Contains-flat_mapped, Contains-from_IsOneOf, IsOneOf-from_Contains}
use Rattle.sd_graph.specs.Inserted.{inserted-there, inserted-cases, inserted-here}
use Rattle.token_reader.specs.declared.reading.Word.{Word}
use Rattle.ddl_text.specs.declared.tree.Kind.{Kind}
use Rattle.sd_ddl.specs.declared.part.Part.{Part}
use Rattle.sd_ddl.specs.declared.part.Giving.{Giving}
use Rattle.sd_ddl.specs.declared.part.Part.TheVariants.{Gives, Node, Member, Edge}
use Rattle.sd_ddl.specs.declared.kinds.StatedKinds.{StatedKinds}
use Rattle.sd_ddl.specs.declared.kinds.StatedKinds.TheVariants.{Nothing, One, Several}
use Rattle.sd_ddl.specs.declared.kinds.Kinds.{Kinds}
use Rattle.sd_ddl.specs.declared.answers.Answers.{Answers}
use Rattle.sd_ddl.specs.declared.collections.Collections.{Collections}
use Rattle.sd_ddl.specs.Kinds.{Name, same_kind, same_name, given_by, given, collections, collection_by, giver_by, givers, kinds_of, told}
use Rattle.sd_ddl.specs.Tables.{both, pair_cmp, or_nothing, told_in, told_within, names_of, insert_all, HasGivings, HasCollections, HasGivers, Knows, tell, answer_of, or_told, looked_up, told_of}
use Rattle.sd_ddl.proofs.Told.{both-nothing, Tells, Tells-as, Tells-one, Tells-told, Tells-tell}

eq_then : (p q : Ordering) → is_eq (ordering_then p q) ≡ (is_eq p && is_eq q)
eq_then Less q = refl
eq_then Equal q = refl
eq_then Greater q = refl

is_equal : (r : Ordering) → is_eq r ≡ true → r ≡ Equal
is_equal Less h = cc
is_equal Equal h = refl
is_equal Greater h = cc

pub same_name-is : (x y : Name) → is_eq (bytes_cmp x y) ≡ true → x ≡ y
same_name-is x y h = bytes_cmp-exact x y (is_equal (bytes_cmp x y) h)

-- what an attribute is told after one giving more
pub told-added : (m n : BTreeMap (List ℕ × List ℕ) StatedKinds) (x y c a : Name) (t : StatedKinds) (k : Kind) → x ≡ c → y ≡ a
    → t ≡ both (or_nothing (get pair_cmp m (c, a))) (One k)
    → ((q : List ℕ × List ℕ) → get pair_cmp n q ≡ cond (is_at (pair_cmp (x, y)) q) (Some t) (get pair_cmp m q))
    → (d b : Name) → or_nothing (get pair_cmp n (d, b)) ≡ both (or_nothing (get pair_cmp m (d, b))) (told (if same_name c d && same_name a b then k ∷ [] else []))
told-added m n x y c a t k ex ey et up d b = by (same_name c d) (same_name a b) refl refl
  where
    at : or_nothing (get pair_cmp n (d, b)) ≡ or_nothing (cond (same_name c d && same_name a b) (Some t) (get pair_cmp m (d, b)))
    at = ap or_nothing (up (d, b)) ∙ (λ i. or_nothing (cond (is_eq (pair_cmp (ex i, ey i) (d, b))) (Some t) (get pair_cmp m (d, b))))
        ∙ ap (λ o. or_nothing (cond o (Some t) (get pair_cmp m (d, b)))) (eq_then (bytes_cmp c d) (bytes_cmp a b))

    by : (p q : Bool) → same_name c d ≡ p → same_name a b ≡ q
        → or_nothing (get pair_cmp n (d, b)) ≡ both (or_nothing (get pair_cmp m (d, b))) (told (if p && q then k ∷ [] else []))
    by true true p q =
        at ∙ (λ i. or_nothing (cond (p i && q i) (Some t) (get pair_cmp m (d, b)))) ∙ et
        ∙ (λ i. both (or_nothing (get pair_cmp m (same_name-is c d p i, same_name-is a b q i))) (One k))
    by true false p q = at ∙ (λ i. or_nothing (cond (p i && q i) (Some t) (get pair_cmp m (d, b)))) ∙ sym (both-nothing _)
    by false q p e = at ∙ (λ i. or_nothing (cond (p i && e i) (Some t) (get pair_cmp m (d, b)))) ∙ sym (both-nothing _)

-- what is found in a table after one answer more
pub answer-added : (m n : BTreeMap (List ℕ × List ℕ) StatedKinds) (k : List ℕ × List ℕ) (o a : Name) (t : StatedKinds) → k ≡ (o, a)
    → ((q : List ℕ × List ℕ) → get pair_cmp n q ≡ cond (is_at (pair_cmp k) q) (Some t) (get pair_cmp m q))
    → (p b : Name) → get pair_cmp n (p, b) ≡ (if same_name o p && same_name a b then Some t else get pair_cmp m (p, b))
answer-added m n k o a t e up p b =
    up (p, b) ∙ (λ i. cond (is_eq (pair_cmp (e i) (p, b))) (Some t) (get pair_cmp m (p, b)))
    ∙ ap (λ here. cond here (Some t) (get pair_cmp m (p, b))) (eq_then (bytes_cmp o p) (bytes_cmp a b))

pub insert_all-more : (names ns : List Name) (here : Bool) (n : Name)
    → insert_all names (ns ++ ((if here then n ∷ [] else []) ++ [])) ≡ (if here then insert_key bytes_cmp (insert_all names ns) n else insert_all names ns)
insert_all-more names [] true n = refl
insert_all-more names [] false n = refl
insert_all-more names (m ∷ ns) here n = insert_all-more (insert_key bytes_cmp names m) ns here n

-- a table of names after one part more, of which it got a name under a key
module _ (by : Name → Part → List Name) (front : List Part) (p : Part) (key name : Name) (is : (o : Name) → by o p ≡ (if same_name key o then name ∷ [] else [])) (old new : Collections)
    (here : names_of new key ≡ insert_key bytes_cmp (names_of old key) name) (others : (o : Name) → same_name key o ≡ false → names_of new o ≡ names_of old o)
    (has : (o : Name) → names_of old o ≡ insert_all [] (flat_map (by o) front)) where
  names-more : (o : Name) → flat_map (by o) (front ++ p ∷ []) ≡ flat_map (by o) front ++ ((if same_name key o then name ∷ [] else []) ++ [])
  names-more o = flat_map-append (by o) front (p ∷ []) ∙ ap (λ l. flat_map (by o) front ++ (l ++ [])) (is o)

  pub names-added : (o : Name) → names_of new o ≡ insert_all [] (flat_map (by o) (front ++ p ∷ []))
  names-added o = now (same_name key o) refl ∙ sym (insert_all-more [] (flat_map (by o) front) (same_name key o) name) ∙ sym (ap (insert_all []) (names-more o))
    where
      now : (b : Bool) → same_name key o ≡ b → names_of new o ≡ (if b then insert_key bytes_cmp (insert_all [] (flat_map (by o) front)) name else insert_all [] (flat_map (by o) front))
      now true e = subst (λ x. names_of new x ≡ insert_key bytes_cmp (insert_all [] (flat_map (by x) front)) name) (same_name-is key o e) (here ∙ ap (λ ns. insert_key bytes_cmp ns name) (has key))
      now false e = others o e ∙ has o

insert_all-there : (names ns : List Name) (n : Name) → Contains names n → Contains (insert_all names ns) n
insert_all-there names [] n h = h
insert_all-there names (m ∷ ns) n h = insert_all-there (insert_key bytes_cmp names m) ns n (inserted-there bytes_cmp m names n h)

insert_all-here : (names ns : List Name) (n : Name) → Contains ns n → Contains (insert_all names ns) n
insert_all-here names [] n h = absurd (Contains-nil n h)
insert_all-here names (m ∷ ns) n h =
    elim (Contains-cons_cases m ns n h) [
      | inl e ↦ subst (Contains (insert_all names (m ∷ ns))) e (insert_all-there (insert_key bytes_cmp names m) ns m (inserted-here bytes_cmp bytes_cmp-exact m names))
      | inr rest ↦ insert_all-here (insert_key bytes_cmp names m) ns n rest
    ]

insert_all-cases : (names ns : List Name) (n : Name) → Contains (insert_all names ns) n → Contains names n ⊎ Contains ns n
insert_all-cases names [] n h = inl h
insert_all-cases names (m ∷ ns) n h =
    elim (insert_all-cases (insert_key bytes_cmp names m) ns n h) [
      | inl was ↦ elim (inserted-cases bytes_cmp m names n was) [ inl e ↦ inr (subst (Contains (m ∷ ns)) e (Contains-here m ns)) | inr old ↦ inl old ]
      | inr rest ↦ inr (Contains-there m ns n rest)
    ]

told_none : (ks : List Kind) → told ks ≡ Nothing → ks ≡ []
told_none [] h = refl
told_none (k ∷ ks) h = by (list_all (same_kind k) ks) h
  where
    by : (b : Bool) → (if b then One k else Several) ≡ Nothing → k ∷ ks ≡ []
    by true h = cc
    by false h = cc

-- what the tables tell where nothing was looked up before
pub anew : (kinds : Kinds) → ((o a : Name) → answer_of kinds.answers o a ≡ None) → (o a : Name) → told_of kinds o a ≡ looked_up kinds o a
anew kinds fresh o a = ap (λ found. or_told found (looked_up kinds o a)) (fresh o a)

-- an answer that is kept tells what is told without it
answer_kept : (old new : Kinds) (object attribute : Name) (t : StatedKinds) → t ≡ looked_up old object attribute
    → ((o a : Name) → looked_up new o a ≡ looked_up old o a)
    → ((o a : Name) → answer_of new.answers o a ≡ (if same_name object o && same_name attribute a then Some t else answer_of old.answers o a))
    → answer_of old.answers object attribute ≡ None
    → (o a : Name) → told_of new o a ≡ told_of old o a
answer_kept old new object attribute t is same kept fresh o a =
    (λ i. or_told (kept o a i) (same o a i)) ∙ by (same_name object o) (same_name attribute a) refl refl
  where
    here : object ≡ o → attribute ≡ a → t ≡ told_of old o a
    here e f = is ∙ ap (λ found. or_told found (looked_up old object attribute)) (sym fresh) ∙ (λ i. told_of old (e i) (f i))

    by : (p q : Bool) → same_name object o ≡ p → same_name attribute a ≡ q
        → or_told (if p && q then Some t else answer_of old.answers o a) (looked_up old o a) ≡ told_of old o a
    by true true p q = here (same_name-is object o p) (same_name-is attribute a q)
    by true false p q = refl
    by false q p e = refl

pub answer_kept-ok : (old new : Kinds) (object attribute : Name) (t : StatedKinds) (r : Result (Unit {0}) NoMemory) → t ≡ looked_up old object attribute
    → ((o a : Name) → looked_up new o a ≡ looked_up old o a) → answer_of old.answers object attribute ≡ None
    → OnOk r ((o a : Name) → answer_of new.answers o a ≡ (if same_name object o && same_name attribute a then Some t else answer_of old.answers o a))
    → OnOk r ((o a : Name) → told_of new o a ≡ told_of old o a)
answer_kept-ok old new object attribute t (Ok u) is same fresh kept = answer_kept old new object attribute t is same kept fresh
answer_kept-ok old new object attribute t (Err e) is same fresh kept = tt

-- where no kind is given and no collection is told, nothing is told
pub known_none : (parts : List Part) (kinds : Kinds) → HasGivings parts kinds.givings → ((c a : Name) → told_in kinds.givings c a ≡ Nothing)
    → ((a : Name) → names_of kinds.givers a ≡ []) → ((o : Name) → names_of kinds.collections o ≡ [])
    → ((o a : Name) → answer_of kinds.answers o a ≡ None) → Knows parts kinds
known_none parts kinds has none barren bare fresh o a =
    anew kinds fresh o a
    ∙ (λ i. if nat_lt (length (barren a i)) (length (bare o i)) then tell (told_within kinds.givings (bare o i) a) Nothing (barren a i) else tell (λ c. told_in kinds.givings c a) Nothing (bare o i))
    ∙ sym (ap told (all_none (collections parts o)))
  where
    all_none : (ns : List Name) → flat_map (λ c. given parts c a) ns ≡ []
    all_none [] = refl
    all_none (n ∷ ns) = ap (λ ks. ks ++ flat_map (λ c. given parts c a) ns) (told_none (given parts n a) (sym (has n a) ∙ none n a)) ∙ all_none ns

-- a collection that gives the attribute a kind is one of those that do
given-giver : (parts : List Part) (c a : Name) (k : Kind) → Contains (given parts c a) k → Contains (givers parts a) c
given-giver parts c a k h =
    let found = Contains-flat_map (given_by c a) parts k h in
    Contains-flat_mapped (giver_by a) parts found.0 c found.1 (own found.0 found.2)
  where
    gives : (g : Name) (p q : Bool) (j : Kind) → same_name g c ≡ p → Contains (if p && q then j ∷ [] else []) k → Contains (if q then g ∷ [] else []) c
    gives g true true j is at = subst (λ x. Contains (g ∷ []) x) (same_name-is g c is) (Contains-here g [])
    gives g true false j is at = absurd (Contains-nil k at)
    gives g false q j is at = absurd (Contains-nil k at)

    own : (p : Part) → Contains (given_by c a p) k → Contains (giver_by a p) c
    own (Gives g) at = gives g.collection (same_name g.collection c) (same_name g.attribute a) g.kind.kind refl at
    own (Node n) at = absurd (Contains-nil k at)
    own (Member d n) at = absurd (Contains-nil k at)
    own (Edge o l v) at = absurd (Contains-nil k at)

or_right : (b c : Bool) → c ≡ true → (b || c) ≡ true
or_right true c e = refl
or_right false c e = e

among : (c : Name) (names : List Name) → Contains names c → list_any (same_name c) names ≡ true
among c [] h = absurd (Contains-nil c h)
among c (n ∷ names) h =
    elim (Contains-cons_cases n names c h) [
      | inl e ↦ ap (λ b. b || list_any (same_name c) names) (subst (λ x. same_name c x ≡ true) (sym e) (bytes_same c))
      | inr rest ↦ or_right (same_name c n) (list_any (same_name c) names) (among c names rest)
    ]

-- the tables of the parts tell what the parts tell, whichever of the two lists is asked
module _ (parts : List Part) (kinds : Kinds) (has_givings : HasGivings parts kinds.givings) (o a : Name) where
  each : (c : Name) → Tells (Contains (given parts c a)) (told_in kinds.givings c a)
  each c = subst (Tells (Contains (given parts c a))) (sym (has_givings c a)) (Tells-told (given parts c a))

  told-by_names : tell (λ c. told_in kinds.givings c a) Nothing (insert_all [] (collections parts o)) ≡ told (kinds_of parts o a)
  told-by_names =
      Tells-one (Contains (kinds_of parts o a)) _ (told (kinds_of parts o a))
      (Tells-as (λ k. ⊥ ⊎ ((c : Name) × IsOneOf (insert_all [] (collections parts o)) c × Contains (given parts c a) k)) (Contains (kinds_of parts o a)) _ to from
      (Tells-tell (λ c. Contains (given parts c a)) (λ c. told_in kinds.givings c a) each (λ k. ⊥) Nothing (λ k p. p) (insert_all [] (collections parts o))))
      (Tells-told (kinds_of parts o a))
    where
      to : (k : Kind) → ⊥ ⊎ ((c : Name) × IsOneOf (insert_all [] (collections parts o)) c × Contains (given parts c a) k) → Contains (kinds_of parts o a) k
      to k (inl p) = absurd p
      to k (inr (c, at, h)) =
          elim (insert_all-cases [] (collections parts o) c (Contains-from_IsOneOf _ c at)) [
            | inl none ↦ absurd (Contains-nil c none)
            | inr is ↦ Contains-flat_mapped (λ n. given parts n a) (collections parts o) c k is h
          ]

      from : (k : Kind) → Contains (kinds_of parts o a) k → ⊥ ⊎ ((c : Name) × IsOneOf (insert_all [] (collections parts o)) c × Contains (given parts c a) k)
      from k h =
          let found = Contains-flat_map (λ n. given parts n a) (collections parts o) k h in
          inr (found.0, IsOneOf-from_Contains _ found.0 (insert_all-here [] (collections parts o) found.0 found.1), found.2)

  -- the kinds that a collection gives the attribute, where it is one of the names
  abbrev Within : List Name → Name → Kind → Type 0
  Within names c k = Contains names c × Contains (given parts c a) k

  each_within : (names : List Name) (c : Name) → Tells (Within names c) (told_within kinds.givings names a c)
  each_within names c = by (list_any (same_name c) names) refl
    where
      by : (b : Bool) → list_any (same_name c) names ≡ b → Tells (Within names c) (if b then told_in kinds.givings c a else Nothing)
      by true e = Tells-as (Contains (given parts c a)) (Within names c) (told_in kinds.givings c a) (λ k h. (Contains-from_any same_name-is c names e, h)) (λ k p. p.1) (each c)
      by false e = λ k p. let t : list_any (same_name c) names ≡ true = among c names p.0 in cc

  told-by_givers : tell (told_within kinds.givings (insert_all [] (collections parts o)) a) Nothing (insert_all [] (givers parts a)) ≡ told (kinds_of parts o a)
  told-by_givers =
      Tells-one (Contains (kinds_of parts o a)) _ (told (kinds_of parts o a))
      (Tells-as (λ k. ⊥ ⊎ ((c : Name) × IsOneOf (insert_all [] (givers parts a)) c × Within (insert_all [] (collections parts o)) c k)) (Contains (kinds_of parts o a)) _ to from
      (Tells-tell (Within (insert_all [] (collections parts o))) (told_within kinds.givings (insert_all [] (collections parts o)) a) (each_within (insert_all [] (collections parts o))) (λ k. ⊥) Nothing (λ k p. p) (insert_all [] (givers parts a))))
      (Tells-told (kinds_of parts o a))
    where
      to : (k : Kind) → ⊥ ⊎ ((c : Name) × IsOneOf (insert_all [] (givers parts a)) c × Within (insert_all [] (collections parts o)) c k) → Contains (kinds_of parts o a) k
      to k (inl p) = absurd p
      to k (inr (c, at, (own, h))) =
          elim (insert_all-cases [] (collections parts o) c own) [
            | inl none ↦ absurd (Contains-nil c none)
            | inr is ↦ Contains-flat_mapped (λ n. given parts n a) (collections parts o) c k is h
          ]

      from : (k : Kind) → Contains (kinds_of parts o a) k → ⊥ ⊎ ((c : Name) × IsOneOf (insert_all [] (givers parts a)) c × Within (insert_all [] (collections parts o)) c k)
      from k h =
          let found = Contains-flat_map (λ n. given parts n a) (collections parts o) k h in
          let gives : Contains (givers parts a) found.0 = given-giver parts found.0 a k found.2 in
          inr (found.0, IsOneOf-from_Contains _ found.0 (insert_all-here [] (givers parts a) found.0 gives), (insert_all-here [] (collections parts o) found.0 found.1, found.2))

  pub told-either : (names found : List Name) → names ≡ insert_all [] (collections parts o) → found ≡ insert_all [] (givers parts a)
      → (if nat_lt (length found) (length names) then tell (told_within kinds.givings names a) Nothing found else tell (λ c. told_in kinds.givings c a) Nothing names) ≡ told (kinds_of parts o a)
  told-either names found e f =
      (λ i. if nat_lt (length (f i)) (length (e i)) then tell (told_within kinds.givings (e i) a) Nothing (f i) else tell (λ c. told_in kinds.givings c a) Nothing (e i)) ∙ by (nat_lt (length (insert_all [] (givers parts a))) (length (insert_all [] (collections parts o))))
    where
      by : (b : Bool) → (if b then tell (told_within kinds.givings (insert_all [] (collections parts o)) a) Nothing (insert_all [] (givers parts a)) else tell (λ c. told_in kinds.givings c a) Nothing (insert_all [] (collections parts o))) ≡ told (kinds_of parts o a)
      by true = told-by_givers
      by false = told-by_names

pub told-known : (parts : List Part) (kinds : Kinds) → HasGivings parts kinds.givings → HasGivers parts kinds.givers → HasCollections parts kinds.collections
    → ((o a : Name) → answer_of kinds.answers o a ≡ None) → Knows parts kinds
told-known parts kinds has_givings has_givers has_collections fresh o a = anew kinds fresh o a ∙ told-either parts kinds has_givings o a (names_of kinds.collections o) (names_of kinds.givers a) (has_collections o) (has_givers a)

pub collections-member : (c : Word) (object : Name) (old new : Collections) (r : Result (Unit {0}) NoMemory)
    → OnOk r (names_of new object ≡ insert_key bytes_cmp (names_of old object) c.text)
    → OnOk r ((o : Name) → same_name object o ≡ false → names_of new o ≡ names_of old o)
    → OnOk r ((front : List Part) → HasCollections front old → HasCollections (front ++ Member c object ∷ []) new)
collections-member c object old new (Ok u) here others = λ front has. names-added collection_by front (Member c object) object c.text (λ o. refl) old new here others has
collections-member c object old new (Err e) here others = tt

pub givers-given : (g : Giving) (old new : Collections) (r : Result (Unit {0}) NoMemory)
    → OnOk r (names_of new g.attribute ≡ insert_key bytes_cmp (names_of old g.attribute) g.collection)
    → OnOk r ((o : Name) → same_name g.attribute o ≡ false → names_of new o ≡ names_of old o)
    → OnOk r ((front : List Part) → HasGivers front old → HasGivers (front ++ Gives g ∷ []) new)
givers-given g old new (Ok u) here others = λ front has. names-added giver_by front (Gives g) g.attribute g.collection (λ o. refl) old new here others has
givers-given g old new (Err e) here others = tt
