-- A body whose expressions read the same in two sites makes the same of a value, and one without
-- EMBED makes bytes alone: what else depends on a body depends on its expressions.
use Rattle.std.specs.Prelude.{◌≡◌, ℕ, Bool, true, false, List, [], ◌∷◌, ◌++◌, Option, Some, None, Contains, length}
use Rattle.std.specs.Fmt.{decimal}
use Rattle.std.proofs.Common.{refl, sym, ◌∙◌, subst, inl, inr}
use Rattle.std.proofs.lemmas.List.{map-append}
use Rattle.std.proofs.lemmas.List.Elements.{Contains-append_left, Contains-append_right}
use Rattle.std.specs.declared.cmp.Ordering.{Ordering}
use Rattle.sd_value.specs.declared.Value.{Value}
use Rattle.sd_value.specs.Order.{value_cmp}
use Rattle.key_spec.specs.Keys.{folded_text, folded_cmp}
use Rattle.page_spec.specs.declared.Place.{Place}
use Rattle.sd_value.specs.AscendingLaws.{listed_as}
use Rattle.sd_value.specs.Members.{Contains-here, Contains-there}
use Rattle.sd_value.specs.Names.{Word}
use Rattle.tmpl.specs.declared.Order.{Order}
use Rattle.tmpl.specs.declared.Mode.{Mode}
use Rattle.tmpl.specs.declared.Mode.TheVariants.{Written, Embed, Link, Labelled}
use Rattle.tmpl.specs.declared.Test.{Test}
use Rattle.tmpl.specs.declared.Test.TheVariants.{Any, Compares, Counts, Same}
use Rattle.tmpl.specs.declared.SortKey.{SortKey}
use Rattle.tmpl.specs.declared.Expr.{Expr}
use Rattle.tmpl.specs.Body.{Body, done, text, format, count, choice, repeat, TemplateFile}
use Rattle.tmpl.specs.Expressions.{Use, uses, bare_use, test_uses, key_words, label_words, link_words, is_embed}
use Rattle.page_spec.specs.Site.{Site, Reaches, Env, InRange, IsLeast, HasKey, HasPlaces, Arranged}
use Rattle.page_spec.specs.Pieces.{Item, byte, bytes, TestHolds, Taken, Formatted, delimiter, Joined, binding, Expands}

-- what an expression of a body that presents n reads of the first site is in the second one
pub record UseTo (s r : Site) (n : Value) (x : Use) : Type 0 where
  pub range : (e : Env) → e.here ≡ n → (v : Value) → InRange s e x.expr v → InRange r e x.expr v
  pub onward : (word : Word) → Contains x.onward word → (u v : Value) → Reaches s u word v → Reaches r u word v

module _ (s r : Site) where
  least_to : (order : Value → Value → Ordering) (word : Word) (v : Value)
      → ((u : Value) → Reaches s v word u → Reaches r v word u) → ((u : Value) → Reaches r v word u → Reaches s v word u)
      → (k : Option Value) → IsLeast s order word v k → IsLeast r order word v k
  least_to order word v to from None h = λ u x. h u (from u x)
  least_to order word v to from (Some k) h = (to k h.0, λ u x. h.1 u (from u x))

-- the expression reads the same in both sites
pub record UsesAlike (s r : Site) (n : Value) (x : Use) : Type 0 where
  pub to : UseTo s r n x
  pub from : UseTo r s n x
  pub plain : x.embeds ≡ false

pub turned : (s r : Site) (n : Value) (x : Use) → UsesAlike s r n x → UsesAlike r s n x
turned s r n x a = record { to = a.from; from = a.to; plain = a.plain }

module _ (s r : Site) (n : Value) where
  -- the word of a LINK
  label_to : (x : Use) (word : Word) → Contains x.onward word → UsesAlike s r n x → (v : Value) (k : Option Value)
      → HasKey s (Some word) v k → HasKey r (Some word) v k
  label_to x word inside a v k h =
      least_to s r value_cmp word v (a.to.onward word inside v) (a.from.onward word inside v) k h

  -- the words of KEYs
  places_to : (x : Use) (keys : List SortKey) → ((w : Word) → Contains (key_words keys) w → Contains x.onward w)
      → UsesAlike s r n x → (v : Value) (ps : List Place) → HasPlaces s keys v ps → HasPlaces r keys v ps
  places_to x [] inside a v ps h = h
  places_to x (key ∷ keys) inside a v ps (k, rest, least, h, is) =
      let here = inside key.word (Contains-here key.word (key_words keys)) in (
        k,
        rest,
        least_to s r (folded_cmp folded_text key.fold) key.word v (a.to.onward key.word here v)
            (a.from.onward key.word here v) k least,
        places_to x keys (λ w c. inside w (Contains-there key.word (key_words keys) w c)) a v rest h,
        is,
      )

  places_from : (x : Use) (keys : List SortKey) → ((w : Word) → Contains (key_words keys) w → Contains x.onward w)
      → UsesAlike s r n x → (v : Value) (ps : List Place) → HasPlaces r keys v ps → HasPlaces s keys v ps
  places_from x [] inside a v ps h = h
  places_from x (key ∷ keys) inside a v ps (k, rest, least, h, is) =
      let here = inside key.word (Contains-here key.word (key_words keys)) in (
        k,
        rest,
        least_to r s (folded_cmp folded_text key.fold) key.word v (a.from.onward key.word here v)
            (a.to.onward key.word here v) k least,
        places_from x keys (λ w c. inside w (Contains-there key.word (key_words keys) w c)) a v rest h,
        is,
      )

  arranged_to : (x : Use) (o : Order) → ((w : Word) → Contains (key_words o.keys) w → Contains x.onward w)
      → UsesAlike s r n x → (e : Env) → e.here ≡ n → (vs : List Value) → Arranged s e x.expr o vs → Arranged r e x.expr
      o vs
  arranged_to x o inside a e at vs (rows, listing, is) = (
    rows,
    listed_as listing
        (λ k h. (a.to.range e at k.value h.0, places_to x o.keys inside a k.value k.places h.1))
        (λ k h. (a.from.range e at k.value h.0, places_from x o.keys inside a k.value k.places h.1)),
    is,
  )

  holds_to : (x : Expr) (test : Test) → ((y : Use) → Contains (test_uses x test) y → UsesAlike s r n y) → (e : Env)
      → e.here ≡ n → TestHolds s e x test → TestHolds r e x test
  holds_to x Any a e at (v, h) = (v, (a (bare_use x) (Contains-here (bare_use x) [])).to.range e at v h)
  holds_to x (Compares k) a e at (v, h, is) = (v, (a (bare_use x) (Contains-here (bare_use x) [])).to.range e at v h, is)
  holds_to x (Counts k) a e at (vs, listing, is) =
      let u = a (bare_use x) (Contains-here (bare_use x) []) in
      (vs, listed_as listing (u.to.range e at) (u.from.range e at), is)
  holds_to x (Same y) a e at (v, h, g) =
      let own : List Use = bare_use y ∷ [] in (
        v,
        (a (bare_use x) (Contains-here (bare_use x) own)).to.range e at v h,
        (a (bare_use y) (Contains-there (bare_use x) own (bare_use y) (Contains-here (bare_use y) []))).to.range e at v g,
      )

taken_to : (negated : Bool) (P Q : Type 0) → (P → Q) → (Q → P) → Taken negated P → Taken negated Q
taken_to false P Q to from h = to h
taken_to true P Q to from h = λ x. h (from x)

formatted_to : (s r : Site) (n : Value) (f : TemplateFile) (m : Mode) (x : Use)
    → ((w : Word) → Contains (link_words m) w → Contains x.onward w) → (is_embed m ≡ false) → UsesAlike s r n x
    → (v : Value) (ps : List Item) → Formatted s f m v ps → Formatted r f m v ps
formatted_to s r n f (Written w) x inside bare a v ps h = h
formatted_to s r n f (Link None) x inside bare a v ps h = h
formatted_to s r n f (Link (Some word)) x inside bare a v ps (inl (label, key, is)) =
    inl (label, label_to s r n x word (inside word (Contains-here word [])) a v (Some label) key, is)
formatted_to s r n f (Link (Some word)) x inside bare a v ps (inr (key, is)) =
    inr (label_to s r n x word (inside word (Contains-here word [])) a v None key, is)
formatted_to s r n f (Labelled label) x inside bare a v ps h = h
formatted_to s r n f Embed x inside bare a v ps h = let impossible : ⊥ = cc in absurd impossible

joined_to : (P Q : Value → List Item → Type 0) (between : List Item) → ((v : Value) (ps : List Item) → P v ps → Q v ps)
    → (vs : List Value) (ps : List Item) → Joined P between vs ps → Joined Q between vs ps
joined_to P Q between to [] ps h = h
joined_to P Q between to (v ∷ []) ps h = to v ps h
joined_to P Q between to (v ∷ w ∷ vs) ps (a, b, p, rest, is) =
    (a, b, to v a p, joined_to P Q between to (w ∷ vs) b rest, is)

-- ---- bodies

pub expands_to : (s r : Site) (n : Value) (f : TemplateFile) (t : Body)
    → ((x : Use) → Contains (uses t) x → UsesAlike s r n x) → (e : Env) → e.here ≡ n
    → (ps : List Item) → Expands s f e t ps → Expands r f e t ps
expands_to s r n f done alike e at ps h = h
expands_to s r n f (text t rest) alike e at ps (b, h, is) = (b, expands_to s r n f rest alike e at b h, is)
expands_to s r n f (format x m o rest) alike e at ps (vs, a, b, arranged, joined, h, is) =
    let u : Use = record { expr = x; onward = key_words o.keys ++ link_words m; embeds = is_embed m } in
    let here = alike u (Contains-here u (uses rest)) in (
      vs,
      a,
      b,
      arranged_to s r n u o (λ w c. Contains-append_left (key_words o.keys) (link_words m) w c) here e at vs arranged,
      joined_to (Formatted s f m) (Formatted r f m) (delimiter o.delimiter)
          (formatted_to s r n f m u (λ w c. Contains-append_right (key_words o.keys) (link_words m) w c) here.plain here)
          vs a joined,
      expands_to s r n f rest (λ y c. alike y (Contains-there u (uses rest) y c)) e at b h,
      is,
    )
expands_to s r n f (count x rest) alike e at ps (vs, b, listing, h, is) =
    let u : Use = record { expr = x; onward = []; embeds = false } in
    let here = alike u (Contains-here u (uses rest)) in (
      vs,
      b,
      listed_as listing (here.to.range e at) (here.from.range e at),
      expands_to s r n f rest (λ y c. alike y (Contains-there u (uses rest) y c)) e at b h,
      is,
    )
expands_to s r n f (choice negated x test taken other rest) alike e at ps (a, b, branch, h, is) =
    let own : List Use = test_uses x test in
    let more : List Use = uses taken ++ uses other ++ uses rest in
    let later : (y : Use) → Contains more y → UsesAlike s r n y = λ y c. alike y (Contains-append_right own more y c) in
    let to = holds_to s r n x test (λ y c. alike y (Contains-append_left own more y c)) e at in
    let from = holds_to r s n x test
    (λ y c. turned s r n y (alike y (Contains-append_left own more y c))) e at in
    let in_taken : (y : Use) → Contains (uses taken) y → UsesAlike s r n y = λ y c. later y
    (Contains-append_left (uses taken ++ uses other) (uses rest) y
    (Contains-append_left (uses taken) (uses other) y c)) in
    let in_other : (y : Use) → Contains (uses other) y → UsesAlike s r n y = λ y c. later y
    (Contains-append_left (uses taken ++ uses other) (uses rest) y
    (Contains-append_right (uses taken) (uses other) y c)) in
    let in_rest : (y : Use) → Contains (uses rest) y → UsesAlike s r n y = λ y c. later y
    (Contains-append_right (uses taken ++ uses other) (uses rest) y c) in (
      a,
      b,
      (elim branch [
        | inl so ↦ inl (
          taken_to negated (TestHolds s e x test) (TestHolds r e x test) to from so.0,
          expands_to s r n f
              taken in_taken e at a so.1,
        )
        | inr not_so ↦ inr (
          λ k. not_so.0 (taken_to negated (TestHolds r e x test) (TestHolds s e x test) from to k),
          expands_to s r n f other in_other e at a not_so.1,
        )
      ]),
      expands_to s r n f rest in_rest e at b h,
      is,
    )
expands_to s r n f (repeat k x o body rest) alike e at ps (vs, a, b, arranged, joined, h, is) =
    let u : Use = record { expr = x; onward = key_words o.keys; embeds = false } in
    let more : List Use = uses body ++ uses rest in
    let here = alike u (Contains-here u more) in (
      vs,
      a,
      b,
      arranged_to s r n u o (λ w c. c) here e at vs arranged,
      joined_to (λ v. Expands s f (binding e k v) body) (λ v. Expands r f (binding e k v) body) (delimiter o.delimiter)
          (λ v qs g. expands_to s r n f body
          (λ y c. alike y (Contains-there u more y (Contains-append_left (uses body) (uses rest) y c)))
          (binding e k v) at qs g) vs a joined,
      expands_to s r n f rest
          (λ y c. alike y (Contains-there u more y (Contains-append_right (uses body) (uses rest) y c))) e at b h,
      is,
    )

-- ---- without EMBED there are bytes alone

abbrev pub AreBytes : List Item → Type 0
AreBytes ps = (t : List ℕ) × (ps ≡ bytes t)

joined_bytes : (a b : List Item) → AreBytes a → AreBytes b → AreBytes (a ++ b)
joined_bytes a b (t, is) (u, are) = (t ++ u, (λ i. is i ++ are i) ∙ sym (map-append byte t u))

formatted_bytes : (s : Site) (f : TemplateFile) (m : Mode) → (is_embed m ≡ false) → (v : Value) (ps : List Item)
    → Formatted s f m v ps → AreBytes ps
formatted_bytes s f (Written w) bare v ps h = (_, h)
formatted_bytes s f (Link None) bare v ps h = (_, h)
formatted_bytes s f (Link (Some word)) bare v ps (inl (label, key, is)) = (_, is)
formatted_bytes s f (Link (Some word)) bare v ps (inr (key, is)) = (_, is)
formatted_bytes s f (Labelled label) bare v ps h = (_, h)
formatted_bytes s f Embed bare v ps h = let impossible : ⊥ = cc in absurd impossible

delimiter_bytes : (d : Option (List ℕ)) → AreBytes (delimiter d)
delimiter_bytes None = ([], refl)
delimiter_bytes (Some d) = (d, refl)

all_joined_bytes : (P : Value → List Item → Type 0) (between : List Item) → AreBytes between
    → ((v : Value) (ps : List Item) → P v ps → AreBytes ps) → (vs : List Value) (ps : List Item) → Joined P between vs
    ps → AreBytes ps
all_joined_bytes P between d each [] ps h = ([], h)
all_joined_bytes P between d each (v ∷ []) ps h = each v ps h
all_joined_bytes P between d each (v ∷ w ∷ vs) ps (a, b, p, rest, is) =
    subst AreBytes (sym is) (joined_bytes (a ++ between) b (joined_bytes a between (each v a p) d)
    (all_joined_bytes P between d each (w ∷ vs) b rest))

pub expands_bytes : (s : Site) (f : TemplateFile) (t : Body) → ((x : Use) → Contains (uses t) x → x.embeds ≡ false)
    → (e : Env) (ps : List Item) → Expands s f e t ps → AreBytes ps
expands_bytes s f done bare e ps h = ([], h)
expands_bytes s f (text t rest) bare e ps (b, h, is) = subst AreBytes (sym is)
    (joined_bytes (bytes t) b (t, refl) (expands_bytes s f rest bare e b h))
expands_bytes s f (format x m o rest) bare e ps (vs, a, b, arranged, joined, h, is) =
    let u : Use = record { expr = x; onward = key_words o.keys ++ link_words m; embeds = is_embed m } in
    subst AreBytes (sym is)
    (joined_bytes a b
    (all_joined_bytes (Formatted s f m) (delimiter o.delimiter) (delimiter_bytes o.delimiter)
    (formatted_bytes s f m (bare u (Contains-here u (uses rest)))) vs a joined)
    (expands_bytes s f rest (λ y c. bare y (Contains-there u (uses rest) y c)) e b h))
expands_bytes s f (count x rest) bare e ps (vs, b, listing, h, is) =
    let u : Use = record { expr = x; onward = []; embeds = false } in
    subst AreBytes (sym is)
    (joined_bytes (bytes (decimal (length vs))) b (decimal (length vs), refl)
    (expands_bytes s f rest (λ y c. bare y (Contains-there u (uses rest) y c)) e b h))
expands_bytes s f (choice negated x test taken other rest) bare e ps (a, b, branch, h, is) =
    let own : List Use = test_uses x test in
    let more : List Use = uses taken ++ uses other ++ uses rest in
    let later : (y : Use) → Contains more y → y.embeds ≡ false = λ y c. bare y (Contains-append_right own more y c) in
    let front : AreBytes a = elim branch [
      | inl so ↦ expands_bytes s f taken
          (λ y c. later y
          (Contains-append_left (uses taken ++ uses other) (uses rest) y
          (Contains-append_left (uses taken) (uses other) y c))) e a so.1
      | inr not_so ↦ expands_bytes s f other
          (λ y c. later y
          (Contains-append_left (uses taken ++ uses other) (uses rest) y
          (Contains-append_right (uses taken) (uses other) y c))) e a not_so.1
    ] in
    subst AreBytes (sym is)
    (joined_bytes a b front
    (expands_bytes s f rest
    (λ y c. later y (Contains-append_right (uses taken ++ uses other) (uses rest) y c)) e b
    h))
expands_bytes s f (repeat k x o body rest) bare e ps (vs, a, b, arranged, joined, h, is) =
    let u : Use = record { expr = x; onward = key_words o.keys; embeds = false } in
    let more : List Use = uses body ++ uses rest in
    subst AreBytes (sym is)
    (joined_bytes a b
    (all_joined_bytes (λ v. Expands s f (binding e k v) body) (delimiter o.delimiter) (delimiter_bytes o.delimiter)
    (λ v qs g. expands_bytes s f body
    (λ y c. bare y (Contains-there u more y (Contains-append_left (uses body) (uses rest) y c))) (binding e k v) qs
    g) vs a joined)
    (expands_bytes s f rest
    (λ y c. bare y (Contains-there u more y (Contains-append_right (uses body) (uses rest) y c))) e b h))
