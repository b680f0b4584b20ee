-- A template makes items of each value that has one, and embeds only what has P: a property of where edges lead and of
-- what is collected.
use Rattle.std.proofs.Common.{◌≡◌, ℕ, List, [], ◌∷◌, ◌++◌, inl, inr, refl, subst, get_or}
use Rattle.std.specs.Prelude.{Contains, Option, Some, None, length}
use Rattle.std.specs.Fmt.{decimal}
use Rattle.std.proofs.lemmas.List.Elements.{Contains-append_cases}
use Rattle.sd_value.specs.Names.{Name, Label, Word}
use Rattle.sd_value.specs.Members.{Contains-nil, Contains-cons_cases, Contains-here, Contains-there}
use Rattle.sd_value.specs.declared.Value.{Value}
use Rattle.tmpl.specs.declared.Expr.{Expr}
use Rattle.tmpl.specs.declared.Mode.{Mode}
use Rattle.tmpl.specs.declared.Mode.TheVariants.{Written, Embed, Link, Labelled}
use Rattle.tmpl.specs.declared.WordRoot.{WordRoot}
use Rattle.tmpl.specs.declared.WordRoot.TheVariants.{Here, Loop, Collection}
use Rattle.tmpl.specs.Body.{Body, done, text, format, count, choice, repeat, TemplateFile}
use Rattle.page_spec.specs.Show.{show, escaped, target, anchor, link}
use Rattle.page_spec.specs.Written.{written}
use Rattle.page_spec.specs.Site.{Site, IsBound, Env, Reaches, Starts, InRange, HasKey}
use Rattle.page_spec.specs.Pieces.{Item, byte, embed, bytes, delimiter, Joined, binding, TestHolds, Taken, HasTemplate}
use Rattle.page_spec.specs.Pieces.{Formatted, Expands, Pieces}
use Rattle.site_graphs.proofs.Decide.{Dec, yes, no}
use Rattle.outcome_laws.proofs.Listing.{IsListed, key_of, values_of, arranged}
use Rattle.outcome_laws.proofs.Choosing.{taken, has_template}

-- what the items embed has P
abbrev pub EmbedOnly : (Value → Type 0) → List Item → Type 0
EmbedOnly P ps = (m : Value) → Contains ps (embed m) → P m

module _ (P : Value → Type 0) where
  of_bytes : (t : List ℕ) → EmbedOnly P (bytes t)
  of_bytes [] m h = absurd (Contains-nil (embed m) h)
  of_bytes (b ∷ t) m h = elim (Contains-cons_cases (byte b) (bytes t) (embed m) h)
      [ inl e ↦ let never : ⊥ = cc in absurd never | inr rest ↦ of_bytes t m rest ]

  of_both : (ps qs : List Item) → EmbedOnly P ps → EmbedOnly P qs → EmbedOnly P (ps ++ qs)
  of_both ps qs a b m h = elim (Contains-append_cases ps qs (embed m) h) [ inl front ↦ a m front | inr back ↦ b m back ]

  of_one : (v : Value) → P v → EmbedOnly P (embed v ∷ [])
  of_one v p m h = elim (Contains-cons_cases (embed v) [] (embed m) h)
      [ inl e ↦ let same : v ≡ m = cc in subst P same p | inr none ↦ absurd (Contains-nil (embed m) none) ]

  of_delimiter : (d : Option (List ℕ)) → EmbedOnly P (delimiter d)
  of_delimiter None = of_bytes []
  of_delimiter (Some d) = of_bytes d

  -- items of which M holds, and which embed only what has P
  abbrev Made : (List Item → Type 0) → Type 0
  Made M = (ps : List Item) × M ps × EmbedOnly P ps

  joined : (Q : Value → List Item → Type 0) (between : List Item) → EmbedOnly P between → (vs : List Value)
      → ((v : Value) → Contains vs v → Made (Q v)) → Made (Joined Q between vs)
  joined Q between apart [] each = ([], refl, of_bytes [])
  joined Q between apart (v ∷ []) each = each v (Contains-here v [])
  joined Q between apart (v ∷ w ∷ vs) each =
      let a = each v (Contains-here v (w ∷ vs)) in
      let b = joined Q between apart (w ∷ vs) (λ u h. each u (Contains-there v (w ∷ vs) u h)) in (
        a.0 ++ between ++ b.0,
        (a.0, b.0, a.1, b.1, refl),
        of_both (a.0 ++ between) b.0 (of_both a.0 between a.2 apart) b.2,
      )

-- where edges lead and what is collected has P
pub record IsClosed (site : Site) (P : Value → Type 0) : Type 0 where
  pub ends : (u : Value) (l : Label) (v : Value) → site.edge u l v → P v
  pub collected : (c : Name) (v : Value) → site.collected c v → P v

module _ (site : Site) (listed : IsListed site) (templates : TemplateFile) (P : Value → Type 0)
    (closed : IsClosed site P) where
  reached : (u : Value) (word : Word) (v : Value) → P u → Reaches site u word v → P v
  reached u [] v p e = subst P e p
  reached u (l ∷ word) v p h = reached h.0 word v (closed.ends u l h.0 h.1) h.2

  -- the value that is presented and those of the loops round the place have P
  abbrev Around : Env → Type 0
  Around e = P e.here × ((k : ℕ) (v : Value) → IsBound e.loops k v → P v)

  started : (e : Env) → Around e → (r : WordRoot) (v : Value) → Starts site e r v → P v
  started e a Here v h = subst P h a.0
  started e a (Loop k) v h = a.1 k v h
  started e a (Collection c) v h = closed.collected c v h

  in_range : (e : Env) → Around e → (x : Expr) (v : Value) → InRange site e x v → P v
  in_range e a x v h = reached h.0 x.word v (started e a x.root h.0 h.1) h.2

  bound : (e : Env) → Around e → (k : ℕ) (v : Value) → P v → Around (binding e k v)
  bound e a k v p = (a.0, λ j w h. elim h [ inl here ↦ subst P here.1 p | inr outer ↦ a.1 j w outer.1 ])

  formatted : (m : Mode) (v : Value) → P v → Made P (Formatted site templates m v)
  formatted (Written w) v p = (bytes (written w (show v)), refl, of_bytes P (written w (show v)))
  formatted (Link None) v p = (bytes (link v v), refl, of_bytes P (link v v))
  formatted (Link (Some word)) v p = by (key_of site listed (Some word) v).0 (key_of site listed (Some word) v).1
    where
      by : (k : Option Value) → HasKey site (Some word) v k → Made P (Formatted site templates (Link (Some word)) v)
      by None h = (bytes (link v v), inr (h, refl), of_bytes P (link v v))
      by (Some label) h = (bytes (link v label), inl (label, h, refl), of_bytes P (link v label))
  formatted (Labelled label) v p =
      (bytes (anchor (target v) label), refl, of_bytes P (anchor (target v) label))
  formatted Embed v p = by (has_template site listed templates v)
    where
      by : Dec ((k : ℕ) × HasTemplate site templates v k) → Made P (Formatted site templates Embed v)
      by (yes h) = (embed v ∷ [], inl (h.0, h.1, refl), of_one P v p)
      by (no n) = (bytes (escaped (show v)), inr (λ k h. n (k, h), refl), of_bytes P (escaped (show v)))

  expanded : (e : Env) → Around e → (body : Body) → Made P (Expands site templates e body)
  expanded e a done = ([], refl, of_bytes P [])
  expanded e a (text t rest) =
      let b = expanded e a rest in
      (bytes t ++ b.0, (b.0, b.1, refl), of_both P (bytes t) b.0 (of_bytes P t) b.2)
  expanded e a (format x m o rest) =
      let vs = arranged site listed e x o in
      let front = joined P (Formatted site templates m) (delimiter o.delimiter) (of_delimiter P o.delimiter) vs.0
      (λ v h. formatted m v (in_range e a x v (vs.2 v h))) in
      let b = expanded e a rest in (
        front.0 ++ b.0,
        (vs.0, front.0, b.0, vs.1, front.1, b.1, refl),
        of_both P front.0 b.0 front.2 b.2,
      )
  expanded e a (count x rest) =
      let vs = values_of site listed e x in
      let digits = decimal (length vs.0) in
      let b = expanded e a rest in
      (bytes digits ++ b.0, (vs.0, b.0, vs.1, b.1, refl), of_both P (bytes digits) b.0 (of_bytes P digits) b.2)
  expanded e a (choice negated x test then other rest) =
      by (taken site listed e negated x test) (expanded e a then) (expanded e a other) (expanded e a rest)
    where
      by : Dec (Taken negated (TestHolds site e x test)) → Made P (Expands site templates e then)
          → Made P (Expands site templates e other) → Made P (Expands site templates e rest)
          → Made P (Expands site templates e (choice negated x test then other rest))
      by (yes h) f g b = (f.0 ++ b.0, (f.0, b.0, inl (h, f.1), b.1, refl), of_both P f.0 b.0 f.2 b.2)
      by (no n) f g b = (g.0 ++ b.0, (g.0, b.0, inr (n, g.1), b.1, refl), of_both P g.0 b.0 g.2 b.2)
  expanded e a (repeat k x o body rest) =
      let vs = arranged site listed e x o in
      let front = joined P (λ v. Expands site templates (binding e k v) body) (delimiter o.delimiter)
      (of_delimiter P o.delimiter) vs.0
      (λ v h. expanded (binding e k v) (bound e a k v (in_range e a x v (vs.2 v h))) body) in
      let b = expanded e a rest in (
        front.0 ++ b.0,
        (vs.0, front.0, b.0, vs.1, front.1, b.1, refl),
        of_both P front.0 b.0 front.2 b.2,
      )

  -- the items of a value that has a template
  pub pieces : (n : Value) → P n → (k : ℕ) × HasTemplate site templates n k
      → Made P (Pieces site templates n)
  pieces n p h =
      let a = expanded record { here = n; loops = [] } (p, λ k v none. absurd none) (get_or templates.bodies h.0 done) in
      (a.0, (h.0, h.1, a.1), a.2)
