-- A page whose template has no EMBED and reads the same in two sites has the same outcome in both.
use Rattle.std.specs.Prelude.{◌≡◌, ℕ, zero, suc, false, List, [], ◌∷◌, Contains, get_or}
use Rattle.std.proofs.Common.{refl, sym, ap, ◌∙◌, subst, inl, inr}
use Rattle.sd_value.specs.Members.{Contains-map}
use Rattle.sd_value.specs.declared.Term.{Term}
use Rattle.sd_value.specs.declared.Value.{Value}
use Rattle.sd_value.specs.declared.Value.TheVariants.{Page}
use Rattle.tmpl.specs.Body.{Body, done, TemplateFile}
use Rattle.page_spec.specs.declared.Outcome.{Outcome}
use Rattle.page_spec.specs.declared.Outcome.TheVariants.{Page as Whole, Missing, Cyclic, TooLong}
use Rattle.page_spec.specs.Site.{Site, Env}
use Rattle.page_spec.specs.Pieces.{Item, byte, embed, bytes, First, Expands, Pieces}
use Rattle.page_spec.specs.Page.{Filled, Text, Embeds, Leads, nowhere, on, Loops, IsPresent, IsOutcome}
use Rattle.page_spec.proofs.Unique.{first_unique}
use Rattle.tmpl.specs.Expressions.{Use, uses}
use Rattle.edit_spec.specs.Footprint.{IsTemplateOf}
use Rattle.page_spec.proofs.Alike.{UsesAlike, expands_to, expands_bytes, AreBytes}

filled_bytes : (P Q : Value → List ℕ → Type 0) (x t : List ℕ) → Filled P (bytes x) t → Filled Q (bytes x) t
filled_bytes P Q [] t h = h
filled_bytes P Q (b ∷ x) t (u, h, is) = (u, filled_bytes P Q x u h, is)

none_in_bytes : (x : List ℕ) (m : Value) → Contains (bytes x) (embed m) → ⊥
none_in_bytes x m c = let found = Contains-map byte x (embed m) c in let is = found.1 in cc

first_step : (s : Site) (f : TemplateFile) (n m k : Value) → ((j : Value) → Embeds s f n j → ⊥) → Leads s f n m
    → Embeds s f m k → ⊥
first_step s f n m k bare nowhere e = bare k e
first_step s f n m k bare (on {k = j} step rest) e = bare j step

body_is : (f : TemplateFile) (function : List ℕ) (t : Body) → IsTemplateOf f function t → (k : ℕ)
    → First (λ name. name ≡ function) f.functions k → get_or f.bodies k done ≡ t
body_is f function t (inl (j, first, is)) k h = ap (λ i. get_or f.bodies i done)
    (first_unique (λ name. name ≡ function) f.functions k j h first) ∙ sym is
body_is f function t (inr (none, is)) k h = absurd (none k h)

module _ (f : TemplateFile) (p : Term) (t : Body) (template : IsTemplateOf f p.function t) where
  scene : Env
  scene = record { here = Page p; loops = [] }

  pieces_to : (s r : Site) → ((x : Use) → Contains (uses t) x → UsesAlike s r (Page p) x) → (ps : List Item)
      → Pieces s f (Page p) ps → Pieces r f (Page p) ps
  unfolding scene
  pieces_to s r alike ps (k, h, made) =
      let is = body_is f p.function t template k h in (
        k,
        h,
        subst (λ (b : Body). Expands r f scene b ps) (sym is)
            (expands_to s r (Page p) f t alike scene refl ps (subst (λ (b : Body). Expands s f scene b ps) is made)),
      )

  pieces_bytes : (s : Site) → ((x : Use) → Contains (uses t) x → x.embeds ≡ false) → (ps : List Item)
      → Pieces s f (Page p) ps → AreBytes ps
  unfolding scene
  pieces_bytes s bare ps (k, h, made) = expands_bytes s f t bare scene ps
      (subst (λ (b : Body). Expands s f scene b ps) (body_is f p.function t template k h) made)

  embeds_nothing : (s : Site) → ((x : Use) → Contains (uses t) x → x.embeds ≡ false) → (m : Value) → Embeds s f (Page p)
      m → ⊥
  embeds_nothing s bare m (ps, pieces, c) =
      let (x, is) = pieces_bytes s bare ps pieces in none_in_bytes x m
      (subst (λ (l : List Item). Contains l (embed m)) is c)

  pub never_loops : (s : Site) → ((x : Use) → Contains (uses t) x → x.embeds ≡ false) → Loops s f (Page p) → ⊥
  never_loops s bare (m, k, leads, step, back) = first_step s f (Page p) m k (embeds_nothing s bare) leads step

  text_to : (s r : Site) → ((x : Use) → Contains (uses t) x → UsesAlike s r (Page p) x) → (h : ℕ) (x : List ℕ)
      → Text s f h (Page p) x → Text r f h (Page p) x
  text_to s r alike zero x w = absurd w
  text_to s r alike (suc h) x (ps, pieces, filled) =
      let (b, is) = pieces_bytes s (λ y c. (alike y c).plain) ps pieces in (
        ps,
        pieces_to s r alike ps pieces,
        subst (λ (l : List Item). Filled (Text r f h) l x) (sym is)
            (filled_bytes (Text s f h) (Text r f h) b x (subst (λ (l : List Item). Filled (Text s f h) l x) is filled)),
      )

  present_to : (s r : Site) → (s.has p → r.has p) → IsPresent s f p → IsPresent r f p
  present_to s r has (in_s, template) = (has in_s, template)

  pub outcome_to : (s r : Site) → (s.has p → r.has p) → (r.has p → s.has p)
      → ((x : Use) → Contains (uses t) x → UsesAlike s r (Page p) x)
      → (o : Outcome) → IsOutcome s f p o → IsOutcome r f p o
  outcome_to s r to from alike Missing missing = λ present. missing (present_to r s from present)
  outcome_to s r to from alike (Cyclic m) (present, loops, at) = absurd (never_loops s (λ x c. (alike x c).plain) loops)
  outcome_to s r to from alike TooLong (present, loops, (x, (h, w), long)) =
      (present_to s r to present, never_loops r (λ x c. (alike x c).plain), (x, (h, text_to s r alike h x w), long))
  outcome_to s r to from alike (Whole x) (present, loops, (h, w), short) =
      (present_to s r to present, never_loops r (λ x c. (alike x c).plain), (h, text_to s r alike h x w), short)
