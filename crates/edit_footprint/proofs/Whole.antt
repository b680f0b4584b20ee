-- The reads of a function's template, and the footprint that they give.
use Rattle.std.specs.Prelude.{◌≡◌, ℕ, ◌<◌, Bool, true, false, ◌||◌, Some, None, [], ◌++◌, get_or, slice_get, length, Contains}
use Rattle.std.specs.Bool.{MatchBool}
use Rattle.std.specs.Ordering.{nat_cmp}
use Rattle.std.proofs.Common.{arith, refl, sym, ap, ◌∙◌, subst, inl, inr}
use Rattle.std.proofs.lemmas.List.{length-map}
use Rattle.sd_value.specs.Order.{bytes_cmp}
use Rattle.sd_value.specs.Ascending.{ListsExactly}
use Rattle.sd_value.specs.AscendingLaws.{listed_as}
use Rattle.graph_spec.specs.DataGraph.{Name}
use Rattle.query_spec.specs.Query.{Body as Block}
use Rattle.site_spec.specs.Site.{Scope}
use Rattle.tmpl.specs.declared.Templates.{Templates}
use Rattle.tmpl.specs.Reading.{file_of, template_body}
use Rattle.tmpl.specs.Body.{Body, done, TemplateFile}
use Rattle.tmpl.specs.Expressions.{uses}
use Rattle.edit_spec.specs.Footprint.{own_labels, other_labels, named_collections, has_embed, IsWithoutEmbed}
use Rattle.edit_touches.specs.declared.FootprintParts.{FootprintParts}
use Rattle.edit_touches.specs.Parts.{footprint_of}
use Rattle.edit_footprint.specs.declared.reads.Reads.{Reads}
use Rattle.edit_footprint.specs.Gathered.{AddsUses}
use Rattle.edit_footprint.specs.Rests as tests
use Rattle.edit_footprint.specs.Numbers.{number_of, numbers_from, AreReads, AreParts}
use Rattle.edit_footprint.proofs.Numbers.{some_number, no_number, numbered, numbers_exact, listed_some}
use Rattle.edit_footprint.proofs.Rests.{rests_says}

-- nothing was read before
pub record IsNothing (r : Reads) : Type 0 where
  pub embeds_no : r.embeds ≡ false
  pub own_none : r.own.items ≡ []
  pub others_none : r.others.items ≡ []
  pub collections_none : r.collections.items ≡ []

pub reads_none : (f : TemplateFile) (function : Name) (r : Reads) → IsNothing r → None ≡ number_of function f.functions
    → AreReads f function r
reads_none f function r n e = (
  done,
  inr (no_number function f.functions e, refl),
  record {
    embeds_same = n.embeds_no;
    own_same = n.own_none;
    others_same = n.others_none;
    collections_same = n.collections_none;
  },
)

pub reads_some : (f : TemplateFile) (function : Name) (old new : Reads) (k : ℕ) (t : Body) → IsNothing old
    → Some k ≡ number_of function f.functions → t ≡ get_or f.bodies k done → AddsUses old new (uses t)
    → AreReads f function new
reads_some f function old new k t n e is h = (
  t,
  inl (k, some_number function f.functions k e, is),
  record {
    embeds_same = h.embeds_more ∙ ap (λ b. b || has_embed t) n.embeds_no;
    own_same = h.own_more ∙ ap (λ l. l ++ own_labels t) n.own_none;
    others_same = h.others_more ∙ ap (λ l. l ++ other_labels t) n.others_none;
    collections_same = h.collections_more ∙ ap (λ l. l ++ named_collections t) n.collections_none;
  },
)

pub number_in_range : (ts : Templates) (function : Name) (k : ℕ) → Some k ≡ number_of function (file_of ts).functions
    → k < length (file_of ts).bodies
number_in_range ts function k e =
    let h = numbered (λ name. name ≡ function) ts.functions.items (length ts.bodies.items) k ts.functions_in_range
    (some_number function (file_of ts).functions k e) in
    omega (arith, length-map ts.bodies.items template_body, h)

-- ---- with an EMBED, and without

pub parts_fine : (f : TemplateFile) (q : Scope) (function : Name) (r : Reads) (p : FootprintParts) → r.embeds ≡ false
    → p.every ≡ false
    → p.blocks.items ≡ numbers_from (tests.rests_on function r.own.items r.others.items r.collections.items) 0 q.bodies
    → ListsExactly bytes_cmp (Contains r.others.items) p.labels.items → ListsExactly bytes_cmp
    (Contains r.collections.items) p.collections.items
    → AreReads f function r → AreParts f q function p
parts_fine f q function r p embeds every blocks labels collections (t, template, reads) =
    let test : Block → Bool = tests.rests_on function (own_labels t) (other_labels t) (named_collections t) in
    let same : p.blocks.items ≡ numbers_from test 0 q.bodies =
    blocks ∙ (λ i. numbers_from (tests.rests_on function (reads.own_same i) (reads.others_same i)
    (reads.collections_same i)) 0 q.bodies) in
    let exact : ListsExactly nat_cmp (λ i. (b : Block) × (slice_get q.bodies i ≡ Some b) × (test b ≡ true))
    p.blocks.items =
    subst (ListsExactly nat_cmp (λ i. (b : Block) × (slice_get q.bodies i ≡ Some b) × (test b ≡ true))) (sym same)
    (numbers_exact test q.bodies) in
    let fine : IsWithoutEmbed q function t (footprint_of p) = record {
      blocks = listed_as exact (λ i (b, at, is). (b, at, (rests_says function t b).0 is))
          (λ i (b, at, rests). (b, at, (rests_says function t b).1 rests));
      labels = listed_some (other_labels t) p.labels.items
          (subst (λ l. ListsExactly bytes_cmp (Contains l) p.labels.items) reads.others_same labels);
      collections = listed_some (named_collections t) p.collections.items
          (subst (λ l. ListsExactly bytes_cmp (Contains l) p.collections.items) reads.collections_same collections);
    } in (
      t,
      template,
      record {
        every = every ∙ sym embeds ∙ reads.embeds_same;
        parts = subst
            (λ (b : Bool). MatchBool b ((p.blocks.items ≡ []) × (p.labels.items ≡ []) × (p.collections.items ≡ []))
            (IsWithoutEmbed q function t (footprint_of p))) (sym every) fine;
      },
    )
