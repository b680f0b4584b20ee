-- The test of whether an edit touches the pages of a function, and that pages which it doesn't touch stay.
use Rattle.std.proofs.Common.{◌≡◌, ◌⊎◌, inl, inr, ℕ, Bool, true, false, List, [], ◌∷◌, refl, sym, subst}
use Rattle.std.specs.Prelude.{◌↔◌, IsTrue, not, Option, Some, None, Contains, get_or}
use Rattle.std.specs.BTreeSet.{insert_key}
use Rattle.sd_value.specs.Ascending.{ListsExactly}
use Rattle.sd_value.specs.AscendingLaws.{listed_as, lists_nothing}
use Rattle.sd_value.specs.Members.{Contains-nil, Contains-cons_cases, Contains-here, Contains-there}
use Rattle.sd_value.specs.Order.{bytes_cmp}
use Rattle.sd_value.specs.OrderLaws.{bytes_cmp-total, bytes_cmp-exact}
use Rattle.graph_spec.specs.DataGraph.{DataGraph, Name}
use Rattle.query_spec.specs.Query.{Body as Block}
use Rattle.site_spec.specs.Site.{Scope}
use Rattle.tmpl.specs.Body.{Body, done, TemplateFile}
use Rattle.edit_spec.specs.declared.Edit.{Edit}
use Rattle.edit_spec.specs.Footprint.{own_labels, other_labels, named_collections, has_embed, IsTemplateOf, Footprint, IsFootprint, TouchesFootprint}
use Rattle.edit_laws.specs.Laws.{Becomes, HasMadeSources}
use Rattle.edit_laws.proofs.Decisions.{footprint_decided, one_template, one_footprint}
use Rattle.edit_graphs.proofs.After.{inserted_exactly}
use Rattle.edit_footprint.specs.Numbers.{number_of, numbers_from}
use Rattle.edit_footprint.specs.Rests as tests
use Rattle.edit_footprint.proofs.Numbers.{some_number, no_number, numbers_exact, listed_some}
use Rattle.edit_footprint.proofs.Rests.{rests_says}
use Rattle.edit_footprint.specs.Stays.{TouchesPages, SamePages}
use Rattle.edit_footprint.proofs.Stays.{same_pages}
use Rattle.data_texts.specs.Touching.{Touching}

-- ---- each function has a template and a footprint

HasTemplate : TemplateFile → Name → Type 0
HasTemplate f function = (t : Body) × IsTemplateOf f function t

the_template : (f : TemplateFile) (function : Name) → HasTemplate f function
unfolding HasTemplate
the_template f function = by (number_of function f.functions) refl
  where
    by : (o : Option ℕ) → o ≡ number_of function f.functions → HasTemplate f function
    by (Some k) is = (get_or f.bodies k done, inl (k, some_number function f.functions k is, refl))
    by None is = (done, inr (no_number function f.functions is, refl))

ascending : List Name → List Name
ascending [] = []
ascending (x ∷ xs) = insert_key bytes_cmp (ascending xs) x

ascending_lists : (xs : List Name) → ListsExactly bytes_cmp (Contains xs) (ascending xs)
unfolding ascending
ascending_lists [] = lists_nothing bytes_cmp (Contains []) Contains-nil
ascending_lists (x ∷ xs) =
    let rest = ascending_lists xs in
    listed_as (inserted_exactly bytes_cmp bytes_cmp-total bytes_cmp-exact x (ascending xs) rest.ascending)
    (λ z h. elim h [
      | inl old ↦ Contains-there x xs z (rest.sound z old)
      | inr e ↦ subst (Contains (x ∷ xs)) (sym e) (Contains-here x xs)
    ])
    (λ z h. elim (Contains-cons_cases x xs z h) [
      | inl e ↦ inr (sym e)
      | inr old ↦ inl (rest.complete z old)
    ])

HasFootprint : Scope → Name → Body → Type 0
HasFootprint q function t = (p : Footprint) × IsFootprint q function t p

the_footprint : (q : Scope) (function : Name) (t : Body) → HasFootprint q function t
unfolding HasFootprint
the_footprint q function t = by (has_embed t) refl
  where
    test : Block → Bool
    test = tests.rests_on function (own_labels t) (other_labels t) (named_collections t)

    by : (b : Bool) → b ≡ has_embed t → HasFootprint q function t
    by true is = (
      record { every = true; blocks = []; labels = []; collections = [] },
      record { every = is; parts = (refl, refl, refl) },
    )
    by false is = (
      record {
        every = false;
        blocks = numbers_from test 0 q.bodies;
        labels = ascending (other_labels t);
        collections = ascending (named_collections t);
      },
      record {
        every = is;
        parts = record {
          blocks = listed_as (numbers_exact test q.bodies) (λ i (b, at, is). (b, at, (rests_says function t b).0 is))
              (λ i (b, at, rests). (b, at, (rests_says function t b).1 rests));
          labels = listed_some (other_labels t) _ (ascending_lists (other_labels t));
          collections = listed_some (named_collections t) _ (ascending_lists (named_collections t));
        };
      },
    )

-- ---- the test

abbrev Deciding : Type 0 → Type 0
Deciding P = P ⊎ (P → ⊥)

pages_decided : (e : Edit) (q : Scope) (f : TemplateFile) (function : Name) → Deciding (TouchesPages e q f function)
unfolding HasTemplate HasFootprint
pages_decided e q f function = by (footprint_decided e q foot)
  where
    t : Body
    t = (the_template f function).0

    foot : Footprint
    foot = (the_footprint q function t).0

    by : Deciding (TouchesFootprint e q foot) → Deciding (TouchesPages e q f function)
    by (inl touches) = inl (t, (the_template f function).1, (foot, (the_footprint q function t).1, touches))
    by (inr spared) = inr (λ (u, template, (other, is, touches)).
        (let same = one_template f function u t template (the_template f function).1 in
        let is_of_t = subst (λ (x : Body). IsFootprint q function x other) same is in
        spared (subst (TouchesFootprint e q) (one_footprint q function t other foot is_of_t (the_footprint q function t).1)
        touches)))

tells : {P : Type 0} → Deciding P → Bool
tells (inl p) = true
tells (inr n) = false

tells_so : {P : Type 0} (d : Deciding P) → IsTrue (tells d) ↔ P
unfolding tells
tells_so (inl p) = (λ t. p, λ h. refl)
tells_so (inr n) = (λ t. absurd cc, λ h. absurd (n h))

pub the_touching : Touching
the_touching = record {
  touches = λ e q f function. tells (pages_decided e q f function);
  exact = λ e q f function. tells_so (pages_decided e q f function);
}

-- two tests of one fact are equal
pub same_test : (a b : Bool) (P : Type 0) → IsTrue a ↔ P → IsTrue b ↔ P → a ≡ b
same_test true true P h k = refl
same_test false false P h k = refl
same_test true false P h k = let t = k.1 (h.0 refl) in cc
same_test false true P h k = let t = h.1 (k.0 refl) in cc

-- ---- pages stay

pub untouched_stay : (touching : Touching) (e : Edit) (q : Scope) (f : TemplateFile) (function : Name) (G H : DataGraph)
    → HasMadeSources q → Becomes G e H → not (touching.touches e q f function) ≡ true → SamePages q f function G H
unfolding HasTemplate HasFootprint
untouched_stay touching e q f function G H made change is =
    let t = the_template f function in
    let foot = the_footprint q function t.0 in
    same_pages q f function t.0 foot.0 G H e made t.1 foot.1 change
    (λ touches. off (touching.touches e q f function) is
    ((touching.exact e q f function).1 (t.0, t.1, (foot.0, foot.1, touches))))
  where
    off : (b : Bool) → not b ≡ true → IsTrue b → ⊥
    off true n y = cc
    off false n y = cc
