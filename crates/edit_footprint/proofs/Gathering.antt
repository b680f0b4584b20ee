-- Gathering one expression after another.
use Rattle.std.specs.Prelude.{◌≡◌, ℕ, Bool, true, false, ◌||◌, List, [], ◌∷◌, ◌++◌, ◌+◌, ◌<◌, ◌≤◌, length, get_or, take, map}
use Rattle.std.specs.List.{list_any}
use Rattle.std.proofs.Common.{refl, sym, ap, ◌∙◌, subst, append_assoc, append-nil}
use Rattle.std.proofs.lemmas.List.{take_more, take_all, map-append}
use Rattle.std.proofs.lemmas.List.Folds.{list_any-append}
use Rattle.std.proofs.lemmas.List.Concat.{flat_map-append}
use Rattle.tmpl.specs.declared.uses.ExprUse.{ExprUse}
use Rattle.tmpl.specs.Expressions.{Use, use_of}
use Rattle.edit_footprint.specs.declared.reads.Reads.{Reads}
use Rattle.edit_footprint.specs.Gathered.{AddsUses, own_of, others_of, collections_of}

or_false : (b : Bool) → b ≡ (b || false)
or_false true = refl
or_false false = refl

pub adds_none : (r : Reads) → AddsUses r r []
adds_none r = record {
  embeds_more = or_false r.embeds;
  own_more = sym (append-nil r.own.items);
  others_more =
      sym (append-nil r.others.items);
  collections_more = sym (append-nil r.collections.items);
}

or_assoc : (x y z : Bool) → ((x || y) || z) ≡ (x || (y || z))
or_assoc true y z = refl
or_assoc false y z = refl

pub adds_then : (a b c : Reads) (us vs : List Use) → AddsUses a b us → AddsUses b c vs → AddsUses a c (us ++ vs)
adds_then a b c us vs h k = record {
  embeds_more = k.embeds_more ∙ ap (λ (x : Bool). x || list_any (λ (u : Use). u.embeds) vs) h.embeds_more
      ∙ or_assoc a.embeds (list_any (λ (u : Use). u.embeds) us) (list_any (λ (u : Use). u.embeds) vs)
      ∙ ap (λ (x : Bool). a.embeds || x) (sym (list_any-append (λ (u : Use). u.embeds) us vs));
  own_more = k.own_more ∙ ap (λ l. l ++ own_of vs) h.own_more ∙ append_assoc a.own.items (own_of us) (own_of vs)
      ∙ ap (λ l. a.own.items ++ l) (sym (flat_map-append _ us vs));
  others_more = k.others_more ∙ ap (λ l. l ++ others_of vs) h.others_more ∙ append_assoc a.others.items (others_of us)
      (others_of vs) ∙ ap (λ l. a.others.items ++ l) (sym (flat_map-append _ us vs));
  collections_more = k.collections_more ∙ ap (λ l. l ++ collections_of vs) h.collections_more
      ∙ append_assoc a.collections.items (collections_of us) (collections_of vs) ∙ ap (λ l. a.collections.items ++ l)
      (sym (flat_map-append _ us vs));
}

uses_more : (xs : List ExprUse) (i : ℕ) (x : ExprUse) → i < length xs → x ≡ get_or xs i x
    → map use_of (take (i + 1) xs) ≡ map use_of (take i xs) ++ use_of x ∷ []
uses_more xs i x lt is =
    ap (map use_of) (take_more xs i x lt ∙ ap (λ (y : ExprUse). take i xs ++ y ∷ []) (sym is))
    ∙ map-append use_of (take i xs) (x ∷ [])

pub adds_more : (xs : List ExprUse) (i : ℕ) (x : ExprUse) (a b c : Reads) → i < length xs → x ≡ get_or xs i x
    → AddsUses a b (map use_of (take i xs)) → AddsUses b c (use_of x ∷ [])
    → AddsUses a c (map use_of (take (i + 1) xs))
adds_more xs i x a b c lt is h k = subst (AddsUses a c) (sym (uses_more xs i x lt is))
    (adds_then a b c (map use_of (take i xs)) (use_of x ∷ []) h k)

pub adds_all : (xs : List ExprUse) (i : ℕ) (a b : Reads) → length xs ≤ i → AddsUses a b (map use_of (take i xs))
    → AddsUses a b (map use_of xs)
adds_all xs i a b le h = subst (λ l. AddsUses a b (map use_of l)) (take_all i xs le) h
