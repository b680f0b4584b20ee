-- The least of lists that are joined is the lesser of their least.
use Rattle.std.proofs.Common.{◌≡◌, List, [], ◌∷◌, ◌++◌, Option, Some, None, Bool, true, false, refl, sym, ap, ◌∙◌}
use Rattle.std.specs.Prelude.{fold, if◌then◌else◌}
use Rattle.std.proofs.Common.{append-nil}
use Rattle.std.proofs.lemmas.List.Sums.{fold-append}
use Rattle.std.specs.Option.{option_map}
use Rattle.std.specs.declared.cmp.Ordering.{Ordering}
use Rattle.std.specs.declared.cmp.Ordering.TheVariants.{Less, Equal, Greater}
use Rattle.std.specs.Ordering.{is_lt, ordering_reverse, ordering_then}
use Rattle.std.specs.Cmp.{IsTotalOrder}
use Rattle.sd_value.specs.Order.{value_cmp}
use Rattle.sd_value.specs.declared.Value.{Value}
use Rattle.key_spec.specs.Keys.{folded_text, folded_cmp}
use Rattle.key_spec.specs.KeyLaws.{folded_total}
use Rattle.order_spec.specs.Order.{least}
use Rattle.sort_keys.specs.Keys.{lesser, key_of, key_cmp}
use Rattle.sort_keys.specs.declared.key.Key.{Key}
use Rattle.graph_order.specs.Keys.{least_key}

module _ (R : Value → Value → Ordering) (total : IsTotalOrder R) where
  abbrev pick : Value → Value → Value
  pick a b = if is_lt (R b a) then b else a

  -- if c is below a then it is below what is not below a
  below : (a b c : Value) (r : Ordering) → R b a ≡ r → is_lt r ≡ false → R c a ≡ Less → R c b ≡ Less
  below a b c Less is up h = cc
  below a b c Equal is up h =
      let same = total.congr b a c is in
      let ac = total.antisymm a c in
      let cb = total.antisymm c b in
      cb ∙ ap ordering_reverse (same ∙ ac ∙ ap ordering_reverse h)
  below a b c Greater is up h =
      let ab : R a b ≡ Less = total.antisymm a b ∙ ap ordering_reverse is in
      total.trans c a b h ab

  less : (o : Ordering) → is_lt o ≡ true → o ≡ Less
  less Less h = refl
  less Equal h = cc
  less Greater h = cc

  pick_second : (a b : Value) → is_lt (R b a) ≡ true → pick a b ≡ b
  pick_second a b h = ap (λ (t : Bool). if t then b else a) h

  pick_first : (a b : Value) → is_lt (R b a) ≡ false → pick a b ≡ a
  pick_first a b h = ap (λ (t : Bool). if t then b else a) h

  pick_pick : (a b c : Value) → pick (pick a b) c ≡ pick a (pick b c)
  pick_pick a b c = by (is_lt (R b a)) (is_lt (R c b)) (is_lt (R c a)) refl refl refl
    where
      by : (p q r : Bool) → is_lt (R b a) ≡ p → is_lt (R c b) ≡ q → is_lt (R c a) ≡ r → pick (pick a b) c ≡ pick a (pick b c)
      by true true r x y z =
          let down : is_lt (R c a) ≡ true = ap is_lt (total.trans c b a (less (R c b) y) (less (R b a) x)) in
          ap (λ t. pick t c) (pick_second a b x) ∙ pick_second b c y ∙ sym (pick_second a c down) ∙ ap (pick a) (sym (pick_second b c y))
      by true false r x y z =
          ap (λ t. pick t c) (pick_second a b x) ∙ pick_first b c y ∙ sym (pick_second a b x) ∙ ap (pick a) (sym (pick_first b c y))
      by false true r x y z = ap (λ t. pick t c) (pick_first a b x) ∙ ap (pick a) (sym (pick_second b c y))
      by false false true x y z =
          let lower : is_lt (R c b) ≡ true = ap is_lt (below a b c (R b a) refl x (less (R c a) z)) in cc
      by false false false x y z =
          ap (λ t. pick t c) (pick_first a b x) ∙ pick_first a c z ∙ sym (pick_first a b x) ∙ ap (pick a) (sym (pick_first b c y))

  fold_pick : (a v : Value) (vs : List Value) → fold pick (pick a v) vs ≡ pick a (fold pick v vs)
  fold_pick a v [] = refl
  fold_pick a v (w ∷ ws) = ap (λ t. fold pick t ws) (pick_pick a v w) ∙ fold_pick a (pick v w) ws

  pub least_append : (xs ys : List Value) → least R (xs ++ ys) ≡ lesser R (least R xs) (least R ys)
  least_append [] ys = refl
  least_append (x ∷ xs) [] = ap (least R) (append-nil (x ∷ xs))
  least_append (x ∷ xs) (y ∷ ys) =
      ap (λ (v : Value). Some v) (fold-append pick x xs (y ∷ ys) ∙ fold_pick (fold pick x xs) y ys)

-- ---- the same of keys

then_self : (o : Ordering) → ordering_then o o ≡ o
then_self Less = refl
then_self Equal = refl
then_self Greater = refl

-- keys are in the order of their values
pub keys_order : (b : Bool) (u v : Value) → key_cmp (key_of b u) (key_of b v) ≡ folded_cmp folded_text b u v
keys_order false u v = then_self (value_cmp u v)
keys_order true u v = refl

module _ (b : Bool) where
  abbrev order : Value → Value → Ordering
  order = folded_cmp folded_text b

  one_lesser : (u v : Value) (t : Bool) → key_of b (if t then v else u) ≡ (if t then key_of b v else key_of b u)
  one_lesser u v true = refl
  one_lesser u v false = refl

  lesser_keys : (o p : Option Value)
      → option_map (key_of b) (lesser order o p) ≡ lesser key_cmp (option_map (key_of b) o) (option_map (key_of b) p)
  lesser_keys None p = refl
  lesser_keys (Some u) None = refl
  lesser_keys (Some u) (Some v) =
      ap (λ (k : Key). Some k) (one_lesser u v (is_lt (order v u)))
      ∙ ap (λ (o : Ordering). Some (if is_lt o then key_of b v else key_of b u)) (sym (keys_order b v u))

  pub least_key_append : (xs ys : List Value) → least_key b (xs ++ ys) ≡ lesser key_cmp (least_key b xs) (least_key b ys)
  least_key_append xs ys =
      ap (option_map (key_of b)) (least_append order (folded_total folded_text b) xs ys) ∙ lesser_keys (least order xs) (least order ys)
