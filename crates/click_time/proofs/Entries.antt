-- Entries of a map, by key.
use Rattle.std.proofs.Common.{◌≡◌, List, [], ◌∷◌, inl, inr, ⊎_elim, sym, ap, ◌∙◌, refl, subst, cond}
use Rattle.std.specs.Prelude.{Contains, Option, Some, None, Bool, true, false}
use Rattle.std.specs.Map.{lookup, keys_of}
use Rattle.indexmap.specs.IndexMap.{insert_entry}
use Rattle.sd_value.specs.Members.{Contains-nil, Contains-cons_cases, Contains-here, Contains-there}
use Rattle.click_time.specs.Known.{Puts}

some_same : {X : Type 0} (x y : X) → Some x ≡ Some y → x ≡ y
some_same x y e = cc

module _ {K X : Type 0} (E : K → K → Bool) (exact : (x y : K) → E x y ≡ true → x ≡ y) where
  found_cons : (b : Bool) (e : K × X) (es : List (K × X)) (k : K) (t : X) → (b ≡ true → k ≡ e.0) → cond b (Some e.1) (lookup (E k) es) ≡ Some t
      → (lookup (E k) es ≡ Some t → Contains es (k, t)) → Contains (e ∷ es) (k, t)
  found_cons true e es k t same h later = subst (Contains (e ∷ es)) (let p : e.0 ≡ k = sym (same refl) in let r : e.1 ≡ t = some_same e.1 t h in λ i. (p i, r i)) (Contains-here e es)
  found_cons false e es k t same h later = Contains-there e es (k, t) (later h)

  pub found : (es : List (K × X)) (k : K) (t : X) → lookup (E k) es ≡ Some t → Contains es (k, t)
  found [] k t h = cc
  found (e ∷ es) k t h = found_cons (E k e.0) e es k t (λ b. exact k e.0 b) h (λ later. found es k t later)

  missed_cons : (b : Bool) (x : X) (o : Option X) → cond b (Some x) o ≡ None → (b ≡ false) × (o ≡ None)
  missed_cons true x o h = cc
  missed_cons false x o h = (refl, h)

  pub missed : ((x : K) → E x x ≡ true) → (es : List (K × X)) (k : K) → lookup (E k) es ≡ None → Contains (keys_of es) k → ⊥
  missed same [] k h c = Contains-nil k c
  missed same (e ∷ es) k h c =
      let m = missed_cons (E k e.0) e.1 (lookup (E k) es) h in
      ⊎_elim
      (λ (s : e.0 ≡ k). let yes : E k e.0 ≡ true = subst (λ z. E k z ≡ true) (sym s) (same k) in let no' = m.0 in let f : ⊥ = cc in f)
      (λ z. missed same es k m.1 z) (Contains-cons_cases e.0 (keys_of es) k c)

  puts_cons : (b : Bool) (e : K × X) (es rest : List (K × X)) (k : K) (t : X) → (b ≡ true → k ≡ e.0) → Puts k t es rest → Puts k t (e ∷ es) (cond b ((e.0, t) ∷ es) (e ∷ rest))
  puts_cons true e es rest k t same p = record {
    new_one = λ x h. ⊎_elim (λ s. inr (sym s ∙ (let r : e.0 ≡ k = sym (same refl) in λ i. (r i, t)))) (λ z. inl (Contains-there e es x z)) (Contains-cons_cases (e.0, t) es x h);
    keys_stay = λ x h. h;
    has_key = subst (Contains (keys_of (e ∷ es))) (sym (same refl)) (Contains-here e.0 (keys_of es));
  }
  puts_cons false e es rest k t same p = record {
    new_one = λ x h. ⊎_elim (λ s. inl (subst (Contains (e ∷ es)) s (Contains-here e es))) (λ z. ⊎_elim (λ y. inl (Contains-there e es x y)) inr (p.new_one x z)) (Contains-cons_cases e rest x h);
    keys_stay = λ x h. ⊎_elim (λ s. subst (Contains (e.0 ∷ keys_of rest)) s (Contains-here e.0 (keys_of rest))) (λ z. Contains-there e.0 (keys_of rest) x (p.keys_stay x z)) (Contains-cons_cases e.0 (keys_of es) x h);
    has_key = Contains-there e.0 (keys_of rest) k p.has_key;
  }

  pub puts : (es : List (K × X)) (k : K) (t : X) → Puts k t es (insert_entry E es k t)
  puts [] k t = record {
    new_one = λ x h. ⊎_elim (λ s. inr (sym s)) inl (Contains-cons_cases (k, t) [] x h);
    keys_stay = λ x h. absurd (Contains-nil x h);
    has_key = Contains-here k [];
  }
  puts (e ∷ es) k t = puts_cons (E k e.0) e es (insert_entry E es k t) k t (λ h. exact k e.0 h) (puts es k t)
