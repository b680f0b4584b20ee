-- Proofs for mentions, one after another.
use Rattle.std.proofs.Common.{inl, inr, ◌≡◌, ℕ, ◌+◌, ◌<◌, ◌≤◌, List, [], ◌∷◌, ◌++◌, refl, sym, ap, subst, ◌∙◌, length, get_or, take}
use Rattle.std.specs.Prelude.{Option, Some, None, Contains, map, option_map, option_and_then}
use Rattle.std.proofs.lemmas.List.{take_more}
use Rattle.std.proofs.lemmas.List.Elements.{All-get_or}
use Rattle.sd_value.specs.Members.{Contains-nil, Contains-cons_cases, among_at}
use Rattle.query_spec.specs.Mentions.{chain_of}
use Rattle.query_links.specs.declared.written.Mention.{Mention}
use Rattle.query_links.specs.Mentions.{HaveChains}
use Rattle.constraint_recheck.specs.Options.{for_each}

module _ {Y : Type 0} where
  -- a first answer, and those of the rest
  abbrev Joined : Option (List Y) → Option Y → Option (List Y)
  Joined p o = option_and_then (λ y. option_map (λ ys. y ∷ ys) p) o

  one_later : (o : Option Y) (p q : Option (List Y)) (ys : List Y) (y : Y) → ((zs : List Y) → p ≡ Some zs → q ≡ Some (zs ++ y ∷ [])) → Joined p o ≡ Some ys → Joined q o ≡ Some (ys ++ y ∷ [])
  one_later None p q ys y k e = (let f : ⊥ = cc in absurd f)
  one_later (Some z) None q ys y k e = (let f : ⊥ = cc in absurd f)
  one_later (Some z) (Some zs) q ys y k e =
      let n : z ∷ zs ≡ ys = cc in
      ap (option_map (λ l. z ∷ l)) (k zs refl) ∙ ap (λ l. Some (l ++ y ∷ [])) n

  none_later : (o : Option Y) (p : Option (List Y)) → p ≡ None → Joined p o ≡ None
  none_later None p e = refl
  none_later (Some z) p e = ap (option_map (λ l. z ∷ l)) e

module _ {X Y Z : Type 0} (f : Z → Option Y) (g : X → Z) where
  -- with one item more at the end
  pub each_pushed : (xs : List X) (x : X) (ys : List Y) (y : Y) → for_each f (map g xs) ≡ Some ys → f (g x) ≡ Some y → for_each f (map g (xs ++ x ∷ [])) ≡ Some (ys ++ y ∷ [])
  each_pushed [] x ys y e h =
      let n : [] ≡ ys = cc in
      ap (Joined (Some [])) h ∙ ap (λ l. Some (l ++ y ∷ [])) n
  each_pushed (w ∷ xs) x ys y e h =
      one_later (f (g w)) (for_each f (map g xs)) (for_each f (map g (xs ++ x ∷ []))) ys y (λ zs p. each_pushed xs x zs y p h) e

  -- where one item has no answer
  pub each_missing : (xs : List X) (x : X) → Contains xs x → f (g x) ≡ None → for_each f (map g xs) ≡ None
  each_missing [] x m n = absurd (Contains-nil x m)
  each_missing (w ∷ xs) x m n =
      elim (Contains-cons_cases w xs x m) [
        | inl e ↦ ap (Joined (for_each f (map g xs))) (ap (λ z. f (g z)) e ∙ n)
        | inr back ↦ none_later (f (g w)) (for_each f (map g xs)) (each_missing xs x back n)
      ]

  -- a loop's step
  pub each_more : (xs : List X) (i : ℕ) (x : X) (ys new : List Y) (y : Y) → i < length xs → x ≡ get_or xs i x → new ≡ ys ++ y ∷ [] → for_each f (map g (take i xs)) ≡ Some ys → Some y ≡ f (g x) → for_each f (map g (take (i + 1) xs)) ≡ Some new
  each_more xs i x ys new y lt is e h k =
      ap (λ l. for_each f (map g l)) (take_more xs i x lt ∙ ap (λ z. take i xs ++ z ∷ []) (sym is)) ∙ (each_pushed (take i xs) x ys y h (sym k) ∙ ap Some (sym e))

  -- and where it ends early
  pub each_left : (xs : List X) (i : ℕ) (x : X) → i < length xs → x ≡ get_or xs i x → None ≡ f (g x) → None ≡ for_each f (map g xs)
  each_left xs i x lt is n = sym (each_missing xs x (among_at xs i x x lt is refl) (sym n))

-- the chain of one of the mentions
pub chain_at : (version : ℕ) (mentions : List Mention) (i : ℕ) (m : Mention) → i < length mentions → m ≡ get_or mentions i m → HaveChains version mentions → m.chain.now ≡ chain_of version m.chain.now.conditions
chain_at version mentions i m lt is h =
    let P : Mention → Type 0 = λ n. n.chain.now ≡ chain_of version n.chain.now.conditions in
    subst P (sym is) (All-get_or P mentions i m lt h)
