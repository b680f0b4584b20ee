-- The first template of which something holds.
use Rattle.std.proofs.Common.{◌≡◌, ℕ, zero, suc, ◌<◌, ◌≤◌, List, [], ◌∷◌, length, get_or, take, map, inl, inr, ⊎_elim, sym, ap, subst, arith}
use Rattle.std.specs.Prelude.{Bool, false}
use Rattle.std.proofs.lemmas.List.{take_all}
use Rattle.sd_value.specs.Members.{Contains-here, Contains-there}
use Rattle.tmpl.specs.declared.NamedTemplate.{NamedTemplate}
use Rattle.tmpl.specs.Reading.{named_of}
use Rattle.page_spec.specs.Pieces.{First}
use Rattle.std.specs.Ordering.{eq_by_cmp}
use Rattle.sd_value.specs.Order.{bytes_cmp}
use Rattle.site_lookups.proofs.Some.{NoneOf}
use Rattle.site_lookups.proofs.Targets.{name_is}

-- none of the templates' names has P
abbrev pub NoneNamed : (List ℕ → Type 0) → List NamedTemplate → Type 0
NoneNamed P ns = NoneOf (λ (n : NamedTemplate). P n.name) ns

tail : (P : List ℕ → Type 0) (n : NamedTemplate) (ns : List NamedTemplate) → NoneNamed P (n ∷ ns) → NoneNamed P ns
tail P n ns none = record { never = λ z h. none.never z (Contains-there n ns z h) }

pub first_at : (P : List ℕ → Type 0) (ns : List NamedTemplate) (i : ℕ) (x : NamedTemplate) → i < length ns → x ≡ get_or ns i x → NoneNamed P (take i ns) → P x.name → First P (map named_of ns) x.template
first_at P [] i x l is n p = absurd (omega (arith, l))
first_at P (m ∷ ns) zero x l is n p = inl (subst (λ (z : NamedTemplate). P z.name) is p, ap (λ (z : NamedTemplate). z.template) (sym is))
first_at P (m ∷ ns) (suc i) x l is n p = inr (n.never m (Contains-here m (take i ns)), first_at P ns i x (omega (arith, l)) is (tail P m (take i ns) n) p)

first_none : (P : List ℕ → Type 0) (ns : List NamedTemplate) (k : ℕ) → NoneNamed P ns → First P (map named_of ns) k → ⊥
first_none P [] k n f = f
first_none P (m ∷ ns) k n f = ⊎_elim (λ a. n.never m (Contains-here m ns) a.0) (λ b. first_none P ns k (tail P m ns n) b.1) f

pub first_end : (P : List ℕ → Type 0) (ns : List NamedTemplate) (i : ℕ) → length ns ≤ i → NoneNamed P (take i ns) → (k : ℕ) → First P (map named_of ns) k → ⊥
first_end P ns i l n k f = first_none P ns k (subst (NoneNamed P) (take_all i ns l) n) f

pub differs : (x y : List ℕ) (b : Bool) → b ≡ eq_by_cmp bytes_cmp x y → b ≡ false → x ≡ y → ⊥
differs x y b e f p = let yes = (name_is x y b e).1 p in absurd cc
