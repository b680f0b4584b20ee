-- Of finitely many values, closed under embedding, each that has a template has a text or loops.
use Rattle.std.proofs.Common.{◌≡◌, ◌⊎◌, ℕ, zero, suc, ◌≤◌, List, [], ◌∷◌, ◌++◌, length, inl, inr, refl, sym, ap, subst, ◌∙◌, arith}
use Rattle.std.specs.Prelude.{Contains}
use Rattle.sd_value.specs.Order.{value_cmp}
use Rattle.sd_value.specs.OrderLaws.{value_cmp-total, value_cmp-exact}
use Rattle.sd_value.specs.Members.{Contains-nil, Contains-cons_cases, Contains-here, Contains-there}
use Rattle.sd_value.specs.declared.Value.{Value}
use Rattle.tmpl.specs.Body.{TemplateFile}
use Rattle.page_spec.specs.Site.{Site}
use Rattle.page_spec.specs.Pieces.{Item, byte, embed, HasTemplate, Pieces}
use Rattle.page_spec.specs.Page.{Filled, HasText, Embeds, Leads, nowhere, on, Loops, FirstEmbed, FirstLooping}
use Rattle.page_spec.specs.Page.{FirstRepeated, again, later, IsCyclicAt}
use Rattle.page_spec.proofs.Unique.{pieces_unique, pieces_embed}
use Rattle.page_spec.proofs.Texts.{has_text_from_pieces, text_no_loops}
use Rattle.site_graphs.proofs.Decide.{Dec, yes, no, dec_in}
use Rattle.site_graphs.proofs.Lists.{AllOf}
use Rattle.outcome_laws.proofs.Listing.{IsListed}
use Rattle.outcome_laws.proofs.Expanding.{EmbedOnly, IsClosed, pieces}

-- the list without one of its elements: one shorter, with all others
taken_out : {X : Type 0} (ys : List X) (x : X) → Contains ys x
    → (zs : List X) × (suc (length zs) ≡ length ys) × ((z : X) → Contains ys z → (x ≡ z) ⊎ Contains zs z)
taken_out [] x h = absurd (Contains-nil x h)
taken_out (y ∷ ys) x h =
    elim (Contains-cons_cases y ys x h) [
      | inl e ↦ (
        ys,
        refl,
        λ z k. elim (Contains-cons_cases y ys z k)
            [ inl same ↦ inl (sym e ∙ same) | inr there ↦ inr there ],
      )
      | inr at ↦
          let rest = taken_out ys x at in (
            y ∷ rest.0,
            ap suc rest.1,
            λ z k. elim (Contains-cons_cases y ys z k) [
              | inl same ↦ inr (subst (Contains (y ∷ rest.0)) same (Contains-here y rest.0))
              | inr there ↦ elim (rest.2 z there)
                  [ inl is ↦ inl is | inr other ↦ inr (Contains-there y rest.0 z other) ]
            ],
          )
    ]

was_seen : (seen : List Value) (v : Value) → Dec (Contains seen v)
was_seen = dec_in value_cmp value_cmp-total value_cmp-exact

module _ (site : Site) (listed : IsListed site) (templates : TemplateFile) where
  leads_on : (n k m : Value) → Leads site templates n k → Embeds site templates k m → Leads site templates n m
  leads_on n k m nowhere e = on e nowhere
  leads_on n k m (on {k = j} d l) e = on d (leads_on j k m l e)

  loops_before : (n m : Value) → Embeds site templates n m → Loops site templates m → Loops site templates n
  loops_before n m e (k, j, l, d, r) = (k, j, on e l, d, r)

  -- what loops embeds what loops
  loops_behind : (n : Value) → Loops site templates n → (m : Value) × Embeds site templates n m × Loops site templates m
  loops_behind n (m, k, nowhere, e, r) = (k, e, (m, k, r, e, r))
  loops_behind n (m, k, on {k = j} d l, e, r) = (j, d, (m, k, l, e, r))

  -- the value has a text, or it loops
  abbrev pub EndsOrLoops : Value → Type 0
  EndsOrLoops n = ((t : List ℕ) × HasText site templates n t) ⊎ Loops site templates n

  module _ (P : Value → Type 0) (closed : IsClosed site P) where
    -- the value has P, and a template
    abbrev IsPresented : Value → Type 0
    IsPresented v = P v × ((k : ℕ) × HasTemplate site templates v k)

    -- the items of a value, and what they embed has P, and a template
    items : (n : Value) → IsPresented n → (ps : List Item) × Pieces site templates n ps × EmbedOnly IsPresented ps
    items n h =
        let p = pieces site listed templates P closed n h.0 h.1 in
        (p.0, p.1, λ m c. (p.2 m c, pieces_embed site templates n p.0 m p.1 c))

    -- items are filled where each embedded value has a text, or one of these loops
    filled_or : (ps : List Item) → ((m : Value) → Contains ps (embed m) → EndsOrLoops m)
        → ((t : List ℕ) × Filled (HasText site templates) ps t)
        ⊎ ((m : Value) × Contains ps (embed m) × Loops site templates m)
    filled_or [] each = inl ([], refl)
    filled_or (byte b ∷ ps) each =
        elim (filled_or ps (λ m c. each m (Contains-there (byte b) ps (embed m) c))) [
          | inl f ↦ inl (b ∷ f.0, (f.0, f.1, refl))
          | inr l ↦ inr (l.0, Contains-there (byte b) ps (embed l.0) l.1, l.2)
        ]
    filled_or (embed v ∷ ps) each =
        elim (each v (Contains-here (embed v) ps)) [
          | inl t ↦ elim (filled_or ps (λ m c. each m (Contains-there (embed v) ps (embed m) c))) [
            | inl f ↦ inl (t.0 ++ f.0, (t.0, f.0, t.1, f.1, refl))
            | inr l ↦ inr (l.0, Contains-there (embed v) ps (embed l.0) l.1, l.2)
          ]
          | inr l ↦ inr (v, Contains-here (embed v) ps, l)
        ]

    -- each value that has P was seen, or is left
    abbrev IsLeft : List Value → List Value → Type 0
    IsLeft seen left = (v : Value) → P v → Contains seen v ⊎ Contains left v

    -- one of those that are left is taken out
    next_left : (seen left : List Value) (n : Value) → IsLeft seen left → (c : Contains left n)
        → IsLeft (n ∷ seen) (taken_out left n c).0
    next_left seen left n all c v p =
        elim (all v p) [
          | inl before ↦ inl (Contains-there n seen v before)
          | inr there ↦ elim ((taken_out left n c).2 v there)
              [ inl same ↦ inl (subst (Contains (n ∷ seen)) same (Contains-here n seen)) | inr other ↦ inr other ]
        ]

    unseen_left : (seen left : List Value) (n : Value) → IsLeft seen left → P n → (Contains seen n → ⊥)
        → Contains left n
    unseen_left seen left n all p new = elim (all n p) [ inl before ↦ absurd (new before) | inr there ↦ there ]

    none_left : (seen left : List Value) → length left ≤ zero → IsLeft seen left → (n : Value) → P n
        → (Contains seen n → ⊥) → ⊥
    none_left seen left few all n p new =
        let out = taken_out left n (unseen_left seen left n all p new) in omega (arith, few, out.1)

    -- each value that was seen leads to n by at least one embedding
    abbrev AllLead : List Value → Value → Type 0
    AllLead seen n =
        (s : Value) → Contains seen s → (k : Value) × Embeds site templates s k × Leads site templates k n

    next_lead : (seen : List Value) (n m : Value) → AllLead seen n → Embeds site templates n m → AllLead (n ∷ seen) m
    next_lead seen n m lead e s c =
        elim (Contains-cons_cases n seen s c) [
          | inl same ↦ (m, subst (λ (x : Value). Embeds site templates x m) same e, nowhere)
          | inr before ↦ let l = lead s before in (l.0, l.1, leads_on l.0 n m l.2 e)
        ]

    text_or_loops : (fuel : ℕ) (seen left : List Value) → length left ≤ fuel → IsLeft seen left → (n : Value)
        → IsPresented n → AllLead seen n → EndsOrLoops n
    text_or_loops zero seen left few all n h lead =
        elim (was_seen seen n) [
          | yes c ↦ let l = lead n c in inr (n, l.0, nowhere, l.1, l.2)
          | no new ↦ absurd (none_left seen left few all n h.0 new)
        ]
    text_or_loops (suc fuel) seen left few all n h lead =
        elim (was_seen seen n) [
          | yes c ↦ let l = lead n c in inr (n, l.0, nowhere, l.1, l.2)
          | no new ↦
              let there = unseen_left seen left n all h.0 new in
              let out = taken_out left n there in
              let less : length out.0 ≤ fuel = omega (arith, few, out.1) in
              let p = items n h in
              elim (filled_or p.0 (λ m c. text_or_loops fuel (n ∷ seen) out.0 less (next_left seen left n all there) m
              (p.2 m c) (next_lead seen n m lead (p.0, p.1, c)))) [
                | inl f ↦ inl (f.0, has_text_from_pieces site templates n p.0 f.0 p.1 f.1)
                | inr l ↦ inr (loops_before n l.0 (p.0, p.1, l.1) l.2)
              ]
        ]

    module _ (all : AllOf P) where
      -- each has a text or loops
      pub ends_or_loops : (n : Value) → IsPresented n → EndsOrLoops n
      ends_or_loops n h =
          text_or_loops (length all.items) [] all.items (omega arith) (λ v p. inr (all.complete v p)) n h
          (λ s c. absurd (Contains-nil s c))

      loops_or_not : (n : Value) → IsPresented n → Dec (Loops site templates n)
      loops_or_not n h =
          elim (ends_or_loops n h)
          [ inl t ↦ no (λ l. text_no_loops site templates n t.0 t.1 l) | inr l ↦ yes l ]

      -- of items that embed what loops, the first embedded value that does
      first_looping : (ps : List Item) → EmbedOnly IsPresented ps → (b : Value) → Contains ps (embed b)
          → Loops site templates b
          → (m : Value) × Contains ps (embed m) × Loops site templates m × FirstEmbed (Loops site templates) ps m
      first_looping [] each b c l = absurd (Contains-nil (embed b) c)
      first_looping (byte x ∷ ps) each b c l =
          let there : Contains ps (embed b) = elim (Contains-cons_cases (byte x) ps (embed b) c)
          [ inl e ↦ let never : ⊥ = cc in absurd never | inr rest ↦ rest ] in
          let f = first_looping ps (λ m k. each m (Contains-there (byte x) ps (embed m) k)) b there l in
          (f.0, Contains-there (byte x) ps (embed f.0) f.1, f.2, f.3)
      first_looping (embed v ∷ ps) each b c l =
          elim (loops_or_not v (each v (Contains-here (embed v) ps))) [
            | yes here ↦ (v, Contains-here (embed v) ps, here, inl (here, refl))
            | no n ↦
                let there : Contains ps (embed b) = elim (Contains-cons_cases (embed v) ps (embed b) c) [
                  | inl e ↦ let same : b ≡ v = cc in absurd (n (subst (Loops site templates) same l))
                  | inr rest ↦ rest
                ] in
                let f = first_looping ps (λ m k. each m (Contains-there (embed v) ps (embed m) k)) b there l in
                (f.0, Contains-there (embed v) ps (embed f.0) f.1, f.2, inr (n, f.3))
          ]

      -- from a value that loops, the next one on the way of which a cycle is named
      next_looping : (n : Value) → IsPresented n → Loops site templates n
          → (m : Value) × FirstLooping site templates n m × IsPresented m × Loops site templates m
      next_looping n h l =
          let p = items n h in
          let b = loops_behind n l in
          let c = subst (λ ps. Contains ps (embed b.0)) (pieces_unique site templates n b.1.0 p.0 b.1.1 p.1) b.1.2 in
          let f = first_looping p.0 p.2 b.0 c b.2 in
          (f.0, (p.0, p.1, f.3), p.2 f.0 f.1, f.2)

      first_repeated : (fuel : ℕ) (seen left : List Value) → length left ≤ fuel → IsLeft seen left → (n : Value)
          → IsPresented n → Loops site templates n → (m : Value) × FirstRepeated site templates seen n m
      first_repeated zero seen left few all n h l =
          elim (was_seen seen n)
          [ yes c ↦ (n, again c) | no new ↦ absurd (none_left seen left few all n h.0 new) ]
      first_repeated (suc fuel) seen left few all n h l =
          elim (was_seen seen n) [
            | yes c ↦ (n, again c)
            | no new ↦
                let there = unseen_left seen left n all h.0 new in
                let out = taken_out left n there in
                let less : length out.0 ≤ fuel = omega (arith, few, out.1) in
                let f = next_looping n h l in
                let m = first_repeated fuel (n ∷ seen) out.0 less (next_left seen left n all there) f.0 f.2 f.3 in
                (m.0, later new f.1 m.1)
          ]

      -- a value that loops has a value that its cycle is named by
      pub cyclic_at : (n : Value) → IsPresented n → Loops site templates n
          → (m : Value) × IsCyclicAt site templates n m
      cyclic_at n h l =
          first_repeated (length all.items) [] all.items (omega arith) (λ v p. inr (all.complete v p)) n h l
