-- The part for texts up to the byte that closes them.
use Rattle.std.proofs.Common.{◌≡◌, ◌+◌, ◌≤◌, ◌<◌, ℕ, zero, suc, false, List, [], ◌∷◌, ◌++◌, length, length-append, refl, sym, ap, subst, ◌∙◌, append_assoc, inl, inr, arith}
use Rattle.std.specs.Prelude.{◌⊎◌}
use Rattle.std.proofs.lemmas.List.{append_cancel_right}
use Rattle.grammar.specs.Fault.{Every}
use Rattle.grammar.specs.Reading.{Outcome, Read, Stuck, Past, starts}
use Rattle.grammar.proofs.Laws.{Always, IsPast}
use Rattle.bibtex_laws.specs.Past.{IsPastAt}
use Rattle.bibtex_laws.proofs.Laws.{End, Value, Unexpected, answer, no_front}
use Rattle.bibtex_laws.proofs.Parts.{Part}
use Rattle.bibtex_spec.specs.declared.Nesting.{Nesting}
use Rattle.bibtex_spec.specs.declared.Nesting.TheVariants.{Closes, Unpaired, TooDeep, Goes}
use Rattle.bibtex_spec.specs.Reading.{with_byte, nesting, nested, enclosed as read_up_to}
use Rattle.bibtex_laws.specs.Braces.{single, IsEnclosed, IsShallow}
use Rattle.bibtex_spec.specs.Macros.{MacroTexts}
use Rattle.bibtex_laws.specs.Limits.{IsByte, IsLimit, none}
use Rattle.bibtex_laws.proofs.Braces.{Step, Closed, Bare, Deep, On, step, enclosed_none, enclosed_more, enclosed_less, shallow_none, shallow_more, shallow_less, closers, closers_enclosed, closers_shallow}

module _ (macros : MacroTexts) (close : ℕ) (real : IsByte close) where
  abbrev pub within : ℕ → List ℕ → List ℕ → Type 0
  within outer bytes text = (bytes ≡ text ++ close ∷ []) × IsEnclosed outer close text × IsShallow outer text

  abbrev pub at_all : ℕ → List ℕ → List ℕ → Type 0
  at_all outer bytes text = (bytes ≡ text ++ close ∷ []) × IsEnclosed outer close text × Unit {0}

  abbrev up_to : ℕ → List ℕ → Outcome ℕ (List ℕ)
  up_to outer = read_up_to close (suc outer)

  at_step : (outer b : ℕ) (bytes : List ℕ) (n : Nesting) → nesting close (suc outer) b ≡ n → up_to outer (b ∷ bytes) ≡ nested b bytes (λ next. read_up_to close next bytes) n
  at_step outer b bytes n is = rw is refl

  -- what a byte more makes of the rest's outcome
  with_read : (b : ℕ) (o : Outcome ℕ (List ℕ)) (text rest : List ℕ) → with_byte b o ≡ Read text rest → (inner : List ℕ) × (text ≡ b ∷ inner) × (o ≡ Read inner rest)
  with_read b (Read inner r) text rest e = (inner, cc, cc)
  with_read b (Stuck r) text rest e = absurd cc
  with_read b (Past r) text rest e = absurd cc

  with_stuck : (b : ℕ) (o : Outcome ℕ (List ℕ)) (rest : List ℕ) → with_byte b o ≡ Stuck rest → o ≡ Stuck rest
  with_stuck b (Read inner r) rest e = absurd cc
  with_stuck b (Stuck r) rest e = cc
  with_stuck b (Past r) rest e = absurd cc

  with_past : (b : ℕ) (o : Outcome ℕ (List ℕ)) (rest : List ℕ) → with_byte b o ≡ Past rest → o ≡ Past rest
  with_past b (Read inner r) rest e = absurd cc
  with_past b (Stuck r) rest e = absurd cc
  with_past b (Past r) rest e = cc

  -- what is read is enclosed

  sound : (tokens : List ℕ) (outer : ℕ) (text rest : List ℕ) → outer ≤ 63 → up_to outer tokens ≡ Read text rest → (tokens ≡ text ++ close ∷ rest) × IsEnclosed outer close text × IsShallow outer text
  sound [] outer text rest few e = absurd cc
  sound (b ∷ bytes) outer text rest few e = by (step close outer b) (λ next inner less was. sound bytes next inner rest less was)
    where
      by : Step close outer b → ((next : ℕ) (inner : List ℕ) → next ≤ 63 → up_to next bytes ≡ Read inner rest → (bytes ≡ inner ++ close ∷ rest) × IsEnclosed next close inner × IsShallow next inner) → (b ∷ bytes ≡ text ++ close ∷ rest) × IsEnclosed outer close text × IsShallow outer text
      by (Closed is no_outer same) again =
          let h : Read [] bytes ≡ Read text rest = sym (at_step outer b bytes Closes is) ∙ e in
          let empty : [] ≡ text = cc in
          let left : bytes ≡ rest = cc in
          (subst (λ x. b ∷ bytes ≡ x ++ close ∷ rest) empty (cc), subst (IsEnclosed outer close) empty (enclosed_none close outer no_outer), subst (IsShallow outer) empty (shallow_none close outer few))
      by (Bare is no_outer same) again = let h : Stuck (b ∷ bytes) ≡ Read text rest = sym (at_step outer b bytes Unpaired is) ∙ e in absurd cc
      by (Deep is same deep) again = let h : Past (b ∷ bytes) ≡ Read text rest = sym (at_step outer b bytes TooDeep is) ∙ e in absurd cc
      by (On next is moves apart stay) again =
          let h : with_byte b (up_to next bytes) ≡ Read text rest = sym (at_step outer b bytes (Goes (suc next)) is) ∙ e in
          let a = with_read b (up_to next bytes) text rest h in
          let c = again next a.0 (stay few) a.2 in (
            subst (λ x. b ∷ bytes ≡ x ++ close ∷ rest) (sym a.1) (ap (λ x. b ∷ x) c.0),
            subst (IsEnclosed outer close) (sym a.1) (enclosed_more close outer next b moves apart a.0 c.1),
            subst (IsShallow outer) (sym a.1) (shallow_more close outer next b moves apart few a.0 c.2),
          )

  -- what is enclosed is read, or a brace in it is too deep

  no_outer_open : (outer : ℕ) → IsEnclosed outer close [] → outer ≡ 0
  no_outer_open outer h = let k : 0 ≡ outer + 0 = h.whole in omega (arith, k)

  closes_here : (outer : ℕ) (rest : List ℕ) → outer ≡ 0 → Step close outer close → up_to outer (close ∷ rest) ≡ Read [] rest
  closes_here outer rest is (Closed was _ _) = at_step outer close rest Closes was
  closes_here outer rest is (Bare was _ same) =
      absurd (let now : nesting 125 1 125 ≡ Unpaired = subst (λ n. nesting 125 (suc n) 125 ≡ Unpaired) is (subst (λ x. nesting x (suc outer) x ≡ Unpaired) same was) in cc)
  closes_here outer rest is (Deep _ _ deep) = absurd (omega (arith, is, deep))
  closes_here outer rest is (On _ _ _ apart _) = absurd (apart is refl)

  abbrev Ended : List ℕ → ℕ → List ℕ → List ℕ → Type 0
  Ended tokens outer text rest = (up_to outer tokens ≡ Read text rest) ⊎ (IsPast (up_to outer tokens) × (IsShallow outer text → ⊥))

  ended_on : (b : ℕ) (later text rest : List ℕ) (outer next : ℕ) → nesting close (suc outer) b ≡ Goes (suc next) → next + single 125 b ≡ outer + single 123 b → (outer ≡ 0 → b ≡ close → ⊥) → Ended later next text rest → Ended (b ∷ later) outer (b ∷ text) rest
  ended_on b later text rest outer next is moves apart (inl a) = inl (at_step outer b later (Goes (suc next)) is ∙ ap (with_byte b) a)
  ended_on b later text rest outer next is moves apart (inr a) = inr ((a.0.0, at_step outer b later (Goes (suc next)) is ∙ ap (with_byte b) a.0.1), λ shallow. a.1 (shallow_less close outer next b moves apart text shallow))

  both : (text rest : List ℕ) (outer : ℕ) → outer ≤ 63 → IsEnclosed outer close text → Ended (text ++ close ∷ rest) outer text rest
  both [] rest outer few h = inl (closes_here outer rest (no_outer_open outer h) (step close outer close))
  both (b ∷ text) rest outer few h = by (step close outer b) (λ next less inner. both text rest next less inner)
    where
      by : Step close outer b → ((next : ℕ) → next ≤ 63 → IsEnclosed next close text → Ended (text ++ close ∷ rest) next text rest) → Ended (b ∷ (text ++ close ∷ rest)) outer (b ∷ text) rest
      by (Closed is no_outer same) again = absurd (let k : 0 < outer + 0 = h.inner [] text (ap (λ x. x ∷ text) same) in omega (arith, k, no_outer))
      by (Bare is no_outer same) again =
          absurd (let k : single 125 b + 0 ≤ outer + (single 123 b + 0) = h.fronts (b ∷ []) text refl in
          let one : single 125 b ≡ 1 = ap (single 125) same in
          let no : single 123 b ≡ 0 = ap (single 123) same in
          omega (arith, k, one, no, no_outer))
      by (Deep is same deep) again =
          inr (
            (b ∷ (text ++ close ∷ rest), at_step outer b (text ++ close ∷ rest) TooDeep is),
            λ shallow.
                let k : outer + (single 123 b + 0) ≤ single 125 b + 0 + 63 = shallow (b ∷ []) text refl in
                let one : single 123 b ≡ 1 = ap (single 123) same in
                let no : single 125 b ≡ 0 = ap (single 125) same in
                omega (arith, k, one, no, deep),
          )
      by (On next is moves apart stay) again = ended_on b (text ++ close ∷ rest) text rest outer next is moves apart (again next (stay few) (enclosed_less close outer next b moves apart text h))

  ended : (tokens front text rest : List ℕ) (outer : ℕ) → outer ≤ 63 → tokens ≡ front ++ rest → front ≡ text ++ close ∷ [] → IsEnclosed outer close text → Ended tokens outer text rest
  ended tokens front text rest outer few e parts h =
      subst (λ x. Ended x outer text rest) (sym (e ∙ ap (λ x. x ++ rest) parts ∙ append_assoc text (close ∷ []) rest)) (both text rest outer few h)

  complete : (outer : ℕ) → outer ≤ 63 → (tokens front text rest : List ℕ) → tokens ≡ front ++ rest → within outer front text → up_to outer tokens ≡ Read text rest
  complete outer few tokens front text rest e h = by (ended tokens front text rest outer few e h.0 h.1)
    where
      by : (up_to outer tokens ≡ Read text rest) ⊎ (IsPast (up_to outer tokens) × (IsShallow outer text → ⊥)) → up_to outer tokens ≡ Read text rest
      by (inl a) = a
      by (inr a) = absurd (a.1 h.2)

  accepts : (outer : ℕ) → outer ≤ 63 → (tokens front text rest : List ℕ) → tokens ≡ front ++ rest → at_all outer front text → (up_to outer tokens ≡ Read text rest) ⊎ IsPast (up_to outer tokens)
  accepts outer few tokens front text rest e h = by (ended tokens front text rest outer few e h.0 h.1)
    where
      by : (up_to outer tokens ≡ Read text rest) ⊎ (IsPast (up_to outer tokens) × (IsShallow outer text → ⊥)) → (up_to outer tokens ≡ Read text rest) ⊎ IsPast (up_to outer tokens)
      by (inl a) = inl a
      by (inr a) = inr a.0

  -- each front goes on: its braces and the text are closed

  closing_bytes : (n : ℕ) → Every IsByte (closers close n ++ close ∷ [])
  unfolding closers
  closing_bytes zero = (real, tt)
  closing_bytes (suc n) = (omega arith, closing_bytes n)

  abbrev goes_on : List ℕ → ℕ → List ℕ → Type 0
  goes_on tokens outer rest = (front : List ℕ) × (more : List ℕ) × (text : List ℕ) × (tokens ≡ front ++ rest) × within outer (front ++ more) text × Every IsByte more

  nothing_yet : (tokens : List ℕ) (outer : ℕ) → outer ≤ 63 → goes_on tokens outer tokens
  nothing_yet tokens outer few = ([], closers close outer ++ close ∷ [], closers close outer, refl, (refl, closers_enclosed close outer, closers_shallow close outer few), closing_bytes outer)

  one_more : (b : ℕ) (bytes rest : List ℕ) (outer next : ℕ) → next + single 125 b ≡ outer + single 123 b → (outer ≡ 0 → b ≡ close → ⊥) → outer ≤ 63 → goes_on bytes next rest → goes_on (b ∷ bytes) outer rest
  one_more b bytes rest outer next moves apart few a =
      (b ∷ a.0, a.1, b ∷ a.2, ap (λ x. b ∷ x) a.3, (ap (λ x. b ∷ x) a.4.0, enclosed_more close outer next b moves apart a.2 a.4.1, shallow_more close outer next b moves apart few a.2 a.4.2), a.5)

  viable : (tokens : List ℕ) (outer : ℕ) (rest : List ℕ) → outer ≤ 63 → up_to outer tokens ≡ Stuck rest → goes_on tokens outer rest
  viable [] outer rest few e =
      let left : [] ≡ rest = cc in
      subst (goes_on [] outer) left (nothing_yet [] outer few)
  viable (b ∷ bytes) outer rest few e = by (step close outer b) (λ next less was. viable bytes next rest less was)
    where
      by : Step close outer b → ((next : ℕ) → next ≤ 63 → up_to next bytes ≡ Stuck rest → goes_on bytes next rest) → goes_on (b ∷ bytes) outer rest
      by (Closed is no_outer same) again = let h : Read [] bytes ≡ Stuck rest = sym (at_step outer b bytes Closes is) ∙ e in absurd cc
      by (Bare is no_outer same) again =
          let h : Stuck (b ∷ bytes) ≡ Stuck rest = sym (at_step outer b bytes Unpaired is) ∙ e in
          let left : b ∷ bytes ≡ rest = cc in
          subst (goes_on (b ∷ bytes) outer) left (nothing_yet (b ∷ bytes) outer few)
      by (Deep is same deep) again = let h : Past (b ∷ bytes) ≡ Stuck rest = sym (at_step outer b bytes TooDeep is) ∙ e in absurd cc
      by (On next is moves apart stay) again =
          let h : up_to next bytes ≡ Stuck rest = with_stuck b (up_to next bytes) rest (sym (at_step outer b bytes (Goes (suc next)) is) ∙ e) in
          one_more b bytes rest outer next moves apart few (again next (stay few) h)

  -- where a brace is too deep

  abbrev passed : List ℕ → ℕ → List ℕ → Type 0
  passed tokens outer rest = IsPastAt IsByte (IsLimit macros) (within outer) (at_all outer) (up_to outer) tokens rest

  no_byte_starts : (bytes : List ℕ) → starts none bytes ≡ false
  no_byte_starts [] = refl
  no_byte_starts (b ∷ bytes) = refl

  deeper : (outer : ℕ) → 63 ≤ outer → IsEnclosed outer close (123 ∷ (125 ∷ closers close outer))
  deeper outer deep =
      enclosed_more close outer (suc outer) 123 (omega arith) (λ none_open _. absurd (omega (arith, none_open, deep)))
      (125 ∷ closers close outer) (enclosed_more close (suc outer) outer 125 (omega arith) (λ h _. absurd (omega (arith, h))) (closers close outer) (closers_enclosed close outer))

  too_deep : (outer : ℕ) (bytes : List ℕ) → outer ≤ 63 → 63 ≤ outer → nesting close (suc outer) 123 ≡ TooDeep → passed (123 ∷ bytes) outer (123 ∷ bytes)
  unfolding nothing_yet
  too_deep outer bytes few deep is =
      let a = nothing_yet (123 ∷ bytes) outer few in
      record {
        front = [];
        more = a.1;
        value = a.2;
        parts = refl;
        fits = a.4;
        goes_on = a.5;
        head = 123;
        tail = [];
        later = bytes;
        stops = none;
        is = refl;
        ends = no_byte_starts bytes;
        next = 125;
        others = closers close outer ++ close ∷ [];
        found = 123 ∷ (125 ∷ closers close outer);
        spelled = (refl, deeper outer deep, tt);
        parted = refl;
        real = (omega arith, closing_bytes outer);
        why = inl (refl, refl);
        again = λ s f. at_step outer 123 s TooDeep is;
      }

  one_past : (b : ℕ) (bytes rest : List ℕ) (outer next : ℕ) → nesting close (suc outer) b ≡ Goes (suc next) → next + single 125 b ≡ outer + single 123 b → (outer ≡ 0 → b ≡ close → ⊥) → outer ≤ 63 → passed bytes next rest → passed (b ∷ bytes) outer rest
  one_past b bytes rest outer next is moves apart few a = record {
    front = b ∷ a.front;
    more = a.more;
    value = b ∷ a.value;
    parts = ap (λ x. b ∷ x) a.parts;
    fits = (ap (λ x. b ∷ x) a.fits.0, enclosed_more close outer next b moves apart a.value a.fits.1, shallow_more close outer next b moves apart few a.value a.fits.2);
    goes_on = a.goes_on;
    head = a.head;
    tail = a.tail;
    later = a.later;
    stops = a.stops;
    is = a.is;
    ends = a.ends;
    next = a.next;
    others = a.others;
    found = b ∷ a.found;
    spelled = (ap (λ x. b ∷ x) a.spelled.0, enclosed_more close outer next b moves apart a.found a.spelled.1, tt);
    parted = a.parted;
    real = a.real;
    why = a.why;
    again = λ s f. at_step outer b (a.front ++ (a.head ∷ (a.tail ++ s))) (Goes (suc next)) is ∙ ap (with_byte b) (a.again s f);
  }

  past : (tokens : List ℕ) (outer : ℕ) (rest : List ℕ) → outer ≤ 63 → up_to outer tokens ≡ Past rest → passed tokens outer rest
  past [] outer rest few e = absurd cc
  past (b ∷ bytes) outer rest few e = by (step close outer b) (λ next less was. past bytes next rest less was)
    where
      by : Step close outer b → ((next : ℕ) → next ≤ 63 → up_to next bytes ≡ Past rest → passed bytes next rest) → passed (b ∷ bytes) outer rest
      by (Closed is no_outer same) again = let h : Read [] bytes ≡ Past rest = sym (at_step outer b bytes Closes is) ∙ e in absurd cc
      by (Bare is no_outer same) again = let h : Stuck (b ∷ bytes) ≡ Past rest = sym (at_step outer b bytes Unpaired is) ∙ e in absurd cc
      by (Deep is same deep) again =
          let h : Past (b ∷ bytes) ≡ Past rest = sym (at_step outer b bytes TooDeep is) ∙ e in
          let left : b ∷ bytes ≡ rest = cc in
          subst (passed (b ∷ bytes) outer) left (subst (λ x. passed (x ∷ bytes) outer (x ∷ bytes)) (sym same) (too_deep outer bytes few deep (subst (λ x. nesting close (suc outer) x ≡ TooDeep) same is)))
      by (On next is moves apart stay) again =
          let h : up_to next bytes ≡ Past rest = with_past b (up_to next bytes) rest (sym (at_step outer b bytes (Goes (suc next)) is) ∙ e) in
          one_past b bytes rest outer next is moves apart few (again next (stay few) h)

  -- no byte behind the first that is left matters

  left_behind : (bytes : List ℕ) (next : ℕ) (o : End (List ℕ)) (rest : List ℕ) → next ≤ 63 → up_to next bytes ≡ answer o rest → length rest ≤ length bytes
  left_behind bytes next (Value v) rest few e = let a = (sound bytes next v rest few e).0 in omega (arith, ap length a, length-append v (close ∷ rest))
  left_behind bytes next Unexpected rest few e = let a = viable bytes next rest few e in omega (arith, ap length a.3, length-append a.0 rest)

  abbrev Kept : List ℕ → ℕ → Type 0
  Kept tokens outer = (front : List ℕ) (t : ℕ) (r s : List ℕ) (o : End (List ℕ)) → tokens ≡ front ++ (t ∷ r) → up_to outer tokens ≡ answer o (t ∷ r) → up_to outer (front ++ (t ∷ s)) ≡ answer o (t ∷ s)

  module _ (b : ℕ) (bytes : List ℕ) (outer next : ℕ) (few : next ≤ 63) (is : nesting close (suc outer) b ≡ Goes (suc next)) where
    kept_inner : (o : End (List ℕ)) (rest : List ℕ) → with_byte b (up_to next bytes) ≡ answer o rest → (p : End (List ℕ)) × (up_to next bytes ≡ answer p rest) × ((later : List ℕ) → with_byte b (answer p later) ≡ answer o later)
    kept_inner (Value v) rest e =
        let a = with_read b (up_to next bytes) v rest e in
        (Value a.0, a.2, λ later. ap (λ x. Read x later) (sym a.1))
    kept_inner Unexpected rest e = (Unexpected, with_stuck b (up_to next bytes) rest e, λ later. refl)

    kept_on : Kept bytes next → Kept (b ∷ bytes) outer
    kept_on again [] t r s o e h =
        let a = kept_inner o (t ∷ r) (sym (at_step outer b bytes (Goes (suc next)) is) ∙ h) in
        let k : length (t ∷ r) ≤ length bytes = left_behind bytes next a.0 (t ∷ r) few a.1 in
        absurd (omega (arith, k, ap length e))
    kept_on again (x ∷ front) t r s o e h =
        let same : b ≡ x = cc in
        let later : bytes ≡ front ++ (t ∷ r) = cc in
        let a = kept_inner o (t ∷ r) (sym (at_step outer b bytes (Goes (suc next)) is) ∙ h) in
        let c : up_to next (front ++ (t ∷ s)) ≡ answer a.0 (t ∷ s) = again front t r s a.0 later a.1 in
        ap (λ y. up_to outer (y ∷ (front ++ (t ∷ s)))) (sym same) ∙ at_step outer b (front ++ (t ∷ s)) (Goes (suc next)) is ∙ ap (with_byte b) c ∙ a.2 (t ∷ s)

  kept_closed : (b : ℕ) (bytes : List ℕ) (outer : ℕ) → nesting close (suc outer) b ≡ Closes → Kept (b ∷ bytes) outer
  kept_closed b bytes outer is front t r s Unexpected e h = let k : Read [] bytes ≡ Stuck (t ∷ r) = sym (at_step outer b bytes Closes is) ∙ h in absurd cc
  kept_closed b bytes outer is front t r s (Value v) e h =
      let k : Read [] bytes ≡ Read v (t ∷ r) = sym (at_step outer b bytes Closes is) ∙ h in
      let empty : [] ≡ v = cc in
      let left : bytes ≡ t ∷ r = cc in
      let alone : front ≡ b ∷ [] = append_cancel_right front (b ∷ []) (t ∷ r) (sym e ∙ ap (λ x. b ∷ x) left) in
      ap (λ x. up_to outer (x ++ (t ∷ s))) alone ∙ at_step outer b (t ∷ s) Closes is ∙ ap (λ x. Read x (t ∷ s)) empty

  kept_bare : (b : ℕ) (bytes : List ℕ) (outer : ℕ) → nesting close (suc outer) b ≡ Unpaired → Kept (b ∷ bytes) outer
  kept_bare b bytes outer is front t r s (Value v) e h = let k : Stuck (b ∷ bytes) ≡ Read v (t ∷ r) = sym (at_step outer b bytes Unpaired is) ∙ h in absurd cc
  kept_bare b bytes outer is front t r s Unexpected e h =
      let k : Stuck (b ∷ bytes) ≡ Stuck (t ∷ r) = sym (at_step outer b bytes Unpaired is) ∙ h in
      let left : b ∷ bytes ≡ t ∷ r = cc in
      let same : b ≡ t = cc in
      let nothing_before : front ≡ [] = no_front front (t ∷ r) (b ∷ bytes) e left in
      ap (λ x. up_to outer (x ++ (t ∷ s))) nothing_before ∙ ap (λ x. up_to outer (x ∷ s)) (sym same) ∙ at_step outer b s Unpaired is ∙ ap (λ x. Stuck (x ∷ s)) same

  kept_deep : (b : ℕ) (bytes : List ℕ) (outer : ℕ) → nesting close (suc outer) b ≡ TooDeep → Kept (b ∷ bytes) outer
  kept_deep b bytes outer is front t r s (Value v) e h = let k : Past (b ∷ bytes) ≡ Read v (t ∷ r) = sym (at_step outer b bytes TooDeep is) ∙ h in absurd cc
  kept_deep b bytes outer is front t r s Unexpected e h = let k : Past (b ∷ bytes) ≡ Stuck (t ∷ r) = sym (at_step outer b bytes TooDeep is) ∙ h in absurd cc

  local : (tokens : List ℕ) (outer : ℕ) → outer ≤ 63 → Kept tokens outer
  local [] outer few [] t r s o e h = absurd cc
  local [] outer few (x ∷ front) t r s o e h = absurd cc
  local (b ∷ bytes) outer few front t r s o e h = by (step close outer b) (λ next less. local bytes next less)
    where
      by : Step close outer b → ((next : ℕ) → next ≤ 63 → Kept bytes next) → up_to outer (front ++ (t ∷ s)) ≡ answer o (t ∷ s)
      by (Closed is no_outer same) again = kept_closed b bytes outer is front t r s o e h
      by (Bare is no_outer same) again = kept_bare b bytes outer is front t r s o e h
      by (Deep is same deep) again = kept_deep b bytes outer is front t r s o e h
      by (On next is moves apart stay) again = kept_on b bytes outer next (stay few) is (again next (stay few)) front t r s o e h

  pub enclosed_part : Part IsByte (IsLimit macros) (within 0) (at_all 0) Always (read_up_to close 1)
  unfolding nothing_yet
  enclosed_part = record {
    reads = λ tokens. record {
      core = record {
        sound = λ text rest e.
            let a = sound tokens 0 text rest (omega arith) e in
            (text ++ close ∷ [], a.0 ∙ sym (append_assoc text (close ∷ []) rest), (refl, a.1, a.2));
        complete = λ front text rest e h _. complete 0 (omega arith) tokens front text rest e h;
        accepts = λ front text rest e h _. accepts 0 (omega arith) tokens front text rest e h;
        local = local tokens 0 (omega arith);
        within = λ x v h. (h.0, h.1, tt);
      };
      viable = λ rest e. viable tokens 0 rest (omega arith) e;
      past = λ rest e. past tokens 0 rest (omega arith) e;
    };
    phrase = let a = nothing_yet [] 0 (omega arith) in (a.1, a.2, a.4, a.5);
  }
