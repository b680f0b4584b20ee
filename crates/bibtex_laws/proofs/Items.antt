-- The parts for the items of a text, and for the text.
use Rattle.std.proofs.Common.{◌≡◌, ◌+◌, ◌<◌, ◌≤◌, ℕ, zero, suc, Bool, true, false, List, [], ◌∷◌, ◌++◌, length, length-append, refl, sym, ap, subst, ◌∙◌, inl, inr, arith}
use Rattle.std.proofs.lemmas.List.{append-nil}
use Rattle.grammar.specs.Grammar.{nothing, ◌>>=◌, either}
use Rattle.grammar.specs.Reading.{Outcome, Read, Stuck, Past, and_then, starts, choose}
use Rattle.grammar.proofs.Laws.{AtEnd, Stops}
use Rattle.grammar.proofs.Parts.{Opens, opens_then}
use Rattle.bibtex_laws.proofs.Laws.{Reads, weaken, restate, give_reads, then_reads, choose_reads}
use Rattle.bibtex_laws.proofs.Parts.{Part, part_within, then_part}
use Rattle.bibtex_spec.specs.Bytes.{is_letter, is_junk}
use Rattle.bibtex_spec.specs.Macros.{MacroTexts}
use Rattle.bibtex_laws.specs.Grammar.{Rules, strict, free, Phrase, mark, lower_word, sized, behind_word, item, macros_behind, items, text}
use Rattle.bibtex_laws.specs.Limits.{IsByte, IsLimit}
use Rattle.bibtex_laws.proofs.Words.{each_part}
use Rattle.bibtex_laws.proofs.Marks.{mark_opens}
use Rattle.bibtex_laws.proofs.Values.{next_to}
use Rattle.bibtex_laws.proofs.Known.{read_sized, sized_part}
use Rattle.bibtex_laws.proofs.Entries.{head, item_part}

-- each byte
abbrev pub any : ℕ → Bool
any b = true

-- an item and how many bytes it has
abbrev pub sized_reader : MacroTexts → ℕ → List ℕ → Outcome ℕ (Phrase × ℕ)
sized_reader macros at = read_sized (item_part macros at)

abbrev pub items_within : ℕ → MacroTexts → ℕ → List ℕ → Outcome ℕ (List Phrase)
items_within zero macros at ts = Read [] ts
items_within (suc n) macros at ts =
    choose any
    (λ ts. and_then (sized_reader macros at ts) (λ found rest. and_then (items_within n (macros_behind macros found.0) (at + found.1) rest) (λ others last. Read (found.0 ∷ others) last)))
    (λ ts. Read [] ts) ts

abbrev pub items_reader : MacroTexts → ℕ → List ℕ → Outcome ℕ (List Phrase)
items_reader macros at ts = items_within (length ts) macros at ts

abbrev pub Again : Type 0
Again = MacroTexts → ℕ → List ℕ → Outcome ℕ (List Phrase)

abbrev pub item_then : Again → MacroTexts → ℕ → List ℕ → Outcome ℕ (List Phrase)
item_then again macros at ts = and_then (sized_reader macros at ts) (λ found rest. and_then (again (macros_behind macros found.0) (at + found.1) rest) (λ others last. Read (found.0 ∷ others) last))

abbrev pub turn : Again → MacroTexts → ℕ → List ℕ → Outcome ℕ (List Phrase)
turn again macros at = choose any (item_then again macros at) (λ ts. Read [] ts)

head_opens : (W : ℕ → Type 0) → W 64 → Opens (sized head) W
head_opens W here x v h = opens_then (mark 64) (λ _. lower_word is_letter is_letter) W (mark_opens 64 W here) x v.0 h.0

pub item_opens : (macros : MacroTexts) (at : ℕ) (W : ℕ → Type 0) → W 64 → Opens (item (free macros) at) W
item_opens macros at W here = opens_then (sized head) (λ start. behind_word (free macros) start.0 (at + start.1)) W (head_opens W here)

pub item_shrinks : (macros : MacroTexts) (at : ℕ) (ts : List ℕ) (v : Phrase × ℕ) (rest : List ℕ) → sized_reader macros at ts ≡ Read v rest → length rest < length ts
item_shrinks macros at ts v rest e =
    let a = ((sized_part (item_part macros at)).reads ts).core.sound v rest e in
    let o = item_opens macros at (λ t. Unit {0}) tt a.0 v.0 (part_within (item_part macros at) a.0 v.0 a.2.0) in
    omega (arith, ap length a.1, ap length o.2, length-append a.0 rest)

same_turn : (n m : Again) (macros : MacroTexts) (at : ℕ) (ts : List ℕ) (b : Bool) (o : Outcome ℕ (Phrase × ℕ)) → starts any ts ≡ b → sized_reader macros at ts ≡ o
    → ((now : MacroTexts) (place : ℕ) (rest : List ℕ) → length rest < length ts → n now place rest ≡ m now place rest) → turn n macros at ts ≡ turn m macros at ts
same_turn n m macros at ts false o is was same = rw is refl
same_turn n m macros at ts true (Stuck rest) is was same = rw (is, was) refl
same_turn n m macros at ts true (Past rest) is was same = rw (is, was) refl
same_turn n m macros at ts true (Read v rest) is was same =
    let again = same (macros_behind macros v.0) (at + v.1) rest (item_shrinks macros at ts v rest was) in
    rw (is, was, again) refl

agree : (n m : ℕ) (macros : MacroTexts) (at : ℕ) (ts : List ℕ) → length ts ≤ n → length ts ≤ m → items_within n macros at ts ≡ items_within m macros at ts
agree zero zero macros at ts a b = refl
agree zero (suc m) macros at [] a b = refl
agree zero (suc m) macros at (t ∷ ts) a b = absurd (omega arith)
agree (suc n) zero macros at [] a b = refl
agree (suc n) zero macros at (t ∷ ts) a b = absurd (omega arith)
agree (suc n) (suc m) macros at ts a b =
    same_turn (items_within n) (items_within m) macros at ts (starts any ts) (sized_reader macros at ts) refl refl
    (λ now place rest less. agree n m now place rest (omega (arith, a, less)) (omega (arith, b, less)))

pub items_turn : (macros : MacroTexts) (at : ℕ) (ts : List ℕ) → items_reader macros at ts ≡ turn items_reader macros at ts
items_turn macros at [] = refl
items_turn macros at (t ∷ ts) =
    same_turn (items_within (length ts)) items_reader macros at (t ∷ ts) true (sized_reader macros at (t ∷ ts)) refl refl
    (λ now place rest less. agree (length ts) (length rest) now place rest (omega (arith, less)) (omega arith))

-- the grammar, an item at a time

module _ (rules : MacroTexts → Rules) (macros : MacroTexts) (at : ℕ) where
  abbrev begun : List ℕ → List Phrase → Type 0
  begun = sized (item (rules macros) at) >>= λ found. items rules (macros_behind macros found.0) (at + found.1) >>= λ others. nothing (found.0 ∷ others)

  to_items : (x : List ℕ) (vs : List Phrase) → either begun (nothing []) x vs → items rules macros at x vs
  to_items x vs (inr h) = subst (items rules macros at x) (sym h.1) h.0
  to_items x vs (inl h) =
      let inner = h.5 in
      let tail : h.1 ≡ inner.0 = inner.3 ∙ ap (λ y. inner.0 ++ y) inner.5.0 ∙ append-nil inner.0 in
      subst (items rules macros at x) (sym inner.5.1)
      (h.0, inner.0, h.3 ∙ ap (λ y. h.0 ++ y) tail, h.4.0, subst (λ n. items rules (macros_behind macros h.2.0) (at + n) inner.0 inner.2) h.4.1 inner.4)

  from_items : (x : List ℕ) (vs : List Phrase) → items rules macros at x vs → either begun (nothing []) x vs
  from_items x [] h = inr (h, refl)
  from_items x (v ∷ vs) h =
      inl (h.0, h.1, (v, length h.0), h.2, (h.3, refl), (h.1, [], vs, sym (append-nil h.1), h.4, (refl, refl)))

items_in : (macros : MacroTexts) (at : ℕ) (x : List ℕ) (vs : List Phrase) → items strict macros at x vs → items free macros at x vs
items_in macros at x [] h = h
items_in macros at x (v ∷ vs) h = (h.0, h.1, h.2, part_within (item_part macros at) h.0 v h.3, items_in (macros_behind macros v) (at + length h.0) h.1 vs h.4)

-- items are none, or begin with `@`
items_stop : (macros : MacroTexts) (at : ℕ) (x : List ℕ) (vs : List Phrase) (rest : List ℕ) → items free macros at x vs → AtEnd rest → Stops is_junk (x ++ rest)
items_stop macros at x [] rest h ends = next_to (Stops is_junk) x rest h (ap (starts is_junk) ends)
items_stop macros at x (v ∷ vs) rest h ends =
    let o = item_opens macros at (λ t. is_junk t ≡ false) refl h.0 v h.3 in
    ap (λ y. starts is_junk (y ++ rest)) (h.2 ∙ ap (λ y. y ++ h.1) o.2) ∙ o.3

abbrev Law : MacroTexts → ℕ → List ℕ → Type 0
Law macros at tokens = Reads IsByte (IsLimit macros) (items strict macros at) (items free macros at) AtEnd (items_reader macros at) tokens

module _ (macros : MacroTexts) (at : ℕ) where
  one_more : (found : Phrase × ℕ) (r : List ℕ) → Law (macros_behind macros found.0) (at + found.1) r
      → Reads IsByte (IsLimit macros) (items strict (macros_behind macros found.0) (at + found.1) >>= λ others. nothing (found.0 ∷ others)) (items free (macros_behind macros found.0) (at + found.1) >>= λ others. nothing (found.0 ∷ others)) AtEnd
      (λ ts. and_then (items_reader (macros_behind macros found.0) (at + found.1) ts) (λ others last. Read (found.0 ∷ others) last)) r
  one_more found r again =
      then_reads IsByte (IsLimit macros) (items strict (macros_behind macros found.0) (at + found.1)) (items free (macros_behind macros found.0) (at + found.1)) (λ others. nothing (found.0 ∷ others)) (λ others. nothing (found.0 ∷ others)) AtEnd AtEnd
      (items_reader (macros_behind macros found.0) (at + found.1)) (λ others last. Read (found.0 ∷ others) last) r again
      (λ others last _. weaken AtEnd (λ _ _. tt) (give_reads (found.0 ∷ others) last))
      (λ others x w h. h)
      (λ others x y w rest _ h f. next_to AtEnd y rest h.0 f)
      (λ others x _. ([], found.0 ∷ others, (refl, refl), tt))
      (λ others x _. ([], found.0 ∷ others, (refl, refl), tt))

  begun_in : (x : List ℕ) (vs : List Phrase) → begun strict macros at x vs → begun free macros at x vs
  begun_in x vs h = (h.0, h.1, h.2, h.3, (part_within (item_part macros at) h.0 h.2.0 h.4.0, h.4.1), (h.5.0, h.5.1, h.5.2, h.5.3, items_in (macros_behind macros h.2.0) (at + h.2.1) h.5.0 h.5.2 h.5.4, h.5.5))

  begun_starts : (x : List ℕ) (vs : List Phrase) (rest : List ℕ) → begun free macros at x vs → starts any (x ++ rest) ≡ true
  begun_starts x vs rest h =
      let o = item_opens macros at (λ t. Unit {0}) tt h.0 h.2.0 h.4.0 in
      ap (λ y. starts any (y ++ rest)) (h.3 ∙ ap (λ y. y ++ h.1) o.2)

  one_turn : (tokens : List ℕ) → ((now : MacroTexts) (place : ℕ) (r : List ℕ) → length r < length tokens → Law now place r) → Law macros at tokens
  one_turn tokens again =
      restate (items strict macros at) (items free macros at) (items_reader macros at) (to_items strict macros at) (from_items strict macros at) (to_items free macros at) (from_items free macros at) (items_turn macros at)
      (choose_reads IsByte (IsLimit macros) any (begun strict macros at) (begun free macros at) (nothing []) (nothing []) AtEnd (item_then items_reader macros at) (λ ts. Read [] ts) tokens
      begun_in (λ x v h. h)
      (λ _. then_reads IsByte (IsLimit macros) (sized (item (strict macros) at)) (sized (item (free macros) at))
      (λ found. items strict (macros_behind macros found.0) (at + found.1) >>= λ others. nothing (found.0 ∷ others)) (λ found. items free (macros_behind macros found.0) (at + found.1) >>= λ others. nothing (found.0 ∷ others))
      (Stops is_junk) AtEnd (sized_reader macros at) (λ found rest. and_then (items_reader (macros_behind macros found.0) (at + found.1) rest) (λ others last. Read (found.0 ∷ others) last)) tokens ((sized_part (item_part macros at)).reads tokens)
      (λ found r was. one_more found r (again (macros_behind macros found.0) (at + found.1) r (item_shrinks macros at tokens found r was)))
      (λ found x w h. (h.0, h.1, h.2, h.3, items_in (macros_behind macros found.0) (at + found.1) h.0 h.2 h.4, h.5))
      (λ found x y w rest _ h f. subst (λ z. Stops is_junk (z ++ rest)) (sym (h.3 ∙ ap (λ z. h.0 ++ z) h.5.0 ∙ append-nil h.0)) (items_stop (macros_behind macros found.0) (at + found.1) h.0 h.2 rest h.4 f))
      (λ found x _. ([], found.0 ∷ [], ([], [], [], refl, refl, (refl, refl)), tt))
      (λ found x _. ([], found.0 ∷ [], ([], [], [], refl, refl, (refl, refl)), tt)))
      (λ _. weaken AtEnd (λ _ _. tt) (give_reads [] tokens))
      begun_starts
      (λ x v rest h f. next_to (λ y. starts any y ≡ false) x rest h.0 (ap (starts any) f)))

all_turns : (n : ℕ) (macros : MacroTexts) (at : ℕ) (tokens : List ℕ) → length tokens < n → Law macros at tokens
all_turns zero macros at tokens less = absurd (omega arith)
all_turns (suc n) macros at tokens less = one_turn macros at tokens (λ now place r shorter. all_turns n now place r (omega (arith, less, shorter)))

pub items_part : (macros : MacroTexts) (at : ℕ) → Part IsByte (IsLimit macros) (items strict macros at) (items free macros at) AtEnd (items_reader macros at)
items_part macros at = record {
  reads = λ tokens. all_turns (suc (length tokens)) macros at tokens (omega arith);
  phrase = ([], [], refl, tt);
}

abbrev pub junk_reader : List ℕ → Outcome ℕ (List ℕ × ℕ)
junk_reader = read_sized {Why = λ word stops. Unit {0}} (each_part is_junk)

abbrev pub text_reader : MacroTexts → List ℕ → Outcome ℕ (List Phrase)
text_reader first ts = and_then (junk_reader ts) (λ junk. items_reader first junk.1)

pub text_part : (first : MacroTexts) → Part IsByte (IsLimit first) (text strict first) (text free first) AtEnd (text_reader first)
text_part first = then_part (sized_part (each_part is_junk)) (λ junk. items_part first junk.1) (λ junk y w rest h f. items_stop first junk.1 y w rest h f)
