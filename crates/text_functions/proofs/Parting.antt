-- The values of the parts of a text.
use Rattle.std.proofs.Common.{◌≡◌, ℕ, ◌+◌, ◌<◌, ◌≤◌, List, [], ◌∷◌, ◌++◌, length, take, map, get_or, IsSomeAnd, append-nil, sym, ap, ◌∙◌, subst, ⊎_elim, Option, Some, None}
use Rattle.std.specs.Prelude.{Contains, IfOk, Result, Ok, Err}
use Rattle.std.specs.Option.{option_to_list}
use Rattle.std.specs.List.Sorted.{IsStrictlySortedBy}
use Rattle.std.proofs.lemmas.List.{take_more, take_all}
use Rattle.sd_value.specs.Ascending.{ListsExactly}
use Rattle.sd_value.specs.AscendingLaws.{listed_as}
use Rattle.sd_value.specs.Gathered.{Gathered}
use Rattle.sd_value.specs.Members.{Contains-nil, Contains-cons_cases, Contains-here, Contains-map, Contains-mapped}
use Rattle.sd_value.specs.Order.{value_cmp}
use Rattle.sd_value.specs.declared.Value.{Value}
use Rattle.sd_value.proofs.Gathering.{gathered_push, gathered_all}
use Rattle.function_spec.specs.Cuts.{AreParts}
use Rattle.function_spec.specs.declared.Function.{Function}
use Rattle.function_spec.specs.Functions.{Gives, IsFilledText}
use Rattle.function_spec.specs.Words.{trim}
use Rattle.text_functions.specs.Told.{Tells, Adds}
use Rattle.text_functions.proofs.Found.{parts_same}

only : (P : Value → Type 0) (o : Option Value) → Tells P o → (y : Value) → Contains (option_to_list o) y → P y
only P None h y m = absurd (Contains-nil y m)
only P (Some w) h y m = ⊎_elim (λ e. subst P e h.0) (λ k. absurd (Contains-nil y k)) (Contains-cons_cases w [] y m)

all : (P : Value → Type 0) (o : Option Value) → Tells P o → (y : Value) → P y → Contains (option_to_list o) y
all P None h y p = absurd (h y p)
all P (Some w) h y p = subst (Contains (w ∷ [])) (sym (h.1 y p)) (Contains-here w [])

pub adds_none : (P : Value → Type 0) (r : Option Value) (old : List Value) → Tells P r → r ≡ None → Adds P old old
adds_none P r old h e = (r, h, sym (append-nil old) ∙ ap (λ o. old ++ option_to_list o) (sym e))

pub adds_some : (P : Value → Type 0) (r : Option Value) (w : Value) (old new : List Value) → Tells P r → r ≡ Some w → new ≡ old ++ w ∷ [] → Adds P old new
adds_some P r w old new h e is = (r, h, is ∙ ap (λ o. old ++ option_to_list o) (sym e))

-- the value of one part more
pub part_more : {X : Type 0} (E : X → Value → Type 0) (from : List X) (i : ℕ) (d : X) (old new : List Value) → i < length from → Gathered E (take i from) old → Adds (E (get_or from i d)) old new → Gathered E (take (i + 1) from) new
part_more E from i d old new lt g (o, tells, is) =
    let x = get_or from i d in
    subst (Gathered E (take (i + 1) from)) (sym is)
    (subst (λ f. Gathered E f (old ++ option_to_list o)) (sym (take_more from i d lt))
    (gathered_push E (take i from) old (option_to_list o) x g (only (E x) o tells) (all (E x) o tells)))

abbrev OfParts : List ℕ → List ℕ → Value → Type 0
OfParts s t v = (parts : List (List ℕ)) × AreParts s t parts × ((part : List ℕ) × Contains parts part × IsFilledText (trim part) v)

-- the values of all parts
pub parts_listed : {X : Type 0} (now : X → List ℕ) (s t : List ℕ) (from : List X) (ends out : List Value) → AreParts s t (map now from) → Gathered (λ p v. IsFilledText (trim (now p)) v) from ends → ListsExactly value_cmp (Contains ends) out → ListsExactly value_cmp (OfParts s t) out
parts_listed now s t from ends out are g exact =
    listed_as (gathered_all value_cmp (λ p v. IsFilledText (trim (now p)) v) from ends out g exact)
    (λ v (x, within, e). (map now from, are, (now x, Contains-mapped now from x within, e)))
    (λ v (ps, also, (part, within, e)).
    let found = Contains-map now from part (subst (λ l. Contains l part) (parts_same s t ps (map now from) also are) within) in
    (found.0, found.2, subst (λ p. IsFilledText (trim p) v) (sym found.1) e))

-- the same, where the arguments have the kind
pub listed_some : {X : Type 0} (o : Option X) (x : X) (P : X → Value → Type 0) (vs : List Value) → o ≡ Some x → ListsExactly value_cmp (P x) vs → ListsExactly value_cmp (λ v. IsSomeAnd o (λ y. P y v)) vs
listed_some o x P vs e h = subst (λ p. ListsExactly value_cmp (λ v. IsSomeAnd p (λ y. P y v)) vs) (sym e) h

pub listed_pair : {X Y : Type 0} (Q : X × Y → Value → Type 0) (vs : List Value) (x x' : X) (y y' : Y) → ListsExactly value_cmp (Q (x, y)) vs → x ≡ x' → y ≡ y' → ListsExactly value_cmp (Q (x', y')) vs
listed_pair Q vs x x' y y' h e d = subst (λ a. ListsExactly value_cmp (Q (a, y')) vs) e (subst (λ b. ListsExactly value_cmp (Q (x, b)) vs) d h)

pub gathered_whole : {X : Type 0} (E : X → Value → Type 0) (xs : List X) (i : ℕ) (ends : List Value) → length xs ≤ i → Gathered E (take i xs) ends → Gathered E xs ends
gathered_whole E xs i ends le g = subst (λ f. Gathered E f ends) (take_all i xs le) g

one_ascends : (o : Option Value) → IsStrictlySortedBy value_cmp (option_to_list o)
unfolding IsStrictlySortedBy
one_ascends None = tt
one_ascends (Some w) = (tt, tt)

-- the list of the one value, or of none
pub one_listed : (P : Value → Type 0) (o : Option Value) (vs : List Value) → Tells P o → vs ≡ option_to_list o → ListsExactly value_cmp P vs
one_listed P o vs h e =
    let all_of : ListsExactly value_cmp P (option_to_list o) = record {
      ascending = one_ascends o;
      sound = only P o h;
      complete = all P o h;
    } in
    subst (ListsExactly value_cmp P) (sym e) all_of

-- the same, as a call has it
pub call_listed : {V E : Type 0} (items : V → List Value) (f g : Function) (vs : List Value) (o : Option Value) (r : Result V E) → f ≡ g → Tells (Gives g vs) o → IfOk r (λ v. items v ≡ option_to_list o) → IfOk r (λ v. ListsExactly value_cmp (Gives f vs) (items v))
call_listed items f g vs o (Ok v) same told e = subst (λ x. ListsExactly value_cmp (Gives x vs) (items v)) (sym same) (one_listed (Gives g vs) o (items v) told e)
call_listed items f g vs o (Err e) same told h = h
