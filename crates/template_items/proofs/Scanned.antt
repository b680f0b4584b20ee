-- What scanning has found so far, and that bytes have no other items.
use Rattle.std.proofs.Common.{◌≡◌, ℕ, ◌+◌, ◌-◌, ◌<◌, ◌≤◌, List, [], ◌∷◌, ◌++◌, length, drop, refl, sym, ap, subst, ◌∙◌, arith, length-append, append_assoc, Option, Result, Ok, Err}
use Rattle.std.specs.Prelude.{IfOk, IfSome, All, Some, None}
use Rattle.std.specs.Global.{Vec}
use Rattle.sd_value.specs.declared.NoMemory.{NoMemory}
use Rattle.std.proofs.lemmas.List.{length-drop, append-nil}
use Rattle.std.proofs.lemmas.List.Elements.{All-nil, All-push}
use Rattle.sd_lex.specs.declared.refusal.LexRefusal.{LexRefusal}
use Rattle.sd_lex.specs.declared.token.Token.{Token}
use Rattle.sd_lex.specs.Lexing.{IsTokenOrFault, UnlessNoMemory}
use Rattle.sd_lex.proofs.Gaps.{spelled_some}
use Rattle.template_items.specs.declared.item.Item.{Item}
use Rattle.template_items.specs.declared.item.State.{State}
use Rattle.template_items.specs.declared.item.Front.{Front}
use Rattle.template_items.specs.declared.item.Front.TheVariants.{Passes, Finds, Ends}
use Rattle.template_items.specs.Scanning.{front, last_items, order_mark, first_state, GoesOn, IsWithin, EndsWithin, AreItems, Scans, passes, finds, ends}

pub token_within : (at : ℕ) (bytes : List ℕ) (r : Result Token LexRefusal) → at < length bytes → UnlessNoMemory (IsTokenOrFault at (drop at bytes)) r → IfOk r (λ t. (at < t.span.«end») × (t.span.«end» ≤ length bytes))
token_within at bytes (Ok t) before h =
    let some : 0 < length h.0 = spelled_some t.kind h.0 h.3.spelled in
    let parts : length (drop at bytes) ≡ length h.0 + length h.1 = ap length h.2 ∙ length-append h.0 h.1 in
    let rest : length (drop at bytes) ≡ length bytes - at = length-drop at bytes in
    (omega (arith, some, h.3.last), omega (arith, before, parts, rest, h.3.last))
token_within at bytes (Err e) before h = tt

-- the items that were found from the first state on, each at a place of its own, and the place that was reached
pub record Reached (bytes : List ℕ) (s : State) (items : List Item) : Type 0 where
  pub place : s.place ≤ length bytes
  pub few : s.loops ≤ s.place
  pub apart : length items ≤ s.place
  pub within : All (EndsWithin (length bytes)) items
  pub goes_on : (more : List Item) → Scans bytes s more → Scans bytes (first_state bytes) (items ++ more)

pub first_reached : (bytes : List ℕ) → order_mark bytes ≤ length bytes → Reached bytes (first_state bytes) []
first_reached bytes within = record { place = within; few = omega arith; apart = omega arith; within = All-nil (EndsWithin (length bytes)); goes_on = λ more h. h }

pub passes_reached : (bytes : List ℕ) (s next : State) (items : List Item) → Reached bytes s items → (f : Front) → f ≡ Passes next → f ≡ front bytes s → GoesOn (length bytes) s f → Reached bytes next items
passes_reached bytes s next items so_far f here is on =
    let step : IsWithin (length bytes) s next = subst (GoesOn (length bytes) s) here on in
    record { place = step.1; few = step.2; apart = omega (arith, so_far.apart, step.0); within = so_far.within; goes_on = λ more h. so_far.goes_on more (passes next (sym is ∙ here) h) }

last_all : (P : Item → Type 0) (items : List Item) (last : Option Item) → All P items → IfSome last P → All P (items ++ last_items last)
last_all P items None all its = subst (All P) (sym (append-nil items)) all
last_all P items (Some item) all its = All-push P items item all its

-- the items end within the bytes
pub ended_within : (bytes : List ℕ) (s : State) (items : List Item) (last : Option Item) → Reached bytes s items → (f : Front) → f ≡ Ends last → GoesOn (length bytes) s f
    → (r : Result (Vec Item) NoMemory) → IfOk r (λ v. v.items ≡ items ++ last_items last) → IfOk r (λ v. All (EndsWithin (length bytes)) v.items)
ended_within bytes s items last so_far f here on (Ok v) is =
    let its : GoesOn (length bytes) s (Ends last) = subst (GoesOn (length bytes) s) here on in
    subst (All (EndsWithin (length bytes))) (sym is) (last_all (EndsWithin (length bytes)) items last so_far.within its)
ended_within bytes s items last so_far f here on (Err e) is = tt

pub finds_reached : (bytes : List ℕ) (s next : State) (items : List Item) (item : Item) → Reached bytes s items → (f : Front) → f ≡ Finds item next → f ≡ front bytes s → GoesOn (length bytes) s f → Reached bytes next (items ++ item ∷ [])
finds_reached bytes s next items item so_far f here is on = let both : GoesOn (length bytes) s (Finds item next) = subst (GoesOn (length bytes) s) here on in let step : IsWithin (length bytes) s next = both.0 in record {
  place = step.1;
  few = step.2;
  apart = omega (arith, so_far.apart, step.0, length-append items (item ∷ []));
  within = All-push (EndsWithin (length bytes)) items item so_far.within both.1;
  goes_on = λ more h. subst (Scans bytes (first_state bytes)) (sym (append_assoc items (item ∷ []) more)) (so_far.goes_on (item ∷ more) (finds item next more (sym is ∙ here) refl h));
}

pub ends_reached : (bytes : List ℕ) (s : State) (items : List Item) (last : Option Item) → (total : List Item) → total ≡ items ++ last_items last → Reached bytes s items → (f : Front) → f ≡ Ends last → f ≡ front bytes s → Scans bytes (first_state bytes) total
ends_reached bytes s items last total all so_far f here is = subst (Scans bytes (first_state bytes)) (sym all) (so_far.goes_on (last_items last) (ends last (sym is ∙ here) refl))

last_length : (last : Option Item) → length (last_items last) ≤ 1
last_length None = omega arith
last_length (Some item) = omega arith

-- each item but the last begins at another byte
pub ended_few : (bytes : List ℕ) (s : State) (items : List Item) (last : Option Item) → Reached bytes s items → (r : Result (Vec Item) NoMemory) → IfOk r (λ v. v.items ≡ items ++ last_items last) → IfOk r (λ v. length v.items ≤ length bytes + 1)
ended_few bytes s items last so_far (Ok v) all =
    let total : length v.items ≡ length items + length (last_items last) = ap length all ∙ length-append items (last_items last) in
    omega (arith, total, last_length last, so_far.apart, so_far.place)
ended_few bytes s items last so_far (Err e) all = tt

-- bytes have one list of items
pub one_list : (bytes : List ℕ) {s : State} {xs ys : List Item} → Scans bytes s xs → Scans bytes s ys → xs ≡ ys
one_list bytes {ys = ys} (passes next e h) (passes other f k) =
    let same : Passes next ≡ Passes other = sym e ∙ f in
    let is : next ≡ other = cc in
    one_list bytes h (subst (λ x. Scans bytes x ys) (sym is) k)
one_list bytes (passes next e h) (finds item other more f g k) = absurd cc
one_list bytes (passes next e h) (ends last f g) = absurd cc
one_list bytes (finds item next more e g h) (passes other f k) = absurd cc
one_list bytes (finds item next more e g h) (finds item2 other more2 f g2 k) =
    let same : Finds item next ≡ Finds item2 other = sym e ∙ f in
    let is : next ≡ other = cc in
    let the_item : item ≡ item2 = cc in
    let rest : more ≡ more2 = one_list bytes h (subst (λ x. Scans bytes x more2) (sym is) k) in
    cc
one_list bytes (finds item next more e g h) (ends last f g2) = absurd cc
one_list bytes (ends last e g) (passes other f k) = absurd cc
one_list bytes (ends last e g) (finds item other more f g2 k) = absurd cc
one_list bytes (ends last e g) (ends last2 f g2) =
    let same : Ends last ≡ Ends last2 = sym e ∙ f in
    let is : last ≡ last2 = cc in
    cc

pub ended_says : (bytes : List ℕ) (s : State) (items : List Item) (last : Option Item) → Reached bytes s items → (f : Front) → f ≡ Ends last → f ≡ front bytes s
    → (r : Result (Vec Item) NoMemory) → IfOk r (λ v. v.items ≡ items ++ last_items last) → IfOk r (λ v. AreItems bytes v.items)
ended_says bytes s items last so_far f here is (Ok v) all = ends_reached bytes s items last v.items all so_far f here is
ended_says bytes s items last so_far f here is (Err e) all = tt

pub only_list : (bytes : List ℕ) (r : Result (Vec Item) NoMemory) → IfOk r (λ v. AreItems bytes v.items) → (items : List Item) → AreItems bytes items → IfOk r (λ v. v.items ≡ items)
only_list bytes (Ok v) h items k = one_list bytes h k
only_list bytes (Err e) h items k = tt
