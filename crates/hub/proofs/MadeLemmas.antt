-- What a run makes: counts of replies, and look-ups one after another.
use Rattle.std.proofs.Common.{◌≡◌, ℕ, ◌+◌, ◌-◌, ◌≤◌, ◌⊎◌, List, [], ◌∷◌, ◌++◌, length, zero, suc, Option, refl, sym, ap, ◌∙◌, subst, arith, append_assoc, append-nil, inl, inr, Some, length-append, lit≤}
use Rattle.httparse.specs.Grammar.{RequestHead}
use Rattle.sd_value.specs.declared.Term.{Term}
use Rattle.http_spec.specs.declared.ParsedRequest.{ParsedRequest}
use Rattle.http_spec.specs.declared.RequestKind.{RequestKind}
use Rattle.http_spec.specs.declared.RequestKind.TheVariants.{Get, Head, BadRequest, Misdirected, WrongMethod}
use Rattle.http_spec.specs.declared.Standing.TheVariants.{Open, Short}
use Rattle.http_spec.specs.Asks.{ask_of}
use Rattle.http_reply.specs.Feeding.{Held, FedCase}
use Rattle.wire.specs.Accounts.{up, up_by}
use Rattle.serving_spec.specs.Made.{Made, replies_in, NamedBy, LooksUp, AllLooked}
use Rattle.hub.specs.Makes.{LooksUpAll}
use Rattle.hub.proofs.StepLemmas.{heads_after}

-- so many more, and then so many
pub up_by_more : (a b n : ℕ) → up_by (a + b) n ≡ up_by b (up_by a n)
up_by_more zero b n = ap (λ k. up_by k n) (let same : 0 + b ≡ b = omega arith in same)
up_by_more (suc a) b n = ap (λ k. up_by k n) (let same : suc a + b ≡ suc (a + b) = omega arith in same) ∙ up_by_more a b (up n)

-- look-ups, and then others
pub looked_more : {C : Type 0} (Looks : C → Term → C → Type 0) (terms others : List Term) (before between after : C)
    → AllLooked Looks before terms between → AllLooked Looks between others after → AllLooked Looks before (terms ++ others) after
looked_more Looks [] others before between after same second = subst (λ c. AllLooked Looks c others after) same second
looked_more Looks (t ∷ terms) others before between after (next, one, rest) second =
    (next, one, looked_more Looks terms others next between after rest second)

-- the look-ups for one head more
pub looks_more : (hosts : Option (List ℕ)) (Names : List ℕ → Term → Type 0) (heads : List RequestHead) (looked : List Term) (h : RequestHead) (terms : List Term)
    → LooksUpAll hosts Names heads looked → LooksUp Names (ask_of hosts h).kind h.target terms → LooksUpAll hosts Names (heads ++ h ∷ []) (looked ++ terms)
looks_more hosts Names [] looked h terms none one =
    (terms, [], one, refl, ap (λ l. l ++ terms) none ∙ sym (append-nil terms))
looks_more hosts Names (k ∷ heads) looked h terms (first, others, own, rest, is) one =
    (first, others ++ terms, own, looks_more hosts Names heads others h terms rest one, ap (λ l. l ++ terms) is ∙ append_assoc first others terms)

-- the look-ups for the head that an ask is for, or for none
pub looks_asked : (hosts : Option (List ℕ)) (Names : List ℕ → Term → Type 0) (rest p : List ℕ) (taken : ℕ) (ask : ParsedRequest) (after : Held) (fed : FedCase hosts rest p taken (Some ask) after)
    (heads : List RequestHead) (looked terms : List Term) → LooksUpAll hosts Names heads looked → LooksUp Names ask.kind after.target terms
    → LooksUpAll hosts Names (heads_after hosts rest p taken ask after fed heads) (looked ++ terms)
looks_asked hosts Names rest p taken ask after (inl w) heads looked terms before one =
    let At : ParsedRequest → Type 0 = λ a. LooksUp Names a.kind after.target terms in
    let Target : List ℕ → Type 0 = λ t. LooksUp Names (ask_of hosts w.0).kind t terms in
    looks_more hosts Names heads looked w.0 terms before (subst Target (ap (λ (x : Held). x.target) w.1.after_is) (subst At w.1.ask_is one))
looks_asked hosts Names rest p taken ask after (inr refused) heads looked terms before one =
    let At : ParsedRequest → Type 0 = λ a. LooksUp Names a.kind after.target terms in
    let none : terms ≡ [] = subst At refused.ask_is one in
    subst (LooksUpAll hosts Names heads) (sym (ap (λ l. looked ++ l) none ∙ append-nil looked)) before

-- what is looked up for one ask is at most one term
named_few : (Names : List ℕ → Term → Type 0) (target : List ℕ) (terms : List Term) → NamedBy Names target terms → length terms ≤ 1
named_few Names target terms (inl (term, is, one)) = subst (λ (l : List Term). length l ≤ 1) (sym one) (lit≤ tt)
named_few Names target terms (inr (never, none)) = subst (λ (l : List Term). length l ≤ 1) (sym none) (lit≤ tt)

looks_few : (Names : List ℕ → Term → Type 0) (kind : RequestKind) (target : List ℕ) (terms : List Term) → LooksUp Names kind target terms → length terms ≤ 1
looks_few Names Get target terms up = named_few Names target terms up
looks_few Names Head target terms up = named_few Names target terms up
looks_few Names BadRequest target terms none = subst (λ (l : List Term). length l ≤ 1) (sym none) (lit≤ tt)
looks_few Names Misdirected target terms none = subst (λ (l : List Term). length l ≤ 1) (sym none) (lit≤ tt)
looks_few Names WrongMethod target terms none = subst (λ (l : List Term). length l ≤ 1) (sym none) (lit≤ tt)

pub short_few : (Names : List ℕ → Term → Type 0) (kind : RequestKind) (target : List ℕ) (terms : List Term) → (terms ≡ []) ⊎ LooksUp Names kind target terms
    → length terms ≤ 1
short_few Names kind target terms (inl none) = subst (λ (l : List Term). length l ≤ 1) (sym none) (lit≤ tt)
short_few Names kind target terms (inr up) = looks_few Names kind target terms up

-- one reply more
pub count_open : (mid : List (List ℕ)) (reply : List ℕ) (made : Made) → made.replies ≡ replies_in Open (reply ∷ []) → length mid + made.replies ≡ length (mid ++ reply ∷ [])
count_open mid reply made one = ap (λ n. length mid + n) one ∙ sym (length-append mid (reply ∷ []))

pub count_short : (mid : List (List ℕ)) (reply : List ℕ) (made : Made) → made.replies ≡ replies_in Short (reply ∷ [])
    → length mid + made.replies ≡ length (mid ++ reply ∷ []) - 1
count_short mid reply made none =
    let grows : length (mid ++ reply ∷ []) ≡ length mid + 1 = length-append mid (reply ∷ []) in
    let zero_more : made.replies ≡ 0 = none in
    omega (arith, grows, zero_more)

-- the count after one reply more
pub made_more : (start now later : ℕ) (mid replies : List (List ℕ)) (made : Made) → now ≡ up_by (length mid) start → later ≡ up_by made.replies now
    → length replies ≡ length mid + made.replies → later ≡ up_by (length replies) start
made_more start now later mid replies made before one count =
    one ∙ ap (up_by made.replies) before ∙ sym (up_by_more (length mid) made.replies start) ∙ ap (λ n. up_by n start) (sym count)

-- look-ups in data that are as they were at first
pub looked_on : {D C : Type 0} (Looks : D → C → Term → C → Type 0) (now first : D) (terms others : List Term) (before between after : C) → now ≡ first
    → AllLooked (Looks first) before terms between → AllLooked (Looks now) between others after → AllLooked (Looks first) before (terms ++ others) after
looked_on Looks now first terms others before between after same one two =
    looked_more (Looks first) terms others before between after one (subst (λ d. AllLooked (Looks d) between others after) same two)

pub made_so_far : (start now later before one : ℕ) → now ≡ up_by before start → later ≡ up_by one now → later ≡ up_by (before + one) start
made_so_far start now later before one first then = then ∙ ap (up_by one) first ∙ sym (up_by_more before one start)
