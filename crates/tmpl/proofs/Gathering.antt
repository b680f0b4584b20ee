-- The expressions of one part after another.
use Rattle.std.specs.Prelude.{◌≡◌, ℕ, false, List, [], ◌∷◌, ◌++◌, ◌+◌, ◌<◌, ◌≤◌, length, get_or, take, map, Ok, Err, Result, IfOk}
use Rattle.std.proofs.Common.{refl, sym, ap, ◌∙◌, subst, append_assoc, append-nil}
use Rattle.std.proofs.lemmas.List.{take_more, take_all}
use Rattle.tmpl.specs.declared.Part.{Part, Text, Format, Count, Choice', Repeat'}
use Rattle.tmpl.specs.declared.Part.TheVariants as variants
use Rattle.tmpl.specs.declared.Choice as choices
use Rattle.tmpl.specs.declared.Repeat as repeats
use Rattle.tmpl.specs.declared.uses.ExprUse.{ExprUse}
use Rattle.tmpl.specs.Body.{Body, done, part_before, row_body, body_of}
use Rattle.tmpl.specs.Expressions.{Use, uses, use_of, part_uses, bare_use, test_uses, key_words, AddsUses}
use Rattle.tmpl.proofs.Bodies.{choice_body, repeat_body}

pub adds_none : (r : List ExprUse) → AddsUses r r []
adds_none r = sym (append-nil (map use_of r))

pub adds_then : (a b c : List ExprUse) (us vs : List Use) → AddsUses a b us → AddsUses b c vs → AddsUses a c (us ++ vs)
adds_then a b c us vs h k = k ∙ ap (λ (l : List Use). l ++ vs) h ∙ append_assoc (map use_of a) us vs

-- the uses of a part come before those of the rest
pub part_first : (p : Part) (rest : Body) → uses (part_before p rest) ≡ part_uses p ++ uses rest
part_first (Text t) rest = refl
part_first (Format f) rest = refl
part_first (Count x) rest = refl
part_first (Choice' negated x test m taken n other) rest =
    let own : List Use = test_uses x test in
    let inner : List Use = uses (row_body taken) ++ uses (row_body other) in
    ap (λ (l : List Use). own ++ (l ++ uses rest)) (sym (append-nil inner)) ∙ sym (append_assoc own (inner ++ []) (uses rest))
part_first (Repeat' number x o n body) rest =
    let u : Use = record { expr = x; onward = key_words o.keys; embeds = false } in
    ap (λ (l : List Use). u ∷ (l ++ uses rest)) (sym (append-nil (uses (row_body body))))

body_push : (ps : List Part) (p : Part) → uses (body_of (ps ++ p ∷ [])) ≡ uses (body_of ps) ++ part_uses p
body_push [] p = refl
body_push (q ∷ ps) p =
    part_first q (body_of (ps ++ p ∷ [])) ∙ ap (λ l. part_uses q ++ l) (body_push ps p)
    ∙ sym (append_assoc (part_uses q) (uses (body_of ps)) (part_uses p)) ∙ ap (λ l. l ++ part_uses p)
    (sym (part_first q (body_of ps)))

uses_more : (ps : List Part) (i : ℕ) (p : Part) → i < length ps → p ≡ get_or ps i p
    → uses (body_of (take (i + 1) ps)) ≡ uses (body_of (take i ps)) ++ part_uses p
uses_more ps i p lt is =
    ap (λ l. uses (body_of l)) (take_more ps i p lt ∙ ap (λ (q : Part). take i ps ++ q ∷ []) (sym is))
    ∙ body_push (take i ps) p

pub adds_more : (ps : List Part) (i : ℕ) (p : Part) (a b c : List ExprUse) → i < length ps → p ≡ get_or ps i p
    → AddsUses a b (uses (body_of (take i ps))) → AddsUses b c (part_uses p)
    → AddsUses a c (uses (body_of (take (i + 1) ps)))
adds_more ps i p a b c lt is h k = subst (AddsUses a c) (sym (uses_more ps i p lt is))
    (adds_then a b c (uses (body_of (take i ps))) (part_uses p) h k)

pub adds_all : (ps : List Part) (i : ℕ) (a b : List ExprUse) → length ps ≤ i → AddsUses a b (uses (body_of (take i ps)))
    → AddsUses a b (uses (body_of ps))
adds_all ps i a b le h = subst (λ l. AddsUses a b (uses (body_of l))) (take_all i ps le) h

-- a choice and a loop
choice_uses : (x : choices.Choice) → part_uses (variants.Choice x)
    ≡ test_uses x.values x.test ++ (uses (body_of x.taken.items) ++ uses (body_of x.other.items) ++ [])
choice_uses x = ap uses (choice_body x done)

repeat_uses : (x : repeats.Repeat) → part_uses (variants.Repeat x) ≡ record
    { expr = x.values; onward = key_words x.order.keys; embeds = false } ∷ (uses (body_of x.body.items) ++ [])
repeat_uses x = ap uses (repeat_body x done)

pub ok_then : {X E : Type 0} (r : Result X E) (P Q : X → Type 0) → IfOk r P → ((x : X) → P x → Q x) → IfOk r Q
ok_then (Ok x) P Q h to = to x h
ok_then (Err e) P Q h to = h

-- a choice: its expression, and then its two bodies
pub choice_adds : (x : choices.Choice) (a b c d : List ExprUse)
    → AddsUses a b (test_uses x.values x.test)
    → AddsUses b c (uses (body_of x.taken.items)) → AddsUses c d (uses (body_of x.other.items))
    → AddsUses a d (part_uses (variants.Choice x))
choice_adds x a b c d h k m =
    let own : List Use = test_uses x.values x.test in
    let inner : List Use = uses (body_of x.taken.items) ++ uses (body_of x.other.items) in
    let whole : AddsUses a d (own ++ inner) = adds_then a b d own inner h
    (adds_then b c d (uses (body_of x.taken.items)) (uses (body_of x.other.items)) k m) in
    subst (AddsUses a d) (ap (λ (l : List Use). own ++ l) (sym (append-nil inner)) ∙ sym (choice_uses x)) whole

pub repeat_adds : (x : repeats.Repeat) (a b c : List ExprUse) → AddsUses a b
    (record { expr = x.values; onward = key_words x.order.keys; embeds = false } ∷ [])
    → AddsUses b c (uses (body_of x.body.items))
    → AddsUses a c (part_uses (variants.Repeat x))
repeat_adds x a b c h k =
    let u : Use = record { expr = x.values; onward = key_words x.order.keys; embeds = false } in
    let whole : AddsUses a c (u ∷ uses (body_of x.body.items)) = adds_then a b c (u ∷ []) (uses (body_of x.body.items))
    h k in
    subst (AddsUses a c) (ap (λ (l : List Use). u ∷ l) (sym (append-nil (uses (body_of x.body.items))))
    ∙ sym (repeat_uses x)) whole
