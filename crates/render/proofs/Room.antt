-- What a page has room for.
use Rattle.std.proofs.Common.{◌≡◌, ℕ, suc, ◌+◌, ◌<◌, ◌≤◌, List, [], ◌∷◌, ◌++◌, length, inl, inr, sym, ap, ◌∙◌, refl, subst, arith, Ok, Err, Result, IfOk, append_assoc, append-nil, length-append}
use Rattle.sd_value.specs.declared.Value.{Value}
use Rattle.page_spec.specs.declared.Piece.{Piece}
use Rattle.page_spec.specs.declared.Piece.TheVariants as piece
use Rattle.page_spec.specs.declared.TheConstants.{PAGE_LIMIT}
use Rattle.page_spec.specs.Pieces.{Item, byte, embed, bytes, piece_items, items_of}
use Rattle.page_spec.specs.Page.{Filled}
use Rattle.render.specs.declared.expansion.Expansion.{Expansion}
use Rattle.render.specs.Room.{embeds, own_length, Fits, Adds}
use Rattle.render.proofs.Joins.{items_append}

-- ---- bytes and embedded values

pub own_append : (ps qs : List Item) → own_length (ps ++ qs) ≡ own_length ps + own_length qs
own_append [] qs = omega arith
own_append (byte b ∷ ps) qs = let e = own_append ps qs in omega (arith, e)
own_append (embed v ∷ ps) qs = own_append ps qs

pub own_bytes : (t : List ℕ) → own_length (bytes t) ≡ length t
own_bytes [] = refl
own_bytes (b ∷ t) = ap suc (own_bytes t)

pub embeds_append : (ps qs : List Item) → embeds (ps ++ qs) ≡ embeds ps ++ embeds qs
embeds_append [] qs = refl
embeds_append (byte b ∷ ps) qs = embeds_append ps qs
embeds_append (embed v ∷ ps) qs = ap (λ l. v ∷ l) (embeds_append ps qs)

pub embeds_bytes : (t : List ℕ) → embeds (bytes t) ≡ []
embeds_bytes [] = refl
embeds_bytes (b ∷ t) = embeds_bytes t

-- a text of items has their bytes
pub own_in_text : (P : Value → List ℕ → Type 0) (ps : List Item) (t : List ℕ) → Filled P ps t → own_length ps ≤ length t
own_in_text P [] t h = omega arith
own_in_text P (byte b ∷ ps) t (u, r, e) = let l = own_in_text P ps u r in omega (arith, l, ap length e)
own_in_text P (embed m ∷ ps) t (a, u, p, r, e) = let l = own_in_text P ps u r in omega (arith, l, ap length e, length-append a u)

-- items without a value to embed have a text
pub bytes_filled : (P : Value → List ℕ → Type 0) (ps : List Item) → [] ≡ embeds ps → (t : List ℕ) × Filled P ps t
bytes_filled P [] e = ([], refl)
bytes_filled P (byte b ∷ ps) e = let (t, h) = bytes_filled P ps e in (b ∷ t, (t, h, refl))
bytes_filled P (embed v ∷ ps) e = let f : ⊥ = cc in absurd f

-- the first value to embed, after items that have a text
pub first_embed : (P : Value → List ℕ → Type 0) (ps : List Item) (m : Value) (ms : List Value) → m ∷ ms ≡ embeds ps
    → (front : List Item) × (back : List Item) × (ps ≡ front ++ embed m ∷ back) × (ms ≡ embeds back) × ((t : List ℕ) × Filled P front t)
first_embed P [] m ms e = let f : ⊥ = cc in absurd f
first_embed P (byte b ∷ ps) m ms e =
    let (front, back, is, rest, (t, h)) = first_embed P ps m ms e in
    (byte b ∷ front, back, ap (λ l. byte b ∷ l) is, rest, (b ∷ t, (t, h, refl)))
first_embed P (embed v ∷ ps) m ms e =
    let same : m ≡ v = cc in
    let rest : ms ≡ embeds ps = cc in
    ([], ps, ap (λ w. embed w ∷ ps) (sym same), rest, ([], refl))

-- ---- what is told of an answer

pub ok_then : {X E : Type 0} (P Q : X → Type 0) (r : Result X E) → ((x : X) → P x → Q x) → IfOk r P → IfOk r Q
ok_then P Q (Ok x) to h = to x h
ok_then P Q (Err e) to h = tt

-- ---- what is kept

-- what is kept embeds the same values
pub fits_embeds : (n : ℕ) (ps : List Item) (size : ℕ) (kept : List Item) → Fits n ps size kept → embeds kept ≡ embeds ps
fits_embeds n ps size kept (inl h) = ap embeds h.2
fits_embeds n ps size kept (inr h) = h.2

pub fits_short : (n : ℕ) (ps : List Item) (size : ℕ) (kept : List Item) → Fits n ps size kept → size ≤ PAGE_LIMIT → (size ≡ n + own_length ps) × (kept ≡ ps)
fits_short n ps size kept (inl h) le = (h.1, h.2)
fits_short n ps size kept (inr h) le = absurd (omega (arith, h.0, le))

pub fits_long : (n : ℕ) (ps : List Item) (size : ℕ) (kept : List Item) → Fits n ps size kept → PAGE_LIMIT < size → PAGE_LIMIT < n + own_length ps
fits_long n ps size kept (inl h) lt = absurd (omega (arith, h.0, lt))
fits_long n ps size kept (inr h) lt = h.1

items_push : (ls : List Piece) (p : Piece) → items_of (ls ++ p ∷ []) ≡ items_of ls ++ piece_items p
items_push ls p = items_append ls (p ∷ []) ∙ ap (λ z. items_of ls ++ z) (append-nil (piece_items p))

pub adds_none : (e : Expansion) → Adds e e []
adds_none e n qs h = subst (λ z. Fits n z e.size (items_of e.pieces.items)) (sym (append-nil qs)) h

pub adds_then : (a b c : Expansion) (ps qs : List Item) → Adds a b ps → Adds b c qs → Adds a c (ps ++ qs)
adds_then a b c ps qs first next n rs h = subst (λ z. Fits n z c.size (items_of c.pieces.items)) (append_assoc rs ps qs) (next n (rs ++ ps) (first n rs h))

pub adds_same : (a b : Expansion) (ps qs : List Item) → ps ≡ qs → Adds a b ps → Adds a b qs
adds_same a b ps qs e h = subst (Adds a b) e h

-- bytes for which there is room
pub adds_kept : (a b : Expansion) (t : List ℕ) → b.size ≤ PAGE_LIMIT → b.size ≡ a.size + length t → b.pieces.items ≡ a.pieces.items ++ piece.Text t ∷ [] → Adds a b (bytes t)
adds_kept a b t le size is n qs (inl (small, e, kept)) = inl (
  le,
  omega (arith, size, e, own_append qs (bytes t), own_bytes t),
  ap items_of is ∙ items_push a.pieces.items (piece.Text t) ∙ ap (λ z. z ++ bytes t) kept,
)
adds_kept a b t le size is n qs (inr (big, l, kept)) = absurd (omega (arith, big, le, size))

-- bytes for which there is none
pub adds_dropped : (a b : Expansion) (t : List ℕ) → PAGE_LIMIT < b.size → PAGE_LIMIT < a.size + length t → b.pieces.items ≡ a.pieces.items → Adds a b (bytes t)
adds_dropped a b t lt sum is n qs h = inr (lt, longer h, ap (λ (l : List Piece). embeds (items_of l)) is ∙ fits_embeds n qs a.size (items_of a.pieces.items) h ∙ sym same)
  where
    same : embeds (qs ++ bytes t) ≡ embeds qs
    same = embeds_append qs (bytes t) ∙ ap (λ z. embeds qs ++ z) (embeds_bytes t) ∙ append-nil (embeds qs)

    longer : Fits n qs a.size (items_of a.pieces.items) → PAGE_LIMIT < n + own_length (qs ++ bytes t)
    longer (inl (small, e, kept)) = omega (arith, e, sum, own_append qs (bytes t), own_bytes t)
    longer (inr (big, l, kept)) = omega (arith, l, own_append qs (bytes t))

pub adds_embed : (a b : Expansion) (v : Value) → b.size ≡ a.size → b.pieces.items ≡ a.pieces.items ++ piece.Embed v ∷ [] → Adds a b (embed v ∷ [])
adds_embed a b v size is n qs (inl (small, e, kept)) = inl (
  omega (arith, small, size),
  omega (arith, e, size, own_append qs (embed v ∷ [])),
  ap items_of is ∙ items_push a.pieces.items (piece.Embed v) ∙ ap (λ z. z ++ embed v ∷ []) kept,
)
adds_embed a b v size is n qs (inr (big, l, kept)) = inr (
  omega (arith, big, size),
  omega (arith, l, own_append qs (embed v ∷ [])),
  ap (λ (l : List Piece). embeds (items_of l)) is ∙ ap embeds (items_push a.pieces.items (piece.Embed v)) ∙ embeds_append (items_of a.pieces.items) (embed v ∷ []) ∙ ap (λ z. z ++ v ∷ []) kept ∙ sym (embeds_append qs (embed v ∷ [])),
)
