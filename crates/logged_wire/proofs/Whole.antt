-- The lines of all that happened.
use Rattle.std.proofs.Common.{◌≡◌, ℕ, ◌≤◌, List, [], ◌∷◌, ◌++◌, Option, inl, inr, refl, sym, ap, ◌∙◌, arith, subst, append_assoc}
use Rattle.std.proofs.lemmas.List.{append-nil}
use Rattle.edge_io.specs.Counts.{Rose}
use Rattle.happenings.specs.Happening.{Happening, Sent, SendFailed}
use Rattle.logged_wire.specs.Logged.{Kept, Notes, NotesAll, came_in, came_after, lines_of, logged_after, reply_line}

-- no miss was counted
no_miss : (before after : ℕ) → after ≡ 0 → Rose before after → ⊥
no_miss before after none rose = omega (arith, none, rose)

-- misses are never taken back
never_fewer : (trace : List Happening) (before after : Kept) → NotesAll trace before after → before.misses ≤ after.misses
never_fewer [] before after same = let misses : after.misses ≡ before.misses = ap (λ (k : Kept). k.misses) same in omega (arith, misses)
never_fewer (h ∷ trace) before after (between, first, rest) =
    let one : before.misses ≤ between.misses = first.misses in
    let others : between.misses ≤ after.misses = never_fewer trace between after rest in
    omega (arith, one, others)

none_before : (first last : ℕ) → first ≤ last → last ≡ 0 → first ≡ 0
none_before first last le none = omega (arith, le, none)

-- the line of what happened depends on what came alone
same_lines : (h : Happening) (came other : ℕ → Option (List ℕ)) → ((k : ℕ) → came k ≡ other k) → lines_of h came ≡ lines_of h other
same_lines (Sent k reply) came other same = ap (λ c. reply_line c reply ∷ []) (same k)
same_lines (SendFailed k reply taken) came other same = ap (λ c. reply_line c reply ∷ []) (same k)
same_lines h came other same = refl

pub whole : (trace : List Happening) (came : ℕ → Option (List ℕ)) (before after : Kept) → ((k : ℕ) → came_in before k ≡ came k) → NotesAll trace before after
    → after.misses ≡ 0 → after.lines ≡ before.lines ++ logged_after came trace
whole [] came before after same is none = ap (λ (k : Kept). k.lines) is ∙ sym (append-nil before.lines)
whole (h ∷ trace) came before after same (between, first, rest) none =
    whole trace (λ k. came_after h k (came k)) between after now rest none
    ∙ ap (λ lines. lines ++ logged_after (λ k. came_after h k (came k)) trace) line
    ∙ append_assoc before.lines (lines_of h came) (logged_after (λ k. came_after h k (came k)) trace)
  where
    none_yet : between.misses ≡ 0
    none_yet = none_before between.misses after.misses (never_fewer trace between after rest) none

    line : between.lines ≡ before.lines ++ lines_of h came
    line = elim first.lines [
      | inl put ↦ put ∙ ap (λ lines. before.lines ++ lines) (same_lines h (came_in before) came same)
      | inr missed ↦ absurd (no_miss before.misses between.misses none_yet missed.1)
    ]

    now : (k : ℕ) → came_in between k ≡ came_after h k (came k)
    now k = elim (first.came k) [
      | inl is ↦ is ∙ ap (came_after h k) (same k)
      | inr missed ↦ absurd (no_miss before.misses between.misses none_yet missed.1)
    ]
