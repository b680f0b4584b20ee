-- Bytes that a writer takes in parts.
use Rattle.std.proofs.Common.{arith, ◌≡◌, ◌≤◌, ℕ, ◌+◌, ◌-◌, List, ◌++◌, take, drop, length, Option, None, Some, append_assoc, sym, subst, length-drop}
use Rattle.std.proofs.Math.Seq.{take-add}
use Rattle.std.proofs.lemmas.List.{take_all}
use Rattle.std.specs.Io.KnownBytes.{Appends, Keeps}

-- one part and then the next
appends_both
    : (a b c : Option (List ℕ)) (xs ys : List ℕ) → Appends a b xs → Appends b c ys
    → Appends a c (xs ++ ys)
appends_both None b c xs ys one two = tt
appends_both (Some x) None c xs ys one two = absurd one
appends_both (Some x) (Some y) None xs ys one two = absurd two
appends_both (Some x) (Some y) (Some z) xs ys one two = grind (arith, append_assoc)

-- one part and then nothing
appends_kept
    : (a b c : Option (List ℕ)) (xs : List ℕ) → Appends a b xs → Keeps b c → Appends a c xs
appends_kept None b c xs one two = tt
appends_kept (Some x) None c xs one two = absurd one
appends_kept (Some x) (Some y) None xs one two = absurd two
appends_kept (Some x) (Some y) (Some z) xs one two = cc

-- the front of the bytes, and then the front of the others
pub more_taken
    : (a b c : Option (List ℕ)) (bytes : List ℕ) (n m taken : ℕ) → taken ≡ n + m
    → n ≤ length bytes → m ≤ length (take (length bytes - n) (drop n bytes))
    → Appends a b (take n bytes)
    → Appends b c (take m (take (length bytes - n) (drop n bytes)))
    → (taken ≤ length bytes) × Appends a c (take taken bytes)
more_taken a b c bytes n m taken is within more one two =
    let whole : take (length bytes - n) (drop n bytes) ≡ drop n bytes =
    take_all (length bytes - n) (drop n bytes) (omega (arith, length-drop n bytes)) in
    let rest : m ≤ length (drop n bytes) = rw whole at more in
    let next : Appends b c (take m (drop n bytes)) = rw whole at two in (
      omega (arith, length-drop n bytes),
      rw is (subst (λ (front : List ℕ). Appends a c front) (sym (take-add n m bytes))
          (appends_both a b c (take n bytes) (take m (drop n bytes)) one next)),
    )

-- the front of the bytes, and then nothing
pub none_taken
    : (a b c : Option (List ℕ)) (bytes : List ℕ) (n taken : ℕ) → taken ≡ n → n ≤ length bytes
    → Appends a b (take n bytes) → Keeps b c
    → (taken ≤ length bytes) × Appends a c (take taken bytes)
none_taken a b c bytes n taken is within one two =
    rw is (within, appends_kept a b c (take n bytes) one two)
