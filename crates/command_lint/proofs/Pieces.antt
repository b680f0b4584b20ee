-- A text that gains eight pieces, one after another.
use Rattle.std.proofs.Common.{◌≡◌, ℕ, List, ◌++◌, ap, ◌∙◌, append_assoc}

-- one piece more
gains : (t u so_far v a p : List ℕ) → u ≡ t ++ so_far → v ≡ u ++ a → a ≡ p → v ≡ t ++ (so_far ++ p)
gains t u so_far v a p is e same = e ∙ (ap (λ (x : List ℕ). x ++ a) is ∙ (ap (λ (x : List ℕ). (t ++ so_far) ++ x) same ∙ append_assoc t so_far p))

pub eight_pieces : (t t1 t2 t3 t4 t5 t6 t7 t8 a1 a2 a3 a4 a5 a6 a7 a8 p1 p2 p3 p4 p5 p6 p7 p8 : List ℕ)
    → t1 ≡ t ++ a1 → a1 ≡ p1 → t2 ≡ t1 ++ a2 → a2 ≡ p2 → t3 ≡ t2 ++ a3 → a3 ≡ p3 → t4 ≡ t3 ++ a4 → a4 ≡ p4
    → t5 ≡ t4 ++ a5 → a5 ≡ p5 → t6 ≡ t5 ++ a6 → a6 ≡ p6 → t7 ≡ t6 ++ a7 → a7 ≡ p7 → t8 ≡ t7 ++ a8 → a8 ≡ p8
    → t8 ≡ t ++ (((((((p1 ++ p2) ++ p3) ++ p4) ++ p5) ++ p6) ++ p7) ++ p8)
eight_pieces t t1 t2 t3 t4 t5 t6 t7 t8 a1 a2 a3 a4 a5 a6 a7 a8 p1 p2 p3 p4 p5 p6 p7 p8 e1 s1 e2 s2 e3 s3 e4 s4 e5 s5 e6 s6 e7 s7 e8 s8 =
    let one : t1 ≡ t ++ p1 = e1 ∙ ap (λ (x : List ℕ). t ++ x) s1 in
    let two = gains t t1 p1 t2 a2 p2 one e2 s2 in
    let three = gains t t2 (p1 ++ p2) t3 a3 p3 two e3 s3 in
    let four = gains t t3 ((p1 ++ p2) ++ p3) t4 a4 p4 three e4 s4 in
    let five = gains t t4 (((p1 ++ p2) ++ p3) ++ p4) t5 a5 p5 four e5 s5 in
    let six = gains t t5 ((((p1 ++ p2) ++ p3) ++ p4) ++ p5) t6 a6 p6 five e6 s6 in
    let seven = gains t t6 (((((p1 ++ p2) ++ p3) ++ p4) ++ p5) ++ p6) t7 a7 p7 six e7 s7 in
    gains t t7 ((((((p1 ++ p2) ++ p3) ++ p4) ++ p5) ++ p6) ++ p7) t8 a8 p8 seven e8 s8
