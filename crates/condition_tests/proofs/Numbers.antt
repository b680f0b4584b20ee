-- Numbers, and the texts that spell them.
use Rattle.std.proofs.Common.{◌≡◌, ℕ, ℤ, pos, negsuc, ◌<◌, ◌^◌, List, arith, refl, ap, sym, ◌∙◌, subst, FitsSigned, w64, to_z, of_z}
use Rattle.std.proofs.Math.Facts.{leb_yes}
use Rattle.std.proofs.lemmas.Int.{to_z-of_z}
use Rattle.std.specs.Prelude.{◌↔◌, Some}
use Rattle.std.specs.Fmt.{signed_decimal}
use Rattle.std.specs.Str.{IsUtf8}
use Rattle.std.specs.Str.Parse.{ParsesSigned}
use Rattle.std.specs.declared.result.Result.{Result}
use Rattle.std.specs.declared.result.Result.TheVariants.{Ok}
use Rattle.std.specs.declared.cmp.Ordering.{Ordering}
use Rattle.std.specs.Ordering.{int_cmp}
use Rattle.std.proofs.lemmas.Fmt.{IsAscii-signed, parse-signed_decimal}
use Rattle.std.proofs.lemmas.Str.{IsUtf8-from_ascii}
use Rattle.std.specs.Int.Signed.{mag}
use Rattle.query_spec.specs.Holds.{AreTwins}
use Rattle.condition_tests.specs.Comparing.{IsInRange}

small : (n : ℤ) → IsInRange n → mag n < 2 ^ 63
small (pos k) r = (let l = leb_yes r.1.le in omega (arith, l))
small (negsuc k) r = (let l = leb_yes r.0.le in omega (arith, l))

pub spelled_utf8 : (n : ℤ) (bs : List ℕ) → IsInRange n → bs ≡ signed_decimal n → IsUtf8 bs
spelled_utf8 n bs r e = subst IsUtf8 (sym e) (IsUtf8-from_ascii (signed_decimal n) (IsAscii-signed n (small n r)))

pub spelled_parsed : {E : Type 0} (n : ℤ) (bs : List ℕ) (r : Result ℤ E) → IsInRange n → bs ≡ signed_decimal n → ParsesSigned w64 10 bs r → r ≡ Ok n
spelled_parsed n bs r range e h = parse-signed_decimal w64 n bs r (record { sfits = small n range }) (small n range) e h

module _ (version : ℕ) (text : List ℕ) (n : ℤ) (tells : (k : ℤ) → AreTwins version k text ↔ (Some n ≡ Some k)) where
  fits : FitsSigned w64 n
  fits = let t = (tells n).1 refl in record { sfits = small n (t.1, t.2) }

  pub order_by_second : (m : ℤ) (r : Ordering) → r ≡ int_cmp m (to_z w64 (of_z w64 n)) → (o : Ordering) → ((x : ℤ) × AreTwins version x text × (int_cmp m x ≡ o)) ↔ (Some r ≡ Some o)
  order_by_second m r read o =
      let is : r ≡ int_cmp m n = read ∙ (λ i. int_cmp m (to_z-of_z w64 n fits i)) in (
        (λ h. (let e : Some n ≡ Some h.0 = (tells h.0).0 h.1 in let same : n ≡ h.0 = cc in ap Some (is ∙ (ap (int_cmp m) same ∙ h.2)))),
        (λ e. (let same : r ≡ o = cc in (n, (tells n).1 refl, sym is ∙ same))),
      )

  pub order_by_first : (m : ℤ) (r : Ordering) → r ≡ int_cmp (to_z w64 (of_z w64 n)) m → (o : Ordering) → ((x : ℤ) × AreTwins version x text × (int_cmp x m ≡ o)) ↔ (Some r ≡ Some o)
  order_by_first m r read o =
      let is : r ≡ int_cmp n m = read ∙ (λ i. int_cmp (to_z-of_z w64 n fits i) m) in (
        (λ h. (let e : Some n ≡ Some h.0 = (tells h.0).0 h.1 in let same : n ≡ h.0 = cc in ap Some (is ∙ (ap (λ x. int_cmp x m) same ∙ h.2)))),
        (λ e. (let same : r ≡ o = cc in (n, (tells n).1 refl, sym is ∙ same))),
      )
