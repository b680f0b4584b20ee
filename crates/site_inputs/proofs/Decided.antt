-- The inputs decide one end of each part of a run.
use Rattle.std.proofs.Common.{◌≡◌, inl, inr, sym, ap, ◌∙◌}
use Rattle.std.specs.Prelude.{Result, Ok, Err}
use Rattle.site_inputs.specs.Runs.{Both, Then, EndsWith, IsDecided, IsDecidedFault, Decides}
use Rattle.site_inputs.specs.declared.fault.Fault.{Fault}
use Rattle.site_inputs.specs.declared.fault.Fault.TheVariants.{NoMemory}

ok_value : {A : Type 0} (a b : A) → ◌≡◌ {A = Result A Fault} (Ok a) (Ok b) → a ≡ b
ok_value a b same = cc

err_fault : (A : Type 0) (f g : Fault) → ◌≡◌ {A = Result A Fault} (Err f) (Err g) → f ≡ g
err_fault A f g same = cc

err_value : (A : Type 0) (f : Fault) (a : A) → ◌≡◌ {A = Result A Fault} (Err f) (Ok a) → ⊥
err_value A f a same = cc

both_once : {A B : Type 0} (First : Result A Fault → Type 0) (Next : A → Result B Fault → Type 0)
    → Decides First → ((a : A) → Decides (Next a)) → (one other : Result B Fault)
    → Both First Next one → Both First Next other → IsDecided one → IsDecided other → one ≡ other
both_once {A} First Next first next one other b c d e =
    let same : b.value ≡ c.value = ok_value _ _ (first.once _ _ b.first c.first tt tt) in
    (next c.value).once one other (rw same at b.next) c.next d e

never : {A B : Type 0} (First : Result A Fault → Type 0) (Next : A → Result B Fault → Type 0) (result : Result B Fault) (fault : Fault)
    → Decides First → First (Err fault) → IsDecidedFault fault → Both First Next result → ⊥
never {A} First Next result fault first faulty d b = err_value A fault b.value (first.once (Err fault) (Ok b.value) faulty b.first d tt)

then_once : {A B : Type 0} (First : Result A Fault → Type 0) (Next : A → Result B Fault → Type 0)
    → Decides First → ((a : A) → Decides (Next a)) → (one other : Result B Fault)
    → Then First Next one → Then First Next other → IsDecided one → IsDecided other → one ≡ other
then_once First Next first next (Ok a) (Ok b) s t d e = both_once First Next first next (Ok a) (Ok b) s t d e
then_once First Next first next (Ok a) (Err g) s (inl t) d e = absurd (never First Next (Ok a) g first t e s)
then_once First Next first next (Ok a) (Err g) s (inr t) d e = both_once First Next first next (Ok a) (Err g) s t d e
then_once First Next first next (Err f) (Ok b) (inl s) t d e = absurd (never First Next (Ok b) f first s d t)
then_once First Next first next (Err f) (Ok b) (inr s) t d e = both_once First Next first next (Err f) (Ok b) s t d e
then_once {A} First Next first next (Err f) (Err g) (inl s) (inl t) d e = ap Err (err_fault A f g (first.once (Err f) (Err g) s t d e))
then_once First Next first next (Err f) (Err g) (inl s) (inr t) d e = absurd (never First Next (Err g) f first s d t)
then_once First Next first next (Err f) (Err g) (inr s) (inl t) d e = absurd (never First Next (Err f) g first t e s)
then_once First Next first next (Err f) (Err g) (inr s) (inr t) d e = both_once First Next first next (Err f) (Err g) s t d e

pub then_decides : {A B : Type 0} (First : Result A Fault → Type 0) (Next : A → Result B Fault → Type 0)
    → Decides First → ((a : A) → Decides (Next a)) → Decides (Then First Next)
then_decides First Next first next = record { once = then_once First Next first next }

-- out of memory is no decided end
pub no_memory : {A : Type 0} (result : Result A Fault) → result ≡ Err NoMemory → IsDecided result → ⊥
no_memory result is decided = rw is at decided

pub gives_decides : {A : Type 0} (a : A) → Decides (EndsWith a)
gives_decides {A} a = record { once = by }
  where
    by : (one other : Result A Fault) → EndsWith a one → EndsWith a other → IsDecided one → IsDecided other → one ≡ other
    by one other (inl s) (inl t) d e = s ∙ sym t
    by one other (inl s) (inr t) d e = absurd (no_memory other t e)
    by one other (inr s) t d e = absurd (no_memory one s d)
