-- A wire in memory of which no call is to fail.
use Rattle.std.proofs.Common.{◌≡◌, ◌⊎◌, ℕ, Bool, true, false, [], refl, sym, ap, ◌∙◌, subst, inl, inr, true≢false}
use Rattle.std.proofs.Common.{Result, Ok, Err, Option, Some, None, OnOk, OnErr, IsSome, IfSome, is_err}
use Rattle.std.proofs.lemmas.Bool.{cases_eq}
use Rattle.edge_io.specs.Counts.{Rose}
use Rattle.wire.specs.Accounts.{up}
use Rattle.wire.specs.Told.{WireReport, OtherFaultsStay}
use Rattle.mem_wire.specs.Sent.{Sent}
use Rattle.mem_wire.specs.WireInMemory.{WireInMemory, entry_of, faults_of, faults_in, told_of, is_named, fails_next, cut_for}
use Rattle.mem_wire.specs.WireInMemory.{next_cut, IsNew, ListsStay}
use Rattle.mem_wire.specs.Steady.{IsSteady, steady_told}

-- nothing failed on a new wire
pub new_fine : (e : Option Sent) → IfSome e IsNew → faults_of e ≡ 0
new_fine None new = refl
new_fine (Some e) new = ap (λ (s : Sent). s.faults) new

-- ---- no call fails

pub none_fails : (w : WireInMemory) → IsSteady w → fails_next w ≡ false
none_fails w steady = ap (λ failing. is_named failing (up w.calls)) steady.calls

pub none_named : (w : WireInMemory) → IsSteady w → fails_next w ≡ true → ⊥
none_named w steady named = true≢false (sym named ∙ none_fails w steady)

no_cut : (connection : ℕ) (e : Option Sent) → cut_for [] connection e ≡ None
no_cut connection None = refl
no_cut connection (Some e) = refl

none_cut : (w : WireInMemory) (connection : ℕ) → IsSteady w → next_cut w connection ≡ None
none_cut w connection steady =
    ap (λ sends. cut_for sends connection (entry_of w connection)) steady.sends ∙ no_cut connection (entry_of w connection)

pub never_err : {T E : Type 0} (result : Result T E) → is_err result ≡ false → OnErr result (Rose 0 0)
never_err (Ok x) fine = tt
never_err (Err e) fine = absurd (true≢false fine)

pub same_count : {T E : Type 0} (result : Result T E) → OnOk result (◌≡◌ {A = ℕ} 0 0)
same_count (Ok x) = refl
same_count (Err e) = tt

pub same_told : (before after : WireInMemory) → told_of after ≡ told_of before → steady_told after ≡ steady_told before
same_told before after same = ap (λ (t : WireReport). record t { next_faults = 0 }) same

-- ---- it stays so

-- after a call that sends nothing
pub still_steady : (before after : WireInMemory) → IsSteady before → ListsStay before after → after.is_short ≡ before.is_short
    → ((number : ℕ) → faults_in after number ≡ faults_in before number) → IsSteady after
still_steady before after steady lists short faults = record {
  calls = lists.0 ∙ steady.calls;
  sends = lists.1 ∙ steady.sends;
  fine = λ e number. faults number ∙ steady.fine (sym short ∙ e) number;
}

-- after a call that leaves all counts of failed sends
pub called_steady : (before after : WireInMemory) → IsSteady before → ListsStay before after → after.is_short ≡ before.is_short
    → faults_in after ≡ faults_in before → IsSteady after
called_steady before after steady lists short faults =
    still_steady before after steady lists short (λ number. ap (λ (counts : ℕ → ℕ). counts number) faults)

not_before : (a b : Bool) → (a ≡ true → b ≡ true) → b ≡ false → a ≡ false
not_before true b stays e = absurd (true≢false (sym (stays refl) ∙ e))
not_before false b stays e = refl

module _ (connection : ℕ) (before after : WireInMemory) (steady : IsSteady before) where
  -- where memory was refused for no send, this one did not fail
  fine_here : {T E : Type 0} (result : Result T E) → OnOk result (faults_in after connection ≡ faults_in before connection)
      → OnErr result ((after.is_short ≡ true) ⊎ IsSome (next_cut before connection)) → after.is_short ≡ false
      → faults_in after connection ≡ faults_in before connection
  fine_here (Ok x) fine cut e = fine
  fine_here (Err error) fine (inl short) e = absurd (true≢false (sym short ∙ e))
  fine_here (Err error) fine (inr some) e = absurd (true≢false (sym (subst IsSome (none_cut before connection steady) some)))

  fine_at : {T E : Type 0} (result : Result T E) → OnOk result (faults_in after connection ≡ faults_in before connection)
      → OnErr result ((after.is_short ≡ true) ⊎ IsSome (next_cut before connection))
      → OtherFaultsStay connection (told_of before) (told_of after) → after.is_short ≡ false
      → (number : ℕ) → (number ≡ connection) ⊎ (number ≡ connection → ⊥) → faults_in after number ≡ faults_in before number
  fine_at result fine cut others e number (inl same) =
      subst (λ n. faults_in after n ≡ faults_in before n) (sym same) (fine_here result fine cut e)
  fine_at result fine cut others e number (inr other) = others number other

  -- after a send
  pub sent_steady : {T E : Type 0} (result : Result T E) → ListsStay before after → (before.is_short ≡ true → after.is_short ≡ true)
      → OnOk result (faults_in after connection ≡ faults_in before connection)
      → OnErr result ((after.is_short ≡ true) ⊎ IsSome (next_cut before connection))
      → OtherFaultsStay connection (told_of before) (told_of after) → IsSteady after
  sent_steady result lists stays fine cut others = record {
    calls = lists.0 ∙ steady.calls;
    sends = lists.1 ∙ steady.sends;
    fine = λ e number. fine_at result fine cut others e number (cases_eq number connection)
        ∙ steady.fine (not_before before.is_short after.is_short stays e) number;
  }
