-- What replies and happenings add to an account.
use Rattle.std.proofs.Common.{◌≡◌, ◌≢◌, ◌==◌, ℕ, Bool, List, [], ◌∷◌, ◌++◌, take, map, sym, ap, ◌∙◌, append_assoc, refl, inl, inr, Some, if◌then◌else◌}
use Rattle.std.proofs.lemmas.List.{append-nil}
use Rattle.std.proofs.lemmas.Grind.{flat_map-append}
use Rattle.std.proofs.lemmas.Bool.Decides.{eqb_tells}
use Rattle.happenings.specs.Happening.{Happening, Sent, SendFailed, Closed}
use Rattle.wire.specs.Accounts.{Account, Deed, Took, Shut, gain, deed_to, account_in}

pub gain_told : (a : Account) (replies : List (List ℕ)) → gain (Some a) replies ≡ Some (a ++ map Took replies)
gain_told a [] = ap Some (sym (append-nil a))
gain_told a (r ∷ replies) = gain_told (a ++ Took r ∷ []) replies ∙ ap Some (append_assoc a (Took r ∷ []) (map Took replies))

-- one happening more
more_in : (trace : List Happening) (h : Happening) (number : ℕ) → account_in (trace ++ h ∷ []) number ≡ account_in trace number ++ (deed_to number h ++ [])
more_in trace h number = flat_map-append (deed_to number) trace (h ∷ [])

-- a deed of the connection k, as its account and another have it
pub deed_here : (k : ℕ) (deed : Deed) → (if k == k then deed ∷ [] else []) ++ [] ≡ deed ∷ []
deed_here k deed =
    elim (eqb_tells k k) [ inl same ↦ ap (λ (b : Bool). (if b then deed ∷ [] else []) ++ []) same.0 | inr other ↦ absurd (other.1 refl) ]

pub deed_elsewhere : (k : ℕ) (deed : Deed) (number : ℕ) → number ≢ k → (if k == number then deed ∷ [] else []) ++ [] ≡ []
deed_elsewhere k deed number ne =
    elim (eqb_tells k number) [ inl same ↦ absurd (ne (sym same.1)) | inr other ↦ ap (λ (b : Bool). (if b then deed ∷ [] else []) ++ []) other.0 ]

module _ (trace : List Happening) (k : ℕ) where
  pub sent_in : (bytes : List ℕ) → account_in (trace ++ Sent k bytes ∷ []) k ≡ account_in trace k ++ Took bytes ∷ []
  sent_in bytes = more_in trace (Sent k bytes) k ∙ ap (λ d. account_in trace k ++ d) (deed_here k (Took bytes))

  pub cut_in : (bytes : List ℕ) (taken : ℕ) → account_in (trace ++ SendFailed k bytes taken ∷ []) k ≡ account_in trace k ++ Took (take taken bytes) ∷ []
  cut_in bytes taken = more_in trace (SendFailed k bytes taken) k ∙ ap (λ d. account_in trace k ++ d) (deed_here k (Took (take taken bytes)))

  pub closed_in : account_in (trace ++ Closed k ∷ []) k ≡ account_in trace k ++ Shut ∷ []
  closed_in = more_in trace (Closed k) k ∙ ap (λ d. account_in trace k ++ d) (deed_here k Shut)

  -- of another connection
  pub sent_other : (bytes : List ℕ) (number : ℕ) → number ≢ k → account_in (trace ++ Sent k bytes ∷ []) number ≡ account_in trace number
  sent_other bytes number ne =
      more_in trace (Sent k bytes) number ∙ ap (λ d. account_in trace number ++ d) (deed_elsewhere k (Took bytes) number ne) ∙ append-nil (account_in trace number)

  pub cut_other : (bytes : List ℕ) (taken number : ℕ) → number ≢ k → account_in (trace ++ SendFailed k bytes taken ∷ []) number ≡ account_in trace number
  cut_other bytes taken number ne =
      more_in trace (SendFailed k bytes taken) number ∙ ap (λ d. account_in trace number ++ d) (deed_elsewhere k (Took (take taken bytes)) number ne)
      ∙ append-nil (account_in trace number)

  pub closed_other : (number : ℕ) → number ≢ k → account_in (trace ++ Closed k ∷ []) number ≡ account_in trace number
  closed_other number ne =
      more_in trace (Closed k) number ∙ ap (λ d. account_in trace number ++ d) (deed_elsewhere k Shut number ne) ∙ append-nil (account_in trace number)
