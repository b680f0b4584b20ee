-- The list of what happened, and the accounts.
use Rattle.std.proofs.Common.{◌≡◌, ◌≢◌, ◌⊎◌, ℕ, List, [], ◌∷◌, ◌++◌, All, take, sym, ap, ◌∙◌, append_assoc, refl, subst, inl, inr, Option, Some, None}
use Rattle.std.proofs.lemmas.List.{append-nil}
use Rattle.std.proofs.lemmas.Grind.{flat_map-append}
use Rattle.std.proofs.lemmas.List.Elements.{All-nil, All-cons, All-head, All-tail}
use Rattle.std.proofs.lemmas.Bool.{cases_eq}
use Rattle.happenings.specs.Happening.{Happening, Sent, SendFailed, Closed}
use Rattle.wire.specs.Accounts.{Account, Deed, Took, Shut, after_deeds, send_to, close_to, deed_to, account_in}
use Rattle.wire.specs.Noted.{IsDeed, AreAccountedFor, Noted}
use Rattle.wire.proofs.AccountLemmas.{deed_here, deed_elsewhere}

-- ---- accounts after deeds

pub no_deeds : (a : Option Account) → after_deeds [] a ≡ a
no_deeds None = refl
no_deeds (Some a) = ap Some (append-nil a)

more_deeds : (first next : List Deed) (a : Option Account) → after_deeds next (after_deeds first a) ≡ after_deeds (first ++ next) a
more_deeds first next None = refl
more_deeds first next (Some a) = ap Some (append_assoc a first next)

-- ---- parts, one after another

pub told_none : (accounts : ℕ → Option Account) → AreAccountedFor [] accounts accounts
told_none accounts = record { deeds = All-nil IsDeed; each = λ number. sym (no_deeds (accounts number)) }

told_then : (first next : List Happening) (old now new : ℕ → Option Account) → AreAccountedFor first old now → AreAccountedFor next now new → AreAccountedFor (first ++ next) old new
told_then first next old now new one two = record {
  deeds = all_more first one.deeds;
  each = λ number. two.each number ∙ ap (after_deeds (account_in next number)) (one.each number)
      ∙ more_deeds (account_in first number) (account_in next number) (old number)
      ∙ ap (λ deeds. after_deeds deeds (old number)) (sym (flat_map-append (deed_to number) first next));
}
  where
    all_more : (hs : List Happening) → All IsDeed hs → All IsDeed (hs ++ next)
    all_more [] each = two.deeds
    all_more (h ∷ hs) each = All-cons IsDeed h (hs ++ next) (All-head IsDeed h hs each) (all_more hs (All-tail IsDeed h hs each))

pub noted_none : (trace : List Happening) (accounts : ℕ → Option Account) → Noted trace trace accounts accounts
noted_none trace accounts = record { part = []; added = sym (append-nil trace); told = told_none accounts }

pub noted_then : (before between after : List Happening) (old now new : ℕ → Option Account) → Noted before between old now → Noted between after now new
    → Noted before after old new
noted_then before between after old now new one two = record {
  part = one.part ++ two.part;
  added = two.added ∙ ap (λ trace. trace ++ two.part) one.added ∙ append_assoc before one.part two.part;
  told = told_then one.part two.part old now new one.told two.told;
}

-- ---- one send or close

noted_one : (before after : List Happening) (old new : ℕ → Option Account) (k : ℕ) (h : Happening) (deeds : List Deed) → IsDeed h
    → account_in (h ∷ []) k ≡ deeds → ((number : ℕ) → number ≢ k → account_in (h ∷ []) number ≡ []) → after ≡ before ++ h ∷ []
    → new k ≡ after_deeds deeds (old k) → ((number : ℕ) → number ≢ k → new number ≡ old number) → Noted before after old new
noted_one before after old new k h deeds is here elsewhere added own others = record {
  part = h ∷ [];
  added = added;
  told = record { deeds = All-cons IsDeed h [] is (All-nil IsDeed); each = λ number. at number (cases_eq number k) };
}
  where
    at : (number : ℕ) → (number ≡ k) ⊎ (number ≡ k → ⊥) → new number ≡ after_deeds (account_in (h ∷ []) number) (old number)
    at number (inl same) =
        subst (λ n. new n ≡ after_deeds (account_in (h ∷ []) n) (old n)) (sym same) (own ∙ ap (λ d. after_deeds d (old k)) (sym here))
    at number (inr other) =
        others number other ∙ sym (no_deeds (old number)) ∙ ap (λ d. after_deeds d (old number)) (sym (elsewhere number other))

pub noted_sent : (before after : List Happening) (old new : ℕ → Option Account) (k : ℕ) (bytes : List ℕ) → after ≡ before ++ Sent k bytes ∷ []
    → new k ≡ send_to (old k) bytes → ((number : ℕ) → number ≢ k → new number ≡ old number) → Noted before after old new
noted_sent before after old new k bytes added own others =
    noted_one before after old new k (Sent k bytes) (Took bytes ∷ []) tt (deed_here k (Took bytes)) (deed_elsewhere k (Took bytes)) added own others

pub noted_cut : (before after : List Happening) (old new : ℕ → Option Account) (k : ℕ) (bytes : List ℕ) (taken : ℕ) → after ≡ before ++ SendFailed k bytes taken ∷ []
    → new k ≡ send_to (old k) (take taken bytes) → ((number : ℕ) → number ≢ k → new number ≡ old number) → Noted before after old new
noted_cut before after old new k bytes taken added own others =
    noted_one before after old new k (SendFailed k bytes taken) (Took (take taken bytes) ∷ []) tt (deed_here k (Took (take taken bytes)))
    (deed_elsewhere k (Took (take taken bytes))) added own others

pub noted_closed : (before after : List Happening) (old new : ℕ → Option Account) (k : ℕ) → after ≡ before ++ Closed k ∷ []
    → new k ≡ close_to (old k) → ((number : ℕ) → number ≢ k → new number ≡ old number) → Noted before after old new
noted_closed before after old new k added own others =
    noted_one before after old new k (Closed k) (Shut ∷ []) tt (deed_here k Shut) (deed_elsewhere k Shut) added own others
