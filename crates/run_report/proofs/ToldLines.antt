-- What putting the line of a status notes.
use Rattle.std.proofs.Common.{◌≡◌, ◌≢◌, ℕ, List, [], ◌∷◌, ◌++◌, refl, sym, subst, ◌∙◌, inl, inr}
use Rattle.std.specs.Prelude.{codes, Result, Ok, Err, MatchResult}
use Rattle.happenings.specs.Happening.{Happening, Put, PutFailed}
use Rattle.happenings.specs.declared.stream.Stream.{Stream}
use Rattle.run_report.specs.declared.status.Status.{Status}
use Rattle.run_report.specs.declared.status.Status.TheVariants as status
use Rattle.run_report.specs.declared.status.Status.TheVariants.{NotAllYes, FileFault}
use Rattle.run_report.specs.Report.{line, message}
use Rattle.run_report.specs.Told.{IsOnePut, TellsText, IsTold}

-- a list of what happened that grew by the put of this text
abbrev pub Grew : (Is : List Happening → Type 0) (before now : List Happening) → Type 0
Grew Is before now = (part : List Happening) × (now ≡ before ++ part) × Is part

module _ (stream : Stream) (before now : List Happening) where
  -- a put notes itself
  pub put_notes : {T E : Type 0} (text : List ℕ) (result : Result T E) (Rest : ℕ → Type 0)
      → MatchResult result (λ _. now ≡ before ++ Put stream text ∷ [])
      (λ _. (taken : ℕ) × (now ≡ before ++ PutFailed stream text taken ∷ []) × Rest taken)
      → Grew (IsOnePut stream text) before now
  put_notes text (Ok x) Rest h = (Put stream text ∷ [], h, inl refl)
  put_notes text (Err e) Rest h = (PutFailed stream text h.0 ∷ [], h.1, inr (h.0, refl))

  -- a text that isn't empty was put
  pub put_tells : (text : List ℕ) → text ≢ [] → Grew (IsOnePut stream text) before now → Grew (TellsText stream text) before now
  put_tells text some h = (h.0, h.1, inr (some, h.2))

not_empty : (rest : List ℕ) → codes "strudel: " ++ rest ≡ [] → ⊥
not_empty rest e = cc

-- the line of a status is its text
told_of : (s : Status) (stream : Stream) (part : List Happening) → ((path : List ℕ) → s ≡ FileFault path → ⊥) → TellsText stream (line s) part → IsTold stream s part
told_of (FileFault path) stream part other h = absurd (other path refl)
told_of status.Ok stream part other (inl h) = h.1
told_of status.Ok stream part other (inr h) = absurd (h.0 refl)
told_of NotAllYes stream part other (inl h) = h.1
told_of NotAllYes stream part other (inr h) = absurd (h.0 refl)
told_of s stream part other (inl h) = absurd (not_empty (message s ++ codes "\n") h.0)
told_of s stream part other (inr h) = h.1

-- this text was told, and it is the line of the status
pub line_told : (s : Status) (stream : Stream) (text : List ℕ) (before now : List Happening) → text ≡ line s
    → ((path : List ℕ) → s ≡ FileFault path → ⊥) → Grew (TellsText stream text) before now → Grew (IsTold stream s) before now
line_told s stream text before now is other h = (h.0, h.1, told_of s stream h.0 other (subst (λ (t : List ℕ). TellsText stream t h.0) is h.2))

-- a line that has a part of its own isn't empty
pub own_told : (s : Status) (stream : Stream) (text : List ℕ) (before now : List Happening) → text ≡ line s
    → text ≡ codes "strudel: " ++ message s ++ codes "\n" → ((path : List ℕ) → s ≡ FileFault path → ⊥)
    → Grew (IsOnePut stream text) before now → Grew (IsTold stream s) before now
own_told s stream text before now is own other h =
    line_told s stream text before now is other (put_tells stream before now text (λ e. not_empty (message s ++ codes "\n") (sym own ∙ e)) h)
