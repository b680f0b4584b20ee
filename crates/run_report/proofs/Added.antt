-- What was added to a list of what happened, one part after another.
use Rattle.std.proofs.Common.{◌≡◌, ◌⊎◌, ◌∙◌, ℕ, List, [], ◌∷◌, ◌++◌, inl, inr, refl, sym, ap, subst, append_assoc}
use Rattle.std.proofs.lemmas.List.{append-nil}
use Rattle.std.specs.Prelude.{Result, Ok, Err, MatchResult, ⊤}
use Rattle.happenings.specs.Happening.{Happening, Put, PutFailed}
use Rattle.happenings.specs.declared.stream.Stream.{Stream}
use Rattle.run_report.specs.Told.{IsOnePut}

-- a part that is so was added
abbrev pub Added : (before after : List Happening) → (List Happening → Type 0) → Type 0
Added before after Is = (part : List Happening) × (after ≡ before ++ part) × Is part

module _ (a b c : List Happening) where
  -- one part after another
  pub added_then : (P Q R : List Happening → Type 0) → Added a b P → Added b c Q → ((p q : List Happening) → P p → Q q → R (p ++ q)) → Added a c R
  added_then P Q R x y whole = (x.0 ++ y.0, y.1 ∙ ap (λ r. r ++ y.0) x.1 ∙ append_assoc a x.0 y.0, whole x.0 y.0 x.2 y.2)

  -- one thing, and then a part
  pub added_behind : (h : Happening) (Q R : List Happening → Type 0) → b ≡ a ++ h ∷ [] → Added b c Q → ((q : List Happening) → Q q → R (h ∷ q)) → Added a c R
  added_behind h Q R is y whole = (h ∷ y.0, y.1 ∙ ap (λ r. r ++ y.0) is ∙ append_assoc a (h ∷ []) y.0, whole y.0 y.2)

-- nothing was added
pub added_none : (a b : List Happening) (R : List Happening → Type 0) → b ≡ a → R [] → Added a b R
added_none a b R same none = ([], same ∙ sym (append-nil a), none)

-- a put, whole or in part
pub one_put : {E : Type 0} (result : Result ⊤ E) (stream : Stream) (text : List ℕ) (before after : List Happening)
    → MatchResult result (λ _. after ≡ before ++ Put stream text ∷ []) (λ _. (taken : ℕ) × (after ≡ before ++ PutFailed stream text taken ∷ []))
    → Added before after (IsOnePut stream text)
one_put (Ok unit) stream text before after h = (Put stream text ∷ [], h, inl refl)
one_put (Err error) stream text before after h = (PutFailed stream text h.0 ∷ [], h.1, inr (h.0, refl))
