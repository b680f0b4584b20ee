-- What an event makes: replies, and look-ups of the pages that are asked for.
use Rattle.std.specs.Prelude.{◌≡◌, ◌≤◌, ◌-◌, ◌⊎◌, ℕ, List, [], ◌∷◌, length}
use Rattle.sd_value.specs.declared.Term.{Term}
use Rattle.http_spec.specs.declared.RequestKind.{RequestKind}
use Rattle.http_spec.specs.declared.RequestKind.TheVariants.{Get, Head, BadRequest, Misdirected, WrongMethod}
use Rattle.http_spec.specs.declared.Standing.{Standing}
use Rattle.http_spec.specs.declared.Standing.TheVariants.{Open, Closed, Short}

-- how many replies were made that are no 503, and the terms that were looked up, in this order
pub record Made : Type 0 where
  pub replies : ℕ
  pub terms : List Term

-- no reply, and no look-up
abbrev pub nothing : Made
nothing = record { replies = 0; terms = [] }

-- how many of the replies are no 503: if the connection is cut short, the last one is
abbrev pub replies_in : Standing → List (List ℕ) → ℕ
replies_in Open replies = length replies
replies_in Closed replies = length replies
replies_in Short replies = length replies - 1

-- the term of a target, if it has one
abbrev pub NamedBy : (List ℕ → Term → Type 0) → List ℕ → List Term → Type 0
NamedBy Names target terms =
    ((term : Term) × Names target term × (terms ≡ term ∷ []))
    ⊎ (((term : Term) → Names target term → ⊥) × (terms ≡ []))

-- what is looked up for an ask: the term of its target, where a page is asked for
abbrev pub LooksUp : (List ℕ → Term → Type 0) → RequestKind → List ℕ → List Term → Type 0
LooksUp Names Get target terms = NamedBy Names target terms
LooksUp Names Head target terms = NamedBy Names target terms
LooksUp Names BadRequest target terms = terms ≡ []
LooksUp Names Misdirected target terms = terms ≡ []
LooksUp Names WrongMethod target terms = terms ≡ []

-- one term more may be looked up if it was out of memory for its reply
abbrev pub MayLookUp : {A : Type 0} → Standing → List A → Type 0
MayLookUp Open extra = extra ≡ []
MayLookUp Closed extra = extra ≡ []
MayLookUp Short extra = length extra ≤ 1

-- what is kept after the terms were looked up, one after another
abbrev pub AllLooked : {C : Type 0} → (C → Term → C → Type 0) → C → List Term → C → Type 0
AllLooked Looks before [] after = after ≡ before
AllLooked {C} Looks before (term ∷ terms) after =
    (between : C) × Looks before term between × AllLooked Looks between terms after
