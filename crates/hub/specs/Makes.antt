-- What a step makes, by the heads that it answers.
use Rattle.std.specs.Prelude.{◌≡◌, ◌⊎◌, ℕ, List, [], ◌∷◌, ◌++◌, Option}
use Rattle.httparse.specs.Grammar.{RequestHead}
use Rattle.sd_value.specs.declared.Term.{Term}
use Rattle.http_spec.specs.declared.RequestKind.{RequestKind}
use Rattle.http_spec.specs.declared.Standing.{Standing}
use Rattle.http_spec.specs.declared.Standing.TheVariants.{Open, Closed, Short}
use Rattle.http_spec.specs.Asks.{ask_of}
use Rattle.serving_spec.specs.Made.{Made, replies_in, LooksUp, MayLookUp}

-- what is looked up for an ask, where it may be out of memory for the reply: then it may be looked up or not
abbrev pub LooksFor : (List ℕ → Term → Type 0) → Standing → RequestKind → List ℕ → List Term
    → Type 0
LooksFor Names Open kind target terms = LooksUp Names kind target terms
LooksFor Names Closed kind target terms = LooksUp Names kind target terms
LooksFor Names Short kind target terms = (terms ≡ []) ⊎ LooksUp Names kind target terms

-- what is looked up for these heads, one after another, where requests for these hosts are answered
abbrev pub LooksUpAll : Option (List ℕ) → (List ℕ → Term → Type 0) → List RequestHead → List Term
    → Type 0
LooksUpAll hosts Names [] terms = terms ≡ []
LooksUpAll hosts Names (h ∷ heads) terms =
    (first : List Term) × (others : List Term)
    × LooksUp Names (ask_of hosts h).kind h.target first × LooksUpAll hosts Names heads others
    × (terms ≡ first ++ others)

-- what is made where these heads are answered by these replies
pub record Makes (hosts : Option (List ℕ)) (Names : List ℕ → Term → Type 0) (would : Standing)
    (heads : List RequestHead) (replies : List (List ℕ)) (made : Made) : Type 0 where
  pub looked : List Term
  pub extra : List Term
  pub count : made.replies ≡ replies_in would replies
  pub look_ups : LooksUpAll hosts Names heads looked
  pub may : MayLookUp would extra
  pub terms : made.terms ≡ looked ++ extra
