-- The text of a value, cycles of embedding, and the outcome of a page.
use Rattle.std.specs.Prelude.{◌≡◌, ◌⊎◌, Option, ℕ, zero, suc, ◌≤◌, ◌<◌, List, [], ◌∷◌, ◌++◌, length}
use Rattle.std.specs.Prelude.{Contains}
use Rattle.sd_value.specs.Names.{Name}
use Rattle.sd_value.specs.declared.Term.{Term}
use Rattle.sd_value.specs.declared.Value.{Value}
use Rattle.sd_value.specs.declared.Value.TheVariants.{Page}
use Rattle.tmpl.specs.Body.{TemplateFile}
use Rattle.page_spec.specs.declared.Outcome.{Outcome}
use Rattle.page_spec.specs.declared.Outcome.TheVariants.{Page as Whole, Missing, Cyclic, TooLong}
use Rattle.page_spec.specs.declared.TheConstants.{PAGE_LIMIT}
use Rattle.page_spec.specs.Site.{Site}
use Rattle.page_spec.specs.Address.{TermOf}
use Rattle.page_spec.specs.Pieces.{Item, byte, embed, HasTemplate, Pieces}

-- the bytes, with a text of each embedded value in its place
abbrev pub Filled : (Value → List ℕ → Type 0) → List Item → List ℕ → Type 0
Filled P [] t = t ≡ []
Filled P (byte b ∷ ps) t = (u : List ℕ) × Filled P ps u × (t ≡ b ∷ u)
Filled P (embed m ∷ ps) t = (a : List ℕ) × (u : List ℕ) × P m a × Filled P ps u × (t ≡ a ++ u)

-- m is the first embed of which P holds
abbrev pub FirstEmbed : (Value → Type 0) → List Item → Value → Type 0
FirstEmbed P [] m = ⊥
FirstEmbed P (byte b ∷ ps) m = FirstEmbed P ps m
FirstEmbed P (embed k ∷ ps) m = (P k × (k ≡ m)) ⊎ ((P k → ⊥) × FirstEmbed P ps m)

module _ (site : Site) (templates : TemplateFile) where
  -- the text of a value, where no more than h values are one within another
  abbrev pub Text : ℕ → Value → List ℕ → Type 0
  Text zero n t = ⊥
  Text (suc h) n t = (ps : List Item) × Pieces site templates n ps × Filled (Text h) ps t

  -- the text of a value
  abbrev pub HasText : Value → List ℕ → Type 0
  HasText n t = (h : ℕ) × Text h n t

  -- n embeds m
  abbrev pub Embeds : Value → Value → Type 0
  Embeds n m = (ps : List Item) × Pieces site templates n ps × Contains ps (embed m)

  -- a path of embeds, perhaps of none, leads from n to m
  pub data Leads : Value → Value → Type 0 where
    nowhere : {n : Value} → Leads n n
    on : {n k m : Value} → Embeds n k → Leads k m → Leads n m

  -- a path of embeds from n meets some value twice
  abbrev pub Loops : Value → Type 0
  Loops n = (m : Value) × (k : Value) × Leads n m × Embeds m k × Leads k m

  -- m is the first embed of n from which a cycle is reached
  abbrev pub FirstLooping : Value → Value → Type 0
  FirstLooping n m = (ps : List Item) × Pieces site templates n ps × FirstEmbed Loops ps m

  -- on the way from n, after the values `seen`, m is the first that comes again
  pub data FirstRepeated : List Value → Value → Value → Type 0 where
    again : {seen : List Value} {n : Value} → Contains seen n → FirstRepeated seen n n
    later : {seen : List Value} {n k m : Value}
        → (Contains seen n → ⊥) → FirstLooping n k → FirstRepeated (n ∷ seen) k m
        → FirstRepeated seen n m

  -- m is the value that a cycle of n's embedding is named by
  abbrev pub IsCyclicAt : Value → Value → Type 0
  IsCyclicAt n m = FirstRepeated [] n m

  -- the term is in the site, and its function has a template
  abbrev pub IsPresent : Term → Type 0
  IsPresent t = site.has t × ((k : ℕ) × HasTemplate site templates (Page t) k)

  -- what asking for the page of the term gives
  abbrev pub IsOutcome : Term → Outcome → Type 0
  IsOutcome t Missing = IsPresent t → ⊥
  IsOutcome t (Cyclic m) = IsPresent t × Loops (Page t) × IsCyclicAt (Page t) m
  IsOutcome t TooLong =
      IsPresent t × (Loops (Page t) → ⊥)
      × ((x : List ℕ) × HasText (Page t) x × (PAGE_LIMIT < length x))
  IsOutcome t (Whole x) =
      IsPresent t × (Loops (Page t) → ⊥) × HasText (Page t) x × (length x ≤ PAGE_LIMIT)

-- what a target gives: the outcome of the term that it names, or Missing where it names none
abbrev pub PageAt : Option Name → Site → TemplateFile → List ℕ → Outcome → Type 0
PageAt root site templates target o =
    ((t : Term) × TermOf root target t × IsOutcome site templates t o)
    ⊎ (((t : Term) → TermOf root target t → ⊥) × (o ≡ Missing))
