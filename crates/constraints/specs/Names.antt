-- The functions that constraints name: each stands in a CREATE of the query, and one behind FROM has no arguments.
use Rattle.std.specs.Prelude.{◌≡◌, ◌⊎◌, ℕ, suc, List, [], ◌∷◌, Bool, true, false, Option, Some, None}
use Rattle.std.specs.List.{flat_map}
use Rattle.token_reader.specs.declared.reading.Word.{Word}
use Rattle.query_spec.specs.Query.{Query}
use Rattle.site_spec.specs.Schema.{IsFunction}
use Rattle.constraints.specs.declared.reading.Phrase.{Phrase}
use Rattle.constraints.specs.declared.reading.Phrase.TheVariants.{Reachable, Each, Only, Never}
use Rattle.constraints.specs.declared.reading.Phrase.TheVariants.{One}
use Rattle.constraints.specs.declared.refusal.NameFault.{NameFault}
use Rattle.constraints.specs.declared.refusal.NameFault.TheVariants.{Unknown, HasArguments}

-- a function that is named, and whether it stands behind FROM
pub record Named : Type 0 where
  pub word : Word
  pub is_root : Bool

abbrev pub plain : Word → Named
plain w = record { word = w; is_root = false }

abbrev pub root : Word → Named
root w = record { word = w; is_root = true }

-- the functions of a constraint, in the order of the text
abbrev pub names_in : Phrase → List Named
names_in (Reachable f g) = plain f ∷ root g ∷ []
names_in (Each f label h) = plain f ∷ plain h ∷ []
names_in (Only f label h) = plain f ∷ plain h ∷ []
names_in (Never f label) = plain f ∷ []
names_in (One f label) = plain f ∷ []

module _ (IsKnown : List ℕ → ℕ → Type 0) where
  -- the name has this fault
  abbrev pub HasFault : Named → NameFault → Type 0
  HasFault n (Unknown at) =
      (at ≡ n.word.place) × ((arity : ℕ) → IsKnown n.word.text arity → ⊥)
  HasFault n (HasArguments at) =
      (at ≡ n.word.place) × (n.is_root ≡ true) × (more : ℕ) × IsKnown n.word.text (suc more)

  -- the name has no fault
  pub record IsRight (n : Named) : Type 0 where
    pub known : (arity : ℕ) × IsKnown n.word.text arity
    pub bare : n.is_root ≡ true → (more : ℕ) → IsKnown n.word.text (suc more) → ⊥

  -- the fault of the first name that has one, or none where no name has one
  abbrev pub FirstOf : List Named → Option NameFault → Type 0
  FirstOf [] first = first ≡ None
  FirstOf (n ∷ names) first =
      ((fault : NameFault) × HasFault n fault × (first ≡ Some fault))
      ⊎ (IsRight n × FirstOf names first)

-- of the names of these constraints, by the query's functions
abbrev pub FirstFaulty : Query → List Phrase → Option NameFault → Type 0
FirstFaulty q phrases first = FirstOf (IsFunction q) (flat_map names_in phrases) first
