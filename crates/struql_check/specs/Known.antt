-- What the passes keep of the variables of a chain.
use Rattle.std.specs.Prelude.{◌≡◌, ℕ, ◌≤◌, Bool, false, not, nat_eq, if◌then◌else◌, List, [], ◌∷◌, ◌++◌, length, map, Option, Some, None}
use Rattle.query_spec.specs.Mentions.{first_mentions}
use Rattle.std.specs.List.{flat_map}
use Rattle.struql_ast.specs.declared.Block.{Block}
use Rattle.struql_ast.specs.Written.{Name, block_clauses}
use Rattle.struql_check.specs.declared.mentions.VariableUse.{VariableUse}
use Rattle.struql_check.specs.declared.names.Names.{Names}
use Rattle.struql_check.specs.declared.names.Names.TheVariants.{Few, Many}
use Rattle.struql_check.specs.Scope.{mentions}
use Rattle.struql_check.specs.declared.faults.Check.{Check}
use Rattle.struql_check.specs.declared.faults.Check.TheVariants.{NeverCreated, Arity, Reserved}
use Rattle.struql_check.specs.declared.terms.SeenTerm.{SeenTerm}
use Rattle.struql_check.specs.Faults.{IsPast, is_created, first_arity}

-- the names of mentions, each once
abbrev pub names_of : List VariableUse → List Name
names_of ms = first_mentions (map (λ m. m.name) ms)

-- the variables by first mention, as long as these are no more than 32, and then where the 33rd is
abbrev pub AreNames : List VariableUse → Names → Type 0
AreNames ms (Few known) = (known.items ≡ names_of ms) × (length known.items ≤ 32)
AreNames ms (Many at) = IsPast ms at

-- the mentions of the conditions round a block and of its own, block by block
abbrev pub here : List (List VariableUse) → Block → List (List VariableUse)
here round b = round ++ flat_map mentions (block_clauses b).conditions ∷ []

-- the functions that are in a CREATE
abbrev pub AreCreated : List SeenTerm → (Name → Bool) → Type 0
AreCreated all created = (f : Name) → created f ≡ is_created all f

-- how many arguments the first term of each function has
abbrev pub AreArities : List SeenTerm → (Name → Option ℕ) → Type 0
AreArities all arities = (f : Name) → arities f ≡ first_arity all f

-- the first of the two that there is
abbrev pub or_else : Option ℕ → Option ℕ → Option ℕ
or_else None other = other
or_else (Some n) other = Some n

-- there is a number, and it is another one
abbrev pub differs : Option ℕ → ℕ → Bool
differs None arity = false
differs (Some n) arity = not (nat_eq n arity)

-- the check of the least number that fails at a term
abbrev pub broken_term : (uncreated differing reserved : Bool) → Option Check
broken_term uncreated differing reserved =
    if uncreated then Some NeverCreated else
    (if differing then Some Arity else (if reserved then Some Reserved else None))
