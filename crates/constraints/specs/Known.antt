-- The faults of names by a list of functions.
use Rattle.std.specs.Prelude.{ℕ, List, [], ◌∷◌, Bool, ◌&&◌, nat_lt, filter, Option, Some, None, if◌then◌else◌}
use Rattle.std.specs.List.{list_any}
use Rattle.std.specs.Ordering.{is_eq}
use Rattle.sd_value.specs.Order.{bytes_cmp}
use Rattle.schema.specs.declared.SchemaFunction.{SchemaFunction}
use Rattle.constraints.specs.declared.refusal.NameFault.{NameFault}
use Rattle.constraints.specs.declared.refusal.NameFault.TheVariants.{Unknown, HasArguments}
use Rattle.constraints.specs.Names.{Named}

-- the functions of this name
abbrev pub named_so : List SchemaFunction → List ℕ → List SchemaFunction
named_so functions name = filter (λ f. is_eq (bytes_cmp f.name name)) functions

-- whether one of them has arguments
abbrev pub has_arguments : List SchemaFunction → Bool
has_arguments functions = list_any (λ f. nat_lt 0 f.arity) functions

-- the fault of a name that these functions have
abbrev pub fault_among : Named → List SchemaFunction → Option NameFault
fault_among n [] = Some (Unknown n.word.place)
fault_among n (f ∷ functions) =
    if n.is_root && has_arguments (f ∷ functions) then Some (HasArguments n.word.place) else None

abbrev pub fault_from : List SchemaFunction → Named → Option NameFault
fault_from functions n = fault_among n (named_so functions n.word.text)

abbrev pub or_else : Option NameFault → Option NameFault → Option NameFault
or_else None other = other
or_else (Some fault) other = Some fault

-- the first fault
abbrev pub first_from : List SchemaFunction → List Named → Option NameFault
first_from functions [] = None
first_from functions (n ∷ names) = or_else (fault_from functions n) (first_from functions names)
