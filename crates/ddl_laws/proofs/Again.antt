-- A graph's text, read into an empty builder with room, gives the graph again.
use Rattle.std.proofs.Common.{◌≡◌, refl, Bool, true, false, List, [], ◌∷◌, ◌++◌, Contains, if◌then◌else◌}
use Rattle.std.specs.Prelude.{ℤ}
use Rattle.sd_value.specs.declared.Datum.TheVariants.{Int, Text, Url, File, Node}
use Rattle.sd_value.specs.declared.Value.{Value}
use Rattle.sd_value.specs.declared.Value.TheVariants.{Data, Page}
use Rattle.sd_value.specs.Members.{Contains-here, Contains-there}
use Rattle.graph_spec.specs.declared.Edge.{Edge}
use Rattle.graph_spec.specs.declared.Step.{Step as Arrow}
use Rattle.graph_spec.specs.DataGraph.{DataGraph, Name, IsWellFormed, IsEnd}
use Rattle.sd_ddl.specs.Kinds.{same_name}
use Rattle.sd_ddl.specs.Parts.{parts}
use Rattle.sd_ddl.specs.Steps.{steps}
use Rattle.sd_ddl.specs.Written.{steps_out}
use Rattle.ddl_laws.specs.RoundTrip.{IsI64, HasI64s, IsReadAgain}
use Rattle.ddl_laws.proofs.Pieces.{Holds}
use Rattle.ddl_laws.proofs.Printed.{IsWritable}
use Rattle.ddl_laws.proofs.Numbers.{number_spelled}
use Rattle.ddl_laws.proofs.Written.{AllWritable, text_spells}
use Rattle.ddl_laws.proofs.Kindless.{steps_say}
use Rattle.ddl_laws.proofs.Rebuilt.{leads_to_G}

writable : (G : DataGraph) (v : Value) → IsEnd G v → ((n : ℤ) → v ≡ Data (Int n) → IsI64 n) → IsWritable v
writable G (Data (Int n)) e ints = number_spelled n (ints n refl)
writable G (Data (Text s)) e ints = tt
writable G (Data (Url s)) e ints = tt
writable G (Data (File s)) e ints = tt
writable G (Data (Node s)) e ints = tt
writable G (Page p) e ints = absurd e

steps_writable : (n : Name) (es : List Edge) → ((e : Edge) → Contains es e → IsWritable e.to) → Holds (λ (s : Arrow). IsWritable s.end) (steps_out es n)
steps_writable n [] h = tt
steps_writable n (e ∷ es) h = by (same_name e.from n) (h e (Contains-here e es)) (steps_writable n es (λ d m. h d (Contains-there e es d m)))
  where
    by : (b : Bool) → IsWritable e.to → Holds (λ (s : Arrow). IsWritable s.end) (steps_out es n) → Holds (λ (s : Arrow). IsWritable s.end) ((if b then record { label = e.label; end = e.to } ∷ [] else []) ++ steps_out es n)
    by true w rest = (w, rest)
    by false w rest = rest

all_writable : (G : DataGraph) → ((e : Edge) → Contains G.edges e → IsWritable e.to) → (ns : List Name) → Holds (AllWritable G) ns
all_writable G h [] = tt
all_writable G h (n ∷ ns) = (steps_writable n G.edges h, all_writable G h ns)

pub is_read_again : (G : DataGraph) → IsWellFormed G → HasI64s G → IsReadAgain G
is_read_again G well ints limits limit fits room =
    let spelled = text_spells G limit (all_writable G (λ e m. writable G e.to (well.ends_are_data e m) (λ n is. ints e n m is)) G.nodes) fits in
    (spelled.0, spelled.1, leads_to_G G well limits room (steps (parts spelled.0)) (steps_say G spelled.0 spelled.2))
