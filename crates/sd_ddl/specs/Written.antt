-- A data graph as it is written: one canonical text for each graph.
use Rattle.std.specs.Prelude.{ℕ, List, [], ◌∷◌, ◌++◌, if◌then◌else◌, nat_eq, codes}
use Rattle.std.specs.List.{flat_map}
use Rattle.std.specs.Fmt.{signed_decimal}
use Rattle.sd_value.specs.declared.Datum.TheVariants.{Int, Text, Url, File, Node}
use Rattle.sd_value.specs.declared.Value.{Value}
use Rattle.sd_value.specs.declared.Value.TheVariants.{Data, Page}
use Rattle.graph_spec.specs.declared.Edge.{Edge}
use Rattle.graph_spec.specs.declared.Member.{Member}
use Rattle.graph_spec.specs.declared.Step.{Step}
use Rattle.graph_spec.specs.DataGraph.{DataGraph}
use Rattle.sd_ddl.specs.Kinds.{Name, same_name}

-- a quote, a backslash, a line feed, a carriage return and a tab have a backslash before them; any other byte is as it is
abbrev pub quoted_byte : ℕ → List ℕ
quoted_byte b =
    if nat_eq b 34 then codes "\\\""
    else (if nat_eq b 92 then codes "\\\\"
    else (if nat_eq b 10 then codes "\\n"
    else (if nat_eq b 13 then codes "\\r"
    else (if nat_eq b 9 then codes "\\t"
    else b ∷ []))))

abbrev pub quoted : Name → List ℕ
quoted s = codes "\"" ++ flat_map quoted_byte s ++ codes "\""

-- no page is in a data graph
abbrev pub value_text : Value → List ℕ
value_text (Data (Int n)) = signed_decimal n
value_text (Data (Text s)) = quoted s
value_text (Data (Url s)) = codes "url " ++ quoted s
value_text (Data (File s)) = codes "file " ++ quoted s
value_text (Data (Node n)) = codes "&" ++ quoted n
value_text (Page p) = []

abbrev pub step_line : Step → List ℕ
step_line s = codes "  " ++ quoted s.label ++ codes " " ++ value_text s.end ++ codes "\n"

abbrev pub further_text : Name → List ℕ
further_text c = codes ", " ++ quoted c

abbrev pub in_text : List Name → List ℕ
in_text [] = []
in_text (c ∷ cs) = codes " in " ++ quoted c ++ flat_map further_text cs

abbrev pub object_text : Name → List Name → List Step → List ℕ
object_text n collections steps =
    codes "object " ++ quoted n ++ in_text collections
    ++ codes " {\n" ++ flat_map step_line steps ++ codes "}\n"

abbrev pub collection_if : Name → Member → List Name
collection_if n m = if same_name m.node n then m.collection ∷ [] else []

-- the collections of a node, in their order
abbrev pub collections_of : List Member → Name → List Name
collections_of members n = flat_map (collection_if n) members

-- an edge as its start's object has it
abbrev pub step_of : Edge → Step
step_of e = record { label = e.label; end = e.to }

abbrev pub step_if : Name → Edge → List Step
step_if n e = if same_name e.from n then step_of e ∷ [] else []

-- the labels and ends of a node's edges, in their order
abbrev pub steps_out : List Edge → Name → List Step
steps_out edges n = flat_map (step_if n) edges

abbrev pub node_text : DataGraph → Name → List ℕ
node_text G n = object_text n (collections_of G.members n) (steps_out G.edges n)

-- each node's object, ascending
abbrev pub graph_text : DataGraph → List ℕ
graph_text G = flat_map (node_text G) G.nodes
