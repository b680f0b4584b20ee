-- The steps of a text file: what it states, one after another, or why it is refused.
use Rattle.std.specs.Prelude.{◌+◌, ◌-◌, ℕ, List, [], ◌∷◌, ◌++◌, length, map, codes, not}
use Rattle.std.specs.Prelude.{Option, Some, None, Result, Ok, Err, ⊤, if◌then◌else◌}
use Rattle.std.specs.Str.{is_utf8}
use Rattle.std.specs.Str.Lossy.{utf8_valid_len}
use Rattle.sd_value.specs.declared.Value.TheVariants.{Data}
use Rattle.sd_value.specs.declared.Datum.TheVariants.{Text}
use Rattle.graph_spec.specs.DataGraph.{Name}
use Rattle.sd_graph.specs.Statement.{a_node, a_member, an_edge}
use Rattle.sd_graph.specs.Stating.{Step, says, fails, Ending, done, fault, too_many_nodes, too_many_edges, no_memory}
use Rattle.source_steps.specs.Names.{without_mark}
use Rattle.text_source.specs.declared.refusal.TextFileRefusal.{TextFileRefusal}
use Rattle.text_source.specs.declared.refusal.TextFileRefusal.TheVariants.{NotUtf8, Expected, TooManyEdges, TooManyNodes, NoMemory}
use Rattle.text_source.specs.Lines.{Line, lines_of, joined, front_lines, text_lines}
use Rattle.text_source.specs.declared.facts.Fact.{Fact}
use Rattle.text_source.specs.declared.facts.Fact.TheVariants.{Node, Member, Edge}
use Rattle.text_source.specs.Front.{said}

abbrev pub TextStep : Type 0
TextStep = Step ℕ TextFileRefusal

-- the statement of a fact of the file's node, at its place
abbrev pub step_of : Name → Fact → TextStep
step_of stem Node = says 0 (a_node stem)
step_of stem (Member collection) = says 0 (a_member collection stem)
step_of stem (Edge at label value) = says at (an_edge stem label (Data value))

-- a member of the collection named like the file's folder, where it has a name
abbrev pub folder_facts : Option Name → List Fact
folder_facts None = []
folder_facts (Some folder) = Member folder ∷ []

-- what is so of every text file
abbrev pub node_facts : Name → Option Name → List Fact
node_facts stem folder =
    Node ∷ Member (codes "texts")
    ∷ (folder_facts folder ++ Edge 0 (codes "name") (Text stem) ∷ [])

-- the node with what its front matter says and its text
abbrev pub file_facts : Name → Option Name → List Fact → List ℕ → List Fact
file_facts stem folder front text =
    node_facts stem folder ++ (front ++ Edge 0 (codes "text") (Text text) ∷ [])

-- these facts, unless the front matter is at fault
abbrev pub said_steps : Name → Option Name → Result (List Fact) ℕ → List ℕ → List TextStep
said_steps stem folder (Ok front) text = map (step_of stem) (file_facts stem folder front text)
said_steps stem folder (Err at) text = fails (Expected at) ∷ []

abbrev pub lines_steps : Name → Option Name → List Line → List TextStep
lines_steps stem folder lines =
    said_steps stem folder (said None (front_lines lines)) (joined (text_lines lines))

-- of the bytes after a mark, in a file of so many
abbrev pub unmarked_steps : Name → Option Name → ℕ → List ℕ → List TextStep
unmarked_steps stem folder size text =
    if not (is_utf8 text) then fails (NotUtf8 (size - length text + utf8_valid_len text)) ∷ []
    else lines_steps stem folder (lines_of size text)

-- the steps of a file
abbrev pub file_steps : Name → Option Name → List ℕ → List TextStep
file_steps stem folder bytes = unmarked_steps stem folder (length bytes) (without_mark bytes)

abbrev pub text_ending : Result ⊤ TextFileRefusal → Ending ℕ TextFileRefusal
text_ending (Ok u) = done
text_ending (Err (TooManyNodes at)) = too_many_nodes at
text_ending (Err (TooManyEdges at)) = too_many_edges at
text_ending (Err NoMemory) = no_memory
text_ending (Err e) = fault e
