-- What reading a data text into a graph answers, and what the graph holds afterwards.
use Rattle.std.specs.Prelude.{◌≡◌, ◌⊎◌, ℕ, List, Result, Ok, Err, ⊤}
use Rattle.sd_lex.specs.declared.token.Token.{Token}
use Rattle.sd_lex.specs.Lexing.{IsTextOrFault}
use Rattle.sd_graph.specs.Statement.{Building}
use Rattle.ddl_text.specs.declared.tree.Statement.{Statement}
use Rattle.token_reader.specs.declared.refusal.TextRefusal.{TextRefusal}
use Rattle.token_reader.specs.declared.refusal.TextRefusal.TheVariants as text
use Rattle.ddl_text.specs.DataText.{file}
use Rattle.ddl_text.specs.Text.{TextStates}
use Rattle.sd_ddl.specs.declared.conflict.Stop.{Stop}
use Rattle.sd_ddl.specs.declared.conflict.Stop.TheVariants as stops
use Rattle.sd_ddl.specs.declared.refusal.DdlRefusal.{DdlRefusal}
use Rattle.sd_ddl.specs.declared.refusal.DdlRefusal.TheVariants.{Text, KindConflict, TooManyEdges, TooManyNodes}
use Rattle.sd_ddl.specs.Parts.{parts}
use Rattle.sd_ddl.specs.Stops.{Takes}

-- the text's tokens spell these statements
abbrev pub Spells : ℕ → List ℕ → List Statement → Type 0
Spells limit bytes statements =
    (tokens : List Token) × IsTextOrFault limit bytes (Ok tokens) × file tokens statements

-- the text spells statements, and taking them ends so
abbrev pub Follows : ℕ → List ℕ → Building → Building → Result ⊤ Stop → Type 0
Follows limit bytes b c r =
    (statements : List Statement) × Spells limit bytes statements × Takes (parts statements) b c r

-- a text that spells no statements leaves the graph as it was
abbrev pub IsNoText : ℕ → List ℕ → Building → Building → TextRefusal → Type 0
IsNoText limit bytes b c e = (c ≡ b) × TextStates limit bytes (Err e)

-- What reading a text gave, and what it left. Out of memory it left the graph as it was, or with some first statements.
abbrev pub Reads : ℕ → List ℕ → Building → Building → Result ⊤ DdlRefusal → Type 0
Reads limit bytes b c (Ok u) = Follows limit bytes b c (Ok u)
Reads limit bytes b c (Err (Text text.NoMemory)) =
    (c ≡ b) ⊎ Follows limit bytes b c (Err stops.NoMemory)
Reads limit bytes b c (Err (Text e)) = IsNoText limit bytes b c e
Reads limit bytes b c (Err (KindConflict at)) =
    Follows limit bytes b c (Err (stops.KindConflict at))
Reads limit bytes b c (Err (TooManyEdges at)) =
    Follows limit bytes b c (Err (stops.TooManyEdges at))
Reads limit bytes b c (Err (TooManyNodes at)) =
    Follows limit bytes b c (Err (stops.TooManyNodes at))

-- a stop in the statements as a refusal of the text
abbrev pub of_stop : Stop → DdlRefusal
of_stop (stops.KindConflict at) = KindConflict at
of_stop (stops.TooManyEdges at) = TooManyEdges at
of_stop (stops.TooManyNodes at) = TooManyNodes at
of_stop stops.NoMemory = Text text.NoMemory
