-- A text without directives, read statement by statement.
use Rattle.std.specs.Prelude.{◌≡◌, ℕ, List, [], ◌∷◌, ⊤}
use Rattle.sd_lex.specs.declared.token.Token.{Token}
use Rattle.sd_lex.specs.declared.closing.Rest.{Rest}
use Rattle.sd_lex.specs.Lexing.{IsLexed}
use Rattle.sd_graph.specs.declared.Limits.{Limits}
use Rattle.sd_graph.specs.Statement.{Building, IsEmpty}
use Rattle.sd_graph.specs.Stating.{Leads}
use Rattle.ddl_text.specs.declared.tree.Statement.{Statement}
use Rattle.ddl_text.specs.declared.tree.Statement.TheVariants.{Collection, Object}
use Rattle.ddl_text.specs.DataText.{file}
use Rattle.ddl_text.specs.Next.{IsNext}
use Rattle.sd_ddl.specs.declared.kinds.StatedKinds.{StatedKinds}
use Rattle.sd_ddl.specs.declared.kinds.StatedKinds.TheVariants.{Nothing}
use Rattle.sd_ddl.specs.Kinds.{Name}
use Rattle.sd_ddl.specs.Parts.{parts_of, parts}
use Rattle.sd_ddl.specs.Stops.{all_said}
use Rattle.sd_ddl.specs.Reads.{Spells}

-- no kinds are reported of any attribute
abbrev pub no_kinds : Name → Name → StatedKinds
no_kinds object attribute = Nothing

abbrev pub IsObject : Statement → Type 0
IsObject (Collection name entries) = ⊥
IsObject (Object name collections fields) = ⊤

abbrev pub AreObjects : List Statement → Type 0
AreObjects [] = ⊤
AreObjects (s ∷ statements) = IsObject s × AreObjects statements

-- The next statement is an object's, and all that it states is added.
abbrev pub AddsNext : ℕ → List ℕ → Building → Building → Rest → Type 0
AddsNext at bytes b c left =
    (found : Statement) × IsNext at bytes found left × IsObject found
    × Leads b (all_said no_kinds (parts_of found)) c

-- The bytes spell objects, and all that they state is added.
abbrev pub AddsAll : ℕ → List ℕ → Building → Building → Type 0
AddsAll at bytes b c =
    (tokens : List Token) × (statements : List Statement) × IsLexed at bytes tokens
    × file tokens statements × AreObjects statements
    × Leads b (all_said no_kinds (parts statements)) c

-- The text spells objects, and all that they state leads from an empty graph to this one.
abbrev pub ReadsAll : ℕ → List ℕ → Limits → Building → Type 0
ReadsAll limit bytes limits c =
    (b : Building) × (statements : List Statement) × (b.limits ≡ limits) × IsEmpty b.graph
    × Spells limit bytes statements × AreObjects statements
    × Leads b (all_said no_kinds (parts statements)) c
