-- The variables of a query where they are, and the blocks in scope.
use Rattle.std.specs.Prelude.{Bool, true, false, ◌&&◌, List, [], ◌∷◌, ◌++◌, length, map, if◌then◌else◌, Option, Some, None}
use Rattle.std.specs.List.{flat_map, list_any}
use Rattle.query_spec.specs.Mentions.{same_name}
use Rattle.struql_ast.specs.declared.Operand.{Operand}
use Rattle.struql_ast.specs.declared.Operand.TheVariants.{Variable, Constant}
use Rattle.struql_ast.specs.declared.Aggregate.{Aggregate}
use Rattle.struql_ast.specs.declared.Aggregate.TheVariants.{Count, Min, Max, Sum}
use Rattle.struql_ast.specs.declared.LinkLabel.{LinkLabel}
use Rattle.struql_ast.specs.declared.LinkLabel.TheVariants as label
use Rattle.struql_ast.specs.Written.{Name, Step, arc_variable, expression, Condition, member, path, compare, one_of}
use Rattle.struql_ast.specs.Written.{kind, negation, Term, Target, plain, made, summed, Link, Collect, Clauses, Blocks}
use Rattle.struql_ast.specs.Written.{no_blocks, block, Query}
use Rattle.struql_check.specs.declared.mentions.VariableUse.{VariableUse}
use Rattle.struql_check.specs.declared.mentions.Role.{Role}
use Rattle.struql_check.specs.declared.terms.SeenTerm.{SeenTerm}
use Rattle.struql_check.specs.declared.mentions.Role.TheVariants.{Arc, End, Label, Other}

-- ---- mentions

-- an operand mentions the variable that it is
abbrev pub operand_mentions : Role → Operand → List VariableUse
operand_mentions role (Variable x span) = record { name = x; role = role; at = span.start } ∷ []
operand_mentions role (Constant v span) = []

-- an arc variable between arrows
abbrev pub step_mentions : Step → List VariableUse
step_mentions (arc_variable x span) = record { name = x; role = Arc; at = span.start } ∷ []
step_mentions (expression r span) = []

-- every variable of a condition, in the text's order
abbrev pub mentions : Condition → List VariableUse
mentions (member c x x_span span) = record { name = x; role = End; at = x_span.start } ∷ []
mentions (path t s u span) = operand_mentions End t ++ step_mentions s ++ operand_mentions End u
mentions (compare t o u span) = operand_mentions Other t ++ operand_mentions Other u
mentions (one_of t vs span) = operand_mentions Other t
mentions (kind k x x_span span) = record { name = x; role = Other; at = x_span.start } ∷ []
mentions (negation c span) = mentions c

-- the variables among a term's arguments
abbrev pub term_mentions : Term → List VariableUse
term_mentions t = flat_map (operand_mentions Other) t.args

-- the variables of an aggregate, in the text's order
abbrev pub aggregate_mentions : Aggregate → List VariableUse
aggregate_mentions (Count v span) = operand_mentions Other (Variable v span)
aggregate_mentions (Min v span) = operand_mentions Other (Variable v span)
aggregate_mentions (Max v span) = operand_mentions Other (Variable v span)
aggregate_mentions (Sum v v_span x x_span) =
    operand_mentions Other (Variable v v_span) ++ operand_mentions Other (Variable x x_span)

-- the variables of a target
abbrev pub target_mentions : Target → List VariableUse
target_mentions (plain o) = operand_mentions Other o
target_mentions (made t) = term_mentions t
target_mentions (summed a span) = aggregate_mentions a

-- an arc variable as a link's label
abbrev pub label_mentions : LinkLabel → List VariableUse
label_mentions (label.Quoted l) = []
label_mentions (label.Variable x span) = record { name = x; role = Label; at = span.start } ∷ []

-- the variables of a link, from left to right
abbrev pub link_mentions : Link → List VariableUse
link_mentions k = target_mentions k.source ++ label_mentions k.label ++ target_mentions k.target

-- the variables of a COLLECT's item
abbrev pub collect_mentions : Collect → List VariableUse
collect_mentions o = target_mentions o.target

-- the variables that CREATE, LINK and COLLECT use
abbrev pub uses : Clauses → List VariableUse
uses c =
    flat_map term_mentions c.creates ++ flat_map link_mentions c.links
    ++ flat_map collect_mentions c.collects

-- ---- the sorts of variables

-- the mention is between arrows
abbrev pub is_arc_role : Role → Bool
is_arc_role Arc = true
is_arc_role End = false
is_arc_role Label = false
is_arc_role Other = false

-- one of the mentions has the name
abbrev pub is_in : List VariableUse → Name → Bool
is_in ms x = list_any (λ m. same_name x m.name) ms

-- one of them has it between arrows
abbrev pub is_between_arrows : List VariableUse → Name → Bool
is_between_arrows ms x = list_any (λ m. same_name x m.name && is_arc_role m.role) ms

-- Whether a variable is an arc variable, given the mentions of the conditions block by block, outermost first: the
-- outermost block that mentions it decides, by whether it has it between arrows. None where no block mentions it.
abbrev pub sort_of : List (List VariableUse) → Name → Option Bool
sort_of [] x = None
sort_of (here ∷ deeper) x =
    if is_in here x then Some (is_between_arrows here x) else sort_of deeper x

-- ---- blocks in scope

-- a block: its clauses, and the mentions of the conditions of the blocks round it and of its own, block by block, outermost first
pub record ScopedBlock : Type 0 where
  pub round : List (List VariableUse)
  pub clauses : Clauses

-- blocks and those in them, with the mentions round them
abbrev pub within : List (List VariableUse) → Blocks → List ScopedBlock
within round no_blocks = []
within round (block clauses inner span after) =
    let here = round ++ flat_map mentions clauses.conditions ∷ [] in
    record { round = here; clauses = clauses } ∷ (within here inner ++ within round after)

-- each block of the query, in the text's order
abbrev pub scoped : Query → List ScopedBlock
scoped q = within [] q.blocks

-- the mentions of the whole chain of conditions
abbrev pub chain_mentions : ScopedBlock → List VariableUse
chain_mentions b = flat_map (λ ms. ms) b.round

-- the mentions of a block itself: those of its own conditions, and those of its other clauses
abbrev pub block_mentions : Clauses → List VariableUse
block_mentions c = flat_map mentions c.conditions ++ uses c

-- ---- terms

-- what is checked of a term; `linked` where it is in LINK or COLLECT
abbrev pub seen : Bool → Term → SeenTerm
seen linked t = record {
  function = t.function;
  arity = length t.args;
  linked = linked;
  at = t.span.start;
}

-- the term that a target is
abbrev pub target_terms : Target → List SeenTerm
target_terms (plain o) = []
target_terms (made t) = seen true t ∷ []
target_terms (summed a span) = []

-- the terms of a link
abbrev pub link_terms : Link → List SeenTerm
link_terms k = target_terms k.source ++ target_terms k.target

-- the term of a COLLECT's item
abbrev pub collect_terms : Collect → List SeenTerm
collect_terms o = target_terms o.target

-- those of CREATE, and then those of LINK and COLLECT
abbrev pub clause_terms : Clauses → List SeenTerm
clause_terms c =
    map (seen false) c.creates ++ flat_map link_terms c.links ++ flat_map collect_terms c.collects

-- the terms of blocks and of those in them
abbrev pub terms_within : Blocks → List SeenTerm
terms_within no_blocks = []
terms_within (block clauses inner span after) =
    clause_terms clauses ++ terms_within inner ++ terms_within after

-- all terms of a query, in the text's order
abbrev pub terms : Query → List SeenTerm
terms q = terms_within q.blocks
