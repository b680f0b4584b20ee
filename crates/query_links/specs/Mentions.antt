-- Mentions of a function where they are written.
use Rattle.std.specs.Prelude.{◌≡◌, ℕ, List, map, filter, All}
use Rattle.std.specs.Borrow.{Bor}
use Rattle.sd_value.specs.Names.{Name}
use Rattle.query_spec.specs.Mentions.{same_name, chain_of}
use Rattle.query_spec.specs.Query.{Condition, SkolemTerm as PlainTerm}
use Rattle.struql_ast.specs.declared.SkolemTerm.{SkolemTerm}
use Rattle.struql_ast.specs.Reading.{term_of}
use Rattle.constraint_spec.specs.Placed.{Mention as PlainMention}
use Rattle.query_links.specs.declared.written.Mention.{Mention}

-- the terms without their places
abbrev pub plain_terms : List (Bor SkolemTerm) → List PlainTerm
plain_terms terms = map (λ t. term_of t.now) terms

-- those of the function
abbrev pub of_function : Name → List PlainTerm → List PlainTerm
of_function f terms = filter (λ t. same_name t.function f) terms

-- the term under these conditions
abbrev pub mention_under : List Condition → PlainTerm → PlainMention
mention_under conditions t = record { conditions = conditions; term = t }

-- the term without its place, and the conditions of its chain
abbrev pub mention_of : Mention → PlainMention
mention_of m = mention_under m.chain.now.conditions (term_of m.term.now)

-- each mention's chain is that of its conditions
abbrev pub HaveChains : ℕ → List Mention → Type 0
HaveChains version mentions =
    All (λ m. m.chain.now ≡ chain_of version m.chain.now.conditions) mentions
