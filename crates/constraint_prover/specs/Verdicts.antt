-- What a verdict says.
use Rattle.std.specs.Prelude.{◌≡◌, List, Option, Some, None}
use Rattle.std.specs.List.{AllZip}
use Rattle.graph_spec.specs.DataGraph.{DataGraph}
use Rattle.site_spec.specs.Site.{Scope}
use Rattle.constraint_spec.specs.declared.Constraint.{Constraint}
use Rattle.constraint_spec.specs.Certificate.{Certificate, IsCertificate}
use Rattle.constraint_spec.specs.Meets.{Meets}
use Rattle.constraint_recheck.specs.Search.{find_certificate, StaysWithinBudget}
use Rattle.query_blocks.specs.declared.QueryBlocks.{QueryBlocks}
use Rattle.query_blocks.specs.Blocks as blocks
use Rattle.inclusion.specs.declared.table.Inclusions.{Inclusions}
use Rattle.inclusion.specs.Answers.{tests_of}
use Rattle.constraint_spec.specs.declared.certificates.Verdict.{Verdict}
use Rattle.constraint_spec.specs.declared.certificates.Verdict.TheVariants.{Yes, Unknown}

-- the certificate, if it has one
abbrev pub certificate_in : Verdict → Option Certificate
certificate_in (Yes x) = Some x
certificate_in Unknown = None

-- a certificate of the constraint, the search for which stays within its budget
pub record IsFound (q : Scope) (c : Constraint) (x : Certificate) : Type 0 where
  pub certificate : IsCertificate q c x
  pub within : StaysWithinBudget q c

-- a certificate of the constraint that is found, or unknown if none is
abbrev pub IsVerdict : Scope → Constraint → Verdict → Type 0
IsVerdict q c (Yes x) = IsFound q c x
IsVerdict q c Unknown = (x : Certificate) → IsFound q c x → ⊥

-- at a yes, the query's site over every data graph meets the constraint
abbrev pub HoldsOverAll : Scope → Constraint → Verdict → Type 0
HoldsOverAll q c (Yes x) = (G : DataGraph) → Meets G q c
HoldsOverAll q c Unknown = Unit {0}

-- for each of the constraints what the search finds by the blocks' table
abbrev pub AreFound : Inclusions → QueryBlocks → List Constraint → List Verdict → Type 0
AreFound table s =
    AllZip (λ c v. certificate_in v ≡ find_certificate (tests_of table) (blocks.scope_of s) c)
