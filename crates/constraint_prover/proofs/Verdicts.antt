-- What a search finds is a verdict.
use Rattle.std.proofs.Common.{◌≡◌, List, subst, sym}
use Rattle.std.specs.List.{AllZip}
use Rattle.graph_spec.specs.DataGraph.{DataGraph}
use Rattle.query_spec.specs.Query.{Query as PlainQuery}
use Rattle.struql_ast.specs.declared.Query.{Query}
use Rattle.struql_ast.specs.Reading.{query_of}
use Rattle.struql_ast.specs.Written.{query_written}
use Rattle.struql_check.specs.Faults.{IsFaultless}
use Rattle.struql_check.specs.Parsed.{IsParsed}
use Rattle.site_spec.specs.Site.{Scope, scope_of}
use Rattle.constraint_spec.specs.declared.Constraint.{Constraint}
use Rattle.constraint_spec.specs.Certificate.{Certificate, IsCertificate}
use Rattle.constraint_spec.specs.Meets.{Meets}
use Rattle.constraint_recheck.specs.Options.{Finds}
use Rattle.constraint_recheck.specs.Search.{find_certificate, StaysWithinBudget}
use Rattle.constraint_recheck.proofs.Options.{finds_as}
use Rattle.constraint_recheck.proofs.SearchLaws.{certificate_finds}
use Rattle.constraint_spec.specs.declared.certificates.Verdict.{Verdict}
use Rattle.constraint_spec.specs.declared.certificates.Verdict.TheVariants.{Yes, Unknown}
use Rattle.inclusion.specs.declared.table.Inclusions.{Inclusions}
use Rattle.inclusion.specs.Answers.{tests_of, IsTableOf}
use Rattle.query_blocks.specs.declared.QueryBlocks.{QueryBlocks}
use Rattle.query_blocks.specs.Blocks as blocks
use Rattle.constraint_prover.specs.Verdicts.{certificate_in, IsFound, IsVerdict, AreFound, HoldsOverAll}
use Rattle.constraint_prover.proofs.Zipped.{zip_as}

verdict_found : (q : Scope) (c : Constraint) (v : Verdict) → Finds (IsFound q c) (certificate_in v) → IsVerdict q c v
verdict_found q c (Yes x) h = h
verdict_found q c Unknown h = h

-- what the search finds by the query's table
pub found_exact : (q p : Scope) (t : Inclusions) (c : Constraint) (v : Verdict) → p ≡ q → IsTableOf p t → certificate_in v ≡ find_certificate (tests_of t) p c → IsVerdict q c v
found_exact q p t c v same table e =
    subst (λ s. IsVerdict s c v) same
    (verdict_found p c v
    (subst (Finds (IsFound p c)) (sym e)
    (finds_as (λ x. IsCertificate p c x × StaysWithinBudget p c) (IsFound p c) (λ x h. record { certificate = h.0; within = h.1 }) (λ x h. (h.certificate, h.within))
    (find_certificate (tests_of t) p c) (certificate_finds table.known (tests_of t) table.tests p table.all c))))

-- what certificates show of queries without faults
abbrev pub CertificatesHold : Type 0
CertificatesHold =
    (q : Query) → IsFaultless (query_written q) → IsParsed (query_of q) → (c : Constraint) (x : Certificate) → IsCertificate (scope_of (query_of q)) c x → (G : DataGraph) → Meets G (scope_of (query_of q)) c

verdict_holds : CertificatesHold → (q : Query) → IsFaultless (query_written q) → IsParsed (query_of q) → (c : Constraint) (v : Verdict) → IsVerdict (scope_of (query_of q)) c v → HoldsOverAll (scope_of (query_of q)) c v
verdict_holds law q faultless parsed c (Yes x) h = law q faultless parsed c x h.certificate
verdict_holds law q faultless parsed c Unknown h = tt

-- a verdict of a query without faults holds over every data graph
pub exact_holds : CertificatesHold → (written : Query) (q : PlainQuery) → query_of written ≡ q → IsFaultless (query_written written) → IsParsed (query_of written) → (c : Constraint) (v : Verdict) → IsVerdict (scope_of q) c v → HoldsOverAll (scope_of q) c v
exact_holds law written q same faultless parsed c v h =
    subst (λ p. HoldsOverAll (scope_of p) c v) same (verdict_holds law written faultless parsed c v (subst (λ p. IsVerdict (scope_of p) c v) (sym same) h))

-- the same of each of some constraints
pub all_exact : (q : Scope) (s : QueryBlocks) (t : Inclusions) → blocks.scope_of s ≡ q → IsTableOf (blocks.scope_of s) t → (cs : List Constraint) (vs : List Verdict) → AreFound t s cs vs → AllZip (IsVerdict q) cs vs
all_exact q s t same table cs vs h =
    zip_as (λ (c : Constraint) (v : Verdict). certificate_in v ≡ find_certificate (tests_of t) (blocks.scope_of s) c) (IsVerdict q) (λ c v e. found_exact q (blocks.scope_of s) t c v same table e) cs vs h

pub all_hold : CertificatesHold → (written : Query) (q : PlainQuery) → query_of written ≡ q → IsFaultless (query_written written) → IsParsed (query_of written) → (cs : List Constraint) (vs : List Verdict) → AllZip (IsVerdict (scope_of q)) cs vs → AllZip (HoldsOverAll (scope_of q)) cs vs
all_hold law written q same faultless parsed cs vs h =
    zip_as (IsVerdict (scope_of q)) (HoldsOverAll (scope_of q)) (λ c v e. exact_holds law written q same faultless parsed c v e) cs vs h
