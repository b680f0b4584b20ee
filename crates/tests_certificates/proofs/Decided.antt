-- The tests of the query's own table decide what a certificate is.
use Rattle.std.proofs.Common.{◌≡◌, sym, subst}
use Rattle.std.specs.Prelude.{Bool, Contains}
use Rattle.std.specs.Bool.{Decides}
use Rattle.site_spec.specs.Site.{Scope}
use Rattle.constraint_spec.specs.declared.Constraint.{Constraint}
use Rattle.constraint_spec.specs.Certificate.{Certificate, IsCertificate}
use Rattle.constraint_recheck.specs.Recheck.{recheck}
use Rattle.constraint_recheck.proofs.Recheck.{recheck_decides}
use Rattle.inclusion.specs.declared.table.Inclusions.{Inclusions}
use Rattle.inclusion.specs.Answers.{tests_of, IsTableOf}

pub decided : (t : Inclusions) (s q : Scope) (k : Constraint) (x : Certificate) (b : Bool) → IsTableOf s t → s ≡ q → b ≡ recheck (tests_of t) s k x → Decides b (IsCertificate q k x)
decided t s q k x b table same is =
    let P : Scope → Type 0 = λ r. Decides b (IsCertificate r k x) in
    let Q : Bool → Type 0 = λ r. Decides r (IsCertificate s k x) in
    subst P same (subst Q (sym is) (recheck_decides (Contains table.known) (tests_of t) table.tests s table.all k x))
