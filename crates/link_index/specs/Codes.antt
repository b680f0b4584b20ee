-- How a ghost value keeps a scope: needed where it is what contracts see of a struct.
use Rattle.std.specs.Prelude.{ℕ, List}
use Rattle.std.proofs.Common.{refl}
use Rattle.std.specs.Coded.{Coded, code_by, coded×, coded_list, coded_ℕ}
use Rattle.query_spec.specs.Query.{Body}
use Rattle.query_spec.specs.Codes.{body_code}
use Rattle.site_spec.specs.Site.{Scope}

-- scopes as ghost values
abbrev pub scope_code : Coded Scope
scope_code =
    code_by (ℕ × List Body) (coded× coded_ℕ (coded_list body_code)) (λ q. (q.version, q.bodies))
    (λ p. record { version = p.0; bodies = p.1 }) (λ _. refl)
