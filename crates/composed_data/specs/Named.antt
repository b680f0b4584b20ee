-- The names under which a query collects.
use Rattle.std.specs.Prelude.{◌≡◌}
use Rattle.sd_value.specs.Names.{Name}
use Rattle.site_spec.specs.Site.{Scope, SomeOf}

-- some COLLECT of the query puts its value under the name
abbrev pub IsCollectName : Scope → Name → Type 0
IsCollectName query name =
    SomeOf (λ b. SomeOf (λ k. k.collection ≡ name) b.collects) query.bodies
