-- Links that end at aggregates, one page and label at a time.
use Rattle.std.specs.Prelude.{◌≡◌, List}
use Rattle.sd_value.specs.declared.Value.{Value}
use Rattle.query_spec.specs.Query.{Aggregate}
use Rattle.site_spec.specs.Site.{IsToldOf}
use Rattle.site_build.specs.declared.ordered.Joined.{Joined}
use Rattle.site_build.specs.Materialised.{ToldOf}

-- both start at one page and have one label
pub record StartAlike (j other : Joined) : Type 0 where
  pub from : other.from ≡ j.from
  pub label : other.label ≡ j.label

-- what the aggregate tells of the ends of the links that start as this one does
pub record ToldHere (a : Aggregate) (links : List Joined) (start j : Joined) : Type 0 where
  pub alike : StartAlike start j
  pub told : ToldOf a links j

-- what the aggregate tells of the ends, from the page at which the link starts and by its label
pub record IsToldAt (a : Aggregate) (start : Joined) (ends : List Value) (j : Joined) : Type 0 where
  pub alike : StartAlike start j
  pub told : IsToldOf a ends j.to
