-- Where the links from each page are in a list of links.
use Rattle.std.specs.Prelude.{◌≡◌, ◌<◌, ◌≤◌, ℕ, List, Option, Some, None, slice_get}
use Rattle.std.specs.Ordering.{eq_by_cmp}
use Rattle.std.specs.HashMap.{HashMap, get}
use Rattle.sd_value.specs.declared.Term.{Term}
use Rattle.sd_value.specs.Order.{term_cmp}
use Rattle.site_build.specs.declared.ordered.Joined.{Joined}
use Rattle.site_build.specs.declared.ranges.Range.{Range}

abbrev pub range_at : {S : Type 0} → HashMap Term Range S → Term → Option Range
range_at m t = get (eq_by_cmp term_cmp) m t

-- where a page's links start, one of which is at this place, behind those that were found
abbrev pub start_of : Option Range → ℕ → ℕ
start_of None place = place
start_of (Some r) place = r.start

-- each of the first n links is in the range of its page, and each range among these
pub record AreRanges (links : List Joined) (n : ℕ) (at : Term → Option Range) : Type 0 where
  pub fits : (t : Term) (r : Range) → at t ≡ Some r → (r.start ≤ r.stop) × (r.stop ≤ n)
  pub found : (k : ℕ) (j : Joined) → k < n → slice_get links k ≡ Some j → (r : Range)
      × (at j.from ≡ Some r) × (r.start ≤ k) × (k < r.stop)
