use Rattle.std.proofs.Common.{arith, get_or}
use Rattle.std.proofs.lemmas.Option.{slice_get-get_or}
use Rattle.site_build.specs.Ranges.{range_at}
use Rattle.site_build.proofs.RangeLaws.{ranges_more}
use Rattle.site_build.proofs.ranges.ranges_of.Goals as goal

pub loop-place-preserved : goal.loop-place-preserved
loop-place-preserved c =
    ranges_more c.args.links.now c.loop-place.place (range_at c.loop-place.ranges) (range_at c.add_place.new.ranges) (get_or c.args.links.now c.loop-place.place c.index-links-place.result)
    (slice_get-get_or c.args.links.now c.loop-place.place c.index-links-place.result (omega arith)) c.loop-place.invariant c.in_ok-add_place.ensures
