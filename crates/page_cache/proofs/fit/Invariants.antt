use Rattle.std.proofs.Common.{◌≡◌, ◌<◌, ◌≤◌, length, take, drop}
use Rattle.page_cache.specs.Entries.{bytes_in, entries_within}
use Rattle.page_cache.proofs.fit.Given as goal

abbrev pub invariant-loop-bytes : goal.invariant-loop-bytes
invariant-loop-bytes l =
    (0 < length l.kept.entries)
    × (l.bytes ≡ bytes_in (drop 1 l.kept.entries))
    × (take 1 l.kept.entries ≡ take 1 l.fn.kept.entries)
    × (entries_within l.most (drop 1 l.kept.entries) ≡ entries_within l.most (drop 1 l.fn.kept.entries))
    × (l.kept.cap ≡ l.fn.kept.cap)

abbrev pub decreases-loop-bytes : goal.decreases-loop-bytes
decreases-loop-bytes l = length l.kept.entries
