use Rattle.std.proofs.Common.{◌≡◌, ◌++◌, take, drop}
use Rattle.lru.specs.LruCache.{lru_cache}
use Rattle.page_cache.specs.Entries.{bytes_in, entries_where}
use Rattle.page_cache.proofs.sift.Given as goal

abbrev pub invariant-loop-i : goal.invariant-loop-i
invariant-loop-i l =
    (l.kept ≡ lru_cache (drop l.i l.fn.kept.entries ++ entries_where (take l.i l.flags) (take l.i l.fn.kept.entries)) l.fn.kept.cap)
    × (l.bytes ≡ bytes_in l.kept.entries)
