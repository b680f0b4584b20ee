use Rattle.std.proofs.Common.{◌≡◌, take}
use Rattle.page_cache.proofs.all_terms.Given as goal

abbrev pub invariant-loop-page : goal.invariant-loop-page
invariant-loop-page l = l.all.items ≡ take l.page-index l.pages
