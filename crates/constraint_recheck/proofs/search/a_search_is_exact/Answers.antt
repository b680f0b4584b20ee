use Rattle.constraint_recheck.proofs.SearchLaws.{certificate_finds}
use Rattle.constraint_recheck.proofs.search.a_search_is_exact.Goals as goal

pub returns : goal.returns
returns c = λ E tests are q ks k. certificate_finds E tests are q ks k
