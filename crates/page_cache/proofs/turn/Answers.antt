use Rattle.serving_spec.specs.Looks.{is_same}
use Rattle.page_cache.proofs.ByteLemmas.{turned_stays}
use Rattle.page_cache.proofs.turn.Goals as goal

pub returns-then-stays-clause-bytes : goal.returns-then-stays-clause-bytes
returns-then-stays-clause-bytes c = turned_stays (is_same c.args.page.now) c.args.kept.now.entries c.demote.new.self c.args.kept.now.cap c.demote.ensures.entries
