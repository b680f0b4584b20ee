use Rattle.std.proofs.Common.{ap, ◌∙◌}
use Rattle.sd_graph.specs.Gathered.{insert_all}
use Rattle.sd_graph.proofs.Gathering.{inserted_again}
use Rattle.sd_graph.proofs.gathered.insert_copies.Goals as goal

pub returns-in_err-copied-clause-some : goal.returns-in_err-copied-clause-some
returns-in_err-copied-clause-some g c =
    ap (λ keys. insert_all g.K.Ord.cmp keys c.args.fresh.now) c.loop-key.invariant
    ∙ inserted_again g.met.K.Ord.total g.met.K.ExactOrd.exact c.args.ordered.now.keys c.args.fresh.now c.loop-key.key-index c.requires

pub returns-in_err-insert-clause-some : goal.returns-in_err-insert-clause-some
returns-in_err-insert-clause-some g c =
    ap (λ keys. insert_all g.K.Ord.cmp keys c.args.fresh.now) (c.in_err-insert.ensures.err ∙ c.loop-key.invariant)
    ∙ inserted_again g.met.K.Ord.total g.met.K.ExactOrd.exact c.args.ordered.now.keys c.args.fresh.now c.loop-key.key-index c.requires

pub returns-clause-some : goal.returns-clause-some
returns-clause-some g c =
    ap (λ keys. insert_all g.K.Ord.cmp keys c.args.fresh.now) c.loop-key.invariant
    ∙ inserted_again g.met.K.Ord.total g.met.K.ExactOrd.exact c.args.ordered.now.keys c.args.fresh.now c.loop-key.key-index c.requires
