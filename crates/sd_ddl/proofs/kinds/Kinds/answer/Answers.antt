use Rattle.std.proofs.Common.{refl, sym, ◌∙◌}
use Rattle.sd_ddl.proofs.Maps.{answer_kept-ok}
use Rattle.sd_ddl.proofs.kinds.Kinds.answer.Goals as goal

pub returns-in_ok-told-in-None : goal.returns-in_ok-told-in-None
returns-in_ok-told-in-None c =
    let old = c.args.self.now in
    answer_kept-ok old (record { givings = old.givings; givers = old.givers; collections = old.collections; answers = c.add.new.self }) c.args.object.now c.args.attribute.now c.in_ok-told-in-None.told c.add.result
    c.in_ok-told-in-None.ensures (λ o a. refl) (sym c.in_ok-get.ensures ∙ c.in-None.is) c.add.ensures
