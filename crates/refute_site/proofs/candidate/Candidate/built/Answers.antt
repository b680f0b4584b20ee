use Rattle.std.proofs.lemmas.Result.{err_from_is_err_and}
use Rattle.refute_site.proofs.Tried.{first_refused, second_refused, both_stated}
use Rattle.refute_site.proofs.candidate.Candidate.built.Goals as goal

pub returns-in_err-add : goal.returns-in_err-add
returns-in_err-add c =
    let p = err_from_is_err_and c.from_residual.result c.from_residual.ensures.1 in
    rw (p.1, p.2) (first_refused c.args.self.now c.new-builder.result c.new-builder.ensures.limits c.new-builder.ensures.empty c.add.new.builder c.in_err-add.field-0.0 c.in_err-add.ensures)

pub returns-in_err-add_beside : goal.returns-in_err-add_beside
returns-in_err-add_beside c =
    let p = err_from_is_err_and c.from_residual-in_err-add_beside.result c.from_residual-in_err-add_beside.ensures.1 in
    rw (p.1, p.2) (second_refused c.args.self.now c.new-builder.result c.new-builder.ensures.limits c.new-builder.ensures.empty c.add.new.builder c.add_beside.new.builder c.in_err-add_beside.field-0.0 c.in_ok-add.ensures c.in_err-add_beside.ensures)

pub returns : goal.returns
returns c =
    both_stated c.args.self.now c.new-builder.result c.new-builder.ensures.limits c.new-builder.ensures.empty c.add.new.builder c.add_beside.new.builder c.in_ok-add.ensures c.in_ok-add_beside.ensures c.limits-limits.ensures.built.within
