use Rattle.std.proofs.Common.{◌∷◌, [], inl}
use Rattle.std.proofs.lemmas.Result.{err_from_is_err_and}
use Rattle.site_inputs.proofs.ReadLemmas.{reads_fault}
use Rattle.command_check.proofs.constraint_file.load_constraints.Goals as goal

pub returns-in_err-bytes-clause-traced : goal.returns-in_err-bytes-clause-traced
returns-in_err-bytes-clause-traced g c =
    let p = err_from_is_err_and c.from_residual.result c.from_residual.ensures.1 in
    rw (p.1, p.2) (reads_fault _ _ (c.args.path.now ∷ []) _ _ _ c.in_err-bytes.field-0.0 _ _ c.in_err-bytes.ensures.traced (λ map h. inl h))
