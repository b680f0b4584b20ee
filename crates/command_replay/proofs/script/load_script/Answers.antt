use Rattle.std.proofs.Common.{◌∷◌, [], inl, subst}
use Rattle.std.specs.Prelude.{List, ℕ}
use Rattle.std.proofs.lemmas.Result.{err_from_is_err_and}
use Rattle.command_spec.specs.Limits.{script_limit}
use Rattle.site_inputs.specs.Runs.{FileEnds}
use Rattle.site_inputs.proofs.Graphs.{then_next}
use Rattle.site_inputs.proofs.ReadLemmas.{reads_fault, reads_done}
use Rattle.command_replay.specs.Scripts.{ScriptTaken, ScriptEnds, script_result}
use Rattle.command_replay.proofs.Courses.{script_is_read}
use Rattle.command_replay.proofs.script.load_script.Goals as goal

pub returns-in_err-bytes-clause-traced : goal.returns-in_err-bytes-clause-traced
returns-in_err-bytes-clause-traced g c =
    let p = err_from_is_err_and c.from_residual.result c.from_residual.ensures.1 in
    rw (p.1, p.2) (reads_fault _ _ (c.args.path.now ∷ []) _ _ _ c.in_err-bytes.field-0.0 _ _ c.in_err-bytes.ensures.traced (λ map h. inl h))

pub returns-clause-traced : goal.returns-clause-traced
returns-clause-traced g c =
    let path = c.args.path.now in
    let result = c.take_script.result in
    let taken = subst (λ (bytes : List ℕ). ScriptTaken path bytes (script_result result)) c.bytes.ensures c.take_script.ensures in
    reads_done (path ∷ []) _ _ _ c.in_ok-bytes.bytes result _ (λ map. ScriptEnds map path (script_result result)) c.in_ok-bytes.ensures.traced (script_is_read path c.in_ok-bytes.bytes result taken)
    (λ map h. then_next (FileEnds script_limit map path) (ScriptTaken path) c.in_ok-bytes.bytes (script_result result) h taken)
