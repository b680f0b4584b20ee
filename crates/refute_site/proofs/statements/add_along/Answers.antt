use Rattle.std.proofs.Common.{arith, ◌∙◌}
use Rattle.std.proofs.lemmas.Result.{err_from_is_err_and}
use Rattle.counterexample_spec.specs.Frozen.{along, step}
use Rattle.refute_site.specs.Patterns.{copy_of}
use Rattle.refute_site.proofs.Adding.{edge_stopped}
use Rattle.refute_site.proofs.statements.add_along.Goals.{then-j-word+in_ok-end, else-j-word+in_ok-end-2}
use Rattle.refute_site.proofs.statements.add_along.Goals as goal

pub returns-in_err-add_edge : goal.returns-in_err-add_edge
returns-in_err-add_edge c =
    let p = err_from_is_err_and c.from_residual-in_err-add_edge.result c.from_residual-in_err-add_edge.ensures.1 in
    let middle = step (copy_of c.args.chain_copy) c.args.k in
    rw (p.1, p.2)
    (edge_stopped middle c.args.to.now c.args.word.now c.loop-j.j c.index-word-j.result c.loop-j.start c.if-j-word.end (along middle 1 c.args.from.now c.args.word.now c.args.to.now) c.args.builder.now c.loop-j.builder c.add_edge.new.builder c.in_err-add_edge.field-0.0 (omega arith) c.index-word-j.is
    (λ more. elim c.if-j-word.branch [ then-j-word+in_ok-end w ↦ w.end-is ∙ w.in_ok-end.ensures | else-j-word+in_ok-end-2 w ↦ absurd (omega (arith, more, w.if-j-word.false)) ])
    (λ none. elim c.if-j-word.branch [ then-j-word+in_ok-end w ↦ absurd (omega (arith, none, w.if-j-word.true)) | else-j-word+in_ok-end-2 w ↦ w.end-is ∙ w.in_ok-end-2.ensures ])
    c.loop-j.invariant c.in_err-add_edge.ensures)
