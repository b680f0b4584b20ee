use Rattle.std.proofs.Common.{◌≡◌, slice_range, sym, ap, ◌∙◌, arith, length}
use Rattle.httparse.specs.Grammar.{skip_ows}
use Rattle.httparse.proofs.TrimLemmas.{skip_ows_yes, skip_ows_no, slice_first, slice_empty}
use Rattle.http_reply.proofs.ask.trim_blanks_start.Goals.{then-loop-start-test+else-is_blank, else-loop-start-test}
use Rattle.http_reply.proofs.ask.trim_blanks_start.Goals as goal

pub loop-start-preserved : goal.loop-start-preserved
loop-start-preserved c =
    let word = c.args.word.now in
    let first = slice_first word c.loop-start.start (length word) (omega arith) (omega arith) in (
      omega arith,
      c.loop-start.invariant.1 ∙ skip_ows_yes first c.if-is_blank.ensures,
    )

pub returns : goal.returns
returns c =
    let word = c.args.word.now in
    let here = slice_range word c.loop-start.start (length word) in
    let stays : skip_ows here ≡ here =
    elim c.loop-start-test.branch [
      | then-loop-start-test+else-is_blank w ↦
          let first = slice_first word c.loop-start.start (length word) (omega arith) (omega arith) in
          skip_ows_no first w.if-is_blank.ensures
      | else-loop-start-test w ↦
          let empty = slice_empty word c.loop-start.start (length word) (omega arith) (omega arith) in
          ap skip_ows empty ∙ sym empty
    ] in
    sym (c.loop-start.invariant.1 ∙ stays)
