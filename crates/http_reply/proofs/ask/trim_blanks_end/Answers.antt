use Rattle.std.proofs.Common.{◌≡◌, ◌-◌, List, ℕ, take, reverse, slice_range, sym, ap, ◌∙◌, arith, length}
use Rattle.std.proofs.lemmas.List.{reverse-reverse}
use Rattle.httparse.specs.Grammar.{skip_ows}
use Rattle.httparse.proofs.TrimLemmas.{skip_ows_yes, skip_ows_no, slice_last, slice_empty}
use Rattle.http_reply.proofs.ask.trim_blanks_end.Goals.{then-loop-end-test+else-is_blank, else-loop-end-test}
use Rattle.http_reply.proofs.ask.trim_blanks_end.Goals as goal

pub loop-end-preserved : goal.loop-end-preserved
loop-end-preserved c =
    let last = slice_last c.args.word.now 0 c.loop-end.end (omega arith) (omega arith) in (
      omega arith,
      c.loop-end.invariant.1 ∙ ap reverse (skip_ows_yes last c.if-is_blank.ensures),
    )

pub returns : goal.returns
returns c =
    let word = c.args.word.now in
    let end = c.loop-end.end in
    let here = slice_range word 0 end in
    let stays : reverse (skip_ows (reverse here)) ≡ here =
    elim c.loop-end-test.branch [
      | then-loop-end-test+else-is_blank w ↦
          let last = slice_last word 0 end (omega arith) (omega arith) in
          ap reverse (skip_ows_no last w.if-is_blank.ensures) ∙ reverse-reverse here
      | else-loop-end-test w ↦
          let empty = slice_empty word 0 end (omega arith) (omega arith) in
          ap (λ (t : List ℕ). reverse (skip_ows (reverse t))) empty ∙ sym empty
    ] in
    let whole : end - 0 ≡ end = omega arith in
    sym (c.loop-end.invariant.1 ∙ stays ∙ ap (λ (n : ℕ). take n word) whole)
