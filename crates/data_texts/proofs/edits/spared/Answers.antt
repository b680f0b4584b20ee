use Rattle.std.proofs.Common.{ap}
use Rattle.std.specs.Prelude.{not}
use Rattle.sd_value.specs.declared.Term.{Term}
use Rattle.tmpl.specs.Reading.{file_of}
use Rattle.query_blocks.specs.Blocks.{scope_of}
use Rattle.data_texts.proofs.TheTouching.{same_test}
use Rattle.data_texts.proofs.Flags.{flags_more, flags_all}
use Rattle.data_texts.proofs.edits.spared.Goals as goal

pub loop-term-preserved : goal.loop-term-preserved
loop-term-preserved c = λ touching.
    (let q = scope_of c.args.scopes.now in
    let f = file_of c.args.templates.now in
    let e = c.args.edit.now in
    flags_more (λ (t : Term). not (touching.touches e q f t.function)) c.args.terms.now c.loop-term.term-index c.term-item.result
    c.loop-term.flags.items _ (not c.in_ok-touched.touched) c.loop-term-test.true c.term-item.is (c.loop-term.invariant touching)
    c.in_ok-push.ensures.items
    (ap not (same_test c.in_ok-touched.touched _ _ c.in_ok-touched.ensures.exact (touching.exact e q f c.term-item.result.function))))

pub returns : goal.returns
returns c = λ touching.
    flags_all (λ (t : Term). not (touching.touches c.args.edit.now (scope_of c.args.scopes.now) (file_of c.args.templates.now) t.function))
    c.args.terms.now c.loop-term.term-index c.loop-term.flags.items c.loop-term-test.false (c.loop-term.invariant touching)
