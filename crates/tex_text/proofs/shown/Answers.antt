use Rattle.tex_text.proofs.Turns.{one_more, ends}
use Rattle.tex_text.proofs.shown.Goals as goal

pub elements-preserved : goal.elements-preserved
elements-preserved c =
    one_more c.args.bytes.now c.elements.text.items c.element.new.text.items c.elements.accents c.in_ok-waiting.waiting c.elements.rest.now c.in-Some.later.now c.in_ok-waiting.after.now c.in-Some.b.now
    c.in-Some.ensures.cases.0 c.in_ok-waiting.ensures.is c.in_ok-waiting.ensures.shorter c.elements.invariant

pub returns : goal.returns
returns c = ends c.args.bytes.now c.elements.text.items c.elements.accents c.elements.rest.now c.in_default.ensures.cases c.elements.invariant
