use Rattle.std.proofs.Common.{map}
use Rattle.certificate_text.proofs.LineLists.{line_less, proofs_end}
use Rattle.certificate_text.proofs.print.put_proofs.Goals as goal

pub loop-i-preserved : goal.loop-i-preserved
loop-i-preserved c =
    line_less (map (λ v. v.now) c.args.variables.now) c.args.mentions.now c.args.proofs.now c.loop-i.i c.index-mentions-i.result c.index-proofs-i.result _ c.loop-i.out.items c.put_proof.new.out.items
    c.if-i-mentions.false c.loop-i-test.true c.index-mentions-i.is c.index-proofs-i.is c.loop-i.invariant c.in_ok-put_proof.ensures

pub returns : goal.returns
returns c =
    proofs_end (map (λ v. v.now) c.args.variables.now) c.args.mentions.now c.args.proofs.now c.loop-i.i c.loop-i.out.items
    _ c.loop-i-test.false c.loop-i.invariant
