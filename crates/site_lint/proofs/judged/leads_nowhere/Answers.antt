use Rattle.site_lint.proofs.LinkLaws.{nowhere}
use Rattle.site_lint.proofs.judged.leads_nowhere.Goals as goal

pub returns-then-is_absent-2 : goal.returns-then-is_absent-2
returns-then-is_absent-2 c = λ q created further has.
    let n = nowhere q c.args.function.now further c.args.links.now.quoted_on c.args.links.now.arcs_on has.quoted_on has.arcs_on in
    let first = c.is_absent.ensures.0 c.if-is_absent.true in
    let second = c.is_absent-then-is_absent.ensures.0 c.if-is_absent-2.true in
    let third = c.is_absent-then-is_absent-2.ensures in
    (λ t. (first, n.0 (second, third.0 t)), λ h. third.1 (n.1 h.1).1)

pub returns-else-is_absent-2 : goal.returns-else-is_absent-2
returns-else-is_absent-2 c = λ q created further has.
    let n = nowhere q c.args.function.now further c.args.links.now.quoted_on c.args.links.now.arcs_on has.quoted_on has.arcs_on in
    (λ t. (let off = c.if-is_absent-2.false in let on = t in cc), λ h. c.is_absent-then-is_absent.ensures.1 (n.1 h.1).0)
