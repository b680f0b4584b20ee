use Rattle.std.proofs.Common.{◌∙◌, refl, rules}
use Rattle.page_spec.specs.Address.{TermOf}
use Rattle.serving_spec.specs.Shown.{shown_in}
use Rattle.hub.proofs.ServeLemmas.{sent_answer, short_answer}
use Rattle.hub.proofs.connection.answer.Goals as goal

pub returns-in-Err-clause-sent : goal.returns-in-Err-clause-sent
returns-in-Err-clause-sent g c =
    let looked = c.in-Err.ensures.looked in (
      record { replies = 0; terms = looked.0 },
      short_answer (shown_in c.args.origin.now g.P.Versions.site g.P.Versions.templates (g.P.Versions.state c.args.pages.now)) (TermOf c.args.origin.now.root) c.args.ask.now c.args.target.now c.args.last
          looked.0 c.cut_short.result _ _ _ _ looked.1 c.cut_short.ensures.sent,
      refl,
      looked.3,
    )

pub returns-in-Ok-clause-sent : goal.returns-in-Ok-clause-sent
returns-in-Ok-clause-sent g c =
    let found = c.in-Ok.ensures.bytes in
    let looked = c.in-Ok.ensures.looked in (
      record { replies = 1; terms = looked.0 },
      sent_answer (shown_in c.args.origin.now g.P.Versions.site g.P.Versions.templates (g.P.Versions.state c.args.pages.now)) (TermOf c.args.origin.now.root) c.args.ask.now c.args.target.now c.args.last
          c.closes-close.result c.as_slice.result.now found.0 looked.0 c.send.result _ _ _ _ c.closes-close.ensures found.1 (c.as_slice.ensures.value ∙ found.2) looked.2 c.send.ensures.sent,
      search rules,
      looked.3,
    )
