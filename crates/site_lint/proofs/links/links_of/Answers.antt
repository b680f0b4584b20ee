use Rattle.std.proofs.Common.{sym, ◌∙◌}
use Rattle.site_lint.proofs.LinkLaws.{labels_as, quoted_as, carrying_as}
use Rattle.site_lint.proofs.links.links_of.Goals as goal

pub returns : goal.returns
returns g c =
    let q = g.L.LinkAnswers.query c.args.answers.now in
    let same = c.in_ok-index.ensures ∙ sym c.requires.query in
    let labels = c.in_ok-labels.labels in
    let further = c.args.further.now in
    record {
      index = same;
      created_labels = labels_as q c.in_ok-index.index c.args.created.now c.in_ok-created_labels.created_labels same c.in_ok-created_labels.ensures;
      quoted_on = quoted_as q c.in_ok-index.index labels further c.in_ok-quoted_on.quoted_on same c.in_ok-labels.ensures c.in_ok-quoted_on.ensures;
      arcs_on = carrying_as q c.items.result.now labels further c.in_ok-arcs_on.arcs_on c.items.ensures c.in_ok-labels.ensures c.in_ok-arcs_on.ensures;
    }
