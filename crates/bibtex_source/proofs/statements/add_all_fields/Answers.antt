use Rattle.std.proofs.Common.{◌∙◌, sym, subst}
use Rattle.sd_graph.specs.Stating.{Ends}
use Rattle.bibtex_source.specs.Source.{seen}
use Rattle.bibtex_source.specs.Text.{bib_ending, shown_steps}
use Rattle.bibtex_source.proofs.Gathered.{with_others}
use Rattle.bibtex_source.proofs.statements.add_all_fields.Goals as goal

pub returns : goal.returns
returns c =
    let s = seen c.args.reading.now in
    subst (λ fields. Ends c.args.graph.now (shown_steps s c.args.at c.args.key.now fields) c.add_shown-2.new.graph (bib_ending c.add_shown-2.result))
    (c.as_slice.ensures.value ∙ c.in_ok-all.ensures ∙ sym (with_others s c.args.fields.now c.if-not-reading.false)) c.add_shown-2.ensures
