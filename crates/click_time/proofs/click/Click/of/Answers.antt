use Rattle.std.proofs.Common.{sym}
use Rattle.click_time.proofs.Views.{asked_nothing}
use Rattle.click_time.proofs.click.Click.of.Goals as goal

pub returns-clause-own : goal.returns-clause-own
returns-clause-own g c =
    let m = c.new.result in
    (c.given-given.ensures.well_formed, c.requires, asked_nothing m.terms.told.entries m.ends.told.entries m.gathered.told.entries m.templates.told.entries (sym c.new.ensures.terms) (sym c.new.ensures.ends) (sym c.new.ensures.gathered) (sym c.new.ensures.templates))
