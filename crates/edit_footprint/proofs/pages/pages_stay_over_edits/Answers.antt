use Rattle.edit_footprint.proofs.Stays.{over_edits}
use Rattle.edit_footprint.proofs.pages.pages_stay_over_edits.Goals as goal

pub returns : goal.returns
returns c = over_edits
