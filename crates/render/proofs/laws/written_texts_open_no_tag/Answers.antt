use Rattle.render.proofs.Safety.{safe}
use Rattle.render.proofs.laws.written_texts_open_no_tag.Goals as goal

pub returns : goal.returns
returns c = safe
