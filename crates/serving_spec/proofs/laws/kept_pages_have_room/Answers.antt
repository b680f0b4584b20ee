use Rattle.serving_spec.proofs.RoomLemmas.{kept_fits}
use Rattle.serving_spec.proofs.laws.kept_pages_have_room.Goals as goal

pub returns : goal.returns
returns g c = λ room some start events makes kept keeps.
    kept_fits room some g.P.ChangingPages.site g.P.ChangingPages.templates g.P.ChangingPages.texts start events makes kept keeps
