use Rattle.std.proofs.Common.{refl, Some}
use Rattle.site_inputs.proofs.SiteData.{site_taken}
use Rattle.site_inputs.proofs.data.take_site.Goals as goal

pub returns-in-Ok : goal.returns-in-Ok
returns-in-Ok c =
    site_taken c.args.path.now c.args.gathered.graph c.args.first c.in-Ok.graph (record { graph = c.in-Ok.graph; first = Some c.args.first }) c.in-Ok.ensures refl
