use Rattle.std.proofs.Common.{ap, ◌∙◌}
use Rattle.percent_encoding.specs.Percent.{percent_decode}
use Rattle.page_spec.specs.Address as spec
use Rattle.address.proofs.Targets.{decoded_is}
use Rattle.address.proofs.target.path_of.Goals as goal

pub returns : goal.returns
returns c =
    let b = c.before_query.ensures ∙ ap spec.before_query c.without_host.ensures in
    let d = c.percent_decode.ensures.bytes ∙ ap percent_decode b ∙ decoded_is (spec.before_query (spec.without_host c.args.target.now)) in
    rw (c.in_ok-append_to.ensures.ok, c.new-path.ensures.items) d
