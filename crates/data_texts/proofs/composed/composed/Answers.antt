use Rattle.site_spec.specs.Site.{scope_of}
use Rattle.data_texts.proofs.Reading.{read_some, read_none, nodes_kept, edges_kept}
use Rattle.data_texts.proofs.composed.composed.Goals as goal

pub returns-in-Ok : goal.returns-in-Ok
returns-in-Ok c = read_some (scope_of c.args.first.now) c.args.text.now c.args.gathered.graph c.requires c.in-Ok.graph
    c.in-Ok.ensures

pub returns-in-Err-TooManyNodes : goal.returns-in-Err-TooManyNodes
returns-in-Err-TooManyNodes c =
    read_none (scope_of c.args.first.now) c.args.text.now c.args.gathered.graph c.requires c.in-Err-TooManyNodes.field-0
    c.in-Err-TooManyNodes.ensures (nodes_kept c.in-Err-TooManyNodes.field-0 c.in-Err-TooManyNodes.field-0-is)

pub returns-in-Err-TooManyEdges : goal.returns-in-Err-TooManyEdges
returns-in-Err-TooManyEdges c =
    read_none (scope_of c.args.first.now) c.args.text.now c.args.gathered.graph c.requires c.in-Err-TooManyEdges.field-0
    c.in-Err-TooManyEdges.ensures (edges_kept c.in-Err-TooManyEdges.field-0 c.in-Err-TooManyEdges.field-0-is)
