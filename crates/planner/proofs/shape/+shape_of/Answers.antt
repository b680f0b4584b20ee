use Rattle.planner.proofs.shape.+shape_of.Goals as goal

pub returns-in-Path : goal.returns-in-Path
returns-in-Path t c = rw c.in-Path.is (c.path_shape.ensures c.args.version)
