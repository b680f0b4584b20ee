use Rattle.std.proofs.Common.{◌≡◌, drop}
use Rattle.std.specs.Prelude.{map}
use Rattle.struql_ast.specs.Reading.{operand_of}
use Rattle.constraint_recheck.specs.Recheck.{zip_all}
use Rattle.constraint_recheck.specs.Search.{due_arg}
use Rattle.certificate_search.proofs.due.fit_args.Given as goal

abbrev pub invariant-loop-place : goal.invariant-loop-place
invariant-loop-place l =
    let fits = due_arg l.variables l.names in
    zip_all fits (map operand_of (drop l.place l.operands)) (map operand_of (drop l.place l.others))
    ≡ zip_all fits (map operand_of l.operands) (map operand_of l.others)
