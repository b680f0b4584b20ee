use Rattle.std.proofs.Common.{◌≡◌, ◌++◌, take}
use Rattle.std.specs.Prelude.{codes}
use Rattle.std.specs.List.{flat_map}
use Rattle.struql_ast.specs.Reading.{blocks_of}
use Rattle.struql_print.specs.Texts.{block_texts}
use Rattle.struql_print.proofs.query.print_lines.Given as goal

abbrev pub invariant-loop-block : goal.invariant-loop-block
invariant-loop-block l = l.out.items ≡ l.initial.out.items ++ flat_map (λ text. text ++ codes "\n") (block_texts l.fn.version (blocks_of (take l.block-index l.blocks)))
