use Rattle.std.proofs.Common.{List, subst}
use Rattle.std.specs.Prelude.{Contains}
use Rattle.query_blocks.specs.declared.QueryBlock.{QueryBlock}
use Rattle.tests_queries.proofs.rows.rows_text.Goals as goal

pub put_blocks-requires : goal.put_blocks-requires
put_blocks-requires g c = λ b h. (c.requires b (subst (λ (bs : List QueryBlock). Contains bs b) c.as_slice.ensures.value h)).well_made
