use Rattle.std.proofs.Common.{[]}
use Rattle.query_spec.specs.Query.{blocks_in_scope}
use Rattle.site_spec.specs.Paths.{paths_from}
use Rattle.schema.proofs.PathLists.{paths_length}
use Rattle.certificate_text.proofs.NamedMentions.{all_named}
use Rattle.certificate_text.proofs.lines_name_the_mentions.Goals as goal

pub returns : goal.returns
returns c = λ q f. all_named f (paths_from [] 1 q.blocks) (blocks_in_scope q) (paths_length [] 1 [] q.blocks)
