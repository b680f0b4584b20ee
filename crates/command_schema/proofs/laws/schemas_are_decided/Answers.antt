use Rattle.command_schema.proofs.Law.{schema_decides}
use Rattle.command_schema.proofs.laws.schemas_are_decided.Goals as goal

pub returns : goal.returns
returns c = schema_decides
