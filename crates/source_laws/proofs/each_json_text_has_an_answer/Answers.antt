use Rattle.source_laws.proofs.Json.{json_answer}
use Rattle.source_laws.proofs.each_json_text_has_an_answer.Goals as goal

pub returns : goal.returns
returns c = json_answer
