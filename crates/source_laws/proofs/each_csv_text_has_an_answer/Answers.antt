use Rattle.source_laws.proofs.Csv.{csv_answer}
use Rattle.source_laws.proofs.each_csv_text_has_an_answer.Goals as goal

pub returns : goal.returns
returns c = csv_answer
