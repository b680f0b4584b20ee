use Rattle.page_spec.proofs.Unique.{values_unique, key_unique, arranged_unique, pieces_unique}
use Rattle.page_spec.proofs.Texts.{has_text_unique, cyclic_unique, outcome_unique}
use Rattle.definition_examples.proofs.laws.one_answer.Goals as goal

pub returns : goal.returns
returns g c =
    let s = g.S.AnySite.site c.args.site.now in
    record {
      values = values_unique s;
      keys = key_unique s;
      arranged = arranged_unique s;
      pieces = pieces_unique s;
      texts = has_text_unique s;
      cycles = cyclic_unique s;
      outcomes = outcome_unique s;
    }
