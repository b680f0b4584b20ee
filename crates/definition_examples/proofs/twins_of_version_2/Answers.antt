use Rattle.definition_examples.proofs.Twins.{equal_to_its_text, either_way_round, unlike_with_a_zero, unlike_under_version_1, below_as_numbers, texts_by_bytes}
use Rattle.definition_examples.proofs.twins_of_version_2.Goals as goal

pub returns : goal.returns
returns c = record {
  equal = equal_to_its_text;
  turned = either_way_round;
  zero_in_front = unlike_with_a_zero;
  version_1 = unlike_under_version_1;
  below = below_as_numbers;
  texts = texts_by_bytes;
}
