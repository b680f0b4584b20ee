use Rattle.edit_laws.proofs.Guards.{touching_decided}
use Rattle.edit_laws.proofs.Decisions.{footprint_decided, one_template, one_footprint}
use Rattle.edit_laws.proofs.touching_is_decided.Goals as goal

pub returns : goal.returns
returns c = record {
  chain = touching_decided;
  footprint = footprint_decided;
  one_template = one_template;
  one_footprint = one_footprint;
}
