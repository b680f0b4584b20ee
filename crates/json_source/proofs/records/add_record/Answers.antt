use Rattle.std.proofs.Common.{◌∙◌, sym, ap, refl, []}
use Rattle.serde_json.specs.View.{view}
use Rattle.sd_graph.specs.Stating.{fails}
use Rattle.std.proofs.Common.{◌∷◌}
use Rattle.json_source.specs.declared.refusal.JsonRefusal.TheVariants.{NotRecords}
use Rattle.json_source.proofs.Steps.{no_record}
use Rattle.json_source.proofs.records.add_record.Goals as goal

pub returns-in_default : goal.returns-in_default
returns-in_default c = (
  [],
  [],
  no_record c.args.rules c.args.at.now c.args.collection.now c.args.node.now (view c.args.value.now) (rw c.in_default.is at c.as_object.ensures)
      ∙ ap (λ p. fails (NotRecords p) ∷ []) (sym c.in_ok-copy.ensures),
  refl,
)
