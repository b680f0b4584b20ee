use Rattle.std.proofs.Common.{◌↔◌, List, subst}
use Rattle.std.specs.Prelude.{Contains}
use Rattle.sd_value.specs.Names.{Name}
use Rattle.site_lint.proofs.names.names_of.Goals as goal

pub returns : goal.returns
returns c = record {
  of_creates = λ n. subst (λ (l : List Name). Contains c.of-created.result n ↔ Contains l n) c.in_ok-created.ensures (c.of-created.ensures n);
  of_collects = λ n. subst (λ (l : List Name). Contains c.of-collected.result n ↔ Contains l n) c.in_ok-collected.ensures (c.of-collected.ensures n);
  of_reached = λ n. subst (λ (l : List Name). Contains c.of-reached.result n ↔ Contains l n) c.in_ok-reached.ensures (c.of-reached.ensures n);
  of_presented = λ n. subst (λ (l : List Name). Contains c.of-presented.result n ↔ Contains l n) c.in_ok-presented.ensures (c.of-presented.ensures n);
  of_root = c.in_ok-root.ensures;
}
