use Rattle.template_items.proofs.Scanned.{passes_reached, finds_reached, ended_says, ended_few, ended_within, only_list}
use Rattle.template_items.proofs.scanning.items.Goals as goal

pub items-preserved-in-Passes : goal.items-preserved-in-Passes
items-preserved-in-Passes c = passes_reached c.args.bytes.now c.items.state c.in-Passes.next c.items.items.items c.items.invariant c.in_ok-next.field-0 c.in-Passes.is c.in_ok-next.ensures.is c.in_ok-next.ensures.on

pub items-preserved : goal.items-preserved
items-preserved c = rw c.in_ok-push-in-Finds.ensures.items (finds_reached c.args.bytes.now c.items.state c.in-Finds.next c.items.items.items c.in-Finds.item c.items.invariant c.in_ok-next.field-0 c.in-Finds.is c.in_ok-next.ensures.is c.in_ok-next.ensures.on)

pub returns-in-Ends-clause-exact : goal.returns-in-Ends-clause-exact
returns-in-Ends-clause-exact c = ended_says c.args.bytes.now c.items.state c.items.items.items c.in-Ends.last c.items.invariant c.in_ok-next.field-0 c.in-Ends.is c.in_ok-next.ensures.is c.ended.result c.ended.ensures

pub returns-in-Ends-clause-only : goal.returns-in-Ends-clause-only
returns-in-Ends-clause-only c = only_list c.args.bytes.now c.ended.result (ended_says c.args.bytes.now c.items.state c.items.items.items c.in-Ends.last c.items.invariant c.in_ok-next.field-0 c.in-Ends.is c.in_ok-next.ensures.is c.ended.result c.ended.ensures)

pub returns-in-Ends-clause-few : goal.returns-in-Ends-clause-few
returns-in-Ends-clause-few c = ended_few c.args.bytes.now c.items.state c.items.items.items c.in-Ends.last c.items.invariant c.ended.result c.ended.ensures

pub returns-in-Ends-clause-within : goal.returns-in-Ends-clause-within
returns-in-Ends-clause-within c = ended_within c.args.bytes.now c.items.state c.items.items.items c.in-Ends.last c.items.invariant c.in_ok-next.field-0 c.in-Ends.is c.in_ok-next.ensures.on c.ended.result c.ended.ensures
