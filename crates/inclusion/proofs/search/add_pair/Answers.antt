use Rattle.inclusion.proofs.Marks.{told_push, has_pushed}
use Rattle.inclusion.proofs.search.add_pair.Goals as goal

pub returns-in_ok-push-clause-listed : goal.returns-in_ok-push-clause-listed
returns-in_ok-push-clause-listed c =
    rw c.in_ok-push.ensures.items (told_push c.args.width c.args.marks.now.items c.args.order.now.items c.args.pair c.requires.set c.requires.place c.requires.listed)

pub returns-in_ok-push-clause-here : goal.returns-in_ok-push-clause-here
returns-in_ok-push-clause-here c =
    rw c.in_ok-push.ensures.items (has_pushed c.args.width c.args.marks.now.items c.args.order.now.items c.args.pair)
