use Rattle.std.proofs.Common.{rules, ◌≡◌, length, refl}
use Rattle.template_reader.proofs.Filing.{add_collection, add_function}
use Rattle.template_reader.proofs.templates.Tables.add.Goals as goal

pub returns-in_ok-push-2 : goal.returns-in_ok-push-2
returns-in_ok-push-2 c entries filed =
    let number : c.len-number.result ≡ length c.args.self.now.bodies.items = search rules in
    add_collection c.args.self.now (record { functions = c.args.self.now.functions; collections = c.push-then-entry.new.self; bodies = c.push.new.self }) entries c.args.entry c.len-number.result number filed c.in_ok-push.ensures.items c.if-entry.true c.in_ok-push-2.ensures.items refl

pub returns-in_ok-push-3 : goal.returns-in_ok-push-3
returns-in_ok-push-3 c entries filed =
    let number : c.len-number.result ≡ length c.args.self.now.bodies.items = search rules in
    add_function c.args.self.now (record { functions = c.push-else-entry.new.self; collections = c.args.self.now.collections; bodies = c.push.new.self }) entries c.args.entry c.len-number.result number filed c.in_ok-push.ensures.items c.if-entry.false refl c.in_ok-push-3.ensures.items
