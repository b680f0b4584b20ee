use Rattle.std.proofs.Common.{refl, sym, subst}
use Rattle.std.specs.Prelude.{IfSome, Some, None}
use Rattle.weight_spec.specs.Charges.{IsCause}
use Rattle.weight_spec.specs.CountsAtMost.{CountsAtMost}
use Rattle.click_time.specs.Told.{AreNumbers}
use Rattle.click_time.proofs.Account.{entries_put, put_at, unchanged_put, asks_put, asks_twice, asks_none}
use Rattle.site_spec.specs.Site.{Scope}
use Rattle.page_spec.specs.Question.{template}
use Rattle.click_time.specs.Told.{Numbers}
use Rattle.tmpl.specs.Reading.{file_of}
use Rattle.click_time.proofs.recall.template_first.Goals as goal

pub returns-in_err-first-clause-asked : goal.returns-in_err-first-clause-asked
returns-in_err-first-clause-asked g c =
    asks_none c.args.value.now ((q : Scope) → CountsAtMost (IsCause (g.A.Asker.graph c.args.asker.now) q (file_of c.args.templates.now) (template c.args.value.now)) (g.A.Asker.count c.args.asker.now) (g.A.Asker.count c.args.asker.now)) c.args.known.now.told.entries c.args.known.now.told.entries (g.A.Asker.count c.args.asker.now) refl

pub returns-in_err-again-clause-asked : goal.returns-in_err-again-clause-asked
returns-in_err-again-clause-asked g c =
    asks_none c.args.value.now ((q : Scope) → CountsAtMost (IsCause (g.A.Asker.graph c.args.asker.now) q (file_of c.args.templates.now) (template c.args.value.now)) (g.A.Asker.count c.args.asker.now) (g.A.Asker.count c.args.asker.now)) c.args.known.now.told.entries c.args.known.now.told.entries (g.A.Asker.count c.args.asker.now) refl

pub returns-in_err-put-clause-asked : goal.returns-in_err-put-clause-asked
returns-in_err-put-clause-asked g c =
    asks_none c.args.value.now ((q : Scope) → CountsAtMost (IsCause (g.A.Asker.graph c.args.asker.now) q (file_of c.args.templates.now) (template c.args.value.now)) (g.A.Asker.count c.args.asker.now) (g.A.Asker.count c.args.asker.now)) c.args.known.now.told.entries c.put.new.self.told.entries (g.A.Asker.count c.args.asker.now) c.in_err-put.ensures

pub returns-in_err-put-clause-told : goal.returns-in_err-put-clause-told
returns-in_err-put-clause-told g c =
    subst (AreNumbers (g.A.Asker.graph c.args.asker.now) (file_of c.args.templates.now)) (sym c.in_err-put.ensures) c.requires.told

pub returns-in_err-number-clause-asked : goal.returns-in_err-number-clause-asked
returns-in_err-number-clause-asked g c =
    asks_put c.args.value.now None ((q : Scope) → CountsAtMost (IsCause (g.A.Asker.graph c.args.asker.now) q (file_of c.args.templates.now) (template c.args.value.now)) (g.A.Asker.count c.args.asker.now) (g.A.Asker.count c.template.new.asker)) c.args.known.now.told.entries c.put.new.self.told.entries (g.A.Asker.count c.args.asker.now) (g.A.Asker.count c.template.new.asker) c.requires.fresh (put_at c.args.value.now c.in_ok-first.first None c.args.known.now.told.entries c.put.new.self.told.entries c.in_ok-first.ensures c.in_ok-put.ensures) c.in_err-number.ensures.counted

pub returns-in_err-number-clause-told : goal.returns-in_err-number-clause-told
returns-in_err-number-clause-told g c =
    (entries_put (λ e. IfSome e.1 (Numbers (g.A.Asker.graph c.args.asker.now) (file_of c.args.templates.now) e.0)) c.args.value.now None c.args.known.now.told.entries c.put.new.self.told.entries c.requires.told tt (put_at c.args.value.now c.in_ok-first.first None c.args.known.now.told.entries c.put.new.self.told.entries c.in_ok-first.ensures c.in_ok-put.ensures))

pub returns-in_err-put-2-clause-asked : goal.returns-in_err-put-2-clause-asked
returns-in_err-put-2-clause-asked g c =
    asks_put c.args.value.now None ((q : Scope) → CountsAtMost (IsCause (g.A.Asker.graph c.args.asker.now) q (file_of c.args.templates.now) (template c.args.value.now)) (g.A.Asker.count c.args.asker.now) (g.A.Asker.count c.template.new.asker)) c.args.known.now.told.entries c.put-2.new.self.told.entries (g.A.Asker.count c.args.asker.now) (g.A.Asker.count c.template.new.asker) c.requires.fresh (unchanged_put c.args.value.now None c.args.known.now.told.entries c.put.new.self.told.entries c.put-2.new.self.told.entries c.in_err-put-2.ensures (put_at c.args.value.now c.in_ok-first.first None c.args.known.now.told.entries c.put.new.self.told.entries c.in_ok-first.ensures c.in_ok-put.ensures)) c.in_ok-number.ensures.counted

pub returns-in_err-put-2-clause-told : goal.returns-in_err-put-2-clause-told
returns-in_err-put-2-clause-told g c =
    entries_put (λ e. IfSome e.1 (Numbers (g.A.Asker.graph c.args.asker.now) (file_of c.args.templates.now) e.0)) c.args.value.now None c.args.known.now.told.entries c.put-2.new.self.told.entries c.requires.told tt (unchanged_put c.args.value.now None c.args.known.now.told.entries c.put.new.self.told.entries c.put-2.new.self.told.entries c.in_err-put-2.ensures (put_at c.args.value.now c.in_ok-first.first None c.args.known.now.told.entries c.put.new.self.told.entries c.in_ok-first.ensures c.in_ok-put.ensures))

pub returns-clause-asked : goal.returns-clause-asked
returns-clause-asked g c =
    asks_twice c.args.value.now None (Some c.in_ok-number.number) ((q : Scope) → CountsAtMost (IsCause (g.A.Asker.graph c.args.asker.now) q (file_of c.args.templates.now) (template c.args.value.now)) (g.A.Asker.count c.args.asker.now) (g.A.Asker.count c.template.new.asker)) c.args.known.now.told.entries c.put.new.self.told.entries c.put-2.new.self.told.entries (g.A.Asker.count c.args.asker.now) (g.A.Asker.count c.template.new.asker) c.requires.fresh (put_at c.args.value.now c.in_ok-first.first None c.args.known.now.told.entries c.put.new.self.told.entries c.in_ok-first.ensures c.in_ok-put.ensures) (put_at c.args.value.now c.in_ok-again.again (Some c.in_ok-number.number) c.put.new.self.told.entries c.put-2.new.self.told.entries c.in_ok-again.ensures c.in_ok-put-2.ensures) c.in_ok-number.ensures.counted

pub returns-clause-told : goal.returns-clause-told
returns-clause-told g c =
    entries_put (λ e. IfSome e.1 (Numbers (g.A.Asker.graph c.args.asker.now) (file_of c.args.templates.now) e.0)) c.args.value.now (Some c.in_ok-number.number) c.put.new.self.told.entries c.put-2.new.self.told.entries (entries_put (λ e. IfSome e.1 (Numbers (g.A.Asker.graph c.args.asker.now) (file_of c.args.templates.now) e.0)) c.args.value.now None c.args.known.now.told.entries c.put.new.self.told.entries c.requires.told tt (put_at c.args.value.now c.in_ok-first.first None c.args.known.now.told.entries c.put.new.self.told.entries c.in_ok-first.ensures c.in_ok-put.ensures)) c.in_ok-number.ensures.answer (put_at c.args.value.now c.in_ok-again.again (Some c.in_ok-number.number) c.put.new.self.told.entries c.put-2.new.self.told.entries c.in_ok-again.ensures c.in_ok-put-2.ensures)
