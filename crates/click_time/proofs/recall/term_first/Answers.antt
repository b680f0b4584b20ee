use Rattle.std.proofs.Common.{refl, sym, subst}
use Rattle.std.specs.Prelude.{IfSome, Some, None}
use Rattle.tmpl.specs.Body.{TemplateFile}
use Rattle.query_blocks.specs.Blocks.{scope_of}
use Rattle.weight_spec.specs.Charges.{IsCause}
use Rattle.weight_spec.specs.CountsAtMost.{CountsAtMost}
use Rattle.click_time.specs.Told.{AreTerms}
use Rattle.click_time.proofs.Account.{entries_put, put_at, unchanged_put, asks_put, asks_twice, asks_none}
use Rattle.std.specs.Prelude.{IsTrue, ◌↔◌}
use Rattle.site_spec.specs.Site.{InSite}
use Rattle.page_spec.specs.Question.{in_site}
use Rattle.click_time.proofs.recall.term_first.Goals as goal

pub returns-in_err-first-clause-asked : goal.returns-in_err-first-clause-asked
returns-in_err-first-clause-asked g c =
    asks_none c.args.term.now ((f : TemplateFile) → CountsAtMost (IsCause (g.A.Asker.graph c.args.asker.now) (scope_of c.args.scopes.now) f (in_site c.args.term.now)) (g.A.Asker.count c.args.asker.now) (g.A.Asker.count c.args.asker.now)) c.args.known.now.told.entries c.args.known.now.told.entries (g.A.Asker.count c.args.asker.now) refl

pub returns-in_err-again-clause-asked : goal.returns-in_err-again-clause-asked
returns-in_err-again-clause-asked g c =
    asks_none c.args.term.now ((f : TemplateFile) → CountsAtMost (IsCause (g.A.Asker.graph c.args.asker.now) (scope_of c.args.scopes.now) f (in_site c.args.term.now)) (g.A.Asker.count c.args.asker.now) (g.A.Asker.count c.args.asker.now)) c.args.known.now.told.entries c.args.known.now.told.entries (g.A.Asker.count c.args.asker.now) refl

pub returns-in_err-put-clause-asked : goal.returns-in_err-put-clause-asked
returns-in_err-put-clause-asked g c =
    asks_none c.args.term.now ((f : TemplateFile) → CountsAtMost (IsCause (g.A.Asker.graph c.args.asker.now) (scope_of c.args.scopes.now) f (in_site c.args.term.now)) (g.A.Asker.count c.args.asker.now) (g.A.Asker.count c.args.asker.now)) c.args.known.now.told.entries c.put.new.self.told.entries (g.A.Asker.count c.args.asker.now) c.in_err-put.ensures

pub returns-in_err-put-clause-told : goal.returns-in_err-put-clause-told
returns-in_err-put-clause-told g c =
    subst (AreTerms (g.A.Asker.graph c.args.asker.now) (scope_of c.args.scopes.now)) (sym c.in_err-put.ensures) c.requires.told

pub returns-in_err-found-clause-asked : goal.returns-in_err-found-clause-asked
returns-in_err-found-clause-asked g c =
    asks_put c.args.term.now None ((f : TemplateFile) → CountsAtMost (IsCause (g.A.Asker.graph c.args.asker.now) (scope_of c.args.scopes.now) f (in_site c.args.term.now)) (g.A.Asker.count c.args.asker.now) (g.A.Asker.count c.in_site.new.asker)) c.args.known.now.told.entries c.put.new.self.told.entries (g.A.Asker.count c.args.asker.now) (g.A.Asker.count c.in_site.new.asker) c.requires.fresh (put_at c.args.term.now c.in_ok-first.first None c.args.known.now.told.entries c.put.new.self.told.entries c.in_ok-first.ensures c.in_ok-put.ensures) c.in_err-found.ensures.counted

pub returns-in_err-found-clause-told : goal.returns-in_err-found-clause-told
returns-in_err-found-clause-told g c =
    (entries_put (λ e. IfSome e.1 (λ b. IsTrue b ↔ InSite (g.A.Asker.graph c.args.asker.now) (scope_of c.args.scopes.now) e.0)) c.args.term.now None c.args.known.now.told.entries c.put.new.self.told.entries c.requires.told tt (put_at c.args.term.now c.in_ok-first.first None c.args.known.now.told.entries c.put.new.self.told.entries c.in_ok-first.ensures c.in_ok-put.ensures))

pub returns-in_err-put-2-clause-asked : goal.returns-in_err-put-2-clause-asked
returns-in_err-put-2-clause-asked g c =
    asks_put c.args.term.now None ((f : TemplateFile) → CountsAtMost (IsCause (g.A.Asker.graph c.args.asker.now) (scope_of c.args.scopes.now) f (in_site c.args.term.now)) (g.A.Asker.count c.args.asker.now) (g.A.Asker.count c.in_site.new.asker)) c.args.known.now.told.entries c.put-2.new.self.told.entries (g.A.Asker.count c.args.asker.now) (g.A.Asker.count c.in_site.new.asker) c.requires.fresh (unchanged_put c.args.term.now None c.args.known.now.told.entries c.put.new.self.told.entries c.put-2.new.self.told.entries c.in_err-put-2.ensures (put_at c.args.term.now c.in_ok-first.first None c.args.known.now.told.entries c.put.new.self.told.entries c.in_ok-first.ensures c.in_ok-put.ensures)) c.in_ok-found.ensures.counted

pub returns-in_err-put-2-clause-told : goal.returns-in_err-put-2-clause-told
returns-in_err-put-2-clause-told g c =
    entries_put (λ e. IfSome e.1 (λ b. IsTrue b ↔ InSite (g.A.Asker.graph c.args.asker.now) (scope_of c.args.scopes.now) e.0)) c.args.term.now None c.args.known.now.told.entries c.put-2.new.self.told.entries c.requires.told tt (unchanged_put c.args.term.now None c.args.known.now.told.entries c.put.new.self.told.entries c.put-2.new.self.told.entries c.in_err-put-2.ensures (put_at c.args.term.now c.in_ok-first.first None c.args.known.now.told.entries c.put.new.self.told.entries c.in_ok-first.ensures c.in_ok-put.ensures))

pub returns-clause-asked : goal.returns-clause-asked
returns-clause-asked g c =
    asks_twice c.args.term.now None (Some c.in_ok-found.found) ((f : TemplateFile) → CountsAtMost (IsCause (g.A.Asker.graph c.args.asker.now) (scope_of c.args.scopes.now) f (in_site c.args.term.now)) (g.A.Asker.count c.args.asker.now) (g.A.Asker.count c.in_site.new.asker)) c.args.known.now.told.entries c.put.new.self.told.entries c.put-2.new.self.told.entries (g.A.Asker.count c.args.asker.now) (g.A.Asker.count c.in_site.new.asker) c.requires.fresh (put_at c.args.term.now c.in_ok-first.first None c.args.known.now.told.entries c.put.new.self.told.entries c.in_ok-first.ensures c.in_ok-put.ensures) (put_at c.args.term.now c.in_ok-again.again (Some c.in_ok-found.found) c.put.new.self.told.entries c.put-2.new.self.told.entries c.in_ok-again.ensures c.in_ok-put-2.ensures) c.in_ok-found.ensures.counted

pub returns-clause-told : goal.returns-clause-told
returns-clause-told g c =
    entries_put (λ e. IfSome e.1 (λ b. IsTrue b ↔ InSite (g.A.Asker.graph c.args.asker.now) (scope_of c.args.scopes.now) e.0)) c.args.term.now (Some c.in_ok-found.found) c.put.new.self.told.entries c.put-2.new.self.told.entries (entries_put (λ e. IfSome e.1 (λ b. IsTrue b ↔ InSite (g.A.Asker.graph c.args.asker.now) (scope_of c.args.scopes.now) e.0)) c.args.term.now None c.args.known.now.told.entries c.put.new.self.told.entries c.requires.told tt (put_at c.args.term.now c.in_ok-first.first None c.args.known.now.told.entries c.put.new.self.told.entries c.in_ok-first.ensures c.in_ok-put.ensures)) c.in_ok-found.ensures.answer (put_at c.args.term.now c.in_ok-again.again (Some c.in_ok-found.found) c.put.new.self.told.entries c.put-2.new.self.told.entries c.in_ok-again.ensures c.in_ok-put-2.ensures)
