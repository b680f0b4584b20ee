use Rattle.std.proofs.Common.{◌∙◌, List, refl, sym, subst}
use Rattle.std.specs.Prelude.{IfSome, Some, None}
use Rattle.tmpl.specs.Body.{TemplateFile}
use Rattle.query_blocks.specs.Blocks.{scope_of}
use Rattle.weight_spec.specs.Charges.{IsCause}
use Rattle.weight_spec.specs.CountsAtMost.{CountsAtMost}
use Rattle.click_time.specs.Told.{AreGathered}
use Rattle.click_time.proofs.Account.{entries_put, put_at, unchanged_put, asks_put, asks_twice, asks_none}
use Rattle.sd_value.specs.declared.Value.{Value}
use Rattle.sd_value.specs.Order.{value_cmp}
use Rattle.sd_value.specs.Ascending.{ListsExactly}
use Rattle.site_spec.specs.Site.{Collected}
use Rattle.page_spec.specs.Question.{collected}
use Rattle.click_time.proofs.recall.gathered_first.Goals as goal

pub returns-in_err-first-clause-asked : goal.returns-in_err-first-clause-asked
returns-in_err-first-clause-asked g c =
    asks_none c.args.name.now ((f : TemplateFile) → CountsAtMost (IsCause (g.A.Asker.graph c.args.asker.now) (scope_of c.args.scopes.now) f (collected c.args.name.now)) (g.A.Asker.count c.args.asker.now) (g.A.Asker.count c.args.asker.now)) c.args.known.now.told.entries c.args.known.now.told.entries (g.A.Asker.count c.args.asker.now) refl

pub returns-in_err-again-clause-asked : goal.returns-in_err-again-clause-asked
returns-in_err-again-clause-asked g c =
    asks_none c.args.name.now ((f : TemplateFile) → CountsAtMost (IsCause (g.A.Asker.graph c.args.asker.now) (scope_of c.args.scopes.now) f (collected c.args.name.now)) (g.A.Asker.count c.args.asker.now) (g.A.Asker.count c.args.asker.now)) c.args.known.now.told.entries c.args.known.now.told.entries (g.A.Asker.count c.args.asker.now) refl

pub returns-in_err-put-clause-asked : goal.returns-in_err-put-clause-asked
returns-in_err-put-clause-asked g c =
    asks_none c.args.name.now ((f : TemplateFile) → CountsAtMost (IsCause (g.A.Asker.graph c.args.asker.now) (scope_of c.args.scopes.now) f (collected c.args.name.now)) (g.A.Asker.count c.args.asker.now) (g.A.Asker.count c.args.asker.now)) c.args.known.now.told.entries c.put.new.self.told.entries (g.A.Asker.count c.args.asker.now) c.in_err-put.ensures

pub returns-in_err-put-clause-told : goal.returns-in_err-put-clause-told
returns-in_err-put-clause-told g c =
    subst (AreGathered (g.A.Asker.graph c.args.asker.now) (scope_of c.args.scopes.now)) (sym c.in_err-put.ensures) c.requires.told

pub returns-in_err-values-clause-asked : goal.returns-in_err-values-clause-asked
returns-in_err-values-clause-asked g c =
    asks_put c.args.name.now None ((f : TemplateFile) → CountsAtMost (IsCause (g.A.Asker.graph c.args.asker.now) (scope_of c.args.scopes.now) f (collected c.args.name.now)) (g.A.Asker.count c.args.asker.now) (g.A.Asker.count c.collected.new.asker)) c.args.known.now.told.entries c.put.new.self.told.entries (g.A.Asker.count c.args.asker.now) (g.A.Asker.count c.collected.new.asker) c.requires.fresh (put_at c.args.name.now c.in_ok-first.first None c.args.known.now.told.entries c.put.new.self.told.entries c.in_ok-first.ensures c.in_ok-put.ensures) c.in_err-values.ensures.counted

pub returns-in_err-values-clause-told : goal.returns-in_err-values-clause-told
returns-in_err-values-clause-told g c =
    (entries_put (λ e. IfSome e.1 (λ vs. ListsExactly value_cmp (Collected (g.A.Asker.graph c.args.asker.now) (scope_of c.args.scopes.now) e.0) vs.items)) c.args.name.now None c.args.known.now.told.entries c.put.new.self.told.entries c.requires.told tt (put_at c.args.name.now c.in_ok-first.first None c.args.known.now.told.entries c.put.new.self.told.entries c.in_ok-first.ensures c.in_ok-put.ensures))

pub returns-in_err-kept-clause-asked : goal.returns-in_err-kept-clause-asked
returns-in_err-kept-clause-asked g c =
    asks_put c.args.name.now None ((f : TemplateFile) → CountsAtMost (IsCause (g.A.Asker.graph c.args.asker.now) (scope_of c.args.scopes.now) f (collected c.args.name.now)) (g.A.Asker.count c.args.asker.now) (g.A.Asker.count c.collected.new.asker)) c.args.known.now.told.entries c.put.new.self.told.entries (g.A.Asker.count c.args.asker.now) (g.A.Asker.count c.collected.new.asker) c.requires.fresh (put_at c.args.name.now c.in_ok-first.first None c.args.known.now.told.entries c.put.new.self.told.entries c.in_ok-first.ensures c.in_ok-put.ensures) c.in_ok-values.ensures.counted

pub returns-in_err-kept-clause-told : goal.returns-in_err-kept-clause-told
returns-in_err-kept-clause-told g c =
    (entries_put (λ e. IfSome e.1 (λ vs. ListsExactly value_cmp (Collected (g.A.Asker.graph c.args.asker.now) (scope_of c.args.scopes.now) e.0) vs.items)) c.args.name.now None c.args.known.now.told.entries c.put.new.self.told.entries c.requires.told tt (put_at c.args.name.now c.in_ok-first.first None c.args.known.now.told.entries c.put.new.self.told.entries c.in_ok-first.ensures c.in_ok-put.ensures))

pub returns-in_err-put-2-clause-asked : goal.returns-in_err-put-2-clause-asked
returns-in_err-put-2-clause-asked g c =
    asks_put c.args.name.now None ((f : TemplateFile) → CountsAtMost (IsCause (g.A.Asker.graph c.args.asker.now) (scope_of c.args.scopes.now) f (collected c.args.name.now)) (g.A.Asker.count c.args.asker.now) (g.A.Asker.count c.collected.new.asker)) c.args.known.now.told.entries c.put-2.new.self.told.entries (g.A.Asker.count c.args.asker.now) (g.A.Asker.count c.collected.new.asker) c.requires.fresh (unchanged_put c.args.name.now None c.args.known.now.told.entries c.put.new.self.told.entries c.put-2.new.self.told.entries c.in_err-put-2.ensures (put_at c.args.name.now c.in_ok-first.first None c.args.known.now.told.entries c.put.new.self.told.entries c.in_ok-first.ensures c.in_ok-put.ensures)) c.in_ok-values.ensures.counted

pub returns-in_err-put-2-clause-told : goal.returns-in_err-put-2-clause-told
returns-in_err-put-2-clause-told g c =
    entries_put (λ e. IfSome e.1 (λ vs. ListsExactly value_cmp (Collected (g.A.Asker.graph c.args.asker.now) (scope_of c.args.scopes.now) e.0) vs.items)) c.args.name.now None c.args.known.now.told.entries c.put-2.new.self.told.entries c.requires.told tt (unchanged_put c.args.name.now None c.args.known.now.told.entries c.put.new.self.told.entries c.put-2.new.self.told.entries c.in_err-put-2.ensures (put_at c.args.name.now c.in_ok-first.first None c.args.known.now.told.entries c.put.new.self.told.entries c.in_ok-first.ensures c.in_ok-put.ensures))

pub returns-clause-asked : goal.returns-clause-asked
returns-clause-asked g c =
    asks_twice c.args.name.now None (Some c.in_ok-kept.kept) ((f : TemplateFile) → CountsAtMost (IsCause (g.A.Asker.graph c.args.asker.now) (scope_of c.args.scopes.now) f (collected c.args.name.now)) (g.A.Asker.count c.args.asker.now) (g.A.Asker.count c.collected.new.asker)) c.args.known.now.told.entries c.put.new.self.told.entries c.put-2.new.self.told.entries (g.A.Asker.count c.args.asker.now) (g.A.Asker.count c.collected.new.asker) c.requires.fresh (put_at c.args.name.now c.in_ok-first.first None c.args.known.now.told.entries c.put.new.self.told.entries c.in_ok-first.ensures c.in_ok-put.ensures) (put_at c.args.name.now c.in_ok-again.again (Some c.in_ok-kept.kept) c.put.new.self.told.entries c.put-2.new.self.told.entries c.in_ok-again.ensures c.in_ok-put-2.ensures) c.in_ok-values.ensures.counted

pub returns-clause-told : goal.returns-clause-told
returns-clause-told g c =
    entries_put (λ e. IfSome e.1 (λ vs. ListsExactly value_cmp (Collected (g.A.Asker.graph c.args.asker.now) (scope_of c.args.scopes.now) e.0) vs.items)) c.args.name.now (Some c.in_ok-kept.kept) c.put.new.self.told.entries c.put-2.new.self.told.entries (entries_put (λ e. IfSome e.1 (λ vs. ListsExactly value_cmp (Collected (g.A.Asker.graph c.args.asker.now) (scope_of c.args.scopes.now) e.0) vs.items)) c.args.name.now None c.args.known.now.told.entries c.put.new.self.told.entries c.requires.told tt (put_at c.args.name.now c.in_ok-first.first None c.args.known.now.told.entries c.put.new.self.told.entries c.in_ok-first.ensures c.in_ok-put.ensures)) (subst (λ (l : List Value). ListsExactly value_cmp (Collected (g.A.Asker.graph c.args.asker.now) (scope_of c.args.scopes.now) c.args.name.now) l) (sym (c.in_ok-kept.ensures ∙ c.as_slice.ensures.value)) c.in_ok-values.ensures.values) (put_at c.args.name.now c.in_ok-again.again (Some c.in_ok-kept.kept) c.put.new.self.told.entries c.put-2.new.self.told.entries c.in_ok-again.ensures c.in_ok-put-2.ensures)
