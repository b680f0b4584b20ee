use Rattle.std.proofs.Common.{sym, subst}
use Rattle.std.specs.Map.{keys_of}
use Rattle.graph_spec.specs.DataGraph.{IsWellFormed}
use Rattle.tmpl.specs.Body.{TemplateFile}
use Rattle.tmpl.specs.Reading.{file_of}
use Rattle.page_spec.specs.Question.{out}
use Rattle.query_blocks.specs.Blocks.{AreCheckedBlocks, scope_of}
use Rattle.weight_spec.specs.Charges.{IsCause}
use Rattle.weight_spec.specs.CountsAtMost.{CountsAtMost}
use Rattle.click_time.specs.Fixed.{Keeps, all_asked}
use Rattle.click_time.proofs.Account.{may_keep, end_asked}
use Rattle.click_time.proofs.Views.{after_end}
use Rattle.click_time.proofs.click.ClickSiteView.out.Goals as goal

pub returns-in_err-ends-clause-own : goal.returns-in_err-ends-clause-own
returns-in_err-ends-clause-own g c =
    subst (λ X. IsWellFormed X × AreCheckedBlocks c.args.self.now.scopes.now.version c.args.self.now.scopes.now.blocks.items × Keeps X (scope_of c.args.self.now.scopes.now) (file_of c.args.self.now.templates.now) c.args.self.now.memo.terms.told.entries c.ends.new.known.told.entries c.args.self.now.memo.gathered.told.entries c.args.self.now.memo.templates.told.entries c.args.self.now.start (g.A.Asker.count c.ends.new.asker)) (sym c.in_err-ends.ensures.graph)
    (c.requires.own.0, c.requires.own.1, after_end (g.A.Asker.graph c.args.self.now.asker) (scope_of c.args.self.now.scopes.now) (file_of c.args.self.now.templates.now) c.args.self.now.memo.terms.told.entries c.args.self.now.memo.ends.told.entries c.args.self.now.memo.gathered.told.entries c.args.self.now.memo.templates.told.entries c.args.self.now.start (g.A.Asker.count c.args.self.now.asker) (g.A.Asker.count c.ends.new.asker) c.args.value.now c.args.label.now c.ends.new.known.told.entries c.requires.own.2 c.in_err-ends.ensures.told c.in_err-ends.ensures.asked)

pub returns-in_err-ends-clause-kept : goal.returns-in_err-ends-clause-kept
returns-in_err-ends-clause-kept g c =
    may_keep (out c.args.value.now c.args.label.now) ((f : TemplateFile) → CountsAtMost (IsCause (g.A.Asker.graph c.args.self.now.asker) (scope_of c.args.self.now.scopes.now) f (out c.args.value.now c.args.label.now)) (g.A.Asker.count c.args.self.now.asker) (g.A.Asker.count c.ends.new.asker)) (all_asked (keys_of c.args.self.now.memo.terms.told.entries) (keys_of c.args.self.now.memo.ends.told.entries) (keys_of c.args.self.now.memo.gathered.told.entries) (keys_of c.args.self.now.memo.templates.told.entries)) (all_asked (keys_of c.args.self.now.memo.terms.told.entries) (keys_of c.ends.new.known.told.entries) (keys_of c.args.self.now.memo.gathered.told.entries) (keys_of c.args.self.now.memo.templates.told.entries)) (g.A.Asker.count c.args.self.now.asker) (g.A.Asker.count c.ends.new.asker) (end_asked c.args.value.now c.args.label.now ((f : TemplateFile) → CountsAtMost (IsCause (g.A.Asker.graph c.args.self.now.asker) (scope_of c.args.self.now.scopes.now) f (out c.args.value.now c.args.label.now)) (g.A.Asker.count c.args.self.now.asker) (g.A.Asker.count c.ends.new.asker)) (keys_of c.args.self.now.memo.terms.told.entries) (keys_of c.args.self.now.memo.ends.told.entries) (keys_of c.ends.new.known.told.entries) (keys_of c.args.self.now.memo.gathered.told.entries) (keys_of c.args.self.now.memo.templates.told.entries) (g.A.Asker.count c.args.self.now.asker) (g.A.Asker.count c.ends.new.asker) c.in_err-ends.ensures.asked)

pub returns-clause-own : goal.returns-clause-own
returns-clause-own g c =
    subst (λ X. IsWellFormed X × AreCheckedBlocks c.args.self.now.scopes.now.version c.args.self.now.scopes.now.blocks.items × Keeps X (scope_of c.args.self.now.scopes.now) (file_of c.args.self.now.templates.now) c.args.self.now.memo.terms.told.entries c.ends.new.known.told.entries c.args.self.now.memo.gathered.told.entries c.args.self.now.memo.templates.told.entries c.args.self.now.start (g.A.Asker.count c.ends.new.asker)) (sym c.in_ok-ends.ensures.graph)
    (c.requires.own.0, c.requires.own.1, after_end (g.A.Asker.graph c.args.self.now.asker) (scope_of c.args.self.now.scopes.now) (file_of c.args.self.now.templates.now) c.args.self.now.memo.terms.told.entries c.args.self.now.memo.ends.told.entries c.args.self.now.memo.gathered.told.entries c.args.self.now.memo.templates.told.entries c.args.self.now.start (g.A.Asker.count c.args.self.now.asker) (g.A.Asker.count c.ends.new.asker) c.args.value.now c.args.label.now c.ends.new.known.told.entries c.requires.own.2 c.in_ok-ends.ensures.told c.in_ok-ends.ensures.asked)

pub returns-clause-kept : goal.returns-clause-kept
returns-clause-kept g c =
    may_keep (out c.args.value.now c.args.label.now) ((f : TemplateFile) → CountsAtMost (IsCause (g.A.Asker.graph c.args.self.now.asker) (scope_of c.args.self.now.scopes.now) f (out c.args.value.now c.args.label.now)) (g.A.Asker.count c.args.self.now.asker) (g.A.Asker.count c.ends.new.asker)) (all_asked (keys_of c.args.self.now.memo.terms.told.entries) (keys_of c.args.self.now.memo.ends.told.entries) (keys_of c.args.self.now.memo.gathered.told.entries) (keys_of c.args.self.now.memo.templates.told.entries)) (all_asked (keys_of c.args.self.now.memo.terms.told.entries) (keys_of c.ends.new.known.told.entries) (keys_of c.args.self.now.memo.gathered.told.entries) (keys_of c.args.self.now.memo.templates.told.entries)) (g.A.Asker.count c.args.self.now.asker) (g.A.Asker.count c.ends.new.asker) (end_asked c.args.value.now c.args.label.now ((f : TemplateFile) → CountsAtMost (IsCause (g.A.Asker.graph c.args.self.now.asker) (scope_of c.args.self.now.scopes.now) f (out c.args.value.now c.args.label.now)) (g.A.Asker.count c.args.self.now.asker) (g.A.Asker.count c.ends.new.asker)) (keys_of c.args.self.now.memo.terms.told.entries) (keys_of c.args.self.now.memo.ends.told.entries) (keys_of c.ends.new.known.told.entries) (keys_of c.args.self.now.memo.gathered.told.entries) (keys_of c.args.self.now.memo.templates.told.entries) (g.A.Asker.count c.args.self.now.asker) (g.A.Asker.count c.ends.new.asker) c.in_ok-ends.ensures.asked)
