use Rattle.std.proofs.Common.{sym, subst}
use Rattle.std.specs.Map.{keys_of}
use Rattle.graph_spec.specs.DataGraph.{IsWellFormed}
use Rattle.tmpl.specs.Reading.{file_of}
use Rattle.page_spec.specs.Question.{template}
use Rattle.site_spec.specs.Site.{Scope}
use Rattle.query_blocks.specs.Blocks.{AreCheckedBlocks, scope_of}
use Rattle.weight_spec.specs.Charges.{IsCause}
use Rattle.weight_spec.specs.CountsAtMost.{CountsAtMost}
use Rattle.click_time.specs.Fixed.{Keeps, all_asked}
use Rattle.click_time.proofs.Account.{may_keep, value_asked}
use Rattle.click_time.proofs.Views.{after_value}
use Rattle.click_time.proofs.click.ClickSiteView.template_of.Goals as goal

pub returns-in_err-number-clause-own : goal.returns-in_err-number-clause-own
returns-in_err-number-clause-own g c =
    subst (λ X. IsWellFormed X × AreCheckedBlocks c.args.self.now.scopes.now.version c.args.self.now.scopes.now.blocks.items × Keeps X (scope_of c.args.self.now.scopes.now) (file_of c.args.self.now.templates.now) c.args.self.now.memo.terms.told.entries c.args.self.now.memo.ends.told.entries c.args.self.now.memo.gathered.told.entries c.template_once.new.known.told.entries c.args.self.now.start (g.A.Asker.count c.template_once.new.asker)) (sym c.in_err-number.ensures.graph)
    (c.requires.own.0, c.requires.own.1, after_value (g.A.Asker.graph c.args.self.now.asker) (scope_of c.args.self.now.scopes.now) (file_of c.args.self.now.templates.now) c.args.self.now.memo.terms.told.entries c.args.self.now.memo.ends.told.entries c.args.self.now.memo.gathered.told.entries c.args.self.now.memo.templates.told.entries c.args.self.now.start (g.A.Asker.count c.args.self.now.asker) (g.A.Asker.count c.template_once.new.asker) c.args.value.now c.template_once.new.known.told.entries c.requires.own.2 c.in_err-number.ensures.told c.in_err-number.ensures.asked)

pub returns-in_err-number-clause-kept : goal.returns-in_err-number-clause-kept
returns-in_err-number-clause-kept g c =
    may_keep (template c.args.value.now) ((q : Scope) → CountsAtMost (IsCause (g.A.Asker.graph c.args.self.now.asker) q (file_of c.args.self.now.templates.now) (template c.args.value.now)) (g.A.Asker.count c.args.self.now.asker) (g.A.Asker.count c.template_once.new.asker)) (all_asked (keys_of c.args.self.now.memo.terms.told.entries) (keys_of c.args.self.now.memo.ends.told.entries) (keys_of c.args.self.now.memo.gathered.told.entries) (keys_of c.args.self.now.memo.templates.told.entries)) (all_asked (keys_of c.args.self.now.memo.terms.told.entries) (keys_of c.args.self.now.memo.ends.told.entries) (keys_of c.args.self.now.memo.gathered.told.entries) (keys_of c.template_once.new.known.told.entries)) (g.A.Asker.count c.args.self.now.asker) (g.A.Asker.count c.template_once.new.asker) (value_asked c.args.value.now ((q : Scope) → CountsAtMost (IsCause (g.A.Asker.graph c.args.self.now.asker) q (file_of c.args.self.now.templates.now) (template c.args.value.now)) (g.A.Asker.count c.args.self.now.asker) (g.A.Asker.count c.template_once.new.asker)) (keys_of c.args.self.now.memo.terms.told.entries) (keys_of c.args.self.now.memo.ends.told.entries) (keys_of c.args.self.now.memo.gathered.told.entries) (keys_of c.args.self.now.memo.templates.told.entries) (keys_of c.template_once.new.known.told.entries) (g.A.Asker.count c.args.self.now.asker) (g.A.Asker.count c.template_once.new.asker) c.in_err-number.ensures.asked)

pub returns-clause-own : goal.returns-clause-own
returns-clause-own g c =
    subst (λ X. IsWellFormed X × AreCheckedBlocks c.args.self.now.scopes.now.version c.args.self.now.scopes.now.blocks.items × Keeps X (scope_of c.args.self.now.scopes.now) (file_of c.args.self.now.templates.now) c.args.self.now.memo.terms.told.entries c.args.self.now.memo.ends.told.entries c.args.self.now.memo.gathered.told.entries c.template_once.new.known.told.entries c.args.self.now.start (g.A.Asker.count c.template_once.new.asker)) (sym c.in_ok-number.ensures.graph)
    (c.requires.own.0, c.requires.own.1, after_value (g.A.Asker.graph c.args.self.now.asker) (scope_of c.args.self.now.scopes.now) (file_of c.args.self.now.templates.now) c.args.self.now.memo.terms.told.entries c.args.self.now.memo.ends.told.entries c.args.self.now.memo.gathered.told.entries c.args.self.now.memo.templates.told.entries c.args.self.now.start (g.A.Asker.count c.args.self.now.asker) (g.A.Asker.count c.template_once.new.asker) c.args.value.now c.template_once.new.known.told.entries c.requires.own.2 c.in_ok-number.ensures.told c.in_ok-number.ensures.asked)

pub returns-clause-kept : goal.returns-clause-kept
returns-clause-kept g c =
    may_keep (template c.args.value.now) ((q : Scope) → CountsAtMost (IsCause (g.A.Asker.graph c.args.self.now.asker) q (file_of c.args.self.now.templates.now) (template c.args.value.now)) (g.A.Asker.count c.args.self.now.asker) (g.A.Asker.count c.template_once.new.asker)) (all_asked (keys_of c.args.self.now.memo.terms.told.entries) (keys_of c.args.self.now.memo.ends.told.entries) (keys_of c.args.self.now.memo.gathered.told.entries) (keys_of c.args.self.now.memo.templates.told.entries)) (all_asked (keys_of c.args.self.now.memo.terms.told.entries) (keys_of c.args.self.now.memo.ends.told.entries) (keys_of c.args.self.now.memo.gathered.told.entries) (keys_of c.template_once.new.known.told.entries)) (g.A.Asker.count c.args.self.now.asker) (g.A.Asker.count c.template_once.new.asker) (value_asked c.args.value.now ((q : Scope) → CountsAtMost (IsCause (g.A.Asker.graph c.args.self.now.asker) q (file_of c.args.self.now.templates.now) (template c.args.value.now)) (g.A.Asker.count c.args.self.now.asker) (g.A.Asker.count c.template_once.new.asker)) (keys_of c.args.self.now.memo.terms.told.entries) (keys_of c.args.self.now.memo.ends.told.entries) (keys_of c.args.self.now.memo.gathered.told.entries) (keys_of c.args.self.now.memo.templates.told.entries) (keys_of c.template_once.new.known.told.entries) (g.A.Asker.count c.args.self.now.asker) (g.A.Asker.count c.template_once.new.asker) c.in_ok-number.ensures.asked)
