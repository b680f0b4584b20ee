use Rattle.std.proofs.Common.{sym, subst}
use Rattle.std.specs.Map.{keys_of}
use Rattle.graph_spec.specs.DataGraph.{IsWellFormed}
use Rattle.tmpl.specs.Body.{TemplateFile}
use Rattle.tmpl.specs.Reading.{file_of}
use Rattle.page_spec.specs.Question.{in_site}
use Rattle.query_blocks.specs.Blocks.{AreCheckedBlocks, scope_of}
use Rattle.weight_spec.specs.Charges.{IsCause}
use Rattle.weight_spec.specs.CountsAtMost.{CountsAtMost}
use Rattle.click_time.specs.Fixed.{Keeps, all_asked}
use Rattle.click_time.proofs.Account.{may_keep, term_asked}
use Rattle.click_time.proofs.Views.{after_term}
use Rattle.click_time.proofs.click.ClickSiteView.in_site.Goals as goal

pub returns-in_err-found-clause-own : goal.returns-in_err-found-clause-own
returns-in_err-found-clause-own g c =
    subst (λ X. IsWellFormed X × AreCheckedBlocks c.args.self.now.scopes.now.version c.args.self.now.scopes.now.blocks.items × Keeps X (scope_of c.args.self.now.scopes.now) (file_of c.args.self.now.templates.now) c.term_once.new.known.told.entries c.args.self.now.memo.ends.told.entries c.args.self.now.memo.gathered.told.entries c.args.self.now.memo.templates.told.entries c.args.self.now.start (g.A.Asker.count c.term_once.new.asker)) (sym c.in_err-found.ensures.graph)
    (c.requires.own.0, c.requires.own.1, after_term (g.A.Asker.graph c.args.self.now.asker) (scope_of c.args.self.now.scopes.now) (file_of c.args.self.now.templates.now) c.args.self.now.memo.terms.told.entries c.args.self.now.memo.ends.told.entries c.args.self.now.memo.gathered.told.entries c.args.self.now.memo.templates.told.entries c.args.self.now.start (g.A.Asker.count c.args.self.now.asker) (g.A.Asker.count c.term_once.new.asker) c.args.term.now c.term_once.new.known.told.entries c.requires.own.2 c.in_err-found.ensures.told c.in_err-found.ensures.asked)

pub returns-in_err-found-clause-kept : goal.returns-in_err-found-clause-kept
returns-in_err-found-clause-kept g c =
    may_keep (in_site c.args.term.now) ((f : TemplateFile) → CountsAtMost (IsCause (g.A.Asker.graph c.args.self.now.asker) (scope_of c.args.self.now.scopes.now) f (in_site c.args.term.now)) (g.A.Asker.count c.args.self.now.asker) (g.A.Asker.count c.term_once.new.asker)) (all_asked (keys_of c.args.self.now.memo.terms.told.entries) (keys_of c.args.self.now.memo.ends.told.entries) (keys_of c.args.self.now.memo.gathered.told.entries) (keys_of c.args.self.now.memo.templates.told.entries)) (all_asked (keys_of c.term_once.new.known.told.entries) (keys_of c.args.self.now.memo.ends.told.entries) (keys_of c.args.self.now.memo.gathered.told.entries) (keys_of c.args.self.now.memo.templates.told.entries)) (g.A.Asker.count c.args.self.now.asker) (g.A.Asker.count c.term_once.new.asker) (term_asked c.args.term.now ((f : TemplateFile) → CountsAtMost (IsCause (g.A.Asker.graph c.args.self.now.asker) (scope_of c.args.self.now.scopes.now) f (in_site c.args.term.now)) (g.A.Asker.count c.args.self.now.asker) (g.A.Asker.count c.term_once.new.asker)) (keys_of c.args.self.now.memo.terms.told.entries) (keys_of c.term_once.new.known.told.entries) (keys_of c.args.self.now.memo.ends.told.entries) (keys_of c.args.self.now.memo.gathered.told.entries) (keys_of c.args.self.now.memo.templates.told.entries) (g.A.Asker.count c.args.self.now.asker) (g.A.Asker.count c.term_once.new.asker) c.in_err-found.ensures.asked)

pub returns-clause-own : goal.returns-clause-own
returns-clause-own g c =
    subst (λ X. IsWellFormed X × AreCheckedBlocks c.args.self.now.scopes.now.version c.args.self.now.scopes.now.blocks.items × Keeps X (scope_of c.args.self.now.scopes.now) (file_of c.args.self.now.templates.now) c.term_once.new.known.told.entries c.args.self.now.memo.ends.told.entries c.args.self.now.memo.gathered.told.entries c.args.self.now.memo.templates.told.entries c.args.self.now.start (g.A.Asker.count c.term_once.new.asker)) (sym c.in_ok-found.ensures.graph)
    (c.requires.own.0, c.requires.own.1, after_term (g.A.Asker.graph c.args.self.now.asker) (scope_of c.args.self.now.scopes.now) (file_of c.args.self.now.templates.now) c.args.self.now.memo.terms.told.entries c.args.self.now.memo.ends.told.entries c.args.self.now.memo.gathered.told.entries c.args.self.now.memo.templates.told.entries c.args.self.now.start (g.A.Asker.count c.args.self.now.asker) (g.A.Asker.count c.term_once.new.asker) c.args.term.now c.term_once.new.known.told.entries c.requires.own.2 c.in_ok-found.ensures.told c.in_ok-found.ensures.asked)

pub returns-clause-kept : goal.returns-clause-kept
returns-clause-kept g c =
    may_keep (in_site c.args.term.now) ((f : TemplateFile) → CountsAtMost (IsCause (g.A.Asker.graph c.args.self.now.asker) (scope_of c.args.self.now.scopes.now) f (in_site c.args.term.now)) (g.A.Asker.count c.args.self.now.asker) (g.A.Asker.count c.term_once.new.asker)) (all_asked (keys_of c.args.self.now.memo.terms.told.entries) (keys_of c.args.self.now.memo.ends.told.entries) (keys_of c.args.self.now.memo.gathered.told.entries) (keys_of c.args.self.now.memo.templates.told.entries)) (all_asked (keys_of c.term_once.new.known.told.entries) (keys_of c.args.self.now.memo.ends.told.entries) (keys_of c.args.self.now.memo.gathered.told.entries) (keys_of c.args.self.now.memo.templates.told.entries)) (g.A.Asker.count c.args.self.now.asker) (g.A.Asker.count c.term_once.new.asker) (term_asked c.args.term.now ((f : TemplateFile) → CountsAtMost (IsCause (g.A.Asker.graph c.args.self.now.asker) (scope_of c.args.self.now.scopes.now) f (in_site c.args.term.now)) (g.A.Asker.count c.args.self.now.asker) (g.A.Asker.count c.term_once.new.asker)) (keys_of c.args.self.now.memo.terms.told.entries) (keys_of c.term_once.new.known.told.entries) (keys_of c.args.self.now.memo.ends.told.entries) (keys_of c.args.self.now.memo.gathered.told.entries) (keys_of c.args.self.now.memo.templates.told.entries) (g.A.Asker.count c.args.self.now.asker) (g.A.Asker.count c.term_once.new.asker) c.in_ok-found.ensures.asked)
