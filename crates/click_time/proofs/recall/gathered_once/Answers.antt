use Rattle.std.proofs.Common.{◌≡◌, List, refl}
use Rattle.std.specs.Option.{IsSomeAnd}
use Rattle.std.proofs.lemmas.Result.{IfOk-weaker}
use Rattle.click_time.proofs.Account.{recalled_true}
use Rattle.tmpl.specs.Body.{TemplateFile}
use Rattle.query_blocks.specs.Blocks.{scope_of}
use Rattle.weight_spec.specs.Charges.{IsCause}
use Rattle.weight_spec.specs.CountsAtMost.{CountsAtMost}
use Rattle.click_time.proofs.Account.{asks_none}
use Rattle.sd_value.specs.declared.Value.{Value}
use Rattle.sd_value.specs.Order.{value_cmp}
use Rattle.sd_value.specs.Ascending.{ListsExactly}
use Rattle.site_spec.specs.Site.{Collected}
use Rattle.page_spec.specs.Question.{collected}
use Rattle.click_time.proofs.recall.gathered_once.Goals as goal

pub gathered_first-requires-clause-fresh : goal.gathered_first-requires-clause-fresh
gathered_first-requires-clause-fresh g c =
    c.in-None.ensures

pub returns-in-Some-clause-asked : goal.returns-in-Some-clause-asked
returns-in-Some-clause-asked g c =
    asks_none c.args.name.now ((f : TemplateFile) → CountsAtMost (IsCause (g.A.Asker.graph c.args.asker.now) (scope_of c.args.scopes.now) f (collected c.args.name.now)) (g.A.Asker.count c.args.asker.now) (g.A.Asker.count c.args.asker.now)) c.args.known.now.told.entries c.args.known.now.told.entries (g.A.Asker.count c.args.asker.now) refl

pub returns-in-Some-clause-values : goal.returns-in-Some-clause-values
returns-in-Some-clause-values g c =
    IfOk-weaker c.recalled.result (λ vs. IsSomeAnd c.in-Some.told.now (λ kept. vs.items ≡ kept.items)) (λ vs. (λ (l : List Value). ListsExactly value_cmp (Collected (g.A.Asker.graph c.args.asker.now) (scope_of c.args.scopes.now) c.args.name.now) l) vs.items) (λ vs h. recalled_true (λ (l : List Value). ListsExactly value_cmp (Collected (g.A.Asker.graph c.args.asker.now) (scope_of c.args.scopes.now) c.args.name.now) l) c.in-Some.told.now vs.items (c.requires.told (c.args.name.now, c.in-Some.told.now) c.in-Some.ensures) h) c.recalled.ensures
