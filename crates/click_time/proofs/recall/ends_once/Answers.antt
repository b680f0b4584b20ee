use Rattle.std.proofs.Common.{◌≡◌, List, refl, subst}
use Rattle.std.specs.Prelude.{Contains}
use Rattle.std.specs.Option.{IsSomeAnd}
use Rattle.std.proofs.lemmas.Result.{IfOk-weaker}
use Rattle.click_time.proofs.Account.{recalled_true}
use Rattle.std.specs.Map.{keys_of}
use Rattle.tmpl.specs.Body.{TemplateFile}
use Rattle.query_blocks.specs.Blocks.{scope_of}
use Rattle.weight_spec.specs.Charges.{IsCause}
use Rattle.weight_spec.specs.CountsAtMost.{CountsAtMost}
use Rattle.click_time.proofs.Account.{asks_none}
use Rattle.sd_value.specs.declared.Value.{Value}
use Rattle.sd_value.specs.Order.{value_cmp}
use Rattle.sd_value.specs.Ascending.{ListsExactly}
use Rattle.site_spec.specs.Site.{SiteEdge}
use Rattle.page_spec.specs.Question.{out}
use Rattle.click_time.proofs.recall.ends_once.Goals as goal

pub ends_first-requires-clause-fresh : goal.ends_first-requires-clause-fresh
ends_first-requires-clause-fresh g c =
    subst (λ z. Contains (keys_of c.args.known.now.told.entries) z → ⊥) c.in_ok-key.ensures c.in-None.ensures

pub returns-in_err-key-clause-asked : goal.returns-in_err-key-clause-asked
returns-in_err-key-clause-asked g c =
    asks_none (c.args.value.now, c.args.label.now) ((f : TemplateFile) → CountsAtMost (IsCause (g.A.Asker.graph c.args.asker.now) (scope_of c.args.scopes.now) f (out c.args.value.now c.args.label.now)) (g.A.Asker.count c.args.asker.now) (g.A.Asker.count c.args.asker.now)) c.args.known.now.told.entries c.args.known.now.told.entries (g.A.Asker.count c.args.asker.now) refl

pub returns-in-Some-clause-asked : goal.returns-in-Some-clause-asked
returns-in-Some-clause-asked g c =
    asks_none (c.args.value.now, c.args.label.now) ((f : TemplateFile) → CountsAtMost (IsCause (g.A.Asker.graph c.args.asker.now) (scope_of c.args.scopes.now) f (out c.args.value.now c.args.label.now)) (g.A.Asker.count c.args.asker.now) (g.A.Asker.count c.args.asker.now)) c.args.known.now.told.entries c.args.known.now.told.entries (g.A.Asker.count c.args.asker.now) refl

pub returns-in-Some-clause-ends : goal.returns-in-Some-clause-ends
returns-in-Some-clause-ends g c =
    IfOk-weaker c.recalled.result (λ vs. IsSomeAnd c.in-Some.told.now (λ kept. vs.items ≡ kept.items)) (λ vs. (λ (l : List Value). ListsExactly value_cmp (SiteEdge (g.A.Asker.graph c.args.asker.now) (scope_of c.args.scopes.now) c.args.value.now c.args.label.now) l) vs.items) (λ vs h. recalled_true (λ (l : List Value). ListsExactly value_cmp (SiteEdge (g.A.Asker.graph c.args.asker.now) (scope_of c.args.scopes.now) c.args.value.now c.args.label.now) l) c.in-Some.told.now vs.items (c.requires.told ((c.args.value.now, c.args.label.now), c.in-Some.told.now) (subst (λ z. Contains c.args.known.now.told.entries (z, c.in-Some.told.now)) c.in_ok-key.ensures c.in-Some.ensures)) h) c.recalled.ensures
