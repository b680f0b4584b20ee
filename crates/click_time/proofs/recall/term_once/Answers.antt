use Rattle.std.proofs.Common.{refl, subst}
use Rattle.std.specs.Prelude.{IfSome, Option}
use Rattle.tmpl.specs.Body.{TemplateFile}
use Rattle.query_blocks.specs.Blocks.{scope_of}
use Rattle.weight_spec.specs.Charges.{IsCause}
use Rattle.weight_spec.specs.CountsAtMost.{CountsAtMost}
use Rattle.click_time.proofs.Account.{asks_none}
use Rattle.std.specs.Prelude.{IsTrue, ◌↔◌, Bool}
use Rattle.site_spec.specs.Site.{InSite}
use Rattle.page_spec.specs.Question.{in_site}
use Rattle.click_time.proofs.recall.term_once.Goals as goal

pub term_first-requires-clause-fresh : goal.term_first-requires-clause-fresh
term_first-requires-clause-fresh g c =
    c.in-None.ensures

pub returns-in-Some-told-clause-asked : goal.returns-in-Some-told-clause-asked
returns-in-Some-told-clause-asked g c =
    asks_none c.args.term.now ((f : TemplateFile) → CountsAtMost (IsCause (g.A.Asker.graph c.args.asker.now) (scope_of c.args.scopes.now) f (in_site c.args.term.now)) (g.A.Asker.count c.args.asker.now) (g.A.Asker.count c.args.asker.now)) c.args.known.now.told.entries c.args.known.now.told.entries (g.A.Asker.count c.args.asker.now) refl

pub returns-in-None-told-clause-asked : goal.returns-in-None-told-clause-asked
returns-in-None-told-clause-asked g c =
    asks_none c.args.term.now ((f : TemplateFile) → CountsAtMost (IsCause (g.A.Asker.graph c.args.asker.now) (scope_of c.args.scopes.now) f (in_site c.args.term.now)) (g.A.Asker.count c.args.asker.now) (g.A.Asker.count c.args.asker.now)) c.args.known.now.told.entries c.args.known.now.told.entries (g.A.Asker.count c.args.asker.now) refl

pub returns-in-Some-told-clause-answer : goal.returns-in-Some-told-clause-answer
returns-in-Some-told-clause-answer g c =
    subst (λ (o : Option Bool). IfSome o (λ (b : Bool). IsTrue b ↔ InSite (g.A.Asker.graph c.args.asker.now) (scope_of c.args.scopes.now) c.args.term.now)) c.in-Some-told.is (c.requires.told (c.args.term.now, c.in-Some.told.now) c.in-Some.ensures)
