use Rattle.std.proofs.Common.{ℕ, refl, subst}
use Rattle.std.specs.Prelude.{IfSome, Option}
use Rattle.weight_spec.specs.Charges.{IsCause}
use Rattle.weight_spec.specs.CountsAtMost.{CountsAtMost}
use Rattle.click_time.proofs.Account.{asks_none}
use Rattle.site_spec.specs.Site.{Scope}
use Rattle.page_spec.specs.Question.{template}
use Rattle.click_time.specs.Told.{Numbers}
use Rattle.tmpl.specs.Reading.{file_of}
use Rattle.click_time.proofs.recall.template_once.Goals as goal

pub template_first-requires-clause-fresh : goal.template_first-requires-clause-fresh
template_first-requires-clause-fresh g c =
    c.in-None.ensures

pub returns-in-Some-told-clause-asked : goal.returns-in-Some-told-clause-asked
returns-in-Some-told-clause-asked g c =
    asks_none c.args.value.now ((q : Scope) → CountsAtMost (IsCause (g.A.Asker.graph c.args.asker.now) q (file_of c.args.templates.now) (template c.args.value.now)) (g.A.Asker.count c.args.asker.now) (g.A.Asker.count c.args.asker.now)) c.args.known.now.told.entries c.args.known.now.told.entries (g.A.Asker.count c.args.asker.now) refl

pub returns-in-None-told-clause-asked : goal.returns-in-None-told-clause-asked
returns-in-None-told-clause-asked g c =
    asks_none c.args.value.now ((q : Scope) → CountsAtMost (IsCause (g.A.Asker.graph c.args.asker.now) q (file_of c.args.templates.now) (template c.args.value.now)) (g.A.Asker.count c.args.asker.now) (g.A.Asker.count c.args.asker.now)) c.args.known.now.told.entries c.args.known.now.told.entries (g.A.Asker.count c.args.asker.now) refl

pub returns-in-Some-told-clause-answer : goal.returns-in-Some-told-clause-answer
returns-in-Some-told-clause-answer g c =
    subst (λ (o : Option (Option ℕ)). IfSome o (Numbers (g.A.Asker.graph c.args.asker.now) (file_of c.args.templates.now) c.args.value.now)) c.in-Some-told.is (c.requires.told (c.args.value.now, c.in-Some.told.now) c.in-Some.ensures)
