use Rattle.std.proofs.Common.{◌∙◌, refl, sym, subst}
use Rattle.page_spec.specs.Page.{IsOutcome}
use Rattle.page_cache.specs.Entries.{AreSound}
use Rattle.page_cache.proofs.LookLemmas.{found_outcome, found_looks, found_sound, missed_looks, missed_sound, same_sound}
use Rattle.page_cache.proofs.Cached.look.Goals as goal

pub returns-in-Some-clause-outcome : goal.returns-in-Some-clause-outcome
returns-in-Some-clause-outcome g c =
    found_outcome (IsOutcome (g.P.Versions.site (g.P.Versions.state c.args.self.now.pages)) (g.P.Versions.templates (g.P.Versions.state c.args.self.now.pages))) c.args.self.now.kept c.args.page.now c.requires.sound.each c.in-Some.text (sym c.in_ok-text.ensures ∙ c.in-Some.is)

pub returns-in-Some-clause-looks : goal.returns-in-Some-clause-looks
returns-in-Some-clause-looks g c =
    found_looks (IsOutcome (g.P.Versions.site (g.P.Versions.state c.args.self.now.pages)) (g.P.Versions.templates (g.P.Versions.state c.args.self.now.pages))) c.args.self.now.kept c.args.page.now c.requires.sound.each c.args.self.now.most c.in-Some.text c.promote.new.self
    (sym c.in_ok-text.ensures ∙ c.in-Some.is) c.promote.ensures.entries

pub returns-in-Some-clause-sound : goal.returns-in-Some-clause-sound
returns-in-Some-clause-sound g c =
    found_sound (IsOutcome (g.P.Versions.site (g.P.Versions.state c.args.self.now.pages)) (g.P.Versions.templates (g.P.Versions.state c.args.self.now.pages))) c.args.self.now.kept c.args.page.now c.requires.sound.each c.args.self.now.bytes c.args.self.now.most c.promote.new.self c.requires.sound.count c.requires.sound.within c.promote.ensures.entries

pub returns-clause-sound : goal.returns-clause-sound
returns-clause-sound g c =
    subst (λ s. AreSound (IsOutcome (g.P.Versions.site s) (g.P.Versions.templates s)) c.keep.new.kept.entries c.in_ok-bytes.bytes c.args.self.now.most) (sym c.in_ok-outcome.ensures.state)
    (missed_sound (IsOutcome (g.P.Versions.site (g.P.Versions.state c.args.self.now.pages)) (g.P.Versions.templates (g.P.Versions.state c.args.self.now.pages))) c.args.self.now.kept c.args.self.now.most c.args.page.now c.requires.sound.each (sym c.in_ok-text.ensures ∙ c.in_default.is)
    c.in_ok-outcome.outcome c.in_ok-bytes.bytes c.keep.new.kept c.in_ok-outcome.ensures.outcome c.in_ok-bytes.ensures.entries c.in_ok-bytes.ensures.bytes.0 c.in_ok-bytes.ensures.bytes.1)

pub returns-clause-looks : goal.returns-clause-looks
returns-clause-looks g c =
    missed_looks (IsOutcome (g.P.Versions.site (g.P.Versions.state c.args.self.now.pages)) (g.P.Versions.templates (g.P.Versions.state c.args.self.now.pages))) c.args.self.now.kept c.args.self.now.most c.args.page.now c.requires.sound.each (sym c.in_ok-text.ensures ∙ c.in_default.is)
    c.in_ok-outcome.outcome c.keep.new.kept c.in_ok-bytes.ensures.entries

pub returns-in_err-outcome-clause-sound : goal.returns-in_err-outcome-clause-sound
returns-in_err-outcome-clause-sound g c =
    same_sound (λ s. IsOutcome (g.P.Versions.site s) (g.P.Versions.templates s)) (g.P.Versions.state c.page.new.self) (g.P.Versions.state c.args.self.now.pages)
    c.args.self.now.kept c.args.self.now.kept c.args.self.now.bytes c.args.self.now.most c.page.ensures.state refl c.requires.sound

pub returns-in_err-bytes-clause-sound : goal.returns-in_err-bytes-clause-sound
returns-in_err-bytes-clause-sound g c =
    same_sound (λ s. IsOutcome (g.P.Versions.site s) (g.P.Versions.templates s)) (g.P.Versions.state c.page.new.self) (g.P.Versions.state c.args.self.now.pages)
    c.keep.new.kept c.args.self.now.kept c.args.self.now.bytes c.args.self.now.most c.page.ensures.state c.in_err-bytes.ensures.err c.requires.sound
