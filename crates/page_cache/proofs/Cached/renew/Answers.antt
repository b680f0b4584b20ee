use Rattle.std.proofs.Common.{◌≡◌, ◌∙◌, rules, refl, subst, ap, drop, false, Ok, length}
use Rattle.std.specs.Prelude.{◌↔◌}
use Rattle.std.proofs.lemmas.List.{take_rest}
use Rattle.std.specs.Map.{keys_of}
use Rattle.page_spec.specs.Page.{IsOutcome}
use Rattle.versions.specs.Changes.{TellsEach}
use Rattle.versions.specs.declared.Changed.{Changed}
use Rattle.versions.specs.declared.Changed.TheVariants.{Taken, Refused}
use Rattle.page_cache.proofs.LookLemmas.{same_sound, renewed_pages, renewed_sound, given_among}
use Rattle.page_cache.proofs.Cached.renew.Goals as goal

pub returns-in-Ok-Taken-clause-keeps : goal.returns-in-Ok-Taken-clause-keeps
returns-in-Ok-Taken-clause-keeps g c =
    let stays = g.P.Versions.stays (g.P.Versions.state c.args.self.now.pages) c.args.text.now in
    let told : TellsEach stays c.deref.result.now (Taken c.in-Ok-Taken.same) = subst (TellsEach stays c.deref.result.now) c.in-Ok-Taken.field-0-is c.in-Ok-Taken.ensures.flags in
    renewed_pages stays c.args.kept.now c.args.self.now.kept c.deref.result.now c.in-Ok-Taken.same.flags.items _ c.sift-self.new.kept
    (c.deref.ensures.value ∙ c.in_ok-pages.ensures) told
    (take_rest c.deref-in-Ok-Taken-2.result.now (length c.args.kept.now) ∙ ap (drop (length c.args.kept.now)) c.deref-in-Ok-Taken-2.ensures.value) c.sift-self.ensures.entries
    (g.P.Versions.accepts (g.P.Versions.state c.args.self.now.pages) c.args.text.now) c.in-Ok-Taken.same
    (subst (λ (r : Changed). (r ≡ Refused) ↔ (g.P.Versions.accepts (g.P.Versions.state c.args.self.now.pages) c.args.text.now ≡ false)) c.in-Ok-Taken.field-0-is c.in-Ok-Taken.ensures.refused)

pub returns-in-Ok-Taken-clause-sound : goal.returns-in-Ok-Taken-clause-sound
returns-in-Ok-Taken-clause-sound g c =
    let stays = g.P.Versions.stays (g.P.Versions.state c.args.self.now.pages) c.args.text.now in
    let told : TellsEach stays c.deref.result.now (Taken c.in-Ok-Taken.same) = subst (TellsEach stays c.deref.result.now) c.in-Ok-Taken.field-0-is c.in-Ok-Taken.ensures.flags in
    renewed_sound stays c.args.kept.now c.args.self.now.kept c.deref.result.now c.in-Ok-Taken.same.flags.items _ c.sift-self.new.kept
    (c.deref.ensures.value ∙ c.in_ok-pages.ensures) told
    (take_rest c.deref-in-Ok-Taken-2.result.now (length c.args.kept.now) ∙ ap (drop (length c.args.kept.now)) c.deref-in-Ok-Taken-2.ensures.value) c.sift-self.ensures.entries
    (IsOutcome (g.P.Versions.site (g.P.Versions.state c.args.self.now.pages)) (g.P.Versions.templates (g.P.Versions.state c.args.self.now.pages)))
    (IsOutcome (g.P.Versions.site (g.P.Versions.state c.change.new.self)) (g.P.Versions.templates (g.P.Versions.state c.change.new.self)))
    c.sift-self.result c.args.self.now.most c.args.self.now.bytes c.requires.sound c.in-Ok-Taken.ensures.sound c.sift-self.ensures.bytes

pub returns-in-Ok-Taken-clause-same : goal.returns-in-Ok-Taken-clause-same
returns-in-Ok-Taken-clause-same g c =
    λ t o among.
    c.in-Ok-Taken.ensures.sound t o (given_among c.args.kept.now (keys_of c.args.self.now.kept.entries) c.deref.result.now t (c.deref.ensures.value ∙ c.in_ok-pages.ensures) among)

pub returns-in-Ok-Refused-clause-sound : goal.returns-in-Ok-Refused-clause-sound
returns-in-Ok-Refused-clause-sound g c =
    let refused : c.change.result ≡ Ok Refused = search rules in
    same_sound (λ s. IsOutcome (g.P.Versions.site s) (g.P.Versions.templates s)) (g.P.Versions.state c.change.new.self) (g.P.Versions.state c.args.self.now.pages)
    c.args.self.now.kept c.args.self.now.kept c.args.self.now.bytes c.args.self.now.most (c.change.ensures.nothing refused) refl c.requires.sound
