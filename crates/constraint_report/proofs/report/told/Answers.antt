use Rattle.std.proofs.Common.{◌≡◌, ◌↔◌, ◌∙◌, ◌++◌, List, [], ℕ, true, refl, sym, ap, subst}
use Rattle.std.specs.Prelude.{IsTrue}
use Rattle.constraint_report.specs.Here.{HoldsIn, IsListed}
use Rattle.constraint_report.specs.Report.{IsReport}
use Rattle.constraint_report.proofs.Reports.{no_lines, one_line_more, all_lines}
use Rattle.constraint_report.proofs.report.told.Goals as goal

pub loop-i-init : goal.loop-i-init
loop-i-init g c = record {
  own = c.requires.own;
  fixed = refl;
  told =
      subst (λ (xs : List ℕ). IsReport (HoldsIn (g.V.SiteView.site (g.V.SiteView.fixed c.args.view.now))) [] xs true) (sym c.new-text.ensures.items)
      (no_lines (HoldsIn (g.V.SiteView.site (g.V.SiteView.fixed c.args.view.now))));
}

pub holds_here-requires-clause-listed : goal.holds_here-requires-clause-listed
holds_here-requires-clause-listed g c =
    subst (λ x. IsListed (g.V.SiteView.site x) c.args.terms.now c.args.labels.now) (sym c.loop-i.invariant.fixed) c.requires.listed

pub loop-i-preserved : goal.loop-i-preserved
loop-i-preserved g c =
    let P = HoldsIn (g.V.SiteView.site (g.V.SiteView.fixed c.args.view.now)) in
    record {
      own = c.holds_here.ensures.own;
      fixed = c.holds_here.ensures.fixed ∙ c.loop-i.invariant.fixed;
      told =
          one_line_more P c.args.constraints.now c.loop-i.i c.index-constraints-i.result c.loop-i.text.items c.extend_from_slice.new.self.items c.loop-i.all_met c.both-all_met.result c.in_ok-met.met
          c.loop-i-test.true c.index-constraints-i.is c.loop-i.invariant.told
          (subst (λ x. IsTrue c.in_ok-met.met ↔ HoldsIn (g.V.SiteView.site x) c.index-constraints-i.result) c.loop-i.invariant.fixed c.in_ok-met.ensures.answer)
          (c.in_ok-extend_from_slice.ensures.items ∙ ap (λ (xs : List ℕ). c.loop-i.text.items ++ xs) (c.bytes.ensures ∙ c.in_ok-line.ensures))
          c.both-all_met.ensures;
    }

pub returns : goal.returns
returns g c =
    let P = HoldsIn (g.V.SiteView.site (g.V.SiteView.fixed c.args.view.now)) in
    let all = all_lines P c.args.constraints.now c.loop-i.i c.loop-i.text.items c.loop-i.all_met c.loop-i-test.false c.loop-i.invariant.told in
    subst (λ (xs : List ℕ). IsReport P c.args.constraints.now xs c.loop-i.all_met) (sym c.in_ok-text.ensures) all
