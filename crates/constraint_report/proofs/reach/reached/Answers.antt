use Rattle.std.proofs.Common.{◌≡◌, ◌∙◌, ◌<◌, ◌≤◌, length, get_or, refl, subst, arith}
use Rattle.constraint_report.specs.Links.{Adds, IsNextBy}
use Rattle.constraint_report.proofs.Reaching.{sets_out, goes_on, all_reached, at_most, at_place}
use Rattle.constraint_report.proofs.reach.reached.Goals as goal

pub pages-init : goal.pages-init
pages-init g c = record {
  own = c.begin.ensures.own;
  fixed = c.begin.ensures.fixed;
  way = sets_out (g.V.SiteView.site (g.V.SiteView.fixed c.args.view.now)) c.args.root.now c.in_ok-found.found.keys c.in_ok-found.ensures.begun;
}

pub pages-smaller : goal.pages-smaller
pages-smaller g c =
    let keys = c.pages.found.keys in
    let here : c.pages.next < length keys = omega (arith, c.pages-test.true, c.len.ensures.len) in
    let most : length keys ≤ length c.args.terms.now =
    at_most keys c.args.terms.now c.len.ensures.unique (λ t i. c.requires.listed.complete t (c.pages.invariant.way.in_site t i)) in
    omega (arith, here, most)

pub pages-preserved : goal.pages-preserved
pages-preserved g c =
    let site = g.V.SiteView.site (g.V.SiteView.fixed c.args.view.now) in
    let keys = c.pages.found.keys in
    let page = c.in_ok-page.page in
    let here : c.pages.next < length keys = omega (arith, c.pages-test.true, c.len.ensures.len) in
    let is : page ≡ get_or keys c.pages.next page =
    at_place c.as_slice-pages.result.now keys c.pages.next c.index-pages-next.result page c.as_slice-pages.ensures.keys c.index-pages-next.is c.in_ok-page.ensures in
    record {
      own = c.add_next.ensures.own;
      fixed = c.add_next.ensures.fixed ∙ c.pages.invariant.fixed;
      way =
          goes_on site c.args.root.now c.args.terms.now c.args.labels.now c.pages.next page keys c.add_next.new.found.keys c.requires.listed here is c.pages.invariant.way
          (subst (λ x. Adds (IsNextBy (g.V.SiteView.site x) c.args.labels.now page) keys c.add_next.new.found.keys) c.pages.invariant.fixed c.in_ok-add_next.ensures.added);
    }

pub returns-clause-reached : goal.returns-clause-reached
returns-clause-reached g c =
    let keys = c.pages.found.keys in
    let all : length keys ≤ c.pages.next = omega (arith, c.pages-test.false, c.len.ensures.len) in
    all_reached (g.V.SiteView.site (g.V.SiteView.fixed c.args.view.now)) c.args.root.now c.pages.next keys all c.pages.invariant.way
