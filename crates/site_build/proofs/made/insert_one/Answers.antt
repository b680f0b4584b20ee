use Rattle.std.proofs.Common.{true, ◌≡◌, sym, ◌∙◌, subst}
use Rattle.std.specs.Prelude.{Some}
use Rattle.std.specs.Cmp.{Equal-is}
use Rattle.site_build.specs.Gains.{Gains}
use Rattle.site_build.proofs.Growing.{gains_none}
use Rattle.site_build.proofs.Sets.{gains_inserted}
use Rattle.site_build.proofs.made.insert_one.Goals as goal

pub returns-in_ok-insert-in-Some : goal.returns-in_ok-insert-in-Some
returns-in_ok-insert-in-Some g c =
    let exact = λ (a b : g.row.M.Denot) (e : g.M.PartialEq.eq a b ≡ true). g.met.M.ExactOrd.exact a b ((Equal-is _).0 (sym (g.met.M.Ord.matches_eq a b) ∙ e)) in
    rw c.in-Some.is (subst (Gains (λ (m : g.row.M.Denot). Some c.in-Some.one ≡ Some m) c.args.made.now.keys) (sym c.in_ok-insert-in-Some.ensures.keys)
    (gains_inserted g.M.PartialEq.eq exact c.args.made.now.keys c.in-Some.one))

pub returns-in-None : goal.returns-in-None
returns-in-None g c = rw c.in-None.is (gains_none _ c.args.made.now.keys (λ m e. cc))
