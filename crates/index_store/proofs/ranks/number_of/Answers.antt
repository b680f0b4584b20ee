use Rattle.std.proofs.Common.{arith, ap, sym, ◌∙◌, subst, get_or, length, map, ◌≡◌, true}
use Rattle.std.specs.Prelude.{Some}
use Rattle.std.specs.Cmp.{Equal-is}
use Rattle.std.proofs.lemmas.List.{length-map, get_or-map}
use Rattle.std.proofs.lemmas.Option.{slice_get-map}
use Rattle.std.proofs.lemmas.Map.Keys.{apart_from_distinct}
use Rattle.index_store.proofs.ranks.number_of.Goals as goal

pub returns-clause-number : goal.returns-clause-number
returns-clause-number g c =
    let (k, at, tie) = c.in_ok-insert_full.ensures.stored in
    let same = g.met.K.ExactOrd.exact c.args.item.now k.now ((Equal-is _).0 (sym (g.met.K.Ord.matches_eq c.args.item.now k.now) ∙ tie)) in
    rw (slice_get-map (λ r. r.now) c.insert_full.new.self.keys c.in_ok-insert_full.field-0.0, at) (ap Some (sym same))

pub returns-clause-apart : goal.returns-clause-apart
returns-clause-apart g c = λ a b d less l e.
    let keys = c.insert_full.new.self.keys in
    let m : length (map (λ r. r.now) keys) ≡ length keys = length-map keys (λ r. r.now) in
    let i = get_or keys a c.args.item in
    let j = get_or keys b c.args.item in
    let same : i.now ≡ j.now = sym (get_or-map (λ r. r.now) keys a c.args.item d (omega (arith, less, l, m))) ∙ e ∙ get_or-map (λ r. r.now) keys b c.args.item d (omega (arith, l, m)) in
    let none = apart_from_distinct _ keys a b c.args.item c.in_ok-insert_full.ensures.unique less (omega (arith, l, m)) in
    let is = subst (λ x. g.K.PartialEq.eq i.now x ≡ true) same (g.met.K.Eq.laws.refl i.now) in
    cc
