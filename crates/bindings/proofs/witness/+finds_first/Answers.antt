use Rattle.std.proofs.Common.{◌≡◌, length, ◌<◌, arith, sym, ap, ◌∙◌, subst}
use Rattle.std.specs.Prelude.{Contains}
use Rattle.std.proofs.lemmas.List.Elements.{Contains-push}
use Rattle.std.proofs.lemmas.Option.{slice_get_within}
use Rattle.condition_tests.specs.Known.{KnownInDomains}
use Rattle.bindings.proofs.Known.{length-set, free_count-set, free_count}
use Rattle.bindings.proofs.Found.{complete_fits, known_more}
use Rattle.bindings.proofs.Tries.{try_join}
use Rattle.bindings.proofs.witness.+finds_first.Goals as goal

pub returns-in_default-2-clause-row : goal.returns-in_default-2-clause-row
returns-in_default-2-clause-row g t c =
    let ps = rw c.in-Some.is at c.in_ok-at.ensures.passed in
    let full = rw c.in_default-2.is at c.in_ok-choice.ensures.choice in
    λ yes. ps.2 _ (complete_fits _ _ _ _ _ _ c.requires.known full)

pub put-requires : goal.put-requires
put-requires g t c =
    let ch = rw c.in-Some-2.is at c.in_ok-choice.ensures.choice in
    slice_get_within _ _ _ ch.free

pub finds_first-requires : goal.finds_first-requires
finds_first-requires g t c κs within =
    let ch = rw c.in-Some-2.is at c.in_ok-choice.ensures.choice in
    let one : Contains c.in-Some-2.choice.values.items c.in-Some-pop.value = subst (λ xs. Contains xs c.in-Some-pop.value) (sym c.in-Some-pop.ensures.items) (Contains-push _ c.in-Some-pop.value) in
    let less : free_count c.put.new.current < free_count c.args.current.now = rw c.put.ensures (free_count-set c.args.current.now c.in-Some-2.choice.slot c.in-Some-pop.value ch.free) in
    let known : KnownInDomains (g.S.Store.graph c.args.search.now.store.now) c.args.search.now.arcs.now c.put.new.current =
    rw c.put.ensures (known_more _ c.args.search.now.version _ c.args.search.now.goals.now _ _ _ c.requires.known ch.free (ch.within _ one)) in
    let long : length c.put.new.current ≡ length c.args.current.now = ap length c.put.ensures ∙ length-set _ _ _ in
    let below_t : free_count c.put.new.current < t = omega (arith, less, c.decreases) in
    (below_t, (within, (known, (c.requires.as_long ∙ sym long, (rw long c.requires.in_range, c.in_ok-choice.ensures.kept)))))

pub returns-clause-row : goal.returns-clause-row
returns-clause-row g t c =
    let ps = rw c.in-Some.is at c.in_ok-at.ensures.passed in
    let ch = rw c.in-Some-2.is at c.in_ok-choice.ensures.choice in
    let one : Contains c.in-Some-2.choice.values.items c.in-Some-pop.value = subst (λ xs. Contains xs c.in-Some-pop.value) (sym c.in-Some-pop.ensures.items) (Contains-push _ c.in-Some-pop.value) in
    λ yes. ps.2 _ (try_join _ _ _ _ _ _ _ _ _ _ ch one _ (rw c.put.ensures at c.in_ok-found.ensures.row yes))
