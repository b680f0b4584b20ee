use Rattle.std.proofs.Common.{◌≡◌, length, Some, None, ◌<◌, slice_set, arith, sym, ap, ◌∙◌, refl}
use Rattle.std.proofs.lemmas.Option.{slice_get_within}
use Rattle.condition_tests.specs.Known.{KnownInDomains}
use Rattle.bindings.proofs.Known.{set_back, length-set, free_count-set, free_count}
use Rattle.bindings.proofs.Found.{fruitless-init, fruitless-step, fruitless-end, fruitful, some_passed, complete_fits, join, some_later, some_complete, known_more, last_in}
use Rattle.bindings.proofs.search.+finds.Goals as goal

pub returns-in_default-2-clause-exact : goal.returns-in_default-2-clause-exact
returns-in_default-2-clause-exact g t c =
    let ps = rw c.in-Some.is at c.in_ok-at.ensures.passed in
    let full = rw c.in_default-2.is at c.in_ok-choice.ensures.choice in
    ((λ yes. some_passed _ _ _ _ _ _ _ ps (some_complete _ _ _ _ _ _ c.requires.known full)), (λ f. refl))

pub loop-value-init : goal.loop-value-init
loop-value-init g t c = record { fruitless = fruitless-init _ _ _ _ _ _ _ _; kept = c.in_ok-choice.ensures.kept }

pub put-requires : goal.put-requires
put-requires g t c =
    let ch = rw c.in-Some-2.is at c.in_ok-choice.ensures.choice in
    rw c.loop-value.invariant.fruitless.same (slice_get_within _ _ _ ch.free)

pub finds-requires : goal.finds-requires
finds-requires g t c κs within =
    let ch = rw c.in-Some-2.is at c.in_ok-choice.ensures.choice in
    let put_is : c.put.new.current ≡ slice_set c.args.current.now c.in-Some-2.choice.slot (Some c.in-Some-pop.value) = c.put.ensures ∙ ap (λ s. slice_set s c.in-Some-2.choice.slot (Some c.in-Some-pop.value)) c.loop-value.invariant.fruitless.same in
    let less : free_count c.put.new.current < free_count c.args.current.now = rw put_is (free_count-set c.args.current.now c.in-Some-2.choice.slot c.in-Some-pop.value ch.free) in
    let known : KnownInDomains (g.S.Store.graph c.args.search.now.store.now) c.args.search.now.arcs.now c.put.new.current =
    rw put_is (known_more _ c.args.search.now.version _ c.args.search.now.goals.now _ _ _ c.requires.known ch.free (ch.within _ (last_in _ _ _ _ _ c.loop-value.invariant.fruitless.cut c.in-Some-pop.ensures.items))) in
    let long : length c.put.new.current ≡ length c.args.current.now = ap length put_is ∙ length-set _ _ _ in
    let below_t : free_count c.put.new.current < t = omega (arith, less, c.decreases) in
    (below_t, (within, (known, (c.requires.as_long ∙ sym long, (rw long c.requires.in_range, c.loop-value.invariant.kept)))))

pub returns-then-branch-clause-exact : goal.returns-then-branch-clause-exact
returns-then-branch-clause-exact g t c =
    let ps = rw c.in-Some.is at c.in_ok-at.ensures.passed in
    let ch = rw c.in-Some-2.is at c.in_ok-choice.ensures.choice in
    let put_is : c.put.new.current ≡ slice_set c.args.current.now c.in-Some-2.choice.slot (Some c.in-Some-pop.value) = c.put.ensures ∙ ap (λ s. slice_set s c.in-Some-2.choice.slot (Some c.in-Some-pop.value)) c.loop-value.invariant.fruitless.same in
    ((λ yes. some_passed _ _ _ _ _ _ _ ps (fruitful _ _ _ _ _ _ _ _ _ _ ch (last_in _ _ _ _ _ c.loop-value.invariant.fruitless.cut c.in-Some-pop.ensures.items) (rw (← put_is) (c.in_ok-finds.ensures.exact.0 c.if-branch.true)))), (λ f. refl))

pub clear-requires : goal.clear-requires
clear-requires g t c =
    let ch = rw c.in-Some-2.is at c.in_ok-choice.ensures.choice in
    rw (c.in_ok-finds.ensures.restored c.if-branch.false, c.put.ensures, length-set, c.loop-value.invariant.fruitless.same) (slice_get_within _ _ _ ch.free)

pub loop-value-preserved : goal.loop-value-preserved
loop-value-preserved g t c =
    let ch = rw c.in-Some-2.is at c.in_ok-choice.ensures.choice in
    let put_is : c.put.new.current ≡ slice_set c.args.current.now c.in-Some-2.choice.slot (Some c.in-Some-pop.value) = c.put.ensures ∙ ap (λ s. slice_set s c.in-Some-2.choice.slot (Some c.in-Some-pop.value)) c.loop-value.invariant.fruitless.same in
    record {
      fruitless = fruitless-step _ _ _ _ _ _ _ _ _ _ _ _ c.loop-value.invariant.fruitless c.in-Some-pop.ensures.items
          (λ t' f. let yes = c.in_ok-finds.ensures.exact.1 (record { row = t'; fits = rw put_is f }) in let never = c.if-branch.false in cc) _
          (c.clear.ensures ∙ (ap (λ s. slice_set s c.in-Some-2.choice.slot None) (c.in_ok-finds.ensures.restored c.if-branch.false ∙ put_is) ∙ set_back _ _ _ _ ch.free));
      kept = c.in_ok-finds.ensures.kept;
    }

pub returns-clause-exact : goal.returns-clause-exact
returns-clause-exact g t c =
    let ps = rw c.in-Some.is at c.in_ok-at.ensures.passed in
    let ch = rw c.in-Some-2.is at c.in_ok-choice.ensures.choice in
    let empty : length c.loop-value.values.items ≡ 0 = omega (arith, c.loop-value.values.ok, c.in_default-pop.ensures.cases.0) in
    ((λ yes. cc), (λ f. absurd (fruitless-end _ _ _ _ _ _ _ _ _ _ _ c.loop-value.invariant.fruitless empty ch (some_later _ _ _ _ _ _ _ ps f))))

pub returns-in_default-2-clause-row : goal.returns-in_default-2-clause-row
returns-in_default-2-clause-row g t c =
    let ps = rw c.in-Some.is at c.in_ok-at.ensures.passed in
    let full = rw c.in_default-2.is at c.in_ok-choice.ensures.choice in
    λ yes. ps.2 _ (complete_fits _ _ _ _ _ _ c.requires.known full)

pub returns-then-branch-clause-row : goal.returns-then-branch-clause-row
returns-then-branch-clause-row g t c =
    let ps = rw c.in-Some.is at c.in_ok-at.ensures.passed in
    let ch = rw c.in-Some-2.is at c.in_ok-choice.ensures.choice in
    let put_is : c.put.new.current ≡ slice_set c.args.current.now c.in-Some-2.choice.slot (Some c.in-Some-pop.value) = c.put.ensures ∙ ap (λ s. slice_set s c.in-Some-2.choice.slot (Some c.in-Some-pop.value)) c.loop-value.invariant.fruitless.same in
    λ yes. ps.2 _ (join _ _ _ _ _ _ _ _ _ ch _ (record {
      value = c.in-Some-pop.value;
      is_one = last_in _ _ _ _ _ c.loop-value.invariant.fruitless.cut c.in-Some-pop.ensures.items;
      fits = rw (← put_is) (c.in_ok-finds.ensures.row c.if-branch.true);
    }))
