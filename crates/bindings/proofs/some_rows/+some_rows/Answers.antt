use Rattle.std.proofs.Common.{◌≡◌, length, Some, None, ◌<◌, slice_set, arith, sym, ap, ◌∙◌}
use Rattle.std.proofs.lemmas.Option.{slice_get_within}
use Rattle.condition_tests.specs.Known.{KnownInDomains}
use Rattle.bindings.proofs.Known.{set_back, length-set, free_count-set, free_count}
use Rattle.bindings.proofs.Found.{known_more, last_in}
use Rattle.bindings.proofs.Told.{someway-init, someway-step, someway-end, some_from_passed, some_one_complete}
use Rattle.bindings.proofs.some_rows.+some_rows.Goals as goal

pub returns-in_default-3-clause-adds : goal.returns-in_default-3-clause-adds
returns-in_default-3-clause-adds g t c =
    let ps = rw c.in-Some-2.is at c.in_ok-at.ensures.passed in
    let full = rw c.in_default-3.is at c.in_ok-choice.ensures.choice in
    rw c.in_ok-push.ensures.items (rw c.in_ok-row_of.ensures (some_from_passed _ _ _ _ _ _ _ _ _ _ ps (some_one_complete _ _ _ _ _ _ _ _ c.requires.known full)))

pub loop-value-init : goal.loop-value-init
loop-value-init g t c = record { someway = someway-init _ _ _ _ _ _ _ _ _ _; told = c.requires.told; kept = c.in_ok-choice.ensures.kept }

pub put-requires : goal.put-requires
put-requires g t c =
    let ch = rw c.in-Some-3.is at c.in_ok-choice.ensures.choice in
    rw c.loop-value.invariant.someway.same (slice_get_within _ _ _ ch.free)

pub some_rows-requires : goal.some_rows-requires
some_rows-requires g t c κs within =
    let ch = rw c.in-Some-3.is at c.in_ok-choice.ensures.choice in
    let put_is : c.put.new.current ≡ slice_set c.args.current.now c.in-Some-3.choice.slot (Some c.in-Some-pop.value) = c.put.ensures ∙ ap (λ s. slice_set s c.in-Some-3.choice.slot (Some c.in-Some-pop.value)) c.loop-value.invariant.someway.same in
    let less : free_count c.put.new.current < free_count c.args.current.now = rw put_is (free_count-set c.args.current.now c.in-Some-3.choice.slot c.in-Some-pop.value ch.free) in
    let known : KnownInDomains (g.S.Store.graph c.args.search.now.store.now) c.args.search.now.arcs.now c.put.new.current =
    rw put_is (known_more _ c.args.search.now.version _ c.args.search.now.goals.now _ _ _ c.requires.known ch.free (ch.within _ (last_in _ _ _ _ _ c.loop-value.invariant.someway.cut c.in-Some-pop.ensures.items))) in
    let long : length c.put.new.current ≡ length c.args.current.now = ap length put_is ∙ length-set _ _ _ in
    let below_t : free_count c.put.new.current < t = omega (arith, less, c.decreases) in
    (below_t, (within, (known, (c.requires.as_long ∙ sym long, (rw long c.requires.in_range, (c.loop-value.invariant.kept, (c.requires.one_flag_each ∙ sym long, c.loop-value.invariant.told)))))))

pub clear-requires : goal.clear-requires
clear-requires g t c =
    let ch = rw c.in-Some-3.is at c.in_ok-choice.ensures.choice in
    rw (c.in_ok-some_rows.ensures.restored, c.put.ensures, length-set, c.loop-value.invariant.someway.same) (slice_get_within _ _ _ ch.free)

pub loop-value-preserved : goal.loop-value-preserved
loop-value-preserved g t c =
    let ch = rw c.in-Some-3.is at c.in_ok-choice.ensures.choice in
    let put_is : c.put.new.current ≡ slice_set c.args.current.now c.in-Some-3.choice.slot (Some c.in-Some-pop.value) = c.put.ensures ∙ ap (λ s. slice_set s c.in-Some-3.choice.slot (Some c.in-Some-pop.value)) c.loop-value.invariant.someway.same in
    record {
      someway = someway-step _ _ _ _ _ _ _ _ _ _ _ _ _ _ _ _ c.loop-value.invariant.someway c.in-Some-pop.ensures.items (rw (← put_is) c.in_ok-some_rows.ensures.adds) _
          (c.clear.ensures ∙ (ap (λ s. slice_set s c.in-Some-3.choice.slot None) (c.in_ok-some_rows.ensures.restored ∙ put_is) ∙ set_back _ _ _ _ ch.free));
      told = c.in_ok-some_rows.ensures.told;
      kept = c.in_ok-some_rows.ensures.kept;
    }

pub returns-clause-adds : goal.returns-clause-adds
returns-clause-adds g t c =
    let ps = rw c.in-Some-2.is at c.in_ok-at.ensures.passed in
    let ch = rw c.in-Some-3.is at c.in_ok-choice.ensures.choice in
    let empty : length c.loop-value.values.items ≡ 0 = omega (arith, c.loop-value.values.ok, c.in_default-pop.ensures.cases.0) in
    some_from_passed _ _ _ _ _ _ _ _ _ _ ps (someway-end _ _ _ _ _ _ _ _ _ _ _ _ _ _ c.loop-value.invariant.someway empty ch)

pub returns-in-Some-clause-told : goal.returns-in-Some-clause-told
returns-in-Some-clause-told g t c = c.in_ok-add_witness.ensures.told _ (rw c.in-Some.is at c.in_ok-part.ensures) c.requires.told
