use Rattle.std.proofs.Common.{ap, sym, ◌∙◌, subst, map}
use Rattle.std.proofs.lemmas.Result.{IfOk-weaker}
use Rattle.index_store.specs.Ranks.{targets, IsInOrder}
use Rattle.index_store.proofs.KeyedLaws.{places_in_order}
use Rattle.index_store.proofs.ranks.in_order.Goals as goal

pub returns : goal.returns
returns g c =
    IfOk-weaker c.places_of.result _ _
    (λ order is. subst (IsInOrder g.K.Ord.cmp (targets c.args.items.now) c.args.places.now) (sym (is ∙ ap (map (λ k. k.place)) c.as_slice.ensures.value))
    (places_in_order g.K.Ord.cmp (targets c.args.items.now) c.args.places.now _ _ c.in_ok-keyed.ensures c.in_ok-merge_sort.ensures))
    c.places_of.ensures
