-- The names that were seen.
use Rattle.std.proofs.Common.{◌≡◌, ℕ, ◌+◌, ◌<◌, Bool, true, false, List, [], ◌∷◌, length, drop, Option, refl, sym, ap, ◌∙◌}
use Rattle.std.proofs.Common.{suc, arith, get_or}
use Rattle.std.proofs.Math.Seq.{drop-cons}
use Rattle.std.specs.Prelude.{not}
use Rattle.std.specs.List.{list_any}
use Rattle.std.specs.BTreeSet.{BTreeSet, contains}
use Rattle.std.specs.BTreeMap.{is_at}
use Rattle.sd_value.specs.Order.{bytes_cmp}
use Rattle.template_reader.specs.declared.titles.Title.{Title}
use Rattle.template_reader.specs.Faults.{Seen, is_in, is_seen, see, first_twice}

pub empty_has : (s : BTreeSet (List ℕ)) → s.keys ≡ [] → (q : List ℕ) → contains bytes_cmp s q ≡ is_in [] q
empty_has s e q = ap (list_any (is_at (bytes_cmp q))) e

fresh_is : (fresh seen : Bool) → fresh ≡ not seen → fresh ≡ true → seen ≡ false
fresh_is true true a b = absurd cc
fresh_is true false a b = refl
fresh_is false seen a b = absurd cc

pub next_title : (s : Seen) (t : Title) (later total : List Title) (o : Option ℕ) (fresh : Bool) → fresh ≡ not (is_seen s t) → fresh ≡ true → total ≡ t ∷ later → first_twice s total ≡ o → first_twice (see s t) later ≡ o
next_title s t later total o fresh a b e h =
    let here : first_twice s (t ∷ later) ≡ first_twice (see s t) later = rw (fresh_is fresh (is_seen s t) a b) refl in
    sym here ∙ ap (first_twice s) (sym e) ∙ h

pub split_at : {T : Type 0} (ts : List T) (j : ℕ) (t : T) → j < length ts → t ≡ get_or ts j t → drop j ts ≡ t ∷ drop (j + 1) ts
split_at ts j t less is =
    let next : suc j ≡ j + 1 = omega arith in
    drop-cons ts j t less ∙ ap (λ x. x ∷ drop (suc j) ts) (sym is) ∙ ap (λ n. t ∷ drop n ts) next
