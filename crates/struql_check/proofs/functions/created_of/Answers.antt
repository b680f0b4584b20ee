use Rattle.std.proofs.Common.{◌≡◌, List, [], ◌∷◌, ◌++◌, ◌+◌, take, sym, ap, ◌∙◌, subst, arith}
use Rattle.std.specs.Prelude.{Bool, not, ◌||◌, ◌&&◌}
use Rattle.std.proofs.lemmas.List.{take_more, take_all}
use Rattle.std.specs.BTreeSet as set
use Rattle.sd_value.specs.Order.{bytes_cmp}
use Rattle.query_spec.specs.Mentions.{same_name}
use Rattle.struql_check.specs.declared.terms.SeenTerm.{SeenTerm}
use Rattle.struql_check.specs.Known.{AreCreated}
use Rattle.struql_check.proofs.Tables.{created_push}
use Rattle.struql_check.proofs.functions.created_of.Goals as goal

pub loop-term-preserved : goal.loop-term-preserved
loop-term-preserved c = λ f.
    let ts = c.args.terms.now in
    let i = c.loop-term.term-index in
    let x = c.term-item.result in
    let e : take (i + 1) ts ≡ take i ts ++ x ∷ [] = take_more ts i x (omega arith) ∙ ap (λ (y : SeenTerm). take i ts ++ y ∷ []) (sym c.term-item.is) in
    rw (e, created_push (take i ts) x f) (c.in_ok-add_created.ensures f ∙ ap (λ (b : Bool). b || (same_name f x.function && not x.linked)) (c.loop-term.invariant f))

pub returns : goal.returns
returns c = subst (λ (ts : List SeenTerm). AreCreated ts (set.contains bytes_cmp c.loop-term.created)) (take_all c.loop-term.term-index c.args.terms.now c.loop-term-test.false) c.loop-term.invariant
