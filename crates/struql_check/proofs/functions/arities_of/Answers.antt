use Rattle.std.proofs.Common.{◌≡◌, ℕ, List, [], ◌∷◌, ◌++◌, ◌+◌, take, sym, ap, ◌∙◌, subst, arith}
use Rattle.std.specs.Prelude.{Option, Some, None, if◌then◌else◌}
use Rattle.std.proofs.lemmas.List.{take_more, take_all}
use Rattle.std.specs.BTreeMap as tree
use Rattle.sd_value.specs.Order.{bytes_cmp}
use Rattle.query_spec.specs.Mentions.{same_name}
use Rattle.struql_check.specs.declared.terms.SeenTerm.{SeenTerm}
use Rattle.struql_check.specs.Known.{AreArities, or_else}
use Rattle.struql_check.proofs.Tables.{arity_push}
use Rattle.struql_check.proofs.functions.arities_of.Goals as goal

pub loop-term-preserved : goal.loop-term-preserved
loop-term-preserved c = λ f.
    let ts = c.args.terms.now in
    let i = c.loop-term.term-index in
    let x = c.term-item.result in
    let e : take (i + 1) ts ≡ take i ts ++ x ∷ [] = take_more ts i x (omega arith) ∙ ap (λ (y : SeenTerm). take i ts ++ y ∷ []) (sym c.term-item.is) in
    rw (e, arity_push (take i ts) x f) (c.in_ok-add_arity.ensures f ∙ ap (λ (o : Option ℕ). or_else o (if same_name f x.function then Some x.arity else None)) (c.loop-term.invariant f))

pub returns : goal.returns
returns c = subst (λ (ts : List SeenTerm). AreArities ts (tree.get bytes_cmp c.loop-term.arities)) (take_all c.loop-term.term-index c.args.terms.now c.loop-term-test.false) c.loop-term.invariant
