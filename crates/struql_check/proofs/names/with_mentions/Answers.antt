use Rattle.std.proofs.Common.{◌≡◌, List, [], ◌∷◌, ◌++◌, arith, sym, ap, ◌∙◌, subst, append_assoc, take, ◌+◌}
use Rattle.std.proofs.lemmas.List.{take_more, take_all}
use Rattle.struql_check.specs.declared.mentions.VariableUse.{VariableUse}
use Rattle.struql_check.specs.Known.{AreNames}
use Rattle.struql_check.proofs.names.with_mentions.Goals as goal

pub loop-mention-preserved : goal.loop-mention-preserved
loop-mention-preserved c = λ ms are.
    let xs = c.args.mentions.now in
    let i = c.loop-mention.mention-index in
    let x = c.mention-item.result in
    let e : take (i + 1) xs ≡ take i xs ++ x ∷ [] = take_more xs i x (omega arith) ∙ ap (λ (y : VariableUse). take i xs ++ y ∷ []) (sym c.mention-item.is) in
    rw (e, ← append_assoc ms (take i xs) (x ∷ [])) (c.in_ok-names.ensures (ms ++ take i xs) (c.loop-mention.invariant ms are))

pub returns : goal.returns
returns c = λ ms are.
    let e : take c.loop-mention.mention-index c.args.mentions.now ≡ c.args.mentions.now = take_all c.loop-mention.mention-index c.args.mentions.now c.loop-mention-test.false in
    subst (λ (l : List VariableUse). AreNames (ms ++ l) c.loop-mention.names) e (c.loop-mention.invariant ms are)
