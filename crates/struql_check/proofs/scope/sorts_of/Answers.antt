use Rattle.std.proofs.Common.{◌≡◌, [], ◌∷◌, ◌++◌, ◌+◌, take, sym, ap, ◌∙◌, arith}
use Rattle.std.specs.Prelude.{Bool, Option, ◌||◌, if◌then◌else◌, Some, unwrap_or, false}
use Rattle.std.proofs.lemmas.List.{take_more}
use Rattle.std.specs.BTreeMap as tree
use Rattle.sd_value.specs.Order.{bytes_cmp}
use Rattle.query_spec.specs.Mentions.{same_name}
use Rattle.struql_check.specs.declared.mentions.VariableUse.{VariableUse}
use Rattle.struql_ast.specs.Written.{Name}
use Rattle.struql_check.specs.Scope.{is_arc_role, sort_of}
use Rattle.struql_check.proofs.Sorts.{sort_more}
use Rattle.struql_check.proofs.scope.sorts_of.Goals as goal

pub loop-mention-preserved : goal.loop-mention-preserved
loop-mention-preserved c = λ x.
    let ms = c.args.mentions.now in
    let i = c.loop-mention.mention-index in
    let m = c.mention-item.result in
    let e : take (i + 1) ms ≡ take i ms ++ m ∷ [] = take_more ms i m (omega arith) ∙ ap (λ (y : VariableUse). take i ms ++ y ∷ []) (sym c.mention-item.is) in
    let before : c.unwrap_or-before.result ≡ unwrap_or (sort_of (take i ms ∷ []) m.name) false = rw (← c.loop-mention.invariant m.name) (c.unwrap_or-before.ensures ∙ ap (λ (o : Option Bool). unwrap_or o false) (c.copied.ensures ∙ c.get.ensures.value)) in
    let step = sort_more (take i ms) m x c.unwrap_or-before.result before in
    let name : c.in_ok-name.name ≡ m.name = c.in_ok-name.ensures in
    let value : c.or_arc.result ≡ (c.unwrap_or-before.result || is_arc_role m.role) = c.or_arc.ensures in
    rw e
    (c.in_ok-insert.ensures.updates.0 x
    ∙ (ap (λ (n : Name). if same_name n x then Some c.or_arc.result else tree.get bytes_cmp c.loop-mention.sorts x) name
    ∙ (ap (λ (b : Bool). if same_name m.name x then Some b else tree.get bytes_cmp c.loop-mention.sorts x) value
    ∙ (ap (λ (o : Option Bool). if same_name m.name x then Some (c.unwrap_or-before.result || is_arc_role m.role) else o) (c.loop-mention.invariant x)
    ∙ step))))
