use Rattle.std.proofs.Common.{◌≡◌, [], ◌∷◌, arith, sym, ◌∙◌, length-append}
use Rattle.std.specs.Prelude.{true, false}
use Rattle.std.specs.List.{list_any}
use Rattle.query_spec.specs.Mentions.{same_name}
use Rattle.struql_check.proofs.ChainNames.{known_more, new_more, past_here, past_more}
use Rattle.struql_check.proofs.names.one_more.Goals as goal

pub returns-then-is_known : goal.returns-then-is_known
returns-then-is_known c = λ ms are.
    let few = rw c.in-Few.is at are in
    let known : list_any (same_name c.args.mention.now.name) c.in-Few.known.items ≡ true = rw (← c.deref.ensures.value) (sym c.is_known.ensures ∙ c.if-is_known.true) in
    (known_more ms c.args.mention.now c.in-Few.known.items few.0 known, few.1)

pub returns-in_ok-push-in-Few : goal.returns-in_ok-push-in-Few
returns-in_ok-push-in-Few c = λ ms are.
    let few = rw c.in-Few.is at are in
    let new : list_any (same_name c.args.mention.now.name) c.in-Few.known.items ≡ false = rw (← c.deref.ensures.value) (sym c.is_known.ensures ∙ c.if-is_known.false) in (
      rw (c.in_ok-push-in-Few.ensures.items, c.in_ok-copy-in-Few.ensures) (new_more ms c.args.mention.now c.in-Few.known.items few.0 new),
      rw (c.in_ok-push-in-Few.ensures.items, length-append c.in-Few.known.items (c.in_ok-copy-in-Few.field-0 ∷ [])) (omega arith),
    )

pub returns-else-len-lt-MOST_VARIABLES : goal.returns-else-len-lt-MOST_VARIABLES
returns-else-len-lt-MOST_VARIABLES c = λ ms are.
    let few = rw c.in-Few.is at are in
    let new : list_any (same_name c.args.mention.now.name) c.in-Few.known.items ≡ false = rw (← c.deref.ensures.value) (sym c.is_known.ensures ∙ c.if-is_known.false) in
    past_here ms c.args.mention.now c.in-Few.known.items few.0 few.1 (omega arith) new

pub returns-in-Many : goal.returns-in-Many
returns-in-Many c = λ ms are. past_more ms (c.args.mention.now ∷ []) _ (rw c.in-Many.is at are)
