use Rattle.std.proofs.Common.{◌∙◌, sym}
use Rattle.json_source.proofs.Lists.{some_members}
use Rattle.json_source.proofs.tables.holds_empty_lists.Goals as goal

pub returns-then-not-is_empty : goal.returns-then-not-is_empty
returns-then-not-is_empty c =
    c.are_empty_lists.ensures
    ∙ sym (some_members c.args.members.now.entries (λ none. let filled = rw c.if-not-is_empty.true at (c.is_empty.ensures.1 none) in cc))
