use Rattle.std.proofs.Common.{◌≡◌, true, sym, ◌∙◌}
use Rattle.inclusion.proofs.search.missing_word.Goals as goal

pub returns-then-not-has_empty : goal.returns-then-not-has_empty
returns-then-not-has_empty c =
    rw c.new.ensures.items (
      sym c.has_empty.ensures ∙ c.if-has_empty.true,
      λ e. let on : c.args.b.now.has_empty ≡ true = e in cc,
    )
