use Rattle.std.proofs.Common.{◌≡◌, ◌≤◌, ◌<◌, ◌+◌, ◌++◌, ℕ, List, length}
use Rattle.std.specs.Prelude.{All}
use Rattle.page_spec.specs.declared.TheConstants.{PAGE_LIMIT}
use Rattle.page_text.specs.declared.writing.Cursor.{Cursor}
use Rattle.page_text.specs.Texts.{text_at, AreTexts}
use Rattle.page_text.specs.Places.{after, after_all, steps_after, steps_after_all}
use Rattle.page_text.proofs.writing.written.Given as goal

abbrev pub invariant-loop-text : goal.invariant-loop-text
invariant-loop-text l = record {
  top_there : l.top.number < length l.drafts;
  stack_there : All (λ (p : Cursor). p.number < length l.drafts) l.stack.items;
  rest : (ts : List (List ℕ)) → AreTexts l.drafts ts → length (text_at ts l.number) ≤ PAGE_LIMIT → l.out.items ++ (after ts l.drafts l.top ++ after_all ts l.drafts l.stack.items) ≡ text_at ts l.number;
}

abbrev pub decreases-loop-text : goal.decreases-loop-text
decreases-loop-text l = steps_after l.drafts l.top + steps_after_all l.drafts l.stack.items
