use Rattle.std.proofs.Common.{arith, refl}
use Rattle.page_text.proofs.Drafts.{keeps_new}
use Rattle.page_text.proofs.draft.keep.Goals as goal

pub returns : goal.returns
returns c = λ ts t all h. rw c.in_ok-push.ensures.items (keeps_new c.args.drafts.now.items ts c.args.draft t record { number = c.len-number.result; size = c.args.draft.size } all h (omega (arith, c.len-number.ensures, c.args.drafts.now.ok.0)) refl)
