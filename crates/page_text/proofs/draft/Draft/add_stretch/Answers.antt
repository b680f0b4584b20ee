use Rattle.std.proofs.Common.{inl, ap, length}
use Rattle.page_text.proofs.draft.Draft.add_stretch.Goals as goal

pub returns : goal.returns
returns c = λ ts t h. c.in_ok-add.ensures ts t tt (inl (ap length c.bytes-size.ensures)) h
