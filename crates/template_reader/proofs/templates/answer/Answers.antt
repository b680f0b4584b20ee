use Rattle.std.proofs.Common.{map}
use Rattle.template_reader.specs.Entries.{entry_of}
use Rattle.template_layouts.specs.Together.{items_of}
use Rattle.template_reader.proofs.Answer.{whole_exact, unfit_exact, beyond_exact}
use Rattle.template_reader.proofs.FileParts.{is_past}
use Rattle.template_reader.proofs.templates.answer.Goals as goal

pub beyond-requires : goal.beyond-requires
beyond-requires c none =
    let past = is_past c.args.items.now c.in-Err-TooDeep.rest.now (rw c.in-Err-TooDeep.field-0-is at c.in-Err-TooDeep.ensures) in
    let some = past.is in
    absurd cc

pub returns-in-Ok : goal.returns-in-Ok
returns-in-Ok c = whole_exact c.args.first (map items_of c.args.templates.now) c.args.items.now (map entry_of c.in-Ok._entries.items) c.whole.result c.in-Ok.ensures c.whole.ensures

pub returns-in-Err-Expected : goal.returns-in-Err-Expected
returns-in-Err-Expected c = unfit_exact c.args.first (map items_of c.args.templates.now) c.args.items.now c.in-Err-Expected.rest.now c.unfit.result (rw c.in-Err-Expected.field-0-is at c.in-Err-Expected.ensures) c.unfit.ensures

pub returns-in-Err-TooDeep : goal.returns-in-Err-TooDeep
returns-in-Err-TooDeep c = beyond_exact c.args.first (map items_of c.args.templates.now) c.args.items.now c.in-Err-TooDeep.rest.now c.beyond.result (rw c.in-Err-TooDeep.field-0-is at c.in-Err-TooDeep.ensures) c.beyond.ensures
