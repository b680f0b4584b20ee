use Rattle.std.proofs.Common.{refl, sym, ap, subst, inl, inr, Err}
use Rattle.std.proofs.lemmas.Result.{err_from_is_err_and}
use Rattle.sd_graph.specs.Stating.{Ends}
use Rattle.sqlite_source.specs.Rows.{db_ending}
use Rattle.sqlite_source.specs.Reads.{RefusesTables}
use Rattle.sqlite_source.specs.Shown.{file_pages, file_size}
use Rattle.sqlite_source.proofs.Bridges.{sound_tables, first_damaged, same_steps, schema_refuses}
use Rattle.sqlite_source.proofs.read_pages.Goals as goal

pub returns-in_err-sheets : goal.returns-in_err-sheets
returns-in_err-sheets c =
    let p = err_from_is_err_and c.from_residual.result c.from_residual.ensures.1 in
    let e = c.in_err-sheets.field-0.0 in
    rw (p.1, p.2)
    (inr (
      refl,
      elim c.in_err-sheets.ensures.fault [
        | inl memory ↦ inl (ap (λ x. Err x) memory)
        | inr schema ↦ inr (e, schema_refuses (file_pages c.args.store.now) (file_size c.args.store.now) e schema, refl)
      ],
    ))

pub returns-in_err-check_sheets : goal.returns-in_err-check_sheets
returns-in_err-check_sheets c =
    let p = err_from_is_err_and c.from_residual-in_err-check_sheets.result c.from_residual-in_err-check_sheets.ensures.1 in
    let e = c.in_err-check_sheets.field-0.0 in
    let same = c.listed_sheets.ensures.same in
    let pages = file_pages c.args.store.now in
    let size = file_size c.args.store.now in
    let lists = c.in_ok-sheets.ensures.lists in
    let why = rw (same.pages, same.size, c.as_slice.ensures.value) at c.in_err-check_sheets.ensures.fault in
    rw (p.1, p.2)
    (inr (
      refl,
      elim why [
        | inl memory ↦ inl (ap (λ x. Err x) memory)
        | inr first ↦
            inr (
              e,
              inr (
                lists.schema,
                subst (λ l. RefusesTables pages size l e) (sym lists.lists)
                    (first_damaged pages size lists.listed lists.listed c.in_ok-sheets.sheets.items e lists.read first),
              ),
              refl,
            )
      ],
    ))

pub returns : goal.returns
returns c =
    let same = c.listed_sheets.ensures.same in
    let then = c.check_sheets.ensures.same in
    let pages = file_pages c.args.store.now in
    let size = file_size c.args.store.now in
    let lists = c.in_ok-sheets.ensures.lists in
    let sheets = c.in_ok-sheets.sheets.items in
    let sound = rw (same.pages, same.size, c.as_slice.ensures.value) at c.in_ok-check_sheets.ensures.sound in
    let ends = rw (then.pages, then.size, same.pages, same.size, c.as_slice-2.ensures.value) at c.add_sheets.ensures in
    inl (
      lists.listed,
      record { schema = lists.schema; lists = lists.lists; sound = sound_tables pages size lists.listed lists.listed sheets lists.read sound },
      subst (λ steps. Ends c.args.graph.now steps c.add_sheets.new.graph (db_ending c.add_sheets.result))
          (same_steps pages size lists.listed c.args.stem.now lists.listed sheets lists.read) ends,
    )
