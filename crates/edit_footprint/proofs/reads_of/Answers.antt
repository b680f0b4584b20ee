use Rattle.std.proofs.Common.{◌∙◌, refl, sym, ap, subst, List, false}
use Rattle.std.specs.Prelude.{map}
use Rattle.tmpl.specs.Reading.{file_of, template_body}
use Rattle.tmpl.specs.Body.{body_of}
use Rattle.tmpl.specs.Expressions.{uses, use_of}
use Rattle.tmpl.specs.declared.Part.{Part}
use Rattle.edit_footprint.specs.declared.reads.Reads.{Reads}
use Rattle.edit_footprint.specs.Gathered.{AddsUses}
use Rattle.edit_footprint.specs.Numbers.{number_of}
use Rattle.edit_footprint.proofs.Whole.{reads_none, reads_some, number_in_range}
use Rattle.edit_footprint.proofs.reads_of.Goals as goal

pub template-requires : goal.template-requires
template-requires c =
    number_in_range c.args.templates.now c.args.function.now c.in-Some.number (sym c.in-Some.is ∙ c.number_of.ensures
    ∙ ap (number_of c.args.function.now) c.functions.ensures)

pub returns-in-None : goal.returns-in-None
returns-in-None c =
    reads_none (file_of c.args.templates.now) c.args.function.now
    (record { embeds = false; own = c.new.result; others = c.new-2.result; collections = c.new-3.result })
    (record {
      embeds_no = refl;
      own_none = c.new.ensures.items;
      others_none = c.new-2.ensures.items;
      collections_none = c.new-3.ensures.items;
    })
    (sym c.in-None.is ∙ c.number_of.ensures ∙ ap (number_of c.args.function.now) c.functions.ensures)

pub returns-in_ok-gather-in-Some : goal.returns-in_ok-gather-in-Some
returns-in_ok-gather-in-Some c =
    let old : Reads = record {
      embeds = false;
      own = c.new.result;
      others = c.new-2.result;
      collections = c.new-3.result;
    } in
    reads_some (file_of c.args.templates.now) c.args.function.now old c.gather.new.reads c.in-Some.number
    (template_body c.template.result.now)
    (record {
      embeds_no = refl;
      own_none = c.new.ensures.items;
      others_none = c.new-2.ensures.items;
      collections_none =
          c.new-3.ensures.items;
    })
    (sym c.in-Some.is ∙ c.number_of.ensures ∙ ap (number_of c.args.function.now) c.functions.ensures)
    c.template.ensures
    (subst (AddsUses old c.gather.new.reads)
    (ap (map use_of) c.deref.ensures.value ∙ c.in_ok-uses-in-Some.ensures
    ∙ ap (λ (l : List Part). uses (body_of l)) c.as_slice.ensures.value) c.in_ok-gather-in-Some.ensures)
