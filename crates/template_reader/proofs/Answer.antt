-- The answer to items where nothing is put in.
use Rattle.std.proofs.Common.{◌≡◌, List, [], Option, Result, Ok, Err, refl, sym, ap, subst}
use Rattle.grammar.specs.Reading.{Read, Stuck, Past}
use Rattle.template_items.specs.declared.item.Item.{Item}
use Rattle.tmpl.specs.Body.{TemplateFile}
use Rattle.tmpl.specs.declared.Templates.{Templates}
use Rattle.template_layouts.specs.declared.refusal.TmplRefusal.{TmplRefusal}
use Rattle.template_layouts.specs.declared.refusal.TmplRefusal.TheVariants.{TooLong, Expected, Unclosed, Twice, TooDeep, UnknownVariable, Unknown, TooLarge, NoMemory}
use Rattle.template_layouts.specs.declared.met.Met.{Met}
use Rattle.template_reader.specs.Template.{Entry}
use Rattle.template_reader.specs.Reading.{read_file}
use Rattle.template_reader.specs.Faults.{Whole, Unfit, Beyond, IsWholeAnswer, IsWrittenAnswer, unfit_answer, beyond_answer, UnlessNoMemory, GivesTemplates, OrNoMemory}
use Rattle.template_reader.proofs.FileParts.{is_spelled, is_fault, is_past}

-- what is said of an answer goes over to what follows from it
pub unless_map : (P Q : Result TemplateFile TmplRefusal → Type 0) → ((r : Result TemplateFile TmplRefusal) → P r → Q r) → (r : Result Templates TmplRefusal) → UnlessNoMemory P r → UnlessNoMemory Q r
unless_map P Q more (Ok t) h = more _ h
unless_map P Q more (Err (TooLong at)) h = more _ h
unless_map P Q more (Err (Expected at)) h = more _ h
unless_map P Q more (Err (Unclosed at)) h = more _ h
unless_map P Q more (Err (Twice at)) h = more _ h
unless_map P Q more (Err (TooDeep at)) h = more _ h
unless_map P Q more (Err (UnknownVariable at)) h = more _ h
unless_map P Q more (Err (Unknown at)) h = more _ h
unless_map P Q more (Err (TooLarge at)) h = more _ h
unless_map P Q more (Err NoMemory) h = tt

-- what is said of the refusal that is told
pub or_told : (P : Result TemplateFile TmplRefusal → Type 0) (r told : TmplRefusal) → OrNoMemory r told → P (Err told) → UnlessNoMemory P (Err r)
or_told P (TooLong at) told h p = subst (λ e. P (Err e)) (sym h) p
or_told P (Expected at) told h p = subst (λ e. P (Err e)) (sym h) p
or_told P (Unclosed at) told h p = subst (λ e. P (Err e)) (sym h) p
or_told P (Twice at) told h p = subst (λ e. P (Err e)) (sym h) p
or_told P (TooDeep at) told h p = subst (λ e. P (Err e)) (sym h) p
or_told P (UnknownVariable at) told h p = subst (λ e. P (Err e)) (sym h) p
or_told P (Unknown at) told h p = subst (λ e. P (Err e)) (sym h) p
or_told P (TooLarge at) told h p = subst (λ e. P (Err e)) (sym h) p
or_told P NoMemory told h p = tt

told_itself : (r : TmplRefusal) → OrNoMemory r r
told_itself (TooLong at) = refl
told_itself (Expected at) = refl
told_itself (Unclosed at) = refl
told_itself (Twice at) = refl
told_itself (TooDeep at) = refl
told_itself (UnknownVariable at) = refl
told_itself (Unknown at) = refl
told_itself (TooLarge at) = refl
told_itself NoMemory = tt

pub is_told : (P : Result TemplateFile TmplRefusal → Type 0) (r : TmplRefusal) → P (Err r) → UnlessNoMemory P (Err r)
is_told P r p = or_told P r r (told_itself r) p

-- an answer that must be this one
pub gives : (P : Result TemplateFile TmplRefusal → Type 0) (s : Result TemplateFile TmplRefusal) → ((r : Result TemplateFile TmplRefusal) → P r → s ≡ r) → (r : Result Templates TmplRefusal) → UnlessNoMemory P r → GivesTemplates s r
gives P s one (Ok t) h = one _ h
gives P s one (Err (TooLong at)) h = one _ h
gives P s one (Err (Expected at)) h = one _ h
gives P s one (Err (Unclosed at)) h = one _ h
gives P s one (Err (Twice at)) h = one _ h
gives P s one (Err (TooDeep at)) h = one _ h
gives P s one (Err (UnknownVariable at)) h = one _ h
gives P s one (Err (Unknown at)) h = one _ h
gives P s one (Err (TooLarge at)) h = one _ h
gives P s one (Err NoMemory) h = tt

module _ (first : Option Met) (templates : List (List Item)) (items : List Item) where
  abbrev IsAnswer : Result TemplateFile TmplRefusal → Type 0
  IsAnswer = IsWrittenAnswer first templates items

  pub whole_exact : (entries : List Entry) (result : Result Templates TmplRefusal) → read_file items ≡ Read entries [] → UnlessNoMemory (IsWholeAnswer first templates) result → UnlessNoMemory IsAnswer result
  whole_exact entries result e h = unless_map (IsWholeAnswer first templates) IsAnswer (λ r k. (Whole entries, is_spelled items entries e, k)) result h

  pub unfit_exact : (rest : List Item) (r : TmplRefusal) → read_file items ≡ Stuck rest → OrNoMemory r (unfit_answer first items rest) → UnlessNoMemory IsAnswer (Err r)
  unfit_exact rest r e h = or_told IsAnswer r (unfit_answer first items rest) h (Unfit rest, is_fault items rest e, refl)

  pub beyond_exact : (rest : List Item) (r : TmplRefusal) → read_file items ≡ Past rest → r ≡ beyond_answer first rest → UnlessNoMemory IsAnswer (Err r)
  beyond_exact rest r e h = is_told IsAnswer r (Beyond rest, is_past items rest e, ap Err h)
