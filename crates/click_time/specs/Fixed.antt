-- What of a view doesn't change while a page is in hand, and what it keeps.
use Rattle.std.specs.Prelude.{◌≤◌, ◌+◌, ℕ, List, ◌++◌, map, length, Contains, Option, Bool}
use Rattle.std.specs.Map.{keys_of}
use Rattle.std.specs.declared.vec.Vec.{Vec}
use Rattle.std.specs.declared.alloc.Global.{Global}
use Rattle.sd_value.specs.declared.Term.{Term}
use Rattle.sd_value.specs.declared.Value.{Value}
use Rattle.graph_spec.specs.DataGraph.{DataGraph, Name}
use Rattle.tmpl.specs.Body.{TemplateFile}
use Rattle.site_spec.specs.Site.{Scope}
use Rattle.page_spec.specs.Site.{Site}
use Rattle.page_spec.specs.Question.{Question, in_site, out, collected, template}
use Rattle.weight_spec.specs.Site.{site_of}
use Rattle.weight_spec.specs.Distinct.{IsDistinct}
use Rattle.weight_spec.specs.Charges.{Charge, IsCause}
use Rattle.click_time.specs.declared.memo.Memo.{Memo}
use Rattle.click_time.specs.Told.{AreTerms, AreEnds, AreGathered, AreNumbers}

-- `start` is what the asker had given when the page was begun
pub record Fixed : Type 0 where
  pub graph : DataGraph
  pub scope : Scope
  pub templates : TemplateFile
  pub start : ℕ

abbrev pub fixed_site : Fixed → Site
fixed_site f = site_of f.graph f.scope

-- the questions that are kept, by the four kinds of answers
abbrev pub all_asked : List Term → List (Value × Name) → List Name → List Value → List Question
all_asked ts es cs vs =
    (map in_site ts ++ map (λ (k : Value × Name). out k.0 k.1) es)
    ++ (map collected cs ++ map template vs)

abbrev pub questions : Memo → List Question
questions m =
    all_asked (keys_of m.terms.told.entries) (keys_of m.ends.told.entries)
    (keys_of m.gathered.told.entries) (keys_of m.templates.told.entries)

-- the count has risen by at most what the questions caused
pub record Account (G : DataGraph) (q : Scope) (f : TemplateFile) (asked : List Question)
    (start now : ℕ) : Type 0 where
  pub charges : List Charge
  pub distinct : IsDistinct charges
  pub caused : (x : Charge) → Contains charges x → (a : Question) × Contains asked a
      × IsCause G q f a x
  pub within : now ≤ start + length charges

-- what is known is true, and the count is accounted for
pub record Keeps (G : DataGraph) (q : Scope) (f : TemplateFile) (ts : List (Term × Option Bool))
    (es : List ((Value × Name) × Option (Vec Value Global)))
    (cs : List (Name × Option (Vec Value Global))) (vs : List (Value × Option (Option ℕ)))
    (start now : ℕ) : Type 0 where
  pub terms : AreTerms G q ts
  pub ends : AreEnds G q es
  pub gathered : AreGathered G q cs
  pub templates : AreNumbers G f vs
  pub account : Account G q f
      (all_asked (keys_of ts) (keys_of es) (keys_of cs) (keys_of vs)) start now

abbrev pub IsKept : DataGraph → Scope → TemplateFile → Memo → ℕ → ℕ → Type 0
IsKept G q f m start now =
    Keeps G q f m.terms.told.entries m.ends.told.entries m.gathered.told.entries
    m.templates.told.entries start now
