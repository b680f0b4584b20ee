-- What a view keeps true from question to question.
use Rattle.std.proofs.Common.{◌≡◌, ℕ, List, [], refl, subst}
use Rattle.std.specs.Prelude.{Option, Bool}
use Rattle.std.specs.Map.{keys_of}
use Rattle.std.specs.declared.vec.Vec.{Vec}
use Rattle.std.specs.declared.alloc.Global.{Global}
use Rattle.sd_value.specs.declared.Term.{Term}
use Rattle.sd_value.specs.declared.Value.{Value}
use Rattle.sd_value.specs.Members.{Contains-nil}
use Rattle.graph_spec.specs.DataGraph.{DataGraph, Name}
use Rattle.tmpl.specs.Body.{TemplateFile}
use Rattle.page_spec.specs.Question.{in_site, out, collected, template}
use Rattle.site_spec.specs.Site.{Scope}
use Rattle.weight_spec.specs.Charges.{IsCause}
use Rattle.weight_spec.specs.CountsAtMost.{CountsAtMost}
use Rattle.click_time.specs.Known.{AsksOnce}
use Rattle.click_time.specs.Told.{AreTerms, AreEnds, AreGathered, AreNumbers}
use Rattle.click_time.specs.Fixed.{Keeps, all_asked}
use Rattle.click_time.proofs.Account.{asks_as, term_asked, end_asked, name_asked, value_asked, account_more, account_none}

module _ (G : DataGraph) (q : Scope) (f : TemplateFile) (ts : List (Term × Option Bool)) (es : List ((Value × Name) × Option (Vec Value Global)))
    (cs : List (Name × Option (Vec Value Global))) (vs : List (Value × Option (Option ℕ))) (s a b : ℕ) where
  pub after_term : (t : Term) (new : List (Term × Option Bool)) → Keeps G q f ts es cs vs s a → AreTerms G q new → AsksOnce t ((f : TemplateFile) → CountsAtMost (IsCause G q f (in_site t)) a b) (keys_of ts) (keys_of new) a b → Keeps G q f new es cs vs s b
  after_term t new k told asks = record {
    terms = told;
    ends = k.ends;
    gathered = k.gathered;
    templates = k.templates;
    account =
        account_more G q f (in_site t) (all_asked (keys_of ts) (keys_of es) (keys_of cs) (keys_of vs)) (all_asked (keys_of new) (keys_of es) (keys_of cs) (keys_of vs)) s a b k.account
        (term_asked t (CountsAtMost (IsCause G q f (in_site t)) a b) (keys_of ts) (keys_of new) (keys_of es) (keys_of cs) (keys_of vs) a b (asks_as t ((f : TemplateFile) → CountsAtMost (IsCause G q f (in_site t)) a b) (CountsAtMost (IsCause G q f (in_site t)) a b) (keys_of ts) (keys_of new) a b (λ r. r f) asks));
  }

  pub after_end : (v : Value) (l : Name) (new : List ((Value × Name) × Option (Vec Value Global))) → Keeps G q f ts es cs vs s a → AreEnds G q new → AsksOnce (v, l) ((f : TemplateFile) → CountsAtMost (IsCause G q f (out v l)) a b) (keys_of es) (keys_of new) a b → Keeps G q f ts new cs vs s b
  after_end v l new k told asks = record {
    terms = k.terms;
    ends = told;
    gathered = k.gathered;
    templates = k.templates;
    account =
        account_more G q f (out v l) (all_asked (keys_of ts) (keys_of es) (keys_of cs) (keys_of vs)) (all_asked (keys_of ts) (keys_of new) (keys_of cs) (keys_of vs)) s a b k.account
        (end_asked v l (CountsAtMost (IsCause G q f (out v l)) a b) (keys_of ts) (keys_of es) (keys_of new) (keys_of cs) (keys_of vs) a b (asks_as (v, l) ((f : TemplateFile) → CountsAtMost (IsCause G q f (out v l)) a b) (CountsAtMost (IsCause G q f (out v l)) a b) (keys_of es) (keys_of new) a b (λ r. r f) asks));
  }

  pub after_name : (c : Name) (new : List (Name × Option (Vec Value Global))) → Keeps G q f ts es cs vs s a → AreGathered G q new → AsksOnce c ((f : TemplateFile) → CountsAtMost (IsCause G q f (collected c)) a b) (keys_of cs) (keys_of new) a b → Keeps G q f ts es new vs s b
  after_name c new k told asks = record {
    terms = k.terms;
    ends = k.ends;
    gathered = told;
    templates = k.templates;
    account =
        account_more G q f (collected c) (all_asked (keys_of ts) (keys_of es) (keys_of cs) (keys_of vs)) (all_asked (keys_of ts) (keys_of es) (keys_of new) (keys_of vs)) s a b k.account
        (name_asked c (CountsAtMost (IsCause G q f (collected c)) a b) (keys_of ts) (keys_of es) (keys_of cs) (keys_of new) (keys_of vs) a b (asks_as c ((f : TemplateFile) → CountsAtMost (IsCause G q f (collected c)) a b) (CountsAtMost (IsCause G q f (collected c)) a b) (keys_of cs) (keys_of new) a b (λ r. r f) asks));
  }

  pub after_value : (v : Value) (new : List (Value × Option (Option ℕ))) → Keeps G q f ts es cs vs s a → AreNumbers G f new → AsksOnce v ((q : Scope) → CountsAtMost (IsCause G q f (template v)) a b) (keys_of vs) (keys_of new) a b → Keeps G q f ts es cs new s b
  after_value v new k told asks = record {
    terms = k.terms;
    ends = k.ends;
    gathered = k.gathered;
    templates = told;
    account =
        account_more G q f (template v) (all_asked (keys_of ts) (keys_of es) (keys_of cs) (keys_of vs)) (all_asked (keys_of ts) (keys_of es) (keys_of cs) (keys_of new)) s a b k.account
        (value_asked v (CountsAtMost (IsCause G q f (template v)) a b) (keys_of ts) (keys_of es) (keys_of cs) (keys_of vs) (keys_of new) a b (asks_as v ((q : Scope) → CountsAtMost (IsCause G q f (template v)) a b) (CountsAtMost (IsCause G q f (template v)) a b) (keys_of vs) (keys_of new) a b (λ r. r q) asks));
  }

pub keeps_nothing : (G : DataGraph) (q : Scope) (f : TemplateFile) (ts : List (Term × Option Bool)) (es : List ((Value × Name) × Option (Vec Value Global)))
    (cs : List (Name × Option (Vec Value Global))) (vs : List (Value × Option (Option ℕ))) (a : ℕ) → [] ≡ ts → [] ≡ es → [] ≡ cs → [] ≡ vs → Keeps G q f ts es cs vs a a
keeps_nothing G q f ts es cs vs a t e c v =
    subst (λ ts. Keeps G q f ts es cs vs a a) t (subst (λ es. Keeps G q f [] es cs vs a a) e (subst (λ cs. Keeps G q f [] [] cs vs a a) c (subst (λ vs. Keeps G q f [] [] [] vs a a) v record {
      terms = λ x h. absurd (Contains-nil x h);
      ends = λ x h. absurd (Contains-nil x h);
      gathered = λ x h. absurd (Contains-nil x h);
      templates = λ x h. absurd (Contains-nil x h);
      account = account_none G q f a;
    })))

pub asked_nothing : (ts : List (Term × Option Bool)) (es : List ((Value × Name) × Option (Vec Value Global))) (cs : List (Name × Option (Vec Value Global))) (vs : List (Value × Option (Option ℕ)))
    → [] ≡ ts → [] ≡ es → [] ≡ cs → [] ≡ vs → all_asked (keys_of ts) (keys_of es) (keys_of cs) (keys_of vs) ≡ []
asked_nothing ts es cs vs t e c v =
    subst (λ ts. all_asked (keys_of ts) (keys_of es) (keys_of cs) (keys_of vs) ≡ []) t (subst (λ es. all_asked [] (keys_of es) (keys_of cs) (keys_of vs) ≡ []) e
    (subst (λ cs. all_asked [] [] (keys_of cs) (keys_of vs) ≡ []) c (subst (λ vs. all_asked [] [] [] (keys_of vs) ≡ []) v refl)))
