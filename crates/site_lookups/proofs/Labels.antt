-- The rows under which a link starts at a page and has a label.
use Rattle.std.proofs.Common.{◌≡◌, ◌∙◌, List, [], refl, sym, subst}
use Rattle.std.specs.Prelude.{Option, Some, None, Bool, IsTrue, ◌↔◌, Contains}
use Rattle.std.specs.Option.{MatchOption}
use Rattle.sd_value.specs.Members.{Contains-nil}
use Rattle.sd_value.specs.declared.Term.{Term}
use Rattle.sd_value.specs.declared.Value.{Value}
use Rattle.sd_value.specs.declared.Value.TheVariants.{Page}
use Rattle.graph_spec.specs.DataGraph.{DataGraph, Name, text}
use Rattle.query_spec.specs.declared.Variable.{Variable}
use Rattle.query_spec.specs.Query.{SkolemTerm, Target, made, Link, LinkLabel, quoted, label_variable, Chain}
use Rattle.query_spec.specs.Holds.{Assignment}
use Rattle.query_spec.specs.Rows.{value_in, IsAnswer}
use Rattle.skolem.specs.Solved.{Solves, HasNone, Adds, Refutes, HasName}
use Rattle.site_spec.specs.Site.{IsTermUnder, IsLabelUnder}
use Rattle.site_lookups.specs.Counts.{IsLinkRow}
use Rattle.site_lookups.specs.Ends.{IsLabelled, StartsBy, LeadsTo}
use Rattle.site_lookups.proofs.Rows.{row_long, none_case}
use Rattle.site_lookups.proofs.Targets.{source_to, source_from}

-- ---- a label that is quoted

pub quoted_may : (written label : Name) (k : LinkLabel) (b : Bool) → k ≡ quoted written → IsTrue b ↔ label ≡ written → IsTrue b ↔ ((s : Assignment) × IsLabelUnder s k label)
quoted_may written label k b is h = subst (λ z. IsTrue b ↔ ((s : Assignment) × IsLabelUnder s z label)) (sym is) ((λ t. ((λ x. None), h.0 t)), (λ a. h.1 a.1))

pub quoted_is : (written label : Name) (k : LinkLabel) → k ≡ quoted written → ((s : Assignment) × IsLabelUnder s k label) → label ≡ written
quoted_is written label k is a = subst (λ z. IsLabelUnder a.0 z label) is a.1

pub quoted_same : (variables : List Variable) (written label : Name) (k : LinkLabel) (bound : List (Option Value)) → k ≡ quoted written → label ≡ written → Adds (IsLabelled variables k label) bound bound
quoted_same variables written label k bound is same = record {
  one_each = refl;
  to = λ row l a. (a, subst (λ z. IsLabelUnder (value_in variables row) z label) (sym is) same);
  from = λ row l a h. a;
}

-- ---- a label that is a variable

pub variable_may : (x label : Name) (k : LinkLabel) → k ≡ label_variable x → (s : Assignment) × IsLabelUnder s k label
variable_may x label k is = ((λ y. Some (text label)), subst (λ z. IsLabelUnder (λ y. Some (text label)) z label) (sym is) refl)

pub variable_label : (variables : List Variable) (x label : Name) (k : LinkLabel) (bound : List (Option Value)) (o : Option (List (Option Value))) → k ≡ label_variable x
    → MatchOption o (Refutes (HasName variables x (text label)) bound) (λ b. Adds (HasName variables x (text label)) bound b) → MatchOption o (Refutes (IsLabelled variables k label) bound) (λ b. Adds (IsLabelled variables k label) bound b)
variable_label variables x label k bound None is r = subst (λ z. Refutes (IsLabelled variables z label) bound) (sym is) record { never = λ row l a h. r.never row l a h }
variable_label variables x label k bound (Some b) is r =
    subst (λ z. Adds (IsLabelled variables z label) bound b) (sym is) record { one_each = r.one_each; to = λ row l a. r.to row l a; from = λ row l a h. r.from row l a h }

-- ---- a source and a label

pub none_labelled : (variables : List Variable) (k : Link) (p : Term) (label : Name) → (((s : Assignment) × IsLabelUnder s k.label label) → ⊥) → HasNone variables (StartsBy k p label)
none_labelled variables k p label n = record { never = λ row l h. n (value_in variables row, h.1) }

module _ (variables : List Variable) (k : Link) (t : SkolemTerm) (p : Term) (label : Name) (source : k.source ≡ made t) where
  pub none_starts : HasNone variables (λ s. IsTermUnder s t p) → HasNone variables (StartsBy k p label)
  none_starts n = record { never = λ row l h. n.never row l (source_to (value_in variables row) t p k.source source h.0) }

  refuted : (bound : List (Option Value)) → Solves variables (λ s. IsTermUnder s t p) bound → Refutes (IsLabelled variables k.label label) bound → HasNone variables (StartsBy k p label)
  refuted bound s r = record { never = λ row l h. r.never row (l ∙ sym s.one_each) (s.from row l (source_to (value_in variables row) t p k.source source h.0)) h.1 }

  added : (bound new : List (Option Value)) → Solves variables (λ s. IsTermUnder s t p) bound → Adds (IsLabelled variables k.label label) bound new → Solves variables (StartsBy k p label) new
  added bound new s a = record {
    one_each = a.one_each ∙ s.one_each;
    to = λ row l h. let both = a.to row (l ∙ sym s.one_each) h in (source_from (value_in variables row) t p k.source source (s.to row l both.0), both.1);
    from = λ row l h. a.from row (l ∙ sym s.one_each) (s.from row l (source_to (value_in variables row) t p k.source source h.0)) h.1;
  }

  pub starts_solved : (bound : List (Option Value)) (o : Option (List (Option Value))) → Solves variables (λ s. IsTermUnder s t p) bound
      → MatchOption o (Refutes (IsLabelled variables k.label label) bound) (λ b. Adds (IsLabelled variables k.label label) bound b) → MatchOption o (HasNone variables (StartsBy k p label)) (λ b. Solves variables (StartsBy k p label) b)
  starts_solved bound None s r = refuted bound s r
  starts_solved bound (Some new) s a = added bound new s a

pub solves_long : (variables : List Variable) (P : Assignment → Type 0) (o : Option (List (Option Value))) (bound : List (Option Value)) → o ≡ Some bound → MatchOption o (HasNone variables P) (λ b. Solves variables P b) → Solves variables P bound
solves_long variables P o bound e m = subst (λ (x : Option (List (Option Value))). MatchOption x (HasNone variables P) (λ b. Solves variables P b)) e m

pub none_solved : (variables : List Variable) (P : Assignment → Type 0) (o : Option (List (Option Value))) → o ≡ None → MatchOption o (HasNone variables P) (λ b. Solves variables P b) → HasNone variables P
none_solved variables P o e m = subst (λ (x : Option (List (Option Value))). MatchOption x (HasNone variables P) (λ b. Solves variables P b)) e m

-- ---- rows

pub link_rows : (G : DataGraph) (c : Chain) (k : Link) (p : Term) (label : Name) (bound : List (Option Value)) → Solves c.variables (StartsBy k p label) bound → (row : List Value) → IsAnswer G c bound row → IsLinkRow G c p label k row
link_rows G c k p label bound s row a = let h = s.to row (row_long G c row a.is_row) a.agrees in (a.is_row, h.0, h.1)

pub none_led_to : (G : DataGraph) (c : Chain) (k : Link) (target : Target) (p : Term) (label : Name) (variables : List Variable) (o : Option (List (Option Value))) (ends : List Value) → variables ≡ c.variables → o ≡ None
    → MatchOption o (HasNone variables (StartsBy k p label)) (λ b. Solves variables (StartsBy k p label) b) → ends ≡ [] → (v : Value) → Contains ends v ↔ LeadsTo G c p label k target v
none_led_to G c k target p label variables o ends same is m e v = (
  λ h. absurd (Contains-nil v (subst (λ (l : List Value). Contains l v) e h)),
  λ j. absurd (none_case G c (StartsBy k p label) variables o same is m record { row = j.row; is_row = j.is_row; holds = j.holds.0 }),
)
