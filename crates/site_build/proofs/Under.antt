-- What a clause makes of a row is one thing at most.
use Rattle.std.proofs.Common.{◌≡◌, ◌∙◌, sym, subst}
use Rattle.std.specs.Prelude.{Option, Some, None}
use Rattle.std.specs.Option.{MatchOption}
use Rattle.sd_value.specs.declared.Term.{Term}
use Rattle.sd_value.specs.declared.Value.{Value}
use Rattle.sd_value.specs.declared.Value.TheVariants.{Page}
use Rattle.graph_spec.specs.DataGraph.{Name, text}
use Rattle.query_spec.specs.Query.{LinkLabel, quoted, label_variable, Link, Collect, Target}
use Rattle.query_spec.specs.Holds.{Assignment}
use Rattle.site_spec.specs.Site.{IsTargetUnder, IsLabelUnder}
use Rattle.site_lookups.proofs.Targets.{target_same}
use Rattle.site_build.specs.declared.ordered.Joined.{Joined}
use Rattle.site_build.specs.declared.ordered.Put.{Put}
use Rattle.site_build.specs.Materialised.{IsJoin, IsPutUnder}

pub at_none : {X : Type 0} (P : X → Type 0) (o : Option X) → o ≡ None → MatchOption o ((x : X) → P x → ⊥) (λ x. P x) → (x : X) → P x → ⊥
at_none {X} P o e m = subst (λ (o : Option X). MatchOption o ((x : X) → P x → ⊥) (λ x. P x)) e m

pub at_some : {X : Type 0} (P : X → Type 0) (o : Option X) (x : X) → o ≡ Some x → MatchOption o ((x : X) → P x → ⊥) (λ x. P x) → P x
at_some {X} P o x e m = subst (λ (o : Option X). MatchOption o ((x : X) → P x → ⊥) (λ x. P x)) e m

page_same : (p q : Term) → Page p ≡ Page q → p ≡ q
page_same p q e = cc

text_same : (l m : Name) → text l ≡ text m → l ≡ m
text_same l m e = cc

some_same : (v w : Value) → Some v ≡ Some w → v ≡ w
some_same v w e = cc

-- the page that a target's value is
pub page_alone : (s : Assignment) (t : Target) (v : Value) (o : Option Term) → MatchOption o ((p : Term) → v ≡ Page p → ⊥) (λ p. v ≡ Page p) → IsTargetUnder s t v
    → MatchOption o ((p : Term) → IsTargetUnder s t (Page p) → ⊥) (λ p. IsTargetUnder s t (Page p))
page_alone s t v None none is = λ p h. none p (target_same s t v (Page p) is h)
page_alone s t v (Some p) some is = subst (IsTargetUnder s t) some is

label_same : (s : Assignment) (k : LinkLabel) (l m : Name) → IsLabelUnder s k l → IsLabelUnder s k m → l ≡ m
label_same s (quoted n) l m h i = h ∙ sym i
label_same s (label_variable x) l m h i = text_same l m (some_same (text l) (text m) (sym h ∙ i))

pub join_same : (k : Link) (s : Assignment) (a b : Joined) → IsJoin k s a → IsJoin k s b → a ≡ b
join_same k s a b h i =
    let f = page_same a.from b.from (target_same s k.source (Page a.from) (Page b.from) h.from i.from) in
    let l = label_same s k.label a.label b.label h.by i.by in
    let t = target_same s k.target a.to b.to h.to i.to in
    λ j. record { from = f j; label = l j; to = t j }

pub put_same : (k : Collect) (s : Assignment) (a b : Put) → IsPutUnder k s a → IsPutUnder k s b → a ≡ b
put_same k s a b h i =
    let c : a.collection ≡ b.collection = sym h.0 ∙ i.0 in
    let v = target_same s k.target a.value b.value h.1 i.1 in
    λ j. record { collection = c j; value = v j }
