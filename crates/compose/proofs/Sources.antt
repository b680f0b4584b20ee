-- One statement of each source, and the values of a view's answers.
use Rattle.std.proofs.Common.{◌≡◌, List, Result, sym, ap, ◌∙◌, subst}
use Rattle.std.specs.Prelude.{⊤}
use Rattle.sd_value.specs.Names.{Name, Label}
use Rattle.sd_value.specs.Order.{value_cmp}
use Rattle.sd_value.specs.Ascending.{ListsExactly}
use Rattle.sd_value.specs.declared.Datum.{Datum}
use Rattle.sd_value.specs.declared.Datum.TheVariants.{Node}
use Rattle.sd_value.specs.declared.Value.{Value}
use Rattle.sd_value.specs.declared.Value.TheVariants.{Data}
use Rattle.graph_spec.specs.Statement.{a_node, a_member, an_edge}
use Rattle.page_spec.specs.Site.{Site}
use Rattle.site_spec.specs.Site.{SomeOf}
use Rattle.sd_graph.specs.Statement.{Building, Adds}
use Rattle.sd_graph.specs.declared.GraphRefusal.{GraphRefusal}
use Rattle.compose_spec.specs.Composed.{encoded}
use Rattle.compose.specs.Adding.{Gains, AddsAll}
use Rattle.compose.specs.Stated.{link_from, IsPutAs, IsLinkBy, IsPutIn}
use Rattle.compose.proofs.Adding.{adds_one, adds_as, gains_none}

module _ (b c : Building) (r : Result ⊤ GraphRefusal) where
  pub node_at : (n m : Name) → n ≡ m → Adds (a_node n) b c r → AddsAll (λ s. a_node m ≡ s) b c r
  node_at n m is h = subst (λ (x : Name). AddsAll (λ s. a_node x ≡ s) b c r) is (adds_one (a_node n) b c r tt h)

  pub member_at : (k n m : Name) → n ≡ m → Adds (a_member k n) b c r → AddsAll (λ s. a_member k m ≡ s) b c r
  member_at k n m is h = subst (λ (x : Name). AddsAll (λ s. a_member k x ≡ s) b c r) is
      (adds_one (a_member k n) b c r tt h)

  pub link_at : (n : Name) (l : Label) (v : Value) (d : Datum) → d ≡ encoded v → Adds (an_edge n l (Data d)) b c r
      → AddsAll (λ s. link_from n l v ≡ s) b c r
  link_at n l v d is h = subst (λ (x : Datum). AddsAll (λ s. an_edge n l (Data x) ≡ s) b c r) is
      (adds_one (an_edge n l (Data d)) b c r tt h)

  name_same : (x y : Name) → Node x ≡ Node y → x ≡ y
  name_same x y h = cc

  pub put_at : (k : Name) (v : Value) (n : Name) → encoded v ≡ Node n → Adds (a_member k n) b c r
      → AddsAll (IsPutAs k v) b c r
  put_at k v n is h =
      adds_as (λ s. a_member k n ≡ s) (IsPutAs k v) (λ s e. record { name = n; is = is; says = e }) b c r
      (λ s p. ap (a_member k) (name_same n p.name (sym is ∙ p.is)) ∙ p.says)
      (adds_one (a_member k n) b c r tt h)

  pub links_from : (site : Site) (page : Value) (n : Name) (l : Label) (ends : List Value) → ListsExactly value_cmp
      (site.edge page l) ends
      → AddsAll (λ s. SomeOf (λ v. link_from n l v ≡ s) ends) b c r → AddsAll (IsLinkBy site page n l) b c r
  links_from site page n l ends lists h =
      adds_as (λ s. SomeOf (λ v. link_from n l v ≡ s) ends) (IsLinkBy site page n l)
      (λ s o. record { end = o.item; linked = lists.sound o.item o.within; says = o.holds }) b c r
      (λ s k. record { item = k.end; within = lists.complete k.end k.linked; holds = k.says }) h

  pub puts_from : (site : Site) (k : Name) (values : List Value) → ListsExactly value_cmp (site.collected k) values
      → AddsAll (λ s. SomeOf (λ v. IsPutAs k v s) values) b c r → AddsAll (IsPutIn site k) b c r
  puts_from site k values lists h =
      adds_as (λ s. SomeOf (λ v. IsPutAs k v s) values) (IsPutIn site k)
      (λ s o. record { value = o.item; collected = lists.sound o.item o.within; put = o.holds }) b c r
      (λ s p. record { item = p.value; within = lists.complete p.value p.collected; holds = p.put }) h

pub put_none : (k : Name) (v : Value) (d : Datum) (b : Building) → d ≡ encoded v → ((n : Name) → d ≡ Node n → ⊥)
    → Gains (IsPutAs k v) b b
put_none k v d b is none = gains_none (IsPutAs k v) b (λ s p. none p.name (is ∙ p.is))
