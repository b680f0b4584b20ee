-- What a target is under a row is one value at most.
use Rattle.std.proofs.Common.{◌≡◌, ◌∙◌, List, [], ◌∷◌, map, refl, sym, ap, subst, ⊎_elim, inl, inr}
use Rattle.std.specs.Prelude.{Some, Bool, true, IsTrue, ◌↔◌, Contains}
use Rattle.std.specs.Ordering.{eq_by_cmp, is_eq}
use Rattle.std.specs.declared.cmp.Ordering.{Ordering}
use Rattle.std.specs.declared.cmp.Ordering.TheVariants.{Less, Equal, Greater}
use Rattle.std.proofs.lemmas.Cmp.{tied_itself}
use Rattle.sd_value.specs.Order.{bytes_cmp, value_cmp}
use Rattle.sd_value.specs.OrderLaws.{bytes_cmp-exact, bytes_cmp-total}
use Rattle.sd_value.specs.Ascending.{ListsExactly}
use Rattle.graph_spec.specs.DataGraph.{DataGraph, Name, text, HasEdge}
use Rattle.query_spec.specs.Rows.{value_in}
use Rattle.site_spec.proofs.Sums.{joined_given}
use Rattle.struql_ast.specs.Reading.{link_of}
use Rattle.query_blocks.specs.declared.QueryBlock.{QueryBlock}
use Rattle.query_blocks.specs.Blocks.{body_of, IsCheckedBlock}
use Rattle.sd_value.specs.Gathered.{Gathered}
use Rattle.site_lookups.specs.Ends.{BlockJoins}
use Rattle.site_lookups.proofs.Some.{some_from, map_from, map_to}
use Rattle.site_lookups.proofs.Blocks.{bodies_from, bodies_to}
use Rattle.std.specs.List.{AllZip}
use Rattle.sd_value.specs.declared.Value.{Value}
use Rattle.sd_value.specs.declared.Value.TheVariants.{Data, Page}
use Rattle.sd_value.specs.declared.Datum.{Datum}
use Rattle.sd_value.specs.declared.Datum.TheVariants.{Text}
use Rattle.sd_value.specs.declared.Term.{Term}
use Rattle.query_spec.specs.Query.{Operand, SkolemTerm, Target, plain, made, summed}
use Rattle.query_spec.specs.Holds.{Assignment, operand_value}
use Rattle.site_spec.specs.Site.{Scope, IsTermUnder, IsTargetUnder, IsJoined, Linked, SiteEdge, SomeOf}

data_same : (s : Assignment) (o : Operand) (d e : Datum) → operand_value s o ≡ Some (Data d) → operand_value s o ≡ Some (Data e) → d ≡ e
data_same s o d e h k = let both : Some (Data d) ≡ Some (Data e) = sym h ∙ k in cc

args_same : (s : Assignment) (os : List Operand) (ds es : List Datum) → AllZip (λ operand d. operand_value s operand ≡ Some (Data d)) os ds → AllZip (λ operand d. operand_value s operand ≡ Some (Data d)) os es → ds ≡ es
args_same s [] [] [] h k = refl
args_same s [] [] (e ∷ es) h k = absurd k
args_same s [] (d ∷ ds) es h k = absurd h
args_same s (o ∷ os) [] es h k = absurd h
args_same s (o ∷ os) (d ∷ ds) [] h k = absurd k
args_same s (o ∷ os) (d ∷ ds) (e ∷ es) h k = let a = data_same s o d e h.0 k.0 in let r = args_same s os ds es h.1 k.1 in cc

pub term_same : (s : Assignment) (t : SkolemTerm) (p q : Term) → IsTermUnder s t p → IsTermUnder s t q → p ≡ q
term_same s t p q h k = let f : p.function ≡ q.function = h.function ∙ sym k.function in let a = args_same s t.args p.args q.args h.args k.args in λ i. record { function = f i; args = a i }

pub target_same : (s : Assignment) (t : Target) (v w : Value) → IsTargetUnder s t v → IsTargetUnder s t w → v ≡ w
target_same s (summed a) v w h k = absurd h
target_same s (plain o) v w h k = let both : Some v ≡ Some w = sym h ∙ k in cc
target_same s (made t) v w h k = h.2 ∙ ap Page (term_same s t h.0 k.0 h.1 k.1) ∙ sym k.2

tie : (o : Ordering) → is_eq o ≡ true → o ≡ Equal
tie Less e = cc
tie Equal e = refl
tie Greater e = cc

pub tied : (x y : Name) → x ≡ y → eq_by_cmp bytes_cmp x y ≡ true
tied x y e = let at : bytes_cmp x y ≡ Equal = subst (λ z. bytes_cmp x z ≡ Equal) e (tied_itself bytes_cmp-total x) in ap is_eq at

pub name_is : (x y : Name) (b : Bool) → b ≡ eq_by_cmp bytes_cmp x y → IsTrue b ↔ x ≡ y
name_is x y b e = (λ t. bytes_cmp-exact x y (tie (bytes_cmp x y) (sym e ∙ t)), λ same. e ∙ tied x y same)

text_same : (x y : Name) → Data (Text x) ≡ Data (Text y) → x ≡ y
text_same x y e = cc

pub text_is : (x y : Name) (v : Value) (b : Bool) → v ≡ Data (Text x) → b ≡ eq_by_cmp bytes_cmp x y → IsTrue b ↔ v ≡ text y
text_is x y v b at e =
    let n = name_is x y b e in
    (λ t. at ∙ ap (λ z. Data (Text z)) (n.0 t), λ same. n.1 (text_same x y (sym at ∙ same)))

page_same : (p q : Term) → Page p ≡ Page q → p ≡ q
page_same p q e = cc

pub source_to : (s : Assignment) (t : SkolemTerm) (p : Term) (source : Target) → source ≡ made t → IsTargetUnder s source (Page p) → IsTermUnder s t p
source_to s t p source e h =
    let at : IsTargetUnder s (made t) (Page p) = subst (λ x. IsTargetUnder s x (Page p)) e h in
    subst (IsTermUnder s t) (sym (page_same p at.0 at.2)) at.1

pub source_from : (s : Assignment) (t : SkolemTerm) (p : Term) (source : Target) → source ≡ made t → IsTermUnder s t p → IsTargetUnder s source (Page p)
source_from s t p source e h = subst (λ x. IsTargetUnder s x (Page p)) (sym e) (p, h, refl)

pub block_joins : (G : DataGraph) (u : Value) (label : Name) (b : QueryBlock) (ends : List Value) → Gathered (λ k v. IsJoined G b.chain u label v (link_of k)) b.links.items ends → (v : Value) → Contains ends v ↔ BlockJoins G u label b v
block_joins G u label b ends g v =
    (λ h. let r = g.sound v h in record { item = r.0; within = r.1; holds = r.2 }, λ s. g.complete s.item v s.within s.holds)

pub linked_to : (G : DataGraph) (q : Scope) (blocks : List QueryBlock) (u : Value) (label : Name) (ends : List Value) → ((b : QueryBlock) → Contains blocks b → IsCheckedBlock q.version b) → q.bodies ≡ map body_of blocks
    → Gathered (BlockJoins G u label) blocks ends → (v : Value) → Contains ends v → Linked G q u label v
linked_to G q blocks u label ends checked e g v h =
    let r = g.sound v h in
    bodies_from (λ c b. SomeOf (IsJoined G c u label v) b.links) q blocks checked e
    (some_from (λ b. SomeOf (IsJoined G b.chain u label v) (body_of b).links) blocks r.0 r.1 (map_from (IsJoined G r.0.chain u label v) link_of r.0.links.items r.2))

pub linked_from : (G : DataGraph) (q : Scope) (blocks : List QueryBlock) (u : Value) (label : Name) (ends : List Value) → ((b : QueryBlock) → Contains blocks b → IsCheckedBlock q.version b) → q.bodies ≡ map body_of blocks
    → Gathered (BlockJoins G u label) blocks ends → (v : Value) → Linked G q u label v → Contains ends v
linked_from G q blocks u label ends checked e g v l =
    let s = bodies_to (λ c b. SomeOf (IsJoined G c u label v) b.links) q blocks checked e l in
    g.complete s.item v s.within (map_to (IsJoined G s.item.chain u label v) link_of s.item.links.items s.holds)

pub page_edges : (G : DataGraph) (q : Scope) (p : Term) (label : Name) (u : Value) (ends : List Value) → u ≡ Page p → ListsExactly value_cmp (Linked G q (Page p) label) ends → ListsExactly value_cmp (SiteEdge G q u label) ends
page_edges G q p label u ends e x = rw e record {
  ascending = x.ascending;
  sound = λ v h. inl (x.sound v h);
  complete = λ v h. ⊎_elim (λ l. x.complete v l) (λ none. absurd none) h;
}

not_page : (d : Datum) (p : Term) → Data d ≡ Page p → ⊥
not_page d p e = cc

no_link : (G : DataGraph) (q : Scope) (blocks : List QueryBlock) (d : Datum) (label : Name) (v : Value) → ((b : QueryBlock) → Contains blocks b → IsCheckedBlock q.version b) → q.bodies ≡ map body_of blocks → Linked G q (Data d) label v → ⊥
no_link G q blocks d label v checked e l =
    let s = bodies_to (λ c b. SomeOf (IsJoined G c (Data d) label v) b.links) q blocks checked e l in
    let m = (checked s.item s.within).sources s.holds.item s.holds.within in
    let given = joined_given G s.item.chain (Data d) label v s.holds.item s.holds.holds in
    let at : IsTargetUnder (value_in s.item.chain.variables given.row) (made m.0) (Data d) = subst (λ x. IsTargetUnder (value_in s.item.chain.variables given.row) x (Data d)) m.1 given.holds.0 in
    not_page d at.0 at.2

pub data_edges : (G : DataGraph) (q : Scope) (blocks : List QueryBlock) (d : Datum) (label : Name) (u : Value) (ends : List Value) → u ≡ Data d → ((b : QueryBlock) → Contains blocks b → IsCheckedBlock q.version b) → q.bodies ≡ map body_of blocks
    → ListsExactly value_cmp (HasEdge G u label) ends → ListsExactly value_cmp (SiteEdge G q u label) ends
data_edges G q blocks d label u ends at checked e x = record {
  ascending = x.ascending;
  sound = λ v h. inr (x.sound v h);
  complete = λ v h. ⊎_elim (λ l. absurd (no_link G q blocks d label v checked e (subst (λ z. Linked G q z label v) at l))) (λ k. x.complete v k) h;
}
