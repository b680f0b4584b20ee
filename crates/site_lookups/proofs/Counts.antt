-- What an asker counts, as things that were handed out.
use Rattle.std.proofs.Common.{◌≡◌, ◌≤◌, ◌+◌, ◌-◌, ◌^◌, ◌<◌, ℕ, suc, List, [], ◌∷◌, map, length, min, refl, sym, ap, ◌∙◌, subst, arith, ⊎_elim}
use Rattle.std.specs.Prelude.{Contains, Option, Some, None, slice_get}
use Rattle.std.specs.declared.cmp.Ordering.{Ordering}
use Rattle.std.specs.Cmp.{IsTotalOrder}
use Rattle.sd_value.specs.declared.Datum.TheVariants.{Text, Node}
use Rattle.sd_value.specs.declared.Term.{Term}
use Rattle.sd_value.specs.declared.Value.{Value}
use Rattle.sd_value.specs.declared.Value.TheVariants.{Data, Page}
use Rattle.sd_value.specs.Ascending.{ListsExactly}
use Rattle.sd_value.specs.Order.{value_cmp}
use Rattle.sd_value.specs.OrderLaws.{value_cmp-total}
use Rattle.sd_value.specs.Members.{Contains-cons_cases, Contains-nil}
use Rattle.graph_spec.specs.DataGraph.{DataGraph, Name, node, HasEdge, HasMember}
use Rattle.query_spec.specs.declared.Variable.{Variable}
use Rattle.query_spec.specs.Query.{SkolemTerm, Link, Body, Chain}
use Rattle.query_spec.specs.Rows.{Agrees, IsRow}
use Rattle.tmpl.specs.Body.{TemplateFile}
use Rattle.page_spec.specs.Question.{in_site, out, collected, template}
use Rattle.struql_ast.specs.Reading.{term_of, link_of, collect_of}
use Rattle.skolem.specs.Solved.{Solves}
use Rattle.site_spec.specs.Site.{Scope, IsTermUnder, chain}
use Rattle.query_blocks.specs.declared.QueryBlock.{QueryBlock}
use Rattle.query_blocks.specs.Blocks.{body_of, IsCheckedBlock}
use Rattle.asker.specs.Counted.{IsCounted}
use Rattle.weight_spec.specs.CountsAtMost.{CountsAtMost, IsAt}
use Rattle.weight_spec.specs.Charges.{NamingPlace, created, linked_from, linked_to, put, IsNamedAt, mention, link_row, edge, membership, member, collect_row, IsCause}
use Rattle.weight_spec.proofs.Handing.{hands_as, hands_map, hands_join, hands_two, distinct_ascending, slice_map, slice_in}
use Rattle.site_lookups.specs.Counts.{HasFunction, IsTermOf, LinkEnd, source_end, target_end, IsEndOf, IsLinkRow, IsCollectRow}
use Rattle.site_lookups.specs.MemberChain.{member_chain}
use Rattle.site_lookups.proofs.MemberRows.{member_row}

min_low : (x y : ℕ) → min x y ≤ x
min_low x y = omega arith

pub counted_within : (a n b : ℕ) → IsCounted a n b → b ≤ a + n
counted_within a n b e = subst (λ z. z ≤ a + n) (sym e) (min_low (a + n) (2 ^ 128 - 1))

pub hands_listed : {X : Type 0} (R : X → X → Ordering) → IsTotalOrder R → (Q P : X → Type 0) (xs : List X) (a b : ℕ) → ListsExactly R Q xs → ((x : X) → Q x → P x) → IsCounted a (length xs) b → CountsAtMost P a b
hands_listed R total Q P xs a b exact to counted = record {
  things = xs;
  distinct = distinct_ascending R total xs exact.ascending;
  each = λ x h. to x (exact.sound x h);
  high = counted_within a (length xs) b counted;
}

only_unit : (P : Unit {0} → Type 0) → P tt → (x : Unit {0}) → P x
only_unit P p x = p

pub hands_unit : (P : Unit {0} → Type 0) (a b : ℕ) → P tt → IsCounted a 1 b → CountsAtMost P a b
hands_unit P a b p counted = record {
  things = tt ∷ [];
  distinct = (λ h. Contains-nil tt h, tt);
  each = λ x h. only_unit P p x;
  high = counted_within a 1 b counted;
}

-- ---- a term that some row makes name the page has the page's function

agreeing : (bound : List (Option Value)) → (row : List Value) × (length row ≡ length bound) × Agrees row bound
agreeing [] = ([], refl, tt)
agreeing (None ∷ bound) = let r = agreeing bound in (Data (Text []) ∷ r.0, ap suc r.1, r.2)
agreeing (Some v ∷ bound) = let r = agreeing bound in (v ∷ r.0, ap suc r.1, (refl, r.2))

pub solved_function : (variables : List Variable) (t : SkolemTerm) (p : Term) (bound : List (Option Value)) → Solves variables (λ s. IsTermUnder s t p) bound → t.function ≡ p.function
solved_function variables t p bound s = let r = agreeing bound in sym (s.to r.0 (r.1 ∙ s.one_each) r.2).function

-- ---- mentions of a block

same_unit : (x y : Unit {0}) → x ≡ y
same_unit x y = refl

abbrev pub link_mention : ℕ × LinkEnd → NamingPlace
link_mention (n, source_end) = linked_from n
link_mention (n, target_end) = linked_to n

source_same : (m n : ℕ) → linked_from m ≡ linked_from n → m ≡ n
source_same m n e = cc

target_same : (m n : ℕ) → linked_to m ≡ linked_to n → m ≡ n
target_same m n e = cc

created_same : (m n : ℕ) → created m ≡ created n → m ≡ n
created_same m n e = cc

put_same : (m n : ℕ) → put m ≡ put n → m ≡ n
put_same m n e = cc

link_one : (x y : ℕ × LinkEnd) → link_mention x ≡ link_mention y → x ≡ y
link_one (m, source_end) (n, source_end) e = ap (λ (k : ℕ). (k, source_end)) (source_same m n e)
link_one (m, source_end) (n, target_end) e = cc
link_one (m, target_end) (n, source_end) e = cc
link_one (m, target_end) (n, target_end) e = ap (λ (k : ℕ). (k, target_end)) (target_same m n e)

create_one : (x y : ℕ × Unit {0}) → created x.0 ≡ created y.0 → x ≡ y
create_one x y e = let p = created_same x.0 y.0 e in λ i. (p i, tt)

put_one : (x y : ℕ × Unit {0}) → put x.0 ≡ put y.0 → x ≡ y
put_one x y e = let p = put_same x.0 y.0 e in λ i. (p i, tt)

pub create_mention : (b : QueryBlock) (p : Term) (x : ℕ × Unit {0}) → IsAt b.creates.items (HasFunction p) x → IsNamedAt (body_of b) p (created x.0)
create_mention b p x (w, at, e) = (term_of w, slice_map term_of b.creates.items x.0 w at, e)

pub link_mentions : (b : QueryBlock) (p : Term) (x : ℕ × LinkEnd) → IsAt b.links.items (λ k. IsEndOf p (link_of k)) x → IsNamedAt (body_of b) p (link_mention x)
link_mentions b p (n, source_end) (k, at, (t, e, f)) = (t, (link_of k, slice_map link_of b.links.items n k at, e), f)
link_mentions b p (n, target_end) (k, at, (t, e, f)) = (t, (link_of k, slice_map link_of b.links.items n k at, e), f)

pub put_mention : (b : QueryBlock) (p : Term) (x : ℕ × Unit {0}) → IsAt b.collects.items (λ k. IsTermOf p (collect_of k).target) x → IsNamedAt (body_of b) p (put x.0)
put_mention b p x (k, at, (t, e, f)) = (t, (collect_of k, slice_map collect_of b.collects.items x.0 k at, e), f)

module _ (b : QueryBlock) (p : Term) (start mid later end : ℕ) where
  pub block_creates : CountsAtMost (IsAt b.creates.items (HasFunction p)) start mid → CountsAtMost (IsNamedAt (body_of b) p) start mid
  block_creates h = hands_map (λ (x : ℕ × Unit {0}). created x.0) (IsAt b.creates.items (HasFunction p)) (IsNamedAt (body_of b) p) start mid (create_mention b p) (λ x y i j e. create_one x y e) h

  abbrev NamesPut : NamingPlace → Type 0
  NamesPut m = (n : ℕ) × (m ≡ put n) × IsNamedAt (body_of b) p m

  abbrev NamesNoPut : NamingPlace → Type 0
  NamesNoPut m = ((n : ℕ) → m ≡ put n → ⊥) × IsNamedAt (body_of b) p m

  created_no_put : (m n : ℕ) → created m ≡ put n → ⊥
  created_no_put m n e = cc

  link_no_put : (x : ℕ × LinkEnd) (n : ℕ) → link_mention x ≡ put n → ⊥
  link_no_put (m, source_end) n e = cc
  link_no_put (m, target_end) n e = cc

  create_no_link : (x : ℕ × Unit {0}) (y : ℕ × LinkEnd) → created x.0 ≡ link_mention y → ⊥
  create_no_link x (m, source_end) e = cc
  create_no_link x (m, target_end) e = cc

  first_two : CountsAtMost (IsAt b.creates.items (HasFunction p)) start mid → CountsAtMost (IsAt b.links.items (λ k. IsEndOf p (link_of k))) mid later → CountsAtMost NamesNoPut start later
  first_two h k =
      hands_two (λ (x : ℕ × Unit {0}). created x.0) link_mention (IsAt b.creates.items (HasFunction p)) (IsAt b.links.items (λ k. IsEndOf p (link_of k))) NamesNoPut start mid later
      (λ x i. (λ n e. created_no_put x.0 n e, create_mention b p x i)) (λ x i. (λ n e. link_no_put x n e, link_mentions b p x i)) create_one link_one create_no_link h k

  pub block_links : CountsAtMost (IsAt b.creates.items (HasFunction p)) start mid → CountsAtMost (IsAt b.links.items (λ k. IsEndOf p (link_of k))) mid later → CountsAtMost (IsNamedAt (body_of b) p) start later
  block_links h k = hands_as NamesNoPut (IsNamedAt (body_of b) p) start later (λ m i. i.1) (first_two h k)

  pub block_all : CountsAtMost (IsAt b.creates.items (HasFunction p)) start mid → CountsAtMost (IsAt b.links.items (λ k. IsEndOf p (link_of k))) mid later → CountsAtMost (IsAt b.collects.items (λ k. IsTermOf p (collect_of k).target)) later end → CountsAtMost (IsNamedAt (body_of b) p) start end
  block_all h k l =
      hands_join NamesNoPut NamesPut (IsNamedAt (body_of b) p) start later end (λ m i j. i.0 j.0 j.1) (λ m i. i.1) (λ m j. j.2) (first_two h k)
      (hands_map (λ (x : ℕ × Unit {0}). put x.0) (IsAt b.collects.items (λ k. IsTermOf p (collect_of k).target)) NamesPut later end (λ x i. (x.0, refl, put_mention b p x i)) (λ x y i j e. put_one x y e) l)

pub link_both : (p : Term) (k : Link) (a b c : ℕ) → CountsAtMost (IsTermOf p k.source) a b → CountsAtMost (IsTermOf p k.target) b c → CountsAtMost (IsEndOf p k) a c
link_both p k a b c h g = hands_two (λ (x : Unit {0}). source_end) (λ (x : Unit {0}). target_end) (IsTermOf p k.source) (IsTermOf p k.target) (IsEndOf p k) a b c (λ x i. i) (λ x i. i) (λ x y e. same_unit x y) (λ x y e. same_unit x y) (λ x y e. cc) h g

pub link_first : (p : Term) (k : Link) (a b : ℕ) → CountsAtMost (IsTermOf p k.source) a b → CountsAtMost (IsEndOf p k) a b
link_first p k a b h = hands_map (λ (x : Unit {0}). source_end) (IsTermOf p k.source) (IsEndOf p k) a b (λ x i. i) (λ x y i j e. same_unit x y) h

-- ---- charges of the questions

module _ (G : DataGraph) (q : Scope) (blocks : List QueryBlock) (f : TemplateFile) (bodies : q.bodies ≡ map body_of blocks) where
  body_at : (i : ℕ) (b : QueryBlock) → slice_get blocks i ≡ Some b → slice_get q.bodies i ≡ Some (body_of b)
  body_at i b at = subst (λ (bs : List Body). slice_get bs i ≡ Some (body_of b)) (sym bodies) (slice_map body_of blocks i b at)

  edge_same : (u : Value) (label : Name) (v w : Value) → edge u label v ≡ edge u label w → v ≡ w
  edge_same u label v w e = cc

  pub edge_causes : (u : Value) (label : Name) (ends : List Value) (a b : ℕ) → ListsExactly value_cmp (HasEdge G u label) ends → IsCounted a (length ends) b → CountsAtMost (IsCause G q f (out u label)) a b
  edge_causes u label ends a b exact counted =
      hands_map (edge u label) (HasEdge G u label) (IsCause G q f (out u label)) a b (λ v h. (refl, refl, h)) (λ v w i j e. edge_same u label v w e)
      (hands_listed value_cmp value_cmp-total (HasEdge G u label) (HasEdge G u label) ends a b exact (λ v h. h) counted)

  mention_same : (p : Term) (x y : ℕ × NamingPlace) → mention p x.0 x.1 ≡ mention p y.0 y.1 → x ≡ y
  mention_same p x y e = let a : x.0 ≡ y.0 = cc in let b : x.1 ≡ y.1 = cc in λ i. (a i, b i)

  pub site_causes : (p : Term) (a b : ℕ) → CountsAtMost (IsAt blocks (λ s. IsNamedAt (body_of s) p)) a b → CountsAtMost (IsCause G q f (in_site p)) a b
  site_causes p a b h =
      hands_map (λ (x : ℕ × NamingPlace). mention p x.0 x.1) (IsAt blocks (λ s. IsNamedAt (body_of s) p)) (IsCause G q f (in_site p)) a b
      (λ (n, m) (s, at, i). (refl, (body_of s, body_at n s at, i))) (λ x y i j e. mention_same p x y e) h

  row_same : (p : Term) (x y : ℕ × (ℕ × List Value)) → link_row p x.0 x.1.0 x.1.1 ≡ link_row p y.0 y.1.0 y.1.1 → x ≡ y
  row_same p x y e = let a : x.0 ≡ y.0 = cc in let b : x.1.0 ≡ y.1.0 = cc in let c : x.1.1 ≡ y.1.1 = cc in λ i. (a i, (b i, c i))

  module _ (checked : (b : QueryBlock) → Contains blocks b → IsCheckedBlock q.version b) where
    own_chain : (n : ℕ) (s : QueryBlock) → slice_get blocks n ≡ Some s → s.chain ≡ chain q (body_of s)
    own_chain n s at = (checked s (slice_in blocks n s at)).chain

    pub link_causes : (p : Term) (label : Name) (a b : ℕ) → CountsAtMost (IsAt blocks (λ s. IsAt s.links.items (λ k. IsLinkRow G s.chain p label (link_of k)))) a b → CountsAtMost (IsCause G q f (out (Page p) label)) a b
    link_causes p label a b h =
        hands_map (λ (x : ℕ × (ℕ × List Value)). link_row p x.0 x.1.0 x.1.1) (IsAt blocks (λ s. IsAt s.links.items (λ k. IsLinkRow G s.chain p label (link_of k)))) (IsCause G q f (out (Page p) label)) a b
        (λ (n, (m, row)) (s, at, (k, there, i)). let j = subst (λ (c : Chain). IsLinkRow G c p label (link_of k) row) (own_chain n s at) i in
        (refl, (body_of s, body_at n s at, (link_of k, slice_map link_of s.links.items m k there, (j.0, j.1), j.2))))
        (λ x y i j e. row_same p x y e) h

    collect_same : (c : Name) (x y : ℕ × (ℕ × List Value)) → collect_row c x.0 x.1.0 x.1.1 ≡ collect_row c y.0 y.1.0 y.1.1 → x ≡ y
    collect_same c x y e = let a : x.0 ≡ y.0 = cc in let b : x.1.0 ≡ y.1.0 = cc in let d : x.1.1 ≡ y.1.1 = cc in λ i. (a i, (b i, d i))

    member_same : (c : Name) (x y : Name) → member c x ≡ member c y → x ≡ y
    member_same c x y e = cc

    member_no_row : (c : Name) (n : Name) (x : ℕ × (ℕ × List Value)) → member c n ≡ collect_row c x.0 x.1.0 x.1.1 → ⊥
    member_no_row c n x e = cc

    pub member_causes : (c : Name) (a b : ℕ) → CountsAtMost (HasMember G c) a b → CountsAtMost (IsCause G q f (collected c)) a b
    member_causes c a b h = hands_map (member c) (HasMember G c) (IsCause G q f (collected c)) a b (λ n i. (refl, i)) (λ x y i j e. member_same c x y e) h

    pub collect_causes : (c : Name) (a b d : ℕ) → CountsAtMost (HasMember G c) a b → CountsAtMost (IsAt blocks (λ s. IsAt s.collects.items (λ k. IsCollectRow G s.chain c (collect_of k)))) b d → CountsAtMost (IsCause G q f (collected c)) a d
    collect_causes c a b d h g =
        hands_two (member c) (λ (x : ℕ × (ℕ × List Value)). collect_row c x.0 x.1.0 x.1.1) (HasMember G c) (IsAt blocks (λ s. IsAt s.collects.items (λ k. IsCollectRow G s.chain c (collect_of k)))) (IsCause G q f (collected c)) a b d
        (λ n i. (refl, i))
        (λ (n, (m, row)) (s, at, (k, there, i)). let j = subst (λ (z : Chain). IsCollectRow G z c (collect_of k) row) (own_chain n s at) i in
        (refl, (body_of s, body_at n s at, (collect_of k, slice_map collect_of s.collects.items m k there, j.0, j.1))))
        (member_same c) (collect_same c) (member_no_row c) h g

-- ---- members

one_of : List Value → Name
one_of [] = []
one_of (Data (Node n) ∷ row) = n
one_of (v ∷ row) = []

one_is : (n : Name) → one_of (node n ∷ []) ≡ n
unfolding one_of
one_is n = refl

pub member_rows : (G : DataGraph) (c : Name) (a b : ℕ) → CountsAtMost (IsRow G (member_chain c)) a b → CountsAtMost (HasMember G c) a b
member_rows G c a b h =
    hands_map one_of (IsRow G (member_chain c)) (HasMember G c) a b
    (λ row r. let m = member_row G c row r in subst (HasMember G c) (sym (ap one_of m.2 ∙ one_is m.0)) m.1)
    (λ x y r t e. let m = member_row G c x r in let k = member_row G c y t in
    let n : m.0 ≡ k.0 = sym (ap one_of m.2 ∙ one_is m.0) ∙ e ∙ ap one_of k.2 ∙ one_is k.0 in m.2 ∙ ap (λ (z : Name). node z ∷ []) n ∙ sym k.2)
    h

-- ---- templates of nodes

membership_same : (u : Value) (m n : ℕ) → membership u m ≡ membership u n → m ≡ n
membership_same u m n e = cc

pub template_causes : (G : DataGraph) (q : Scope) (f : TemplateFile) (u : Value) (n : Name) (count : ℕ) (a b : ℕ) → u ≡ node n → count ≡ length f.collections → CountsAtMost (λ k. k < count) a b → CountsAtMost (IsCause G q f (template u)) a b
template_causes G q f u n count a b is long h =
    hands_map (membership u) (λ k. k < count) (IsCause G q f (template u)) a b (λ k l. (refl, (n, is), subst (λ z. k < z) long l)) (λ x y i j e. membership_same u x y e) h

only_here : (i k : ℕ) → Contains (i ∷ []) k → k ≡ i
only_here i k z = ⊎_elim (λ e. sym e) (λ n. absurd (Contains-nil k n)) (Contains-cons_cases i [] k z)

pub below_next : (i n a b c : ℕ) → i < n → CountsAtMost (λ k. k < i) a b → c ≤ b + 1 → CountsAtMost (λ k. k < i + 1) a c
below_next i n a b c l h le =
    hands_join (λ k. k < i) (λ k. k ≡ i) (λ k. k < i + 1) a b c (λ k p e. let f : ⊥ = absurd (omega (arith, p, e)) in f) (λ k p. omega (arith, p)) (λ k e. omega (arith, e)) h
    record { things = i ∷ []; distinct = (λ z. Contains-nil i z, tt); each = λ k z. only_here i k z; high = le }

pub below_all : (i n a b : ℕ) → i ≤ n → CountsAtMost (λ k. k < i) a b → CountsAtMost (λ k. k < n) a b
below_all i n a b l h = hands_as (λ k. k < i) (λ k. k < n) a b (λ k p. omega (arith, l, p)) h
