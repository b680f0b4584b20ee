-- The terms of a block, clause by clause.
use Rattle.std.proofs.Common.{◌≡◌, ◌⊎◌, ◌++◌, List, map, inl, inr, ⊎_elim, refl, subst, sym}
use Rattle.std.specs.Prelude.{Contains, Bool, false, IsTrue, ◌↔◌}
use Rattle.std.specs.List.{flat_map}
use Rattle.query_spec.specs.Query.{SkolemTerm, Collect, Body, Chain}
use Rattle.struql_ast.specs.declared.SkolemTerm.{SkolemTerm as WrittenTerm}
use Rattle.struql_ast.specs.declared.Link.{Link}
use Rattle.struql_ast.specs.declared.Collect.{Collect as Written}
use Rattle.struql_ast.specs.Reading.{term_of, link_of, collect_of}
use Rattle.site_spec.specs.Site.{Scope, SomeOf, terms_of, ends_of, target_terms, chain}
use Rattle.query_blocks.specs.declared.QueryBlock.{QueryBlock}
use Rattle.query_blocks.specs.Blocks.{body_of, IsCheckedBlock}
use Rattle.site_lookups.proofs.Some.{some_left, some_right, some_either, map_to, map_from, flat_to, flat_from, some_from}

abbrev pub InCreates : (SkolemTerm → Type 0) → QueryBlock → Type 0
InCreates P b = SomeOf (λ w. P (term_of w)) b.creates.items

abbrev pub InLinks : (SkolemTerm → Type 0) → QueryBlock → Type 0
InLinks P b = SomeOf (λ k. SomeOf P (ends_of (link_of k))) b.links.items

abbrev pub InCollects : (SkolemTerm → Type 0) → QueryBlock → Type 0
InCollects P b = SomeOf (λ k. SomeOf P (target_terms (collect_of k).target)) b.collects.items

abbrev collect_terms : Collect → List SkolemTerm
collect_terms c = target_terms c.target

pub from_creates : (P : SkolemTerm → Type 0) (b : QueryBlock) → InCreates P b → SomeOf P (terms_of (body_of b))
from_creates P b s = some_left P (map term_of b.creates.items ++ flat_map ends_of (map link_of b.links.items)) (flat_map collect_terms (map collect_of b.collects.items)) (some_left P (map term_of b.creates.items) (flat_map ends_of (map link_of b.links.items)) (map_from P term_of b.creates.items s))

pub from_links : (P : SkolemTerm → Type 0) (b : QueryBlock) → InLinks P b → SomeOf P (terms_of (body_of b))
from_links P b s =
    some_left P (map term_of b.creates.items ++ flat_map ends_of (map link_of b.links.items)) (flat_map collect_terms (map collect_of b.collects.items))
    (some_right P (map term_of b.creates.items) (flat_map ends_of (map link_of b.links.items)) (flat_from P ends_of (map link_of b.links.items) (map_from (λ k. SomeOf P (ends_of k)) link_of b.links.items s)))

pub from_collects : (P : SkolemTerm → Type 0) (b : QueryBlock) → InCollects P b → SomeOf P (terms_of (body_of b))
from_collects P b s =
    some_right P (map term_of b.creates.items ++ flat_map ends_of (map link_of b.links.items)) (flat_map collect_terms (map collect_of b.collects.items))
    (flat_from P collect_terms (map collect_of b.collects.items) (map_from (λ k. SomeOf P (collect_terms k)) collect_of b.collects.items s))

pub in_clauses : (P : SkolemTerm → Type 0) (b : QueryBlock) → SomeOf P (terms_of (body_of b)) → InCreates P b ⊎ (InLinks P b ⊎ InCollects P b)
in_clauses P b s =
    ⊎_elim (λ r. ⊎_elim (λ k. inl (map_to P term_of b.creates.items k))
    (λ k. inr (inl (map_to (λ k. SomeOf P (ends_of k)) link_of b.links.items (flat_to P ends_of (map link_of b.links.items) k))))
    (some_either P (map term_of b.creates.items) (flat_map ends_of (map link_of b.links.items)) r))
    (λ k. inr (inr (map_to (λ k. SomeOf P (collect_terms k)) collect_of b.collects.items (flat_to P collect_terms (map collect_of b.collects.items) k))))
    (some_either P (map term_of b.creates.items ++ flat_map ends_of (map link_of b.links.items)) (flat_map collect_terms (map collect_of b.collects.items)) s)

-- the last clause decides where the first two have none
pub last_is : (P : SkolemTerm → Type 0) (b : QueryBlock) (x y z : Bool) → x ≡ false → y ≡ false → IsTrue x ↔ InCreates P b → IsTrue y ↔ InLinks P b → IsTrue z ↔ InCollects P b → IsTrue z ↔ SomeOf P (terms_of (body_of b))
last_is P b x y z ex ey hx hy hz = (
  λ t. from_collects P b (hz.0 t),
  λ s. ⊎_elim (λ k. let yes = hx.1 k in cc) (λ r. ⊎_elim (λ k. let yes = hy.1 k in cc) (λ k. hz.1 k) r) (in_clauses P b s),
)

contains_of : (x : SkolemTerm) (xs : List SkolemTerm) → SomeOf (λ t. t ≡ x) xs → Contains xs x
contains_of x xs s = subst (Contains xs) s.holds s.within

pub contains_create : (b : QueryBlock) (w : WrittenTerm) → Contains b.creates.items w → Contains (terms_of (body_of b)) (term_of w)
contains_create b w h = contains_of (term_of w) (terms_of (body_of b)) (from_creates (λ t. t ≡ term_of w) b (some_from (λ v. term_of v ≡ term_of w) b.creates.items w h refl))

pub contains_link : (b : QueryBlock) (k : Link) (t : SkolemTerm) → Contains b.links.items k → Contains (ends_of (link_of k)) t → Contains (terms_of (body_of b)) t
contains_link b k t h i =
    contains_of t (terms_of (body_of b)) (from_links (λ u. u ≡ t) b (some_from (λ k. SomeOf (λ u. u ≡ t) (ends_of (link_of k))) b.links.items k h (some_from (λ u. u ≡ t) (ends_of (link_of k)) t i refl)))

pub contains_collect : (b : QueryBlock) (k : Written) (t : SkolemTerm) → Contains b.collects.items k → Contains (target_terms (collect_of k).target) t → Contains (terms_of (body_of b)) t
contains_collect b k t h i =
    contains_of t (terms_of (body_of b)) (from_collects (λ u. u ≡ t) b (some_from (λ k. SomeOf (λ u. u ≡ t) (target_terms (collect_of k).target)) b.collects.items k h (some_from (λ u. u ≡ t) (target_terms (collect_of k).target) t i refl)))

-- what holds of some block's own chain holds of some body's
pub bodies_from : (Q : Chain → Body → Type 0) (q : Scope) (blocks : List QueryBlock) → ((b : QueryBlock) → Contains blocks b → IsCheckedBlock q.version b) → q.bodies ≡ map body_of blocks → SomeOf (λ b. Q b.chain (body_of b)) blocks → SomeOf (λ b. Q (chain q b) b) q.bodies
bodies_from Q q blocks checked e s =
    let at = (checked s.item s.within).chain in
    rw e (map_from (λ b. Q (chain q b) b) body_of blocks (some_from (λ b. Q (chain q (body_of b)) (body_of b)) blocks s.item s.within (subst (λ c. Q c (body_of s.item)) at s.holds)))

pub bodies_to : (Q : Chain → Body → Type 0) (q : Scope) (blocks : List QueryBlock) → ((b : QueryBlock) → Contains blocks b → IsCheckedBlock q.version b) → q.bodies ≡ map body_of blocks → SomeOf (λ b. Q (chain q b) b) q.bodies → SomeOf (λ b. Q b.chain (body_of b)) blocks
bodies_to Q q blocks checked e s =
    let r = map_to (λ b. Q (chain q b) b) body_of blocks (subst (SomeOf (λ b. Q (chain q b) b)) e s) in
    let at = (checked r.item r.within).chain in
    some_from (λ b. Q b.chain (body_of b)) blocks r.item r.within (subst (λ c. Q c (body_of r.item)) (sym at) r.holds)

pub bodies_iff : (Q : Chain → Body → Type 0) (q : Scope) (blocks : List QueryBlock) (r : Bool) → ((b : QueryBlock) → Contains blocks b → IsCheckedBlock q.version b) → q.bodies ≡ map body_of blocks → IsTrue r ↔ SomeOf (λ b. Q b.chain (body_of b)) blocks → IsTrue r ↔ SomeOf (λ b. Q (chain q b) b) q.bodies
bodies_iff Q q blocks r checked e h = (λ t. bodies_from Q q blocks checked e (h.0 t), λ s. h.1 (bodies_to Q q blocks checked e s))

pub contains_map : (b : QueryBlock) (k : Link) → Contains b.links.items k → Contains (map link_of b.links.items) (link_of k)
contains_map b k h = let s = map_from (λ y. y ≡ link_of k) link_of b.links.items (some_from (λ x. link_of x ≡ link_of k) b.links.items k h refl) in subst (Contains (map link_of b.links.items)) s.holds s.within
