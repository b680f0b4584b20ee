-- A charge has one question that may cause it; and what a page may ask causes what the page may be charged for.
use Rattle.std.proofs.Common.{◌≡◌, ℕ, List, Some, Option, inl, inr, sym, ap, ◌∙◌, subst}
use Rattle.std.specs.Prelude.{slice_get}
use Rattle.sd_value.specs.declared.Term.{Term}
use Rattle.sd_value.specs.declared.Value.{Value}
use Rattle.sd_value.specs.declared.Value.TheVariants.{Page}
use Rattle.graph_spec.specs.DataGraph.{DataGraph, Name, node, text}
use Rattle.query_spec.specs.Query.{LinkLabel, quoted, label_variable, Link, Body}
use Rattle.query_spec.specs.Holds.{Assignment}
use Rattle.query_spec.specs.Rows.{value_in}
use Rattle.tmpl.specs.Body.{TemplateFile}
use Rattle.page_spec.specs.Question.{Question, in_site, out, collected, template}
use Rattle.site_spec.specs.Site.{Scope, chain, IsLabelUnder}
use Rattle.weight_spec.specs.Site.{site_of}
use Rattle.demand_spec.specs.Reads.{MayAsk, IsRead, MayEmbed, IsNamedCollection}
use Rattle.weight_spec.specs.Charges.{NamingPlace, Charge, mention, link_row, edge, membership, member, collect_row, IsNamedAt, IsCharge, IsCause}

one_label : (s : Assignment) (k : LinkLabel) (a b : Name) → IsLabelUnder s k a → IsLabelUnder s k b → a ≡ b
one_label s (quoted l) a b h g = h ∙ sym g
one_label s (label_variable x) a b h g = let e : Some (text a) ≡ Some (text b) = sym h ∙ g in cc

of_mention : (G : DataGraph) (q : Scope) (f : TemplateFile) (a : Question) (t : Term) (block : ℕ) (m : NamingPlace) → IsCause G q f a (mention t block m) → a ≡ in_site t
of_mention G q f (in_site p) t block m h = ap in_site (sym h.0)
of_mention G q f (out u l) t block m h = absurd h
of_mention G q f (collected c) t block m h = absurd h
of_mention G q f (template u) t block m h = absurd h

of_edge : (G : DataGraph) (q : Scope) (f : TemplateFile) (a : Question) (u : Value) (l : Name) (v : Value) → IsCause G q f a (edge u l v) → a ≡ out u l
of_edge G q f (in_site p) u l v h = absurd h
of_edge G q f (out w k) u l v h = ap (λ x. out x k) h.0 ∙ ap (out u) h.1
of_edge G q f (collected c) u l v h = absurd h
of_edge G q f (template w) u l v h = absurd h

of_membership : (G : DataGraph) (q : Scope) (f : TemplateFile) (a : Question) (u : Value) (n : ℕ) → IsCause G q f a (membership u n) → a ≡ template u
of_membership G q f (in_site p) u n h = absurd h
of_membership G q f (out w k) u n h = absurd h
of_membership G q f (collected c) u n h = absurd h
of_membership G q f (template w) u n h = ap template h.0

of_member : (G : DataGraph) (q : Scope) (f : TemplateFile) (a : Question) (c n : Name) → IsCause G q f a (member c n) → a ≡ collected c
of_member G q f (in_site p) c n h = absurd h
of_member G q f (out w k) c n h = absurd h
of_member G q f (collected d) c n h = ap collected h.0
of_member G q f (template w) c n h = absurd h

of_collect : (G : DataGraph) (q : Scope) (f : TemplateFile) (a : Question) (c : Name) (block n : ℕ) (row : List Value) → IsCause G q f a (collect_row c block n row) → a ≡ collected c
of_collect G q f (in_site p) c block n row h = absurd h
of_collect G q f (out w k) c block n row h = absurd h
of_collect G q f (collected d) c block n row h = ap collected h.0
of_collect G q f (template w) c block n row h = absurd h

abbrev LinkCause : DataGraph → Scope → Term → ℕ → ℕ → List Value → Name → Type 0
LinkCause G q t block link row label =
    (b : Body) × (slice_get q.bodies block ≡ Some b) × ((k : Link) × (slice_get b.links link ≡ Some k) × IsLabelUnder (value_in (chain q b).variables row) k.label label)

of_link : (G : DataGraph) (q : Scope) (f : TemplateFile) (a : Question) (t : Term) (block link : ℕ) (row : List Value) → IsCause G q f a (link_row t block link row)
    → (label : Name) × (a ≡ out (Page t) label) × LinkCause G q t block link row label
of_link G q f (in_site p) t block link row h = absurd h
of_link G q f (out u l) t block link row (e, (b, at, (k, there, from, by))) = (l, ap (λ x. out x l) e, (b, at, (k, there, by)))
of_link G q f (collected d) t block link row h = absurd h
of_link G q f (template w) t block link row h = absurd h

same_body : (x y : Body) (o : Option Body) → o ≡ Some x → o ≡ Some y → x ≡ y
same_body x y o h g = cc

same_link : (x y : Link) (o : Option Link) → o ≡ Some x → o ≡ Some y → x ≡ y
same_link x y o h g = cc

one_link : (G : DataGraph) (q : Scope) (t : Term) (block link : ℕ) (row : List Value) (a b : Name) → LinkCause G q t block link row a → LinkCause G q t block link row b → a ≡ b
one_link G q t block link row a b (x, at, (k, there, by)) (y, at', (j, there', by')) =
    let e = same_body y x (slice_get q.bodies block) at' at in
    let g : slice_get x.links link ≡ Some j = subst (λ (z : Body). slice_get z.links link ≡ Some j) e there' in
    let i = same_link j k (slice_get x.links link) g there in
    let h : IsLabelUnder (value_in (chain q x).variables row) k.label b =
    subst (λ (z : Link). IsLabelUnder (value_in (chain q x).variables row) z.label b) i (subst (λ (z : Body). IsLabelUnder (value_in (chain q z).variables row) j.label b) e by') in
    one_label (value_in (chain q x).variables row) k.label a b by h

pub one_cause : (G : DataGraph) (q : Scope) (f : TemplateFile) (x : Charge) (a b : Question) → IsCause G q f a x → IsCause G q f b x → a ≡ b
one_cause G q f (mention t block m) a b h g = of_mention G q f a t block m h ∙ sym (of_mention G q f b t block m g)
one_cause G q f (link_row t block link row) a b h g =
    let (l, e, c) = of_link G q f a t block link row h in
    let (k, i, d) = of_link G q f b t block link row g in
    e ∙ ap (out (Page t)) (one_link G q t block link row l k c d) ∙ sym i
one_cause G q f (edge u l v) a b h g = of_edge G q f a u l v h ∙ sym (of_edge G q f b u l v g)
one_cause G q f (membership u n) a b h g = of_membership G q f a u n h ∙ sym (of_membership G q f b u n g)
one_cause G q f (member c n) a b h g = of_member G q f a c n h ∙ sym (of_member G q f b c n g)
one_cause G q f (collect_row c block n row) a b h g = of_collect G q f a c block n row h ∙ sym (of_collect G q f b c block n row g)

-- ---- what a page may ask

same_term : (t p : Term) → in_site t ≡ in_site p → t ≡ p
same_term t p e = cc

same_value : (u v : Value) → template u ≡ template v → u ≡ v
same_value u v e = cc

no_page : (p : Term) (n : Name) → Page p ≡ node n → ⊥
no_page p n e = cc

term_asked : (G : DataGraph) (q : Scope) (f : TemplateFile) (p t : Term) → MayAsk (site_of G q) f p (in_site t) → t ≡ p
term_asked G q f p t (inl (inl e)) = same_term t p e
term_asked G q f p t (inl (inr e)) = cc
term_asked G q f p t (inr (n, d, (b, pr, h))) = absurd h

out_asked : (G : DataGraph) (q : Scope) (f : TemplateFile) (p : Term) (u : Value) (l : Name) → MayAsk (site_of G q) f p (out u l) → IsRead (site_of G q) f p u l
out_asked G q f p u l (inl (inl e)) = cc
out_asked G q f p u l (inl (inr e)) = cc
out_asked G q f p u l (inr h) = h

collected_asked : (G : DataGraph) (q : Scope) (f : TemplateFile) (p : Term) (c : Name) → MayAsk (site_of G q) f p (collected c) → IsNamedCollection (site_of G q) f p c
collected_asked G q f p c (inl (inl e)) = cc
collected_asked G q f p c (inl (inr e)) = cc
collected_asked G q f p c (inr h) = h

pub charged : (G : DataGraph) (q : Scope) (f : TemplateFile) (p : Term) (a : Question) (x : Charge) → MayAsk (site_of G q) f p a → IsCause G q f a x → IsCharge G q f p x
charged G q f p (in_site t) (mention u block m) may (e, (b, at, h)) =
    let same = term_asked G q f p t may in (e ∙ same, (b, at, subst (λ z. IsNamedAt b z m) same h))
charged G q f p (in_site t) (link_row u block link row) may h = absurd h
charged G q f p (in_site t) (edge u l v) may h = absurd h
charged G q f p (in_site t) (membership u n) may h = absurd h
charged G q f p (in_site t) (member c n) may h = absurd h
charged G q f p (in_site t) (collect_row c block n row) may h = absurd h
charged G q f p (out u l) (mention t block m) may h = absurd h
charged G q f p (out u l) (link_row t block link row) may (e, (b, at, (k, there, from, by))) =
    ((l, subst (λ z. IsRead (site_of G q) f p z l) e (out_asked G q f p u l may)), (b, at, (k, there, from)))
charged G q f p (out u l) (edge w k v) may (e, i, h) =
    (subst (λ z. IsRead (site_of G q) f p w z) i (subst (λ z. IsRead (site_of G q) f p z l) e (out_asked G q f p u l may)), h)
charged G q f p (out u l) (membership w n) may h = absurd h
charged G q f p (out u l) (member c n) may h = absurd h
charged G q f p (out u l) (collect_row c block n row) may h = absurd h
charged G q f p (template u) (mention t block m) may h = absurd h
charged G q f p (template u) (link_row t block link row) may h = absurd h
charged G q f p (template u) (edge w l v) may h = absurd h
charged G q f p (template u) (membership w n) (inl (inl z)) h = cc
charged G q f p (template u) (membership w n) (inl (inr z)) (e, (name, is), lt) = absurd (no_page p name (sym (same_value u (Page p) z) ∙ e ∙ is))
charged G q f p (template u) (membership w n) (inr asked) (e, there, lt) = (subst (MayEmbed (site_of G q) f p) e asked, there, lt)
charged G q f p (template u) (member c n) may h = absurd h
charged G q f p (template u) (collect_row c block n row) may h = absurd h
charged G q f p (collected c) (mention t block m) may h = absurd h
charged G q f p (collected c) (link_row t block link row) may h = absurd h
charged G q f p (collected c) (edge w l v) may h = absurd h
charged G q f p (collected c) (membership w n) may h = absurd h
charged G q f p (collected c) (member d n) may (e, h) = (subst (IsNamedCollection (site_of G q) f p) e (collected_asked G q f p c may), h)
charged G q f p (collected c) (collect_row d block n row) may (e, h) = (subst (IsNamedCollection (site_of G q) f p) e (collected_asked G q f p c may), h)
