-- Blocks and queries.
use Rattle.std.proofs.Common.{◌∙◌, ◌≡◌, ◌⊎◌, ℕ, zero, suc, ◌+◌, ◌≤◌, List, [], ◌∷◌, ◌++◌, length, Bool, true, false, arith, ap, sym, refl, subst, inl, inr}
use Rattle.std.specs.Prelude.{Option, Some, None, map, nat_lt, if◌then◌else◌}
use Rattle.sd_lex.specs.declared.token.Span.{Span}
use Rattle.sd_lex.specs.declared.token.Token.{Token}
use Rattle.grammar.specs.Grammar.{steps, iterated, guarded}
use Rattle.struql_ast.specs.Written.{Condition, Term, Link, Collect, Clauses, Blocks, no_blocks, block, Query}
use Rattle.struql_text.specs.declared.keyword.Keyword.{Keyword}
use Rattle.struql_text.specs.declared.keyword.Keyword.TheVariants as words
use Rattle.struql_text.specs.Terminals.{from_to}
use Rattle.struql_text.specs.Expression.{Counted, expression_within}
use Rattle.struql_text.specs.Grammar.{listed, term, link, collect, condition}
use Rattle.struql_parse.specs.Blocks.{empty_clauses, optional, Body, onto_end, braces, body_of, body, Bare, Groups, no_groups, closing, grouped, Item, conditions_item, creates_item, links_item, collects_item, stage_of, with_item, begun, joined, nested, item, top_braces, item_step, levels, query_within}
use Rattle.query_scoping.proofs.Plain.{clauses_plain, blocks_plain}
use Rattle.query_reader.proofs.Weights.{weigh, one_each, body_weight, total}
use Rattle.query_reader.proofs.Sound.{Each, Bounded, split_length, list_bounded}
use Rattle.query_reader.proofs.Items.{GoodCondition, GoodTerm, GoodLink, GoodCollect, link_size, collect_size, condition_bounded, term_bounded, link_bounded, collect_bounded}

pub record GoodClauses (c : Clauses) : Type 0 where
  pub conditions : Each GoodCondition c.conditions
  pub creates : Each GoodTerm c.creates
  pub links : Each GoodLink c.links
  pub collects : Each GoodCollect c.collects

abbrev pub GoodBlocks : Blocks → Type 0
GoodBlocks no_blocks = Unit {0}
GoodBlocks (block c inner span after) = GoodClauses c × GoodBlocks inner × GoodBlocks after

-- what the clauses weigh
abbrev pub clauses_size : Clauses → ℕ
clauses_size c = weigh one_each c.conditions + weigh one_each c.creates + weigh link_size c.links + weigh collect_size c.collects

abbrev pub size : Blocks → ℕ
size no_blocks = 0
size (block c inner span after) = 1 + clauses_size c + size inner + size after

-- ---- a clause

optional_bounded : {A : Type 0} (m : A → ℕ) (Q : A → Type 0) (k : Keyword) (P : List Token → A → Type 0) → Bounded m Q P → Bounded (weigh m) (Each Q) (optional k P)
optional_bounded m Q k P bounded tokens xs (inl (a, b, span, e, (t, word, u), phrase)) =
    let whole = split_length tokens a b e in let found = list_bounded m Q P bounded b xs phrase in (omega (arith, whole, found.0), found.1)
optional_bounded m Q k P bounded tokens xs (inr (nil, is)) = (let same = ap (weigh m) is in omega (arith, same), subst (Each Q) (sym is) tt)

-- ---- blocks in braces

abbrev pub body_size : Body → ℕ
body_size b = clauses_size b.clauses + size b.blocks

abbrev pub GoodBody : Body → Type 0
GoodBody b = GoodClauses b.clauses × GoodBlocks b.blocks

end_size : (bs : Blocks) (b : Body) (span : Span) → size (onto_end bs b span) ≡ size bs + 1 + body_size b
end_size no_blocks b span = omega arith
end_size (block c inner place after) b span = let e = end_size after b span in omega (arith, e)

end_good : (bs : Blocks) (b : Body) (span : Span) → GoodBlocks bs → GoodBody b → GoodBlocks (onto_end bs b span)
end_good no_blocks b span all good = (good.0, good.1, tt)
end_good (block c inner place after) b span all good = (all.0, all.1, end_good after b span all.2 good)

abbrev pub Grown : Blocks → Blocks → List Token → Type 0
Grown state last tokens = (size last ≤ size state + length tokens) × (GoodBlocks state → GoodBlocks last)

braces_grow : (inner : List Token → Body → Type 0) → Bounded body_size GoodBody inner → (state last : Blocks) (tokens : List Token) → braces inner state tokens last → Grown state last tokens
braces_grow inner bounded state last tokens (a, b, opening, e, (t, sign, u), (c, d, found, f, phrase, (g, h, close, i, shut, (nil, is)))) =
    let whole = split_length tokens a b e in let two = split_length b c d f in let one = ap length sign in
    let good = bounded c found phrase in let grown = end_size state found (from_to opening close) in let same = ap size is in
    (omega (arith, whole, two, one, good.0, grown, same), λ all. subst GoodBlocks (sym is) (end_good state found (from_to opening close) all good.1))

room_grows : (room : Bool) (inner : List Token → Body → Type 0) → Bounded body_size GoodBody inner → (n : ℕ) (state last : Blocks) (tokens : List Token)
    → steps (λ so_far. guarded room (braces inner so_far)) n state tokens last → Grown state last tokens
room_grows room inner bounded zero state last tokens (nil, is) = (let same = ap size is in omega (arith, same), λ all. subst GoodBlocks (sym is) all)
room_grows true inner bounded (suc n) state last tokens (a, b, next, e, step, rest) =
    let one = braces_grow inner bounded state next a step in let more = room_grows true inner bounded n next last b rest in
    let whole = split_length tokens a b e in
    (omega (arith, one.0, more.0, whole), λ all. more.1 (one.1 all))
room_grows false inner bounded (suc n) state last tokens (a, b, next, e, step, rest) = absurd step

module _ (version : ℕ) (expression : List Token → Counted → Type 0) where
  body_of_bounded : (room : Bool) (inner : List Token → Body → Type 0) → Bounded body_size GoodBody inner → Bounded body_size GoodBody (body_of version expression room inner)
  body_of_bounded room inner bounded tokens b
      (a1, b1, cs, e1, p1, (a2, b2, ts, e2, p2, (a3, b3, ks, e3, p3, (a4, b4, os, e4, p4, (a5, b5, bs, e5, (n, turns), (nil, is)))))) =
      let s1 = split_length tokens a1 b1 e1 in let s2 = split_length b1 a2 b2 e2 in let s3 = split_length b2 a3 b3 e3 in
      let s4 = split_length b3 a4 b4 e4 in let s5 = split_length b4 a5 b5 e5 in
      let c = optional_bounded one_each GoodCondition words.Where (condition version expression) (condition_bounded version expression) a1 cs p1 in
      let t = optional_bounded one_each GoodTerm words.Create (term version) (term_bounded version) a2 ts p2 in
      let k = optional_bounded link_size GoodLink words.Link (link version) (link_bounded version) a3 ks p3 in
      let o = optional_bounded collect_size GoodCollect words.Collect (collect version) (collect_bounded version) a4 os p4 in
      let r = room_grows room inner bounded n no_blocks bs a5 turns in
      let same = ap body_size is in (
        omega (arith, s1, s2, s3, s4, s5, c.0, t.0, k.0, o.0, r.0, same),
        subst GoodBody (sym is) (record { conditions = c.1; creates = t.1; links = k.1; collects = o.1 }, r.1 tt),
      )

  pub body_bounded : (depth : ℕ) → Bounded body_size GoodBody (body version expression depth)
  body_bounded zero = body_of_bounded false _ (λ tokens b none. absurd none)
  body_bounded (suc depth) = body_of_bounded true (body version expression depth) (body_bounded depth)

-- ---- the top of a query

abbrev pub item_size : Item → ℕ
item_size (conditions_item cs) = weigh one_each cs
item_size (creates_item ts) = weigh one_each ts
item_size (links_item ks) = weigh link_size ks
item_size (collects_item os) = weigh collect_size os

abbrev pub GoodItem : Item → Type 0
GoodItem (conditions_item cs) = Each GoodCondition cs
GoodItem (creates_item ts) = Each GoodTerm ts
GoodItem (links_item ks) = Each GoodLink ks
GoodItem (collects_item os) = Each GoodCollect os

with_size : (c : Clauses) (i : Item) → clauses_size (with_item c i) ≤ clauses_size c + item_size i
with_size c (conditions_item cs) = omega arith
with_size c (creates_item ts) = omega arith
with_size c (links_item ks) = omega arith
with_size c (collects_item os) = omega arith

with_good : (c : Clauses) (i : Item) → GoodClauses c → GoodItem i → GoodClauses (with_item c i)
with_good c (conditions_item cs) all good = record { conditions = good; creates = all.creates; links = all.links; collects = all.collects }
with_good c (creates_item ts) all good = record { conditions = all.conditions; creates = good; links = all.links; collects = all.collects }
with_good c (links_item ks) all good = record { conditions = all.conditions; creates = all.creates; links = good; collects = all.collects }
with_good c (collects_item os) all good = record { conditions = all.conditions; creates = all.creates; links = all.links; collects = good }

none_good : GoodClauses empty_clauses
none_good = record { conditions = tt; creates = tt; links = tt; collects = tt }

abbrev pub GoodBare : Option Bare → Type 0
GoodBare None = Unit {0}
GoodBare (Some b) = GoodClauses b.clauses × GoodBlocks b.blocks

abbrev pub bare_size : Option Bare → ℕ
bare_size None = 0
bare_size (Some b) = 1 + clauses_size b.clauses + size b.blocks

abbrev pub groups_size : Groups → ℕ
groups_size g = size g.closed + bare_size g.bare

abbrev pub GoodGroups : Groups → Type 0
GoodGroups g = GoodBlocks g.closed × GoodBare g.bare

pub closing_size : (closed : Blocks) (bare : Option Bare) → size (closing closed bare) ≡ size closed + bare_size bare
closing_size closed None = omega arith
closing_size closed (Some b) = let e = end_size closed (record { clauses = b.clauses; blocks = b.blocks }) b.span in omega (arith, e)

pub closing_good : (closed : Blocks) (bare : Option Bare) → GoodBlocks closed → GoodBare bare → GoodBlocks (closing closed bare)
closing_good closed None all good = all
closing_good closed (Some b) all good = end_good closed (record { clauses = b.clauses; blocks = b.blocks }) b.span all good

abbrev pub GroupsGrow : Groups → Groups → ℕ → Type 0
GroupsGrow g h n = (groups_size h ≤ groups_size g + n) × (GoodGroups g → GoodGroups h)

joined_grows : (closed : Blocks) (bare : Option Bare) (place : Span) (i : Item) → GoodItem i → GroupsGrow (record { closed = closed; bare = bare }) (joined closed bare place i) (1 + item_size i)
joined_grows closed None place i good = (let w = with_size empty_clauses i in omega (arith, w), λ all. (all.0, (with_good empty_clauses i none_good good, tt)))
joined_grows closed (Some b) place i good = by (nat_lt b.stage (stage_of i)) refl
  where
    by : (t : Bool) → nat_lt b.stage (stage_of i) ≡ t → GroupsGrow (record { closed = closed; bare = Some b }) (joined closed (Some b) place i) (1 + item_size i)
    by true is = rw is (let w = with_size b.clauses i in omega (arith, w), λ all. (all.0, (with_good b.clauses i all.1.0 good, all.1.1)))
    by false is = rw is (
      let w = with_size empty_clauses i in let c = closing_size closed (Some b) in omega (arith, w, c),
      λ all. (closing_good closed (Some b) all.0 all.1, (with_good empty_clauses i none_good good, tt)),
    )

nested_grows : (closed : Blocks) (bare : Option Bare) (b : Body) (span : Span) → GoodBody b → GroupsGrow (record { closed = closed; bare = bare }) (nested closed bare b span) (1 + body_size b)
nested_grows closed None b span good = (let e = end_size closed b span in omega (arith, e), λ all. (end_good closed b span all.0 good, tt))
nested_grows closed (Some bare) b span good =
    (let e = end_size bare.blocks b span in omega (arith, e), λ all. (all.0, (all.1.0, end_good bare.blocks b span all.1.1 good)))

item_grows : {A : Type 0} (m : A → ℕ) (Q : A → Type 0) (k : Keyword) (item_of : List A → Item) (P : List Token → A → Type 0) → Bounded m Q P
    → ((xs : List A) → item_size (item_of xs) ≡ weigh m xs) → ((xs : List A) → Each Q xs → GoodItem (item_of xs))
    → (g h : Groups) (tokens : List Token) → item k item_of P g tokens h → GroupsGrow g h (length tokens)
item_grows m Q k item_of P bounded weight good g h tokens (a, b, place, e, (t, word, u), (c, d, xs, f, phrase, (nil, is))) =
    let whole = split_length tokens a b e in let two = split_length b c d f in let one = ap length word in
    let found = list_bounded m Q P bounded c xs phrase in let sized = weight xs in
    let grown = joined_grows g.closed g.bare place (item_of xs) (good xs found.1) in let same = ap groups_size is in
    (omega (arith, whole, two, one, found.0, sized, grown.0, same), λ all. subst GoodGroups (sym is) (grown.1 all))

module _ (version : ℕ) (expression : List Token → Counted → Type 0) (inner : Groups → List Token → Body → Type 0) (bounded : (g : Groups) → Bounded body_size GoodBody (inner g)) where
  step_grows : (g h : Groups) (tokens : List Token) → item_step version expression inner g tokens h → GroupsGrow g h (length tokens)
  step_grows g h tokens (inl step) = item_grows one_each GoodCondition words.Where conditions_item (condition version expression) (condition_bounded version expression) (λ xs. refl) (λ xs all. all) g h tokens step
  step_grows g h tokens (inr (inl step)) = item_grows one_each GoodTerm words.Create creates_item (term version) (term_bounded version) (λ xs. refl) (λ xs all. all) g h tokens step
  step_grows g h tokens (inr (inr (inl step))) = item_grows link_size GoodLink words.Link links_item (link version) (link_bounded version) (λ xs. refl) (λ xs all. all) g h tokens step
  step_grows g h tokens (inr (inr (inr (inl step)))) = item_grows collect_size GoodCollect words.Collect collects_item (collect version) (collect_bounded version) (λ xs. refl) (λ xs all. all) g h tokens step
  step_grows g h tokens (inr (inr (inr (inr (a, b, p, e, (c, d, opening, f, (t, sign, u), (i, j, found, k, phrase, (l, m, close, n, shut, (nil2, same_p)))), (nil, is)))))) =
      let whole = split_length tokens a b e in let two = split_length a c d f in let three = split_length d i j k in let one = ap length sign in
      let good = bounded g i found phrase in
      let grown = nested_grows g.closed g.bare p.body p.span (subst (λ q. GoodBody q.body) (sym same_p) good.1) in
      let same = ap groups_size is in let weight = ap (λ q. body_size q.body) same_p in
      (omega (arith, whole, two, three, one, good.0, grown.0, same, weight), λ all. subst GoodGroups (sym is) (grown.1 all))

  pub groups_grow : (n : ℕ) (g h : Groups) (tokens : List Token) → steps (item_step version expression inner) n g tokens h → GroupsGrow g h (length tokens)
  groups_grow zero g h tokens (nil, is) = (let same = ap groups_size is in omega (arith, same), λ all. subst GoodGroups (sym is) all)
  groups_grow (suc n) g h tokens (a, b, next, e, step, rest) =
      let one = step_grows g next a step in let more = groups_grow n next h b rest in let whole = split_length tokens a b e in
      (omega (arith, one.0, more.0, whole), λ all. more.1 (one.1 all))
