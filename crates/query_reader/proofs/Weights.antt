-- How much a query says, counted over its plain tree.
use Rattle.std.proofs.Common.{◌≡◌, ℕ, ◌+◌, ◌≤◌, List, [], ◌∷◌, ◌++◌, length, arith, refl, ap}
use Rattle.std.specs.List.{flat_map}
use Rattle.std.proofs.lemmas.List.{length-append}
use Rattle.std.proofs.lemmas.Grind.{flat_map-append}
use Rattle.query_spec.specs.Query.{SkolemTerm, Target, plain, made, Link, Collect, Body, Blocks, no_blocks, block}
use Rattle.struql_check.specs.Parsed.{target_terms, body_terms, bodies_within}

-- the sum of the weights
abbrev pub weigh : {X : Type 0} → (X → ℕ) → List X → ℕ
weigh m [] = 0
weigh m (x ∷ xs) = m x + weigh m xs

pub weigh-append : {X : Type 0} (m : X → ℕ) (xs ys : List X) → weigh m (xs ++ ys) ≡ weigh m xs + weigh m ys
weigh-append m [] ys = omega arith
weigh-append m (x ∷ xs) ys = let e = weigh-append m xs ys in omega (arith, e)

length_flat : {X Y : Type 0} (f : X → List Y) (xs : List X) → length (flat_map f xs) ≡ weigh (λ x. length (f x)) xs
length_flat f [] = omega arith
length_flat f (x ∷ xs) = let e = length_flat f xs in let a = length-append (f x) (flat_map f xs) in omega (arith, e, a)

weigh_less : {X : Type 0} (m n : X → ℕ) → ((x : X) → m x ≤ n x) → (xs : List X) → weigh m xs ≤ weigh n xs
weigh_less m n le [] = omega arith
weigh_less m n le (x ∷ xs) = let a = le x in let b = weigh_less m n le xs in omega (arith, a, b)

-- one for each thing
abbrev pub one_each : {X : Type 0} → X → ℕ
one_each x = 1

length_weighed : {X : Type 0} (xs : List X) → length xs ≡ weigh one_each xs
length_weighed [] = omega arith
length_weighed (x ∷ xs) = let e = length_weighed xs in omega (arith, e)

-- a link, and the terms in it
abbrev pub link_weight : Link → ℕ
link_weight k = 1 + length (target_terms k.source ++ target_terms k.target)

abbrev pub collect_weight : Collect → ℕ
collect_weight o = 1 + length (target_terms o.target)

abbrev pub body_weight : Body → ℕ
body_weight b = weigh one_each b.conditions + weigh one_each b.creates + weigh link_weight b.links + weigh collect_weight b.collects

-- each block, and what it says
abbrev pub total : Blocks → ℕ
total no_blocks = 0
total (block b inner after) = 1 + body_weight b + total inner + total after

flat_append : {X Y : Type 0} (f : X → List Y) (xs ys : List X) → flat_map f (xs ++ ys) ≡ flat_map f xs ++ flat_map f ys
flat_append f xs ys = flat_map-append f xs ys

pub few_of : {X : Type 0} (f : Body → List X) → ((b : Body) → length (f b) ≤ 1 + body_weight b) → (bs : Blocks) → length (flat_map f (bodies_within bs)) ≤ total bs
few_of f le no_blocks = omega arith
few_of f le (block b inner after) =
    let one = le b in let i = few_of f le inner in let a = few_of f le after in
    let here = length-append (f b) (flat_map f (bodies_within inner ++ bodies_within after)) in
    let split = ap length (flat_append f (bodies_within inner) (bodies_within after)) in
    let both = length-append (flat_map f (bodies_within inner)) (flat_map f (bodies_within after)) in
    omega (arith, one, i, a, here, split, both)

pub few_bodies : (bs : Blocks) → length (bodies_within bs) ≤ total bs
few_bodies no_blocks = omega arith
few_bodies (block b inner after) =
    let i = few_bodies inner in let a = few_bodies after in let both = length-append (bodies_within inner) (bodies_within after) in
    omega (arith, i, a, both)

pub conditions_few : (b : Body) → length b.conditions ≤ 1 + body_weight b
conditions_few b = let e = length_weighed b.conditions in omega (arith, e)

pub links_few : (b : Body) → length b.links ≤ 1 + body_weight b
links_few b =
    let e = length_weighed b.links in let l = weigh_less one_each link_weight (λ k. omega arith) b.links in omega (arith, e, l)

pub collects_few : (b : Body) → length b.collects ≤ 1 + body_weight b
collects_few b =
    let e = length_weighed b.collects in let l = weigh_less one_each collect_weight (λ o. omega arith) b.collects in omega (arith, e, l)

pub terms_few : (b : Body) → length (body_terms b) ≤ 1 + body_weight b
terms_few b =
    let creates = length_weighed b.creates in
    let links = length_flat (λ (k : Link). target_terms k.source ++ target_terms k.target) b.links in
    let by_links = weigh_less (λ (k : Link). length (target_terms k.source ++ target_terms k.target)) link_weight (λ k. omega arith) b.links in
    let collects = length_flat (λ (o : Collect). target_terms o.target) b.collects in
    let by_collects = weigh_less (λ (o : Collect). length (target_terms o.target)) collect_weight (λ o. omega arith) b.collects in
    let first = length-append b.creates (flat_map (λ (k : Link). target_terms k.source ++ target_terms k.target) b.links) in
    let whole = length-append (b.creates ++ flat_map (λ (k : Link). target_terms k.source ++ target_terms k.target) b.links) (flat_map (λ (o : Collect). target_terms o.target) b.collects) in
    omega (arith, creates, links, by_links, collects, by_collects, first, whole)
