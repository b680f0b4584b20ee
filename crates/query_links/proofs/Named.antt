-- The mentions of a function, block by block.
use Rattle.std.proofs.Common.{◌≡◌, List, [], ◌∷◌, ◌++◌, refl, sym, ap, subst, ◌∙◌, ℕ}
use Rattle.std.specs.Prelude.{Bool, true, false, cond, map, filter}
use Rattle.std.specs.Borrow.{Bor}
use Rattle.std.specs.List.{flat_map}
use Rattle.std.proofs.lemmas.List.{map-append}
use Rattle.std.proofs.lemmas.List.Elements.{All-push}
use Rattle.sd_value.specs.Names.{Name}
use Rattle.query_spec.specs.Mentions.{same_name, chain_of}
use Rattle.query_spec.specs.Query.{Condition, SkolemTerm as PlainTerm, Collect as PlainCollect}
use Rattle.site_spec.specs.Site.{target_terms, ends_of}
use Rattle.struql_ast.specs.declared.SkolemTerm.{SkolemTerm}
use Rattle.struql_ast.specs.declared.Link.{Link}
use Rattle.struql_ast.specs.declared.Collect.{Collect}
use Rattle.struql_ast.specs.Reading.{term_of, link_of, collect_of}
use Rattle.query_blocks.specs.declared.QueryBlocks.{QueryBlocks}
use Rattle.query_blocks.specs.Blocks.{body_of, scope_of}
use Rattle.constraint_spec.specs.Placed.{Mention as PlainMention, body_mentions, mentions_of}
use Rattle.query_links.specs.declared.written.Mention.{Mention}
use Rattle.query_links.specs.Mentions.{plain_terms, of_function, mention_under, mention_of, HaveChains}
use Rattle.query_links.proofs.Lists.{kept_one_by_one, kept_flat, flat_mapped, mapped_twice, each_alone}

module _ (f : Name) where
  abbrev Is : PlainTerm → Bool
  Is t = same_name t.function f

  pub terms_named : (terms : List SkolemTerm) → flat_map (λ t. of_function f (term_of t ∷ [])) terms ≡ of_function f (map term_of terms)
  terms_named terms = sym (kept_one_by_one Is term_of terms)

  pub links_named : (links : List Link) → flat_map (λ k. of_function f (ends_of (link_of k))) links ≡ of_function f (flat_map ends_of (map link_of links))
  links_named links = sym (ap (filter Is) (flat_mapped ends_of link_of links) ∙ kept_flat Is (λ k. ends_of (link_of k)) links)

  pub collects_named : (collects : List Collect) → flat_map (λ c. of_function f (target_terms (collect_of c).target)) collects ≡ of_function f (flat_map (λ c. target_terms c.target) (map collect_of collects))
  collects_named collects = sym (ap (filter Is) (flat_mapped (λ (c : PlainCollect). target_terms c.target) collect_of collects) ∙ kept_flat Is (λ c. target_terms (collect_of c).target) collects)

  kept_under : (conditions : List Condition) (b : Bool) (t : PlainTerm) (kept : List PlainTerm) (rest : List PlainMention) → map (mention_under conditions) kept ≡ rest → map (mention_under conditions) (cond b (t ∷ kept) kept) ≡ cond b (mention_under conditions t ∷ rest) rest
  kept_under conditions true t kept rest e = ap (λ l. mention_under conditions t ∷ l) e
  kept_under conditions false t kept rest e = e

  pub under_named : (conditions : List Condition) (terms : List PlainTerm) → map (mention_under conditions) (of_function f terms) ≡ filter (λ (m : PlainMention). same_name m.term.function f) (map (mention_under conditions) terms)
  under_named conditions [] = refl
  under_named conditions (t ∷ terms) =
      kept_under conditions (Is t) t (of_function f terms) (filter (λ (m : PlainMention). same_name m.term.function f) (map (mention_under conditions) terms)) (under_named conditions terms)

  pub blocks_named : (q : QueryBlocks) → flat_map (λ b. filter (λ (m : PlainMention). same_name m.term.function f) (body_mentions (body_of b))) q.blocks.items ≡ mentions_of (scope_of q) f
  blocks_named q =
      sym (ap (filter (λ (m : PlainMention). same_name m.term.function f)) (flat_mapped body_mentions body_of q.blocks.items)
      ∙ kept_flat (λ (m : PlainMention). same_name m.term.function f) (λ b. body_mentions (body_of b)) q.blocks.items)

-- terms under their conditions, one by one
pub each_under : (conditions : List Condition) (terms : List (Bor SkolemTerm)) → flat_map (λ t. mention_under conditions (term_of t.now) ∷ []) terms ≡ map (mention_under conditions) (plain_terms terms)
each_under conditions terms =
    sym (mapped_twice (mention_under conditions) (λ (t : Bor SkolemTerm). term_of t.now) terms ∙ each_alone (λ (t : Bor SkolemTerm). mention_under conditions (term_of t.now)) terms)

-- one mention more
pub mention_pushed : (old new : List Mention) (m : Mention) → new ≡ old ++ m ∷ [] → map mention_of new ≡ map mention_of old ++ mention_of m ∷ []
mention_pushed old new m e = ap (map mention_of) e ∙ map-append mention_of old (m ∷ [])

pub chains_pushed : (version : ℕ) (old new : List Mention) (m : Mention) → new ≡ old ++ m ∷ [] → HaveChains version old → m.chain.now ≡ chain_of version m.chain.now.conditions → HaveChains version new
chains_pushed version old new m e had is =
    subst (HaveChains version) (sym e) (All-push (λ (n : Mention). n.chain.now ≡ chain_of version n.chain.now.conditions) old m had is)
