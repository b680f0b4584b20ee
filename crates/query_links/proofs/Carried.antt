-- The links that may carry a label, block by block.
use Rattle.std.proofs.Common.{◌≡◌, List, [], ◌∷◌, refl, sym, ap, ◌∙◌}
use Rattle.std.specs.Prelude.{Bool, true, false, cond, not, ◌&&◌, ◌||◌, map, filter, Option}
use Rattle.std.specs.Borrow.{Bor}
use Rattle.std.specs.List.{list_all, flat_map}
use Rattle.sd_value.specs.Names.{Name}
use Rattle.query_spec.specs.Query.{Link as PlainLink}
use Rattle.struql_ast.specs.declared.Link.{Link}
use Rattle.struql_ast.specs.Reading.{link_of, target_of}
use Rattle.query_blocks.specs.declared.QueryBlock.{QueryBlock}
use Rattle.query_blocks.specs.declared.QueryBlocks.{QueryBlocks}
use Rattle.query_blocks.specs.Blocks.{body_of, scope_of}
use Rattle.constraint_spec.specs.Placed.{PlacedLink, body_links, links_of}
use Rattle.constraint_recheck.specs.Recheck.{single, determined}
use Rattle.query_links.specs.Links.{placed, plain_links, carried, one_passes, has_target_in_source, is_end, ends_at}
use Rattle.query_links.proofs.Lists.{all_mapped, kept_one_by_one, kept_flat, mapped_flat, flat_mapped, mapped_twice}

abbrev plain : PlacedLink → PlainLink
plain k = k.link

module _ (may : PlacedLink → Bool) where
  pub block_carried : (b : QueryBlock) → flat_map (λ k. carried may (placed b.chain.conditions k ∷ [])) b.links.items ≡ carried may (body_links (body_of b))
  block_carried b =
      sym (ap (λ l. map plain (filter may l)) (mapped_twice (λ k. record { conditions = b.chain.conditions; link = k }) link_of b.links.items)
      ∙ (ap (map plain) (kept_one_by_one may (placed b.chain.conditions) b.links.items)
      ∙ mapped_flat plain (λ k. filter may (placed b.chain.conditions k ∷ [])) b.links.items))

  pub query_carried : (q : QueryBlocks) → flat_map (λ b. carried may (body_links (body_of b))) q.blocks.items ≡ carried may (links_of (scope_of q))
  query_carried q =
      sym (ap (λ l. map plain (filter may l)) (flat_mapped body_links body_of q.blocks.items)
      ∙ (ap (map plain) (kept_flat may (λ b. body_links (body_of b)) q.blocks.items)
      ∙ mapped_flat plain (λ b. filter may (body_links (body_of b))) q.blocks.items))

  kept_passes : (h : PlainLink → Bool) (b : Bool) (k : PlacedLink) (kept rest : List PlacedLink) (all : Bool) → list_all h (map plain kept) ≡ all → list_all h (map plain (cond b (k ∷ kept) kept)) ≡ ((not b || h k.link) && all)
  kept_passes h true k kept rest all e = ap (λ c. h k.link && c) e
  kept_passes h false k kept rest all e = e

  all_carried : (h : PlainLink → Bool) (links : List PlacedLink) → list_all h (carried may links) ≡ list_all (λ k. not (may k) || h k.link) links
  all_carried h [] = refl
  all_carried h (k ∷ links) = kept_passes h (may k) k (filter may links) links (list_all (λ j. not (may j) || h j.link) links) (all_carried h links)

  -- what a scan of the links found says of all links
  pub each_carried : (target : Option Name) (found : List (Bor Link)) (scanned : List (Bor Link)) (links : List PlacedLink) (b : Bool) → scanned ≡ found → plain_links found ≡ carried may links → b ≡ list_all (λ k. is_end target (target_of k.now.target)) scanned → b ≡ list_all (λ k. not (may k) || ends_at target k) links
  each_carried target found scanned links b same e is =
      is ∙ (ap (list_all (λ (k : Bor Link). is_end target (target_of k.now.target))) same
      ∙ (sym (all_mapped (λ k. is_end target k.target) (λ (k : Bor Link). link_of k.now) found)
      ∙ (ap (list_all (λ k. is_end target k.target)) e ∙ all_carried (λ k. is_end target k.target) links)))

  abbrev is_nil : List PlainLink → Bool
  is_nil [] = true
  is_nil (k ∷ ks) = false

  with_true : (b : Bool) → b ≡ (b && true)
  with_true true = refl
  with_true false = refl

  with_false : (b : Bool) → false ≡ (b && false)
  with_false true = refl
  with_false false = refl

  one_or_more : (h : PlainLink → Bool) (k : PlainLink) (rest : List PlainLink) → one_passes h (k ∷ rest) ≡ (h k && is_nil rest)
  one_or_more h k [] = with_true (h k)
  one_or_more h k (j ∷ rest) = with_false (h k)

  none_kept : (b : Bool) (k : PlacedLink) (kept : List PlacedLink) (rest : Bool) → is_nil (map plain kept) ≡ rest → is_nil (map plain (cond b (k ∷ kept) kept)) ≡ (not b && rest)
  none_kept true k kept rest e = refl
  none_kept false k kept rest e = e

  none_carried : (links : List PlacedLink) → is_nil (carried may links) ≡ list_all (λ j. not (may j)) links
  none_carried [] = refl
  none_carried (k ∷ links) = none_kept (may k) k (filter may links) (list_all (λ j. not (may j)) links) (none_carried links)

  one_kept : (h : PlainLink → Bool) (b : Bool) (k : PlacedLink) (kept : List PlacedLink) (alone rest : Bool) → is_nil (map plain kept) ≡ alone → one_passes h (map plain kept) ≡ rest → one_passes h (map plain (cond b (k ∷ kept) kept)) ≡ cond b (h k.link && alone) rest
  one_kept h true k kept alone rest e f = one_or_more h k.link (map plain kept) ∙ ap (λ c. h k.link && c) e
  one_kept h false k kept alone rest e f = f

  one_carried : (links : List PlacedLink) → one_passes has_target_in_source (carried may links) ≡ single may determined links
  one_carried [] = refl
  one_carried (k ∷ links) =
      one_kept has_target_in_source (may k) k (filter may links) (list_all (λ j. not (may j)) links) (single may determined links) (none_carried links) (one_carried links)

  pub single_carried : (found scanned : List (Bor Link)) (links : List PlacedLink) (b : Bool) → scanned ≡ found → plain_links found ≡ carried may links → b ≡ one_passes has_target_in_source (plain_links scanned) → b ≡ single may determined links
  single_carried found scanned links b same e is =
      is ∙ (ap (λ l. one_passes has_target_in_source (plain_links l)) same ∙ (ap (one_passes has_target_in_source) e ∙ one_carried links))
