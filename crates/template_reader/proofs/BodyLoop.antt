-- What the functions of the program that read bodies do, by the grammar alone.
use Rattle.std.proofs.Common.{◌≡◌, ℕ, zero, suc, ◌-◌, ◌<◌, arith, true, false, List, [], ◌∷◌, ◌++◌, length, map, refl, ap, ◌∙◌}
use Rattle.std.proofs.Math.Numerals.{sub-one}
use Rattle.grammar.specs.Reading.{Outcome, Read, Stuck, Past, starts, repeat, with_front, and_then, give}
use Rattle.std.specs.Global.{Vec}
use Rattle.std.proofs.Common.{Bor, Result, Ok, Err}
use Rattle.grammar.proofs.RepeatLoop.{shrinks, goes_on, done}
use Rattle.template_items.specs.declared.item.Item.{Item}
use Rattle.tmpl.specs.Body.{Body, part_before, body_of}
use Rattle.tmpl.specs.declared.Part.{Part, Text, Format, Count, Choice', Repeat'}
use Rattle.token_reader.specs.declared.halt.Halt.{Halt}
use Rattle.token_reader.specs.declared.halt.Halt.TheVariants.{Expected, TooDeep, NoMemory}
use Rattle.template_tags.specs.declared.words.Bound.{Bound}
use Rattle.token_reader.specs.Gives.{Fails, Gives}
use Rattle.template_reader.specs.Template.{before, chain, single}
use Rattle.template_reader.specs.Reading.{is_part, read_part, read_body_of, read_body, read_block, read_block_at}
use Rattle.template_reader.proofs.BodyParts.{part_part, part_opens}
use Rattle.token_reader.proofs.Ends.{ends}

before_single : (p : Part) (rest : Body) → before (single p) rest ≡ part_before p rest
before_single (Text s) rest = refl
before_single (Format f) rest = refl
before_single (Count x) rest = refl
before_single (Choice' negated values test m taken n other) rest = refl
before_single (Repeat' number values order n body) rest = refl

-- the singles make the body
pub chain_is : (ps : List Part) → chain (map single ps) ≡ body_of ps
chain_is [] = refl
chain_is (p ∷ ps) = before_single p (chain (map single ps)) ∙ ap (part_before p) (chain_is ps)

pub body_is : (depth : ℕ) (scope : List Bound) (items : List Item) → read_body depth scope items ≡ read_body_of (read_part (read_block_at depth) scope) items
unfolding read_body read_body_of read_part read_block_at
body_is zero scope items = refl
body_is (suc depth) scope items = refl

pub block_past : (depth : ℕ) (scope : List Bound) (items : List Item) → depth ≡ 0 → read_block_at depth scope items ≡ Past items
unfolding read_block_at
block_past zero scope items e = refl
block_past (suc depth) scope items e = absurd (omega (arith, e))

pub block_by_room : (depth : ℕ) (scope : List Bound) (items : List Item) → (depth ≡ 0 → ⊥) → read_block_at depth scope items ≡ read_block (read_body (depth - 1)) scope items
unfolding read_block_at
block_by_room zero scope items e = absurd (e refl)
block_by_room (suc depth) scope items e = rw sub-one refl

-- the loop over the parts of a body
module _ (depth : ℕ) (scope : List Bound) where
  pub list_ends : (e : Halt Item) (front : List Body) (items : List Item) (total : Outcome Item (List Body)) → starts is_part items ≡ true → Fails e (read_part (read_block_at depth) scope items)
      → with_front front (repeat is_part (read_part (read_block_at depth) scope) items) ≡ total → Fails e total
  list_ends = ends is_part (part_part depth (suc depth) (omega arith) scope) (part_opens (suc depth) scope)

  pub list_smaller : (items : List Item) (v : Body) (rest : List Item) → starts is_part items ≡ true → read_part (read_block_at depth) scope items ≡ Read v rest → length rest < length items
  list_smaller = shrinks is_part (part_part depth (suc depth) (omega arith) scope) (part_opens (suc depth) scope)

  pub list_goes_on : (front : List Body) (items : List Item) (v : Body) (after : List Item) (total : Outcome Item (List Body)) → starts is_part items ≡ true → read_part (read_block_at depth) scope items ≡ Read v after
      → with_front front (repeat is_part (read_part (read_block_at depth) scope) items) ≡ total → with_front (front ++ v ∷ []) (repeat is_part (read_part (read_block_at depth) scope) after) ≡ total
  list_goes_on = goes_on is_part (part_part depth (suc depth) (omega arith) scope) (part_opens (suc depth) scope)

  pub list_done : (front : List Body) (items : List Item) (total : Outcome Item (List Body)) → starts is_part items ≡ false
      → with_front front (repeat is_part (read_part (read_block_at depth) scope) items) ≡ total → total ≡ Read front items
  list_done = done is_part (part_part depth (suc depth) (omega arith) scope) (part_opens (suc depth) scope)

-- a body is its parts
body_reads : (depth : ℕ) (scope : List Bound) (items : List Item) (o : Outcome Item (List Body)) → repeat is_part (read_part (read_block_at depth) scope) items ≡ o → read_body depth scope items ≡ and_then o (λ ps. give (chain ps))
unfolding read_body_of
body_reads depth scope items o e = body_is depth scope items ∙ ap (λ p. and_then p (λ ps. give (chain ps))) e

body_fails : (depth : ℕ) (scope : List Bound) (items : List Item) (e : Halt Item) → Fails e (repeat is_part (read_part (read_block_at depth) scope) items) → Fails e (read_body depth scope items)
body_fails depth scope items NoMemory h = tt
body_fails depth scope items (Expected rest) h = body_reads depth scope items (Stuck rest.now) h
body_fails depth scope items (TooDeep rest) h = body_reads depth scope items (Past rest.now) h

pub body_gives : (depth : ℕ) (scope : List Bound) (items : List Item) (r : Result (Vec Part × Bor (List Item)) (Halt Item)) → Gives (λ x. map single x.0.items) (λ x. x.1.now) r (repeat is_part (read_part (read_block_at depth) scope) items)
    → Gives (λ x. body_of x.0.items) (λ x. x.1.now) r (read_body depth scope items)
body_gives depth scope items (Ok x) h = body_reads depth scope items (Read (map single x.0.items) x.1.now) h ∙ ap (λ b. Read b x.1.now) (chain_is x.0.items)
body_gives depth scope items (Err e) h = body_fails depth scope items e h
