-- The loop over the blocks in a block.
use Rattle.std.proofs.Common.{◌≡◌, ℕ, zero, suc, ◌-◌, ◌<◌, Bool, true, false, List, [], ◌∷◌, ◌++◌, length, refl, ap, ◌∙◌}
use Rattle.std.proofs.Math.Numerals.{sub-one}
use Rattle.sd_lex.specs.declared.token.Span.{Span}
use Rattle.sd_lex.specs.declared.token.Token.{Token}
use Rattle.sd_lex.specs.declared.token.Sign.TheVariants as signs
use Rattle.struql_ast.specs.declared.Block.{Block, Block'}
use Rattle.struql_ast.specs.Written.{Blocks, no_blocks, block_written, blocks_written}
use Rattle.grammar.specs.Reading.{Outcome, Read, Stuck, Past, and_then, starts, guard}
use Rattle.grammar.proofs.Loop.{goes_on, is_done}
use Rattle.token_reader.specs.declared.halt.Halt.{Halt}
use Rattle.token_reader.specs.declared.halt.Halt.TheVariants.{Expected, TooDeep, NoMemory}
use Rattle.token_reader.specs.Terminals.{is_sign}
use Rattle.struql_parse.specs.Blocks.{Body, Placed, onto_end}
use Rattle.struql_text.specs.Reading.{read_sign}
use Rattle.struql_parse.specs.Reading.{read_braces, read_block, read_blocks, read_below, read_body, read_body_of, has_room}
use Rattle.token_reader.specs.Gives.{Fails}
use Rattle.struql_parse.specs.Found.{placed_found}
use Rattle.struql_text.proofs.Loops.{ends}
use Rattle.struql_parse.proofs.BlockParts.{braces_shrinks}

block_onto_end : (b c : Block) (bs : Blocks) → block_written b (onto_end bs (placed_found c).body (placed_found c).span) ≡ onto_end (block_written b bs) (placed_found c).body (placed_found c).span
block_onto_end (Block' conditions creates links collects shape inner span) c bs = refl

first_block : (c : Block) → block_written c no_blocks ≡ onto_end no_blocks (placed_found c).body (placed_found c).span
first_block (Block' conditions creates links collects shape inner span) = refl

-- one more block behind a list of blocks
pub blocks_written-snoc : (bs : List Block) (c : Block) → blocks_written (bs ++ c ∷ []) ≡ onto_end (blocks_written bs) (placed_found c).body (placed_found c).span
blocks_written-snoc [] c = first_block c
blocks_written-snoc (b ∷ bs) c = ap (block_written b) (blocks_written-snoc bs c) ∙ block_onto_end b c (blocks_written bs)

module _ (version depth : ℕ) where
  step_is : (room : Bool) (s : Blocks) (ts : List Token) → guard room (read_braces (read_below version depth) s) ts ≡ and_then {A = Placed} (guard room (read_block (read_below version depth)) ts) (λ p rest. Read (onto_end s p.body p.span) rest)
  unfolding read_braces read_block
  step_is false s ts = refl
  step_is true s ts = behind (read_sign signs.OpenBrace ts)
    where
      closes : (opening : Span) (b : Body) (o : Outcome Token Span) → and_then o (λ close rest. Read (onto_end s b (record { start = opening.start; «end» = close.«end» })) rest) ≡ and_then {A = Placed} (and_then o (λ close rest. Read (record { body = b; span = record { start = opening.start; «end» = close.«end» } }) rest)) (λ p rest. Read (onto_end s p.body p.span) rest)
      closes opening b (Read place rest) = refl
      closes opening b (Stuck rest) = refl
      closes opening b (Past rest) = refl

      inner : (opening : Span) (o : Outcome Token Body) → and_then o (λ b r. and_then (read_sign signs.CloseBrace r) (λ close rest. Read (onto_end s b (record { start = opening.start; «end» = close.«end» })) rest)) ≡ and_then {A = Placed} (and_then o (λ b r. and_then (read_sign signs.CloseBrace r) (λ close rest. Read (record { body = b; span = record { start = opening.start; «end» = close.«end» } }) rest))) (λ p rest. Read (onto_end s p.body p.span) rest)
      inner opening (Read b rest) = closes opening b (read_sign signs.CloseBrace rest)
      inner opening (Stuck rest) = refl
      inner opening (Past rest) = refl

      behind : (o : Outcome Token Span) → and_then o (λ opening r. and_then (read_below version depth r) (λ b r. and_then (read_sign signs.CloseBrace r) (λ close rest. Read (onto_end s b (record { start = opening.start; «end» = close.«end» })) rest)))
          ≡ and_then {A = Placed} (and_then o (λ opening r. and_then (read_below version depth r) (λ b r. and_then (read_sign signs.CloseBrace r) (λ close rest. Read (record { body = b; span = record { start = opening.start; «end» = close.«end» } }) rest)))) (λ p rest. Read (onto_end s p.body p.span) rest)
      behind (Read opening rest) = inner opening (read_below version depth rest)
      behind (Stuck rest) = refl
      behind (Past rest) = refl

  abbrev pub step : Blocks → List Token → Outcome Token Blocks
  step s = guard (has_room depth) (read_braces (read_below version depth) s)

  pub block_step : (s : Blocks) (ts : List Token) (p : Placed) (rest : List Token) → guard (has_room depth) (read_block (read_below version depth)) ts ≡ Read p rest → step s ts ≡ Read (onto_end s p.body p.span) rest
  block_step s ts p rest was = step_is (has_room depth) s ts ∙ ap (λ (o : Outcome Token Placed). and_then o (λ p rest. Read (onto_end s p.body p.span) rest)) was

  step_fails : (e : Halt Token) (s : Blocks) (ts : List Token) → Fails e (guard (has_room depth) (read_block (read_below version depth)) ts) → Fails e (step s ts)
  step_fails NoMemory s ts was = tt
  step_fails (Expected rest) s ts was = step_is (has_room depth) s ts ∙ ap (λ (o : Outcome Token Placed). and_then o (λ p rest. Read (onto_end s p.body p.span) rest)) was
  step_fails (TooDeep rest) s ts was = step_is (has_room depth) s ts ∙ ap (λ (o : Outcome Token Placed). and_then o (λ p rest. Read (onto_end s p.body p.span) rest)) was

  pub blocks_end : (e : Halt Token) (s : Blocks) (ts : List Token) (total : Outcome Token Blocks) → starts (is_sign signs.OpenBrace) ts ≡ true → Fails e (guard (has_room depth) (read_block (read_below version depth)) ts)
      → read_blocks (has_room depth) (read_below version depth) s ts ≡ total → Fails e total
  blocks_end e s ts total is was so_far = ends (is_sign signs.OpenBrace) step (braces_shrinks version depth) e s ts total is (step_fails e s ts was) so_far

  pub blocks_go_on : (s : Blocks) (ts : List Token) (p : Placed) (after : List Token) (total : Outcome Token Blocks) → starts (is_sign signs.OpenBrace) ts ≡ true → guard (has_room depth) (read_block (read_below version depth)) ts ≡ Read p after
      → read_blocks (has_room depth) (read_below version depth) s ts ≡ total → read_blocks (has_room depth) (read_below version depth) (onto_end s p.body p.span) after ≡ total
  blocks_go_on s ts p after total is was so_far = goes_on (is_sign signs.OpenBrace) step (braces_shrinks version depth) s ts (onto_end s p.body p.span) after total is (block_step s ts p after was) so_far

  pub blocks_smaller : (ts : List Token) (p : Placed) (after : List Token) → starts (is_sign signs.OpenBrace) ts ≡ true → guard (has_room depth) (read_block (read_below version depth)) ts ≡ Read p after → length after < length ts
  blocks_smaller ts p after is was = braces_shrinks version depth no_blocks ts (onto_end no_blocks p.body p.span) after is (block_step no_blocks ts p after was)

  pub blocks_done : (s : Blocks) (ts : List Token) (total : Outcome Token Blocks) → starts (is_sign signs.OpenBrace) ts ≡ false → read_blocks (has_room depth) (read_below version depth) s ts ≡ total → total ≡ Read s ts
  blocks_done s ts total is so_far = is_done (is_sign signs.OpenBrace) step (braces_shrinks version depth) s ts total is so_far

-- reading by what is left to open

pub body_by_room : (version depth : ℕ) → read_body version depth ≡ read_body_of version (has_room depth) (read_below version depth)
unfolding read_body read_below
body_by_room version zero = refl
body_by_room version (suc depth) = refl

pub block_by_room : (version depth : ℕ) (ts : List Token) → (depth ≡ 0 → ⊥) → guard (has_room depth) (read_block (read_below version depth)) ts ≡ read_block (read_body_of version (has_room (depth - 1)) (read_below version (depth - 1))) ts
unfolding read_below
block_by_room version zero ts some = absurd (some refl)
block_by_room version (suc depth) ts some = rw (sub-one, body_by_room version depth) refl

pub block_past : (version depth : ℕ) (ts : List Token) → depth ≡ 0 → guard (has_room depth) (read_block (read_below version depth)) ts ≡ Past ts
block_past version zero ts none = refl
block_past version (suc depth) ts none = absurd cc
