-- The loops over stars, dots and bars.
use Rattle.std.proofs.Common.{◌≡◌, ℕ, zero, suc, ◌+◌, ◌-◌, ◌<◌, Bool, true, false, List, length, refl}
use Rattle.std.proofs.Math.Numerals.{sub-one}
use Rattle.sd_lex.specs.declared.token.Span.{Span}
use Rattle.sd_lex.specs.declared.token.Token.{Token}
use Rattle.sd_lex.specs.declared.token.Sign.TheVariants as signs
use Rattle.grammar.specs.Reading.{Outcome, Read, Past, starts, iterate, guard}
use Rattle.grammar.proofs.Loop.{is_stuck, is_past}
use Rattle.token_reader.specs.Terminals.{is_sign}
use Rattle.token_reader.specs.declared.halt.Halt.{Halt}
use Rattle.token_reader.specs.declared.halt.Halt.TheVariants.{Expected, TooDeep, NoMemory}
use Rattle.token_reader.specs.Gives.{Fails}
use Rattle.struql_text.specs.Terminals.{sign_value}
use Rattle.struql_text.specs.Expression.{Counted, bounded, leaf_value}
use Rattle.struql_text.specs.Reading.{read_empty_close, read_within, read_star_step, read_post, read_seq, read_bar_step, read_dot_step, read_atom, read_leaf, read_paren, read_alt}
use Rattle.struql_text.proofs.Shorter.{Takes, takes_keeps, give_keeps, past_takes, one_takes, guard_takes, choose_takes, then_takes, then_keeps, iterate_keeps}

-- a loop that ends by an error
pub ends : {S : Type 0} (first : Token → Bool) (step : S → List Token → Outcome Token S) → ((state : S) (ts : List Token) (next : S) (rest : List Token) → starts first ts ≡ true → step state ts ≡ Read next rest → length rest < length ts)
    → (e : Halt Token) (state : S) (tokens : List Token) (total : Outcome Token S) → starts first tokens ≡ true → Fails e (step state tokens) → iterate first step state tokens ≡ total → Fails e total
ends first step shrinks NoMemory state tokens total is was so_far = tt
ends first step shrinks (Expected rest) state tokens total is was so_far = is_stuck first step shrinks state tokens rest.now total is was so_far
ends first step shrinks (TooDeep rest) state tokens total is was so_far = is_past first step shrinks state tokens rest.now total is was so_far

-- each part of an expression takes tokens

leaf_takes : (n : ℕ) → Takes (read_leaf n)
unfolding read_leaf
leaf_takes n = then_takes _ _ (λ l. give_keeps _) (one_takes leaf_value)

star_takes : (e : Counted) → Takes (read_star_step e)
unfolding read_star_step
star_takes e = then_takes _ _ (λ star. give_keeps _) (one_takes (sign_value signs.Star))

module _ (atom : ℕ → List Token → Outcome Token Counted) (takes : (n : ℕ) → Takes (atom n)) where
  post_takes : (n : ℕ) → Takes (read_post atom n)
  unfolding read_post
  post_takes n = then_takes _ _ (iterate_keeps (is_sign signs.Star) (λ e. guard (bounded.star e.tree) (read_star_step e)) (λ e. guard_takes (bounded.star e.tree) (read_star_step e) (star_takes e))) (takes n)

  dot_takes : (e : Counted) → Takes (read_dot_step atom e)
  unfolding read_dot_step
  dot_takes e = then_takes _ _ (λ dot. then_keeps _ _ (λ right. give_keeps _) (takes_keeps _ (post_takes (e.signs + 1)))) (one_takes (sign_value signs.Dot))

  seq_takes : (n : ℕ) → Takes (read_seq atom n)
  unfolding read_seq
  seq_takes n = then_takes _ _ (iterate_keeps (is_sign signs.Dot) (λ e. guard (bounded.sign e.signs) (read_dot_step atom e)) (λ e. guard_takes (bounded.sign e.signs) (read_dot_step atom e) (dot_takes e))) (post_takes n)

  bar_takes : (e : Counted) → Takes (read_bar_step atom e)
  unfolding read_bar_step
  bar_takes e = then_takes _ _ (λ bar. then_keeps _ _ (λ right. give_keeps _) (takes_keeps _ (seq_takes (e.signs + 1)))) (one_takes (sign_value signs.Bar))

  alt_takes : (n : ℕ) → Takes (read_alt atom n)
  unfolding read_alt
  alt_takes n = then_takes _ _ (iterate_keeps (is_sign signs.Bar) (λ e. guard (bounded.sign e.signs) (read_bar_step atom e)) (λ e. guard_takes (bounded.sign e.signs) (read_bar_step atom e) (bar_takes e))) (seq_takes n)

module _ (inner : ℕ → List Token → Outcome Token Counted) (takes : (n : ℕ) → Takes (inner n)) (n : ℕ) where
  empty_close_takes : (opening : Span) → Takes (read_empty_close opening n)
  unfolding read_empty_close
  empty_close_takes opening = then_takes _ _ (λ close. give_keeps _) (one_takes (sign_value signs.CloseParen))

  inner_close_takes : (opening : Span) → Takes (read_within inner opening n)
  unfolding read_within
  inner_close_takes opening = then_takes _ _ (λ e. takes_keeps _ (then_takes _ _ (λ close. give_keeps _) (one_takes (sign_value signs.CloseParen)))) (takes n)

  paren_takes : Takes (read_paren inner n)
  unfolding read_paren
  paren_takes = then_takes _ _ (λ opening. takes_keeps _ (choose_takes (is_sign signs.CloseParen) (read_empty_close opening n) (read_within inner opening n) (empty_close_takes opening) (inner_close_takes opening))) (one_takes (sign_value signs.OpenParen))

atom_takes : (depth n : ℕ) → Takes (read_atom depth n)
unfolding read_atom
atom_takes zero n = choose_takes (is_sign signs.OpenParen) Past (read_leaf n) past_takes (leaf_takes n)
atom_takes (suc depth) n =
    choose_takes (is_sign signs.OpenParen) (read_paren (read_alt (read_atom depth)) n) (read_leaf n) (paren_takes (read_alt (read_atom depth)) (alt_takes (read_atom depth) (atom_takes depth)) n) (leaf_takes n)

-- the loops' steps

pub star_shrinks : (state : Counted) (ts : List Token) (next : Counted) (rest : List Token) → starts (is_sign signs.Star) ts ≡ true → guard (bounded.star state.tree) (read_star_step state) ts ≡ Read next rest → length rest < length ts
star_shrinks state ts next rest is was = guard_takes (bounded.star state.tree) (read_star_step state) (star_takes state) ts next rest was

pub star_ends : (e : Halt Token) (state : Counted) (tokens : List Token) (total : Outcome Token Counted) → starts (is_sign signs.Star) tokens ≡ true → Fails e (guard (bounded.star state.tree) (read_star_step state) tokens)
    → iterate (is_sign signs.Star) (λ e. guard (bounded.star e.tree) (read_star_step e)) state tokens ≡ total → Fails e total
star_ends = ends (is_sign signs.Star) (λ e. guard (bounded.star e.tree) (read_star_step e)) star_shrinks

module _ (depth : ℕ) where
  pub dot_shrinks : (state : Counted) (ts : List Token) (next : Counted) (rest : List Token) → starts (is_sign signs.Dot) ts ≡ true → guard (bounded.sign state.signs) (read_dot_step (read_atom depth) state) ts ≡ Read next rest → length rest < length ts
  dot_shrinks state ts next rest is was = guard_takes (bounded.sign state.signs) (read_dot_step (read_atom depth) state) (dot_takes (read_atom depth) (atom_takes depth) state) ts next rest was

  pub dot_ends : (e : Halt Token) (state : Counted) (tokens : List Token) (total : Outcome Token Counted) → starts (is_sign signs.Dot) tokens ≡ true → Fails e (guard (bounded.sign state.signs) (read_dot_step (read_atom depth) state) tokens)
      → iterate (is_sign signs.Dot) (λ e. guard (bounded.sign e.signs) (read_dot_step (read_atom depth) e)) state tokens ≡ total → Fails e total
  dot_ends = ends (is_sign signs.Dot) (λ e. guard (bounded.sign e.signs) (read_dot_step (read_atom depth) e)) dot_shrinks

  pub bar_shrinks : (state : Counted) (ts : List Token) (next : Counted) (rest : List Token) → starts (is_sign signs.Bar) ts ≡ true → guard (bounded.sign state.signs) (read_bar_step (read_atom depth) state) ts ≡ Read next rest → length rest < length ts
  bar_shrinks state ts next rest is was = guard_takes (bounded.sign state.signs) (read_bar_step (read_atom depth) state) (bar_takes (read_atom depth) (atom_takes depth) state) ts next rest was

  pub bar_ends : (e : Halt Token) (state : Counted) (tokens : List Token) (total : Outcome Token Counted) → starts (is_sign signs.Bar) tokens ≡ true → Fails e (guard (bounded.sign state.signs) (read_bar_step (read_atom depth) state) tokens)
      → iterate (is_sign signs.Bar) (λ e. guard (bounded.sign e.signs) (read_bar_step (read_atom depth) e)) state tokens ≡ total → Fails e total
  bar_ends = ends (is_sign signs.Bar) (λ e. guard (bounded.sign e.signs) (read_bar_step (read_atom depth) e)) bar_shrinks

-- what reading an atom does, by its first token

pub atom_leaf : (depth n : ℕ) (ts : List Token) → starts (is_sign signs.OpenParen) ts ≡ false → read_atom depth n ts ≡ read_leaf n ts
unfolding read_atom
atom_leaf zero n ts is = rw is refl
atom_leaf (suc depth) n ts is = rw is refl

pub atom_past : (depth n : ℕ) (ts : List Token) → starts (is_sign signs.OpenParen) ts ≡ true → depth ≡ 0 → read_atom depth n ts ≡ Past ts
unfolding read_atom
atom_past zero n ts is none = rw is refl
atom_past (suc depth) n ts is none = absurd cc

pub atom_paren : (depth n : ℕ) (ts : List Token) → starts (is_sign signs.OpenParen) ts ≡ true → (depth ≡ 0 → ⊥) → read_atom depth n ts ≡ read_paren (read_alt (read_atom (depth - 1))) n ts
unfolding read_atom
atom_paren zero n ts is some = absurd (some refl)
atom_paren (suc depth) n ts is some = rw (is, sub-one) refl
