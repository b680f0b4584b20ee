-- The texts of blocks one after another.
use Rattle.std.proofs.Common.{◌≡◌, ℕ, List, [], ◌∷◌, ◌++◌, refl, sym, ap, ◌∙◌, append_assoc}
use Rattle.std.specs.Prelude.{map}
use Rattle.std.specs.List.{flat_map}
use Rattle.std.proofs.lemmas.List.{append-nil}
use Rattle.struql_ast.specs.declared.Block.{Block}
use Rattle.struql_ast.specs.declared.Block.TheViews.{out-Block}
use Rattle.struql_ast.specs.Reading.{condition_of, term_of, link_of, collect_of, block_onto, blocks_of}
use Rattle.query_spec.specs.Query.{Blocks}
use Rattle.struql_print.specs.Texts.{condition_text, term_text, link_text, collect_text, block_texts}
use Rattle.struql_print.specs.Block.{block_text}
use Rattle.struql_print.proofs.Forget.{onto_fields}

pub map_twice : {A B C : Type 0} (f : B → C) (g : A → B) (xs : List A) → map f (map g xs) ≡ map (λ x. f (g x)) xs
map_twice f g [] = refl
map_twice f g (x ∷ xs) = rw (map_twice f g xs) refl

-- the first block's text, and those of the others
pub first_text : (version : ℕ) (b : Block) (after : Blocks) → block_texts version (block_onto b after) ≡ block_text version b ∷ block_texts version after
first_text version b after =
    rw (
      onto_fields b after,
      map_twice (condition_text version) condition_of (out-Block b).conditions.items,
      map_twice term_text term_of (out-Block b).creates.items,
      map_twice link_text link_of (out-Block b).links.items,
      map_twice (collect_text version) collect_of (out-Block b).collects.items,
    ) refl

pub texts_push : (version : ℕ) (bs : List Block) (b : Block) → block_texts version (blocks_of (bs ++ b ∷ [])) ≡ block_texts version (blocks_of bs) ++ block_text version b ∷ []
texts_push version [] b = first_text version b (blocks_of [])
texts_push version (c ∷ bs) b = first_text version c (blocks_of (bs ++ b ∷ [])) ∙ ap (λ texts. block_text version c ∷ texts) (texts_push version bs b) ∙ ap (λ texts. texts ++ block_text version b ∷ []) (sym (first_text version c (blocks_of bs)))

pub flat_push : {A : Type 0} (f : A → List ℕ) (xs : List A) (x : A) → flat_map f (xs ++ x ∷ []) ≡ flat_map f xs ++ f x
flat_push f [] x = append-nil (f x)
flat_push f (y ∷ ys) x = ap (λ t. f y ++ t) (flat_push f ys x) ∙ sym (append_assoc (f y) (flat_map f ys) (f x))

pub appended : (old done front back : List ℕ) → ((old ++ done) ++ front) ++ back ≡ old ++ (done ++ (front ++ back))
appended old done front back = append_assoc (old ++ done) front back ∙ append_assoc old done (front ++ back)
