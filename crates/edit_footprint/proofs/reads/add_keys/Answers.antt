use Rattle.std.proofs.Common.{◌≡◌, ℕ, List, [], ◌∷◌, ◌++◌, ◌+◌, ◌<◌, length, get_or, take, sym, ap, ◌∙◌, append_assoc, append-nil}
use Rattle.std.specs.List.{flat_map}
use Rattle.std.proofs.lemmas.List.{take_more, map-append}
use Rattle.std.proofs.lemmas.List.Concat.{flat_map-append}
use Rattle.sd_value.specs.Names.{Name}
use Rattle.tmpl.specs.declared.SortKey.{SortKey}
use Rattle.tmpl.specs.Expressions.{key_words}
use Rattle.edit_footprint.proofs.reads.add_keys.Goals as goal

abbrev all : List SortKey → List Name
all keys = flat_map (λ (w : List Name). w) (key_words keys)

all_more : (keys : List SortKey) (i : ℕ) (k : SortKey) → i < length keys → k ≡ get_or keys i k → all (take (i + 1) keys) ≡ all (take i keys) ++ k.word
all_more keys i k l is =
    ap all (take_more keys i k l ∙ ap (λ z. take i keys ++ z ∷ []) (sym is))
    ∙ ap (flat_map (λ (w : List Name). w)) (map-append (λ (j : SortKey). j.word) (take i keys) (k ∷ []))
    ∙ flat_map-append (λ (w : List Name). w) (key_words (take i keys)) (k.word ∷ [])
    ∙ ap (λ (z : List Name). all (take i keys) ++ z) (append-nil k.word)

pub loop-key-preserved : goal.loop-key-preserved
loop-key-preserved c =
    let k = c.key-item.result in
    let i = c.loop-key.key-index in
    let keys = c.args.keys.now in
    c.in_ok-add_labels.ensures
    ∙ ap (λ (l : List Name). l ++ c.labels.result.now) c.loop-key.invariant
    ∙ append_assoc c.args.out.now.items (all (take i keys)) c.labels.result.now
    ∙ ap (λ (l : List Name). c.args.out.now.items ++ (all (take i keys) ++ l)) c.labels.ensures
    ∙ ap (λ (l : List Name). c.args.out.now.items ++ l) (sym (all_more keys i k c.loop-key-test.true c.key-item.is))
