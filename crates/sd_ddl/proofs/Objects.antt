-- The text of a graph, one object after another.
use Rattle.std.specs.Prelude.{◌≡◌, ℕ, ◌<◌, ◌+◌, List, [], ◌∷◌, ◌++◌, length, map, take, filter}
use Rattle.std.specs.Borrow.{Bor}
use Rattle.std.specs.List.{flat_map}
use Rattle.std.proofs.Common.{sym, ap, ◌∙◌, get_or, append_assoc}
use Rattle.std.proofs.lemmas.List.{append-nil}
use Rattle.std.proofs.lemmas.Grind.{flat_map-append, take_at_read}
use Rattle.graph_spec.specs.DataGraph.{DataGraph}
use Rattle.graph_spec.specs.declared.Edge.{Edge}
use Rattle.graph_spec.specs.declared.Member.{Member}
use Rattle.sd_ddl.specs.Kinds.{Name}
use Rattle.sd_ddl.specs.Groups.{start_is, node_is, collection_in, IsByNode}
use Rattle.sd_ddl.specs.Written.{object_text, node_text, step_of}
use Rattle.sd_ddl.proofs.StartLaws.{steps_of_own}

-- a node's own members and edges are what its object has
pub own_object : (G : DataGraph) (sorted : List (Bor Member)) (n : Name) (ms : List (Bor Member)) (es : List Edge) → IsByNode G.members sorted
    → ms ≡ filter (node_is n) sorted → es ≡ filter (start_is n) G.edges → object_text n (map collection_in ms) (map step_of es) ≡ node_text G n
own_object G sorted n ms es grouped m e = λ j. object_text n ((ap (map collection_in) m ∙ grouped.members_of n) j) ((ap (map step_of) e ∙ steps_of_own n G.edges) j)

pub one_more_written : {X : Type 0} (f : X → List ℕ) (xs : List X) (i : ℕ) (x : X) (start before after text : List ℕ) → i < length xs → x ≡ get_or xs i x
    → before ≡ start ++ flat_map f (take i xs) → after ≡ before ++ text → text ≡ f x → after ≡ start ++ flat_map f (take (i + 1) xs)
one_more_written f xs i x start before after text lt at was is own =
    is ∙ (λ j. was j ++ own j) ∙ append_assoc start (flat_map f (take i xs)) (f x)
    ∙ ap (λ ys. start ++ ys) (ap (λ ys. flat_map f (take i xs) ++ ys) (sym (append-nil (f x))) ∙ sym (flat_map-append f (take i xs) (x ∷ []))
    ∙ ap (flat_map f) (ap (λ y. take i xs ++ y ∷ []) at ∙ sym (take_at_read xs i x lt).1))
