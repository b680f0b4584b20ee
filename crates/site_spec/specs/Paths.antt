-- The paths of blocks: blocks are counted from 1 at each level, as in `2.1`.
use Rattle.std.specs.Prelude.{ℕ, ◌+◌, List, [], ◌∷◌, ◌++◌, codes}
use Rattle.std.specs.Fmt.{decimal}
use Rattle.query_spec.specs.Query.{Blocks, no_blocks, block}

-- the paths of these blocks and of those in them, in the text's order, where the first has this number behind the front
abbrev pub paths_from : List ℕ → ℕ → Blocks → List (List ℕ)
paths_from front number no_blocks = []
paths_from front number (block body inner after) =
    let path = front ++ decimal number in
    path ∷ (paths_from (path ++ codes ".") 1 inner ++ paths_from front (number + 1) after)
