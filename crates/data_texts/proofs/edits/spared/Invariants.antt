use Rattle.std.proofs.Common.{◌≡◌, take, map}
use Rattle.std.specs.Prelude.{not}
use Rattle.sd_value.specs.declared.Term.{Term}
use Rattle.tmpl.specs.Reading.{file_of}
use Rattle.query_blocks.specs.Blocks.{scope_of}
use Rattle.data_texts.specs.Touching.{Touching}
use Rattle.data_texts.proofs.edits.spared.Given as goal

abbrev pub invariant-loop-term : goal.invariant-loop-term
invariant-loop-term l = (touching : Touching) → l.flags.items
    ≡ map (λ (t : Term). not (touching.touches l.edit (scope_of l.scopes) (file_of l.templates) t.function))
    (take l.term-index l.terms)
