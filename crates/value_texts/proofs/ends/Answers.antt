use Rattle.std.proofs.lemmas.Bool.Decides.{Decides-eqb}
use Rattle.std.proofs.lemmas.Slice.Eq.{ends_is}
use Rattle.value_texts.proofs.ends.Goals as goal

pub returns : goal.returns
returns c =
    let d = ends_is Decides-eqb c.args.text.now c.args.part.now _ c.ends_with.ensures.value in
    ((λ t. (_, d.0 t)), λ h. d.1 h.0 h.1)
