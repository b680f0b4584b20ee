use Rattle.std.proofs.Common.{length, sym, ap, ◌∙◌, nat_eq}
use Rattle.std.proofs.lemmas.Bool.{eqb-true}
use Rattle.std.proofs.lemmas.List.{nil_from_length}
use Rattle.sd_graph.proofs.Bare.{is_bare}
use Rattle.sd_graph.proofs.builder.GraphBuilder.is_empty.Goals as goal

pub returns : goal.returns
returns c =
    rw (sym c.self.view_is) (
      (λ yes. is_bare _ c.self.invariant.0.well_formed
          (nil_from_length c.self.inside.nodes (sym c.len.ensures.len ∙ eqb-true c.len.result 0 yes))),
      (λ empty. ap (λ n. nat_eq n 0) (c.len.ensures.len ∙ ap length empty.0)),
    )
