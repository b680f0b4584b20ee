use Rattle.std.proofs.Common.{sym, ap, ◌∙◌}
use Rattle.std.specs.Prelude.{codes, ◌||◌}
use Rattle.std.specs.Str.{bytes_eq}
use Rattle.address.proofs.named.asks_root.Goals as goal

pub returns-else-eq : goal.returns-else-eq
returns-else-eq c =
    let p = c.args.path.now in
    let first = sym c.if-eq.false ∙ c.eq.ensures ∙ ap (bytes_eq p) c.as_slice.ensures in
    let second = c.eq-else-eq.ensures ∙ ap (bytes_eq p) c.as_slice-else-eq.ensures in
    second ∙ ap (λ t. t || bytes_eq p (codes "/index.html")) first
