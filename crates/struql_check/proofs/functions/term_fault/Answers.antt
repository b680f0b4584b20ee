use Rattle.std.proofs.Common.{◌≡◌, ℕ, ap, ◌∙◌}
use Rattle.std.specs.Prelude.{Bool, not, ◌||◌, ◌&&◌, Option}
use Rattle.struql_check.specs.Faults.{is_created, first_arity, is_index, is_reserved}
use Rattle.struql_check.specs.Known.{differs}
use Rattle.struql_check.proofs.Tables.{term_first}
use Rattle.struql_check.proofs.functions.term_fault.Goals as goal

pub returns : goal.returns
returns c = λ all created arities.
    let t = c.args.term.now in
    let uncreated : c.is_uncreated-uncreated.result ≡ (t.linked && not (is_created all t.function)) = c.is_uncreated-uncreated.ensures ∙ ap (λ (b : Bool). t.linked && not b) (created t.function) in
    let first : c.copied-first.result ≡ first_arity all t.function = c.copied-first.ensures ∙ (c.get.ensures.value ∙ arities t.function) in
    let differing : c.differs-differing.result ≡ differs (first_arity all t.function) t.arity = c.differs-differing.ensures ∙ ap (λ (o : Option ℕ). differs o t.arity) first in
    let reserved : c.is_taken-reserved.result ≡ (is_index t.function || is_reserved c.args.version t.function) = c.is_taken-reserved.ensures in
    rw (c.fault_at.ensures, c.broken_term-check.ensures, uncreated, differing, reserved) (term_first c.args.version all t)
