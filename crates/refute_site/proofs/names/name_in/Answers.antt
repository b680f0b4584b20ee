use Rattle.std.proofs.Common.{◌≡◌, ◌++◌, sym, ◌∙◌}
use Rattle.std.specs.Prelude.{true, false, codes}
use Rattle.std.proofs.lemmas.Result.{IfOk-weaker}
use Rattle.counterexample_spec.specs.Values.{name_in}
use Rattle.refute_site.specs.Patterns.{copy_of}
use Rattle.refute_site.proofs.CopyNames.{name_by}
use Rattle.refute_site.proofs.names.name_in.Goals as goal

pub returns-then-is_among : goal.returns-then-is_among
returns-then-is_among c =
    IfOk-weaker c.copy-then-is_among.result (λ s. s ≡ c.args.name.now) (λ s. s ≡ name_in (copy_of c.args.copy) c.args.name.now)
    (λ s e. e ∙ sym (name_by c.args.copy c.in-Second.shared c.args.name.now c.is_among.result true c.in-Second.is c.is_among.ensures c.if-is_among.true))
    c.copy-then-is_among.ensures

pub returns-else-is_among : goal.returns-else-is_among
returns-else-is_among c =
    IfOk-weaker c.with_ending.result (λ s. s ≡ c.args.name.now ++ codes "_2") (λ s. s ≡ name_in (copy_of c.args.copy) c.args.name.now)
    (λ s e. e ∙ sym (name_by c.args.copy c.in-Second.shared c.args.name.now c.is_among.result false c.in-Second.is c.is_among.ensures c.if-is_among.false))
    c.with_ending.ensures
