use Rattle.std.proofs.Common.{◌≡◌, Bool, true, false}
use Rattle.skolem.proofs.Declared.{no_value}
use Rattle.skolem.proofs.bound.with_value.Goals as goal

not_both : (b : Bool) → b ≡ true → b ≡ false → ⊥
not_both b e f = cc

pub returns-then-not-is_declared : goal.returns-then-not-is_declared
returns-then-not-is_declared c = record { never = λ row l a h. no_value c.args.variables.now row c.args.name.now c.args.value (λ k. not_both c.is_declared.result (c.is_declared.ensures.1 k) c.if-not-is_declared.true) h }
