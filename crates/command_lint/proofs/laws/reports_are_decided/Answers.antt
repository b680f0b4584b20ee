use Rattle.command_lint.proofs.Law.{lint_decides}
use Rattle.command_lint.proofs.laws.reports_are_decided.Goals as goal

pub returns : goal.returns
returns c = lint_decides
