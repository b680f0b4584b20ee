use Rattle.std.proofs.Common.{refl}
use Rattle.command_spec.proofs.rows.CommandName.row.Goals as goal

pub returns-in-Page : goal.returns-in-Page
returns-in-Page c = rw c.in-Page.is refl

pub returns-in-Explain : goal.returns-in-Explain
returns-in-Explain c = rw c.in-Explain.is refl

pub returns-in-Lint : goal.returns-in-Lint
returns-in-Lint c = rw c.in-Lint.is refl

pub returns-in-Serve : goal.returns-in-Serve
returns-in-Serve c = rw c.in-Serve.is refl

pub returns-in-Replay : goal.returns-in-Replay
returns-in-Replay c = rw c.in-Replay.is refl
