use Rattle.std.proofs.Common.{◌≡◌, ◌∙◌, ap}
use Rattle.clap.specs.Simple.{app_of, is_simple, subcommand_of}
use Rattle.clap.specs.Walk.{texts}
use Rattle.command_words.specs.Parsed as parsed
use Rattle.command_words.proofs.Matched.{fault_found, no_fault}
use Rattle.command_words.proofs.matches_of.Goals as goal

pub returns-in-Ok : goal.returns-in-Ok
returns-in-Ok c =
    let is : app_of c.in_ok-program.field-0 ≡ parsed.program = c.in_ok-program.ensures in (
      no_fault (app_of c.in_ok-program.field-0) (texts c.args.words.now) is c.in-Ok.ensures.kinds,
      (c.in-Ok.ensures.matches (ap is_simple is)).1 ∙ ap (λ a. subcommand_of a (texts c.args.words.now)) is,
    )

pub returns : goal.returns
returns c = fault_found (app_of c.in_ok-program.field-0) (texts c.args.words.now) c.in-Err.error c.in_ok-program.ensures c.in-Err.ensures.kinds (c.is_out_of_memory.ensures c.if-is_out_of_memory.false)
