use Rattle.std.proofs.Common.{◌≡◌, ◌∙◌, ap, true, codes, rules}
use Rattle.clap.specs.Simple.{app_of, app_of_fields, new_app, on_top}
use Rattle.command_words.proofs.Subcommands.{all_rows, next_row}
use Rattle.command_words.proofs.program.program.Goals as goal

pub loop-command-init : goal.loop-command-init
loop-command-init c =
    let a : app_of c.no_binary_name.result ≡ on_top (λ s. record s { no_binary_name = true }) (new_app (codes "strudel")) = ap app_of_fields c.no_binary_name.ensures ∙ ap (on_top (λ s. record s { no_binary_name = true })) c.new.ensures.app in
    let b = ap app_of_fields c.disable_help_flag.ensures ∙ ap (on_top (λ s. record s { disable_help_flag = true })) a in
    let d = ap app_of_fields c.disable_help_subcommand.ensures ∙ ap (on_top (λ s. record s { disable_help_subcommand = true })) b in
    let e = ap app_of_fields c.disable_version_flag.ensures ∙ ap (on_top (λ s. record s { disable_version_flag = true })) d in
    ap app_of_fields c.subcommand_required-program.ensures ∙ ap (on_top (λ s. record s { subcommand_required = true })) e

pub loop-command-preserved : goal.loop-command-preserved
loop-command-preserved c = next_row _ _ _ c.loop-command.command-index _ c.in_ok-program.ensures c.loop-command.invariant c.loop-command-test.true (search rules)

pub returns : goal.returns
returns c = all_rows _ c.loop-command.command-index _ c.loop-command.invariant c.loop-command-test.false c.all-command-items.ensures
