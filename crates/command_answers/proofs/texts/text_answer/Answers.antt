use Rattle.command_spec.specs.Inputs.{inputs_of_text}
use Rattle.command_spec.specs.declared.TextCommand.TheVariants.{Page, Data, Explain, Schema, Trial, Help, Version}
use Rattle.command_trial.specs.Ends.{TrialEnds}
use Rattle.command_help.specs.Texts.{usage_of, version_text}
use Rattle.site_inputs.proofs.ReadLemmas.{reads_none, reads_of, reads_no_more, end_is_read}
use Rattle.command_answers.specs.Texts.{TextAnswers}
use Rattle.command_answers.proofs.texts.text_answer.Goals as goal

pub returns-in-Page-clause-traced : goal.returns-in-Page-clause-traced
returns-in-Page-clause-traced g c =
    reads_of inputs_of_text TextAnswers c.args.command.now (Page c.in-Page.command) _ _ _ c.page.result c.in-Page.is c.page.ensures.traced

pub returns-in-Data-clause-traced : goal.returns-in-Data-clause-traced
returns-in-Data-clause-traced g c =
    reads_of inputs_of_text TextAnswers c.args.command.now (Data c.in-Data.command) _ _ _ c.data.result c.in-Data.is c.data.ensures.traced

pub returns-in-Explain-clause-traced : goal.returns-in-Explain-clause-traced
returns-in-Explain-clause-traced g c =
    reads_of inputs_of_text TextAnswers c.args.command.now (Explain c.in-Explain.command) _ _ _ c.explain.result c.in-Explain.is c.explain.ensures.traced

pub returns-in-Schema-clause-traced : goal.returns-in-Schema-clause-traced
returns-in-Schema-clause-traced g c =
    reads_of inputs_of_text TextAnswers c.args.command.now (Schema c.in-Schema.command) _ _ _ c.schema_text.result c.in-Schema.is c.schema_text.ensures.traced

pub returns-in-Trial-clause-traced : goal.returns-in-Trial-clause-traced
returns-in-Trial-clause-traced g c =
    reads_of inputs_of_text TextAnswers c.args.command.now (Trial c.in-Trial.command) _ _ _ c.trial.result c.in-Trial.is
    (reads_none _ _ c.trial.result _ (reads_no_more (TrialEnds c.in-Trial.command) (λ path taken. taken) c.trial.result c.trial.ensures) (λ map. c.trial.ensures))

pub returns-in-Help-clause-traced : goal.returns-in-Help-clause-traced
returns-in-Help-clause-traced g c =
    reads_of inputs_of_text TextAnswers c.args.command.now (Help c.in-Help.command) _ _ _ c.help.result c.in-Help.is
    (reads_none _ _ c.help.result _ (end_is_read (usage_of c.in-Help.command.name) c.help.result c.help.ensures) (λ map. c.help.ensures))

pub returns-in-Version-clause-traced : goal.returns-in-Version-clause-traced
returns-in-Version-clause-traced g c =
    reads_of inputs_of_text TextAnswers c.args.command.now Version _ _ _ c.version.result c.in-Version.is
    (reads_none _ _ c.version.result _ (end_is_read version_text c.version.result c.version.ensures) (λ map. c.version.ensures))
