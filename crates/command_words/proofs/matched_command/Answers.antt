use Rattle.std.proofs.Common.{◌≡◌, ◌∙◌, List, ℕ, [], None, Some, option_map, sym, ap, subst, IfOk, codes}
use Rattle.std.specs.Prelude.{unwrap_or}
use Rattle.std.specs.Borrow.{Bor}
use Rattle.clap.specs.Words.{all_of, found_of, rows_of}
use Rattle.clap.specs.Walk.{texts}
use Rattle.command_spec.specs.Words.{command_of}
use Rattle.command_words.specs.Parsed.{found}
use Rattle.command_words.proofs.Matched.{words_found}
use Rattle.command_words.proofs.matched_command.Goals as goal

pub returns-in-Some-clause-exact : goal.returns-in-Some-clause-exact
returns-in-Some-clause-exact c =
    let all : Some (texts c.in-Some.words.now) ≡ all_of (codes "words") (rows_of (found_of c.args.matches.now)) =
    ap (option_map (λ (s : Bor (List (Bor (List ℕ)))). texts s.now)) (sym c.in-Some.is) ∙ words_found (found_of c.args.matches.now) (codes "words") c.get_strs.result c.get_strs.ensures in
    subst (λ x. IfOk c.command_of.result (λ given. given ≡ x)) (ap (λ o. command_of c.args.name c.args.flags (found (rows_of (found_of c.args.matches.now))) (unwrap_or o [])) all) c.command_of.ensures.exact

pub returns-in-None-clause-exact : goal.returns-in-None-clause-exact
returns-in-None-clause-exact c =
    let all : None ≡ all_of (codes "words") (rows_of (found_of c.args.matches.now)) =
    ap (option_map (λ (s : Bor (List (Bor (List ℕ)))). texts s.now)) (sym c.in-None.is) ∙ words_found (found_of c.args.matches.now) (codes "words") c.get_strs.result c.get_strs.ensures in
    subst (λ x. IfOk c.command_of-in-None.result (λ given. given ≡ x)) (ap (λ o. command_of c.args.name c.args.flags (found (rows_of (found_of c.args.matches.now))) (unwrap_or o [])) all) c.command_of-in-None.ensures.exact
