use Rattle.std.proofs.Common.{◌++◌, ◌∙◌, ℕ, ap, get_or}
use Rattle.mem_wire.specs.WireInMemory.{accounts_of, entry_of}
use Rattle.serve_run.specs.Texts.{bytes_taken, connection_text}
use Rattle.serve_run.proofs.ServingLemmas.{more_texts, taken_is}
use Rattle.serve_run.proofs.texts.replay_text.Goals as goal

pub loop-number-preserved : goal.loop-number-preserved
loop-number-preserved c =
    let number : ℕ = get_or c.args.opened.now c.loop-number.number-index 0 in
    more_texts (λ number. connection_text number (bytes_taken (accounts_of c.args.wire.now number))) c.args.opened.now c.loop-number.number-index
    c.loop-number.text.items c.push_connection.new.text.items c.loop-number-test.true c.loop-number.invariant
    (c.in_ok-push_connection.ensures ∙ ap (λ b. c.loop-number.text.items ++ connection_text number b) (c.taken.ensures ∙ taken_is (entry_of c.args.wire.now number)))
