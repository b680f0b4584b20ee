use Rattle.std.proofs.Common.{◌∷◌, ◌++◌, [], Err}
use Rattle.std.proofs.lemmas.Result.{err_from_is_err_and}
use Rattle.sd_graph.specs.Statement.{a_node, a_member}
use Rattle.sd_graph.specs.Stating.{says}
use Rattle.sd_graph.specs.StatingLaws.{Ends-after, Ends-before}
use Rattle.bibtex_source.specs.Source.{seen, all_fields}
use Rattle.bibtex_source.specs.Text.{bytes_steps, shown_steps, bib_ending}
use Rattle.bibtex_source.proofs.Steps.{cuts}
use Rattle.bibtex_source.proofs.statements.add_entry.Goals as goal

pub returns-in_err-state_node : goal.returns-in_err-state_node
returns-in_err-state_node c =
    let e = c.args.entry.now in
    let p = err_from_is_err_and c.from_residual.result c.from_residual.ensures.1 in
    rw (p.1, p.2)
    (Ends-before c.args.graph.now c.state_node.new.graph (says c.args.at (a_node e.key) ∷ [])
    (says c.args.at (a_member c.args.stem.now e.key) ∷ says c.args.at (a_member e.class e.key) ∷ (bytes_steps (seen c.args.reading.now) c.args.at e.key ++ shown_steps (seen c.args.reading.now) c.args.at e.key (all_fields (seen c.args.reading.now) e.fields)))
    (bib_ending (Err c.in_err-state_node.field-0.0)) (cuts c.in_err-state_node.field-0.0) c.in_err-state_node.ensures)

pub returns-in_err-state_member : goal.returns-in_err-state_member
returns-in_err-state_member c =
    let e = c.args.entry.now in
    let p = err_from_is_err_and c.from_residual-in_err-state_member.result c.from_residual-in_err-state_member.ensures.1 in
    rw (p.1, p.2)
    (Ends-after c.args.graph.now c.state_node.new.graph c.state_member.new.graph (says c.args.at (a_node e.key) ∷ [])
    (says c.args.at (a_member c.args.stem.now e.key) ∷ says c.args.at (a_member e.class e.key) ∷ (bytes_steps (seen c.args.reading.now) c.args.at e.key ++ shown_steps (seen c.args.reading.now) c.args.at e.key (all_fields (seen c.args.reading.now) e.fields)))
    (bib_ending (Err c.in_err-state_member.field-0.0)) c.in_ok-state_node.ensures
    (Ends-before c.state_node.new.graph c.state_member.new.graph (says c.args.at (a_member c.args.stem.now e.key) ∷ [])
    (says c.args.at (a_member e.class e.key) ∷ (bytes_steps (seen c.args.reading.now) c.args.at e.key ++ shown_steps (seen c.args.reading.now) c.args.at e.key (all_fields (seen c.args.reading.now) e.fields)))
    (bib_ending (Err c.in_err-state_member.field-0.0)) (cuts c.in_err-state_member.field-0.0) c.in_err-state_member.ensures))

pub returns-in_err-state_member-2 : goal.returns-in_err-state_member-2
returns-in_err-state_member-2 c =
    let e = c.args.entry.now in
    let p = err_from_is_err_and c.from_residual-in_err-state_member-2.result c.from_residual-in_err-state_member-2.ensures.1 in
    rw (p.1, p.2)
    (Ends-after c.args.graph.now c.state_node.new.graph c.state_member-2.new.graph (says c.args.at (a_node e.key) ∷ [])
    (says c.args.at (a_member c.args.stem.now e.key) ∷ says c.args.at (a_member e.class e.key) ∷ (bytes_steps (seen c.args.reading.now) c.args.at e.key ++ shown_steps (seen c.args.reading.now) c.args.at e.key (all_fields (seen c.args.reading.now) e.fields)))
    (bib_ending (Err c.in_err-state_member-2.field-0.0)) c.in_ok-state_node.ensures
    (Ends-after c.state_node.new.graph c.state_member.new.graph c.state_member-2.new.graph (says c.args.at (a_member c.args.stem.now e.key) ∷ [])
    (says c.args.at (a_member e.class e.key) ∷ (bytes_steps (seen c.args.reading.now) c.args.at e.key ++ shown_steps (seen c.args.reading.now) c.args.at e.key (all_fields (seen c.args.reading.now) e.fields)))
    (bib_ending (Err c.in_err-state_member-2.field-0.0)) c.in_ok-state_member.ensures
    (Ends-before c.state_member.new.graph c.state_member-2.new.graph (says c.args.at (a_member e.class e.key) ∷ [])
    (bytes_steps (seen c.args.reading.now) c.args.at e.key ++ shown_steps (seen c.args.reading.now) c.args.at e.key (all_fields (seen c.args.reading.now) e.fields))
    (bib_ending (Err c.in_err-state_member-2.field-0.0)) (cuts c.in_err-state_member-2.field-0.0) c.in_err-state_member-2.ensures)))

pub returns : goal.returns
returns c =
    let e = c.args.entry.now in
    Ends-after c.args.graph.now c.state_node.new.graph c.add_texts_of_entry.new.graph (says c.args.at (a_node e.key) ∷ [])
    (says c.args.at (a_member c.args.stem.now e.key) ∷ says c.args.at (a_member e.class e.key) ∷ (bytes_steps (seen c.args.reading.now) c.args.at e.key ++ shown_steps (seen c.args.reading.now) c.args.at e.key (all_fields (seen c.args.reading.now) e.fields)))
    (bib_ending c.add_texts_of_entry.result) c.in_ok-state_node.ensures
    (Ends-after c.state_node.new.graph c.state_member.new.graph c.add_texts_of_entry.new.graph (says c.args.at (a_member c.args.stem.now e.key) ∷ [])
    (says c.args.at (a_member e.class e.key) ∷ (bytes_steps (seen c.args.reading.now) c.args.at e.key ++ shown_steps (seen c.args.reading.now) c.args.at e.key (all_fields (seen c.args.reading.now) e.fields)))
    (bib_ending c.add_texts_of_entry.result) c.in_ok-state_member.ensures
    (Ends-after c.state_member.new.graph c.state_member-2.new.graph c.add_texts_of_entry.new.graph (says c.args.at (a_member e.class e.key) ∷ [])
    (bytes_steps (seen c.args.reading.now) c.args.at e.key ++ shown_steps (seen c.args.reading.now) c.args.at e.key (all_fields (seen c.args.reading.now) e.fields))
    (bib_ending c.add_texts_of_entry.result) c.in_ok-state_member-2.ensures (rw c.items.ensures at c.add_texts_of_entry.ensures)))
