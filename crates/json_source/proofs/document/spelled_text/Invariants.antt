use Rattle.std.proofs.Common.{◌≡◌, ◌++◌, [], length, map}
use Rattle.std.specs.List.{list_any}
use Rattle.json.specs.Lex.{tokens}
use Rattle.json_source.specs.Document.{is_bad, spelled_token}
use Rattle.json_source.proofs.document.spelled_text.Given as goal

abbrev pub invariant-tokens : goal.invariant-tokens
invariant-tokens l =
    (list_any is_bad (tokens l.text) ≡ list_any is_bad l.reader)
    × (l.writer.before ≡ [])
    × (map spelled_token (tokens l.text) ≡ l.writer.tokens ++ map spelled_token l.reader)

abbrev pub decreases-tokens : goal.decreases-tokens
decreases-tokens l = length l.reader
