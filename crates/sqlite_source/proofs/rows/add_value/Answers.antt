use Rattle.std.proofs.Common.{refl, sym, []}
use Rattle.sqlite_source.proofs.rows.add_value.Goals as goal

pub returns-then-not-is_text : goal.returns-then-not-is_text
returns-then-not-is_text c = ([], [], rw (c.in-Text.is, sym c.if-not-is_text.ensures, c.in_ok-place_of_member-in-Text.ensures) refl, refl)

pub returns-in_ok-place_of_member-in-Blob : goal.returns-in_ok-place_of_member-in-Blob
returns-in_ok-place_of_member-in-Blob c = ([], [], rw (c.in-Blob.is, c.in_ok-place_of_member-in-Blob.ensures) refl, refl)
