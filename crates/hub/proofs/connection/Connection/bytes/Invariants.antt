use Rattle.std.proofs.Common.{length, ◌-◌, ◌≡◌, ◌≤◌, ◌≢◌, ℕ, List, [], take}
use Rattle.hub.specs.Pieces.{StaysOpen}
use Rattle.serving_spec.specs.Shown.{shown_in}
use Rattle.sd_value.specs.declared.Term.{Term}
use Rattle.page_spec.specs.Address.{TermOf}
use Rattle.wire.specs.Accounts.{gain, up_by}
use Rattle.wire.specs.Noted.{Noted}
use Rattle.serving_spec.specs.Made.{AllLooked}
use Rattle.hub.specs.Makes.{LooksUpAll}
use Rattle.hub.proofs.connection.Connection.bytes.Given as goal

abbrev pub invariant-loop-from : goal.invariant-loop-from
invariant-loop-from g l =
    (l.from ≤ length l.piece)
    × (g.P.Versions.state l.pages ≡ g.P.Versions.state l.fn.pages)
    × ((replies : List (List ℕ))
    × (stays : StaysOpen (shown_in l.origin g.P.Versions.site g.P.Versions.templates (g.P.Versions.state l.fn.pages)) l.fn.self (take l.from l.piece)
    (record { rest = l.self-inside.reading.rest; left = l.self-inside.left }) [] replies)
    × ((g.W.Wire.told l.wire).account l.fn.number ≡ gain ((g.W.Wire.told l.fn.wire).account l.fn.number) replies)
    × (terms : List Term) × LooksUpAll l.origin.hosts (TermOf l.origin.root) stays.heads terms
    × (l.made ≡ up_by (length replies) l.fn.made)
    × AllLooked (g.P.Versions.looks (g.P.Versions.state l.fn.pages)) (g.P.Versions.cache l.fn.pages) terms (g.P.Versions.cache l.pages))
    × ((other : ℕ) → other ≢ l.fn.number → (g.W.Wire.told l.wire).account other ≡ (g.W.Wire.told l.fn.wire).account other)
    × ((g.W.Wire.told l.wire).faults l.fn.number ≡ (g.W.Wire.told l.fn.wire).faults l.fn.number)
    × ((other : ℕ) → other ≢ l.fn.number → (g.W.Wire.told l.wire).faults other ≡ (g.W.Wire.told l.fn.wire).faults other)
    × (((g.W.Wire.told l.wire).given ≡ (g.W.Wire.told l.fn.wire).given) × ((g.W.Wire.told l.wire).left ≡ (g.W.Wire.told l.fn.wire).left)
    × ((g.W.Wire.told l.wire).listens ≡ (g.W.Wire.told l.fn.wire).listens) × ((g.W.Wire.told l.wire).next_faults ≡ (g.W.Wire.told l.fn.wire).next_faults)
    × ((g.W.Wire.told l.wire).watches ≡ (g.W.Wire.told l.fn.wire).watches))
    × g.P.Versions.Own l.pages
    × Noted (g.W.Wire.trace l.fn.wire) (g.W.Wire.trace l.wire) (g.W.Wire.told l.fn.wire).account (g.W.Wire.told l.wire).account

abbrev pub decreases-loop-from : goal.decreases-loop-from
decreases-loop-from g l = length l.piece - l.from
