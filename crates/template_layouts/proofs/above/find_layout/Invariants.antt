use Rattle.std.proofs.Common.{◌≡◌, drop, map}
use Rattle.template_layouts.specs.Together.{find_layout, layout_of}
use Rattle.template_layouts.proofs.above.find_layout.Given as goal

abbrev pub invariant-loop-layout : goal.invariant-loop-layout
invariant-loop-layout l = find_layout (map layout_of (drop l.layout-index l.layouts)) l.name ≡ find_layout (map layout_of l.layouts) l.name
