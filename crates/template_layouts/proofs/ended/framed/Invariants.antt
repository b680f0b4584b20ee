use Rattle.std.proofs.Common.{◌≡◌, map, reverse, length, option_copied}
use Rattle.template_layouts.specs.Together.{framed, layout_of}
use Rattle.template_layouts.proofs.ended.framed.Given as goal

abbrev pub invariant-layouts : goal.invariant-layouts
invariant-layouts l =
    framed (reverse (map layout_of l.rest)) (option_copied l.around) l.items.items
    ≡ framed (reverse (map layout_of l.layouts)) (option_copied l.frame) l.fn.body.items

abbrev pub decreases-layouts : goal.decreases-layouts
decreases-layouts l = length l.rest
