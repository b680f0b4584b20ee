use Rattle.std.proofs.Common.{refl, arith}
use Rattle.std.proofs.lemmas.List.Elements.{All-take, All-drop}
use Rattle.template_items.specs.Scanning.{EndsWithin}
use Rattle.text_claims.specs.Limits.{text_end}
use Rattle.text_claims.proofs.Items.{items_more}
use Rattle.text_claims.proofs.claims.claims_of_templates.Goals as goal

pub items-preserved : goal.items-preserved
items-preserved c = record {
  found = items_more c.items.before c.in_ok-before.before c.item-item.result c.items.rest.now _ c.items.found.items c.push_item.new.found.items _ (omega (arith, c.in-len1-up.len_at_least)) c.item-item.is refl c.in_ok-push_item.ensures c.in_ok-before.ensures c.items.invariant.found;
  within = All-take (EndsWithin text_end) _ _ (All-drop (EndsWithin text_end) 1 _ c.items.invariant.within);
}
