use Rattle.std.proofs.Common.{List, refl, subst}
use Rattle.std.specs.Prelude.{Contains}
use Rattle.query_blocks.specs.declared.QueryBlock.{QueryBlock}
use Rattle.query_blocks.specs.Blocks.{scope_of}
use Rattle.site_build.specs.Materialised.{BlocksAdd}
use Rattle.site_build.proofs.Site.{contents_made}
use Rattle.site_build.proofs.contents.contents_of.Goals as goal

pub add_blocks-requires : goal.add_blocks-requires
add_blocks-requires g c = λ b h. (c.requires.scoped b (subst (λ (bs : List QueryBlock). Contains bs b) c.as_slice.ensures.value h)).well_made

pub returns-clause-contents : goal.returns-clause-contents
returns-clause-contents g c =
    contents_made (g.A.Asker.graph c.args.asker.now) (scope_of c.args.scopes.now) c.args.scopes.now.blocks.items c.requires.scoped refl (record { terms = c.new.result; links = c.new-2.result; puts = c.new-3.result }) c.add_blocks.new.made _ _ _
    c.new.ensures.empty c.new-2.ensures.empty c.new-3.ensures.empty
    (subst (λ (bs : List QueryBlock). BlocksAdd (g.A.Asker.graph c.args.asker.now) bs (record { terms = c.new.result; links = c.new-2.result; puts = c.new-3.result }) c.add_blocks.new.made) c.as_slice.ensures.value c.in_ok-add_blocks.ensures.adds)
    c.in_ok-ascending.ensures c.in_ok-links.ensures c.in_ok-ascending-2.ensures
