use Rattle.std.proofs.Common.{refl, subst}
use Rattle.query_blocks.specs.Blocks.{scope_of}
use Rattle.sd_value.specs.Gathered.{Gathered}
use Rattle.site_lookups.specs.Ends.{BlockPuts}
use Rattle.site_lookups.proofs.Puts.{collected_lists}
use Rattle.weight_spec.specs.CountsAtMost.{CountsAtMost, IsAt}
use Rattle.site_lookups.specs.Counts.{IsCollectRow}
use Rattle.site_lookups.proofs.Counts.{member_causes, collect_causes}
use Rattle.struql_ast.specs.Reading.{collect_of}
use Rattle.query_blocks.specs.declared.QueryBlock.{QueryBlock}
use Rattle.site_lookups.proofs.collects.collected.Goals as goal

pub returns-clause-values : goal.returns-clause-values
returns-clause-values g c =
    collected_lists (g.A.Asker.graph c.args.asker.now) (scope_of c.args.scopes.now) c.args.scopes.now.blocks.items c.args.name.now c.in_ok-values.values.items c.in_ok-more.more.items _ _ c.requires.scoped refl
    c.in_ok-append.ensures.items c.in_ok-values.ensures.values
    (subst (λ G. Gathered (BlockPuts G c.args.name.now) c.args.scopes.now.blocks.items c.in_ok-more.more.items) c.in_ok-values.ensures.graph c.in_ok-more.ensures.values)
    record { ascending = c.sort_and_dedup.ensures.ascending; sound = λ v h. c.sort_and_dedup.ensures.sound v h; complete = λ v h. c.sort_and_dedup.ensures.complete v h }

pub returns-in_err-values-clause-counted : goal.returns-in_err-values-clause-counted
returns-in_err-values-clause-counted g c =
    λ f. member_causes (g.A.Asker.graph c.args.asker.now) (scope_of c.args.scopes.now) c.args.scopes.now.blocks.items f refl c.requires.scoped c.args.name.now (g.A.Asker.count c.args.asker.now) (g.A.Asker.count c.members.new.asker) c.in_err-values.ensures.counted

pub returns-in_err-more-clause-counted : goal.returns-in_err-more-clause-counted
returns-in_err-more-clause-counted g c =
    λ f. collect_causes (g.A.Asker.graph c.args.asker.now) (scope_of c.args.scopes.now) c.args.scopes.now.blocks.items f refl c.requires.scoped c.args.name.now (g.A.Asker.count c.args.asker.now) (g.A.Asker.count c.members.new.asker) (g.A.Asker.count c.puts.new.asker) c.in_ok-values.ensures.counted (subst (λ G. CountsAtMost (IsAt c.args.scopes.now.blocks.items (λ (s : QueryBlock). IsAt s.collects.items (λ k. IsCollectRow G s.chain c.args.name.now (collect_of k)))) (g.A.Asker.count c.members.new.asker) (g.A.Asker.count c.puts.new.asker)) c.in_ok-values.ensures.graph c.in_err-more.ensures.counted)

pub returns-in_err-append-clause-counted : goal.returns-in_err-append-clause-counted
returns-in_err-append-clause-counted g c =
    λ f. collect_causes (g.A.Asker.graph c.args.asker.now) (scope_of c.args.scopes.now) c.args.scopes.now.blocks.items f refl c.requires.scoped c.args.name.now (g.A.Asker.count c.args.asker.now) (g.A.Asker.count c.members.new.asker) (g.A.Asker.count c.puts.new.asker) c.in_ok-values.ensures.counted (subst (λ G. CountsAtMost (IsAt c.args.scopes.now.blocks.items (λ (s : QueryBlock). IsAt s.collects.items (λ k. IsCollectRow G s.chain c.args.name.now (collect_of k)))) (g.A.Asker.count c.members.new.asker) (g.A.Asker.count c.puts.new.asker)) c.in_ok-values.ensures.graph c.in_ok-more.ensures.counted)

pub returns-clause-counted : goal.returns-clause-counted
returns-clause-counted g c =
    λ f. collect_causes (g.A.Asker.graph c.args.asker.now) (scope_of c.args.scopes.now) c.args.scopes.now.blocks.items f refl c.requires.scoped c.args.name.now (g.A.Asker.count c.args.asker.now) (g.A.Asker.count c.members.new.asker) (g.A.Asker.count c.puts.new.asker) c.in_ok-values.ensures.counted (subst (λ G. CountsAtMost (IsAt c.args.scopes.now.blocks.items (λ (s : QueryBlock). IsAt s.collects.items (λ k. IsCollectRow G s.chain c.args.name.now (collect_of k)))) (g.A.Asker.count c.members.new.asker) (g.A.Asker.count c.puts.new.asker)) c.in_ok-values.ensures.graph c.in_ok-more.ensures.counted)
