use Rattle.std.proofs.Common.{subst, sym, ◌++◌, ◌∷◌, []}
use Rattle.render.specs.Rows.{HasFirstOf}
use Rattle.render.proofs.Firsts.{firsts_more, firsts_kept}
use Rattle.render.proofs.rows.add_row.Goals as goal

pub returns-then-is_crowded : goal.returns-then-is_crowded
returns-then-is_crowded c = λ seen h.
    let pushed = subst (HasFirstOf c.args.limit (seen ++ c.args.row ∷ [])) (sym c.in_ok-push.ensures.items) (firsts_more c.args.limit seen c.args.rows.now.items c.args.row h) in
    firsts_kept c.args.limit (seen ++ c.args.row ∷ []) c.push.new.self.items c.keep_first.new.rows.items pushed c.keep_first.ensures

pub returns-else-is_crowded : goal.returns-else-is_crowded
returns-else-is_crowded c = λ seen h.
    subst (HasFirstOf c.args.limit (seen ++ c.args.row ∷ [])) (sym c.in_ok-push.ensures.items) (firsts_more c.args.limit seen c.args.rows.now.items c.args.row h)
