use Rattle.std.proofs.lemmas.Result.{err_from_is_err_and}
use Rattle.std.proofs.Common.{sym, ◌∙◌}
use Rattle.compose.proofs.Sources.{put_at, put_none}
use Rattle.compose.proofs.collected.add_value.Goals as goal

pub returns-in_err-datum : goal.returns-in_err-datum
returns-in_err-datum c =
    let p = err_from_is_err_and c.from_residual.result c.from_residual.ensures.1 in
    rw (p.1, p.2) tt

pub returns-in-Node : goal.returns-in-Node
returns-in-Node c =
    put_at c.args.builder.now c.add_member.new.self c.add_member.result c.args.collection.now c.args.value.now
    c.in-Node.name (sym c.in_ok-datum.ensures ∙ c.in-Node.is) c.add_member.ensures

pub returns-in-Int : goal.returns-in-Int
returns-in-Int c = put_none c.args.collection.now c.args.value.now c.in_ok-datum.datum c.args.builder.now
    c.in_ok-datum.ensures (λ n e. let both = sym c.in-Int.is ∙ e in cc)

pub returns-in-Text : goal.returns-in-Text
returns-in-Text c = put_none c.args.collection.now c.args.value.now c.in_ok-datum.datum c.args.builder.now
    c.in_ok-datum.ensures (λ n e. let both = sym c.in-Text.is ∙ e in cc)

pub returns-in-Url : goal.returns-in-Url
returns-in-Url c = put_none c.args.collection.now c.args.value.now c.in_ok-datum.datum c.args.builder.now
    c.in_ok-datum.ensures (λ n e. let both = sym c.in-Url.is ∙ e in cc)

pub returns : goal.returns
returns c = put_none c.args.collection.now c.args.value.now c.in_ok-datum.datum c.args.builder.now c.in_ok-datum.ensures
    (λ n e. let both = sym c.in-File.is ∙ e in cc)
