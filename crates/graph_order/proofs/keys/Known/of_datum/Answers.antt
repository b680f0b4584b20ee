use Rattle.std.proofs.Common.{sym, subst}
use Rattle.sd_value.specs.declared.Datum.{Datum}
use Rattle.sd_value.specs.declared.Value.TheVariants.{Data}
use Rattle.graph_order.proofs.Keyed.{no_key, IsNoNode}
use Rattle.graph_order.proofs.keys.Known.of_datum.Goals as goal

pub returns-in-Int : goal.returns-in-Int
returns-in-Int c =
    let k = c.args.self.now in
    no_key k.by_fold k.graph.now k.word.now (Data c.args.datum.now) c.requires.labels (subst (λ (d : Datum). IsNoNode (Data d)) (sym c.in-Int.is) tt)

pub returns-in-Text : goal.returns-in-Text
returns-in-Text c =
    let k = c.args.self.now in
    no_key k.by_fold k.graph.now k.word.now (Data c.args.datum.now) c.requires.labels (subst (λ (d : Datum). IsNoNode (Data d)) (sym c.in-Text.is) tt)

pub returns-in-Url : goal.returns-in-Url
returns-in-Url c =
    let k = c.args.self.now in
    no_key k.by_fold k.graph.now k.word.now (Data c.args.datum.now) c.requires.labels (subst (λ (d : Datum). IsNoNode (Data d)) (sym c.in-Url.is) tt)

pub returns-in-File : goal.returns-in-File
returns-in-File c =
    let k = c.args.self.now in
    no_key k.by_fold k.graph.now k.word.now (Data c.args.datum.now) c.requires.labels (subst (λ (d : Datum). IsNoNode (Data d)) (sym c.in-File.is) tt)
