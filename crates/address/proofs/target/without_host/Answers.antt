use Rattle.std.proofs.Common.{◌≡◌, ◌-◌, true, false, length, drop, sym, ap, ◌∙◌, arith}
use Rattle.std.proofs.lemmas.List.{take_all, length-drop}
use Rattle.page_spec.specs.Address as spec
use Rattle.address.proofs.Targets.{with_host, no_host, short_target}
use Rattle.address.proofs.target.without_host.Goals.{else-target-ge7-via-then-target-ge7+else-eq_ignore_ascii_case, else-target-ge7-via-else-target-ge7}
use Rattle.address.proofs.target.without_host.Goals as goal

pub returns-then-eq_ignore_ascii_case : goal.returns-then-eq_ignore_ascii_case
returns-then-eq_ignore_ascii_case c =
    let t = c.args.target.now in
    c.from_slash.ensures ∙ ap spec.from_slash (take_all (length t - 7) (drop 7 t) (omega (arith, length-drop 7 t))) ∙ sym (with_host t (c.eq_ignore_ascii_case.ensures.test.0 c.if-eq_ignore_ascii_case.true))

pub returns-else-target-ge7 : goal.returns-else-target-ge7
returns-else-target-ge7 c =
    let t = c.args.target.now in
    elim c.else-target-ge7.branch as (λ _. t ≡ spec.without_host t) [ else-target-ge7-via-then-target-ge7+else-eq_ignore_ascii_case w ↦ sym (no_host t (λ e. let f : true ≡ false = sym (w.eq_ignore_ascii_case.ensures.test.1 e) ∙ w.if-eq_ignore_ascii_case.false in let g : ⊥ = cc in g)) | else-target-ge7-via-else-target-ge7 w ↦ sym (no_host t (short_target t (omega (arith, w.if-target-ge7.false)))) ]
