-- What was answered stays the answer, whatever bytes come later.
use Rattle.std.proofs.Common.{◌≡◌, ℕ, Bool, true, false, List, ◌++◌, sym, ap, ◌∙◌, subst, arith, append_assoc, inl, inr, length-append}
use Rattle.http_spec.specs.declared.Standing.TheVariants.{Closed, Short}
use Rattle.http_spec.specs.Sessions.{Showing, IsRefused, IsDue, Ends, AnswersStream}
use Rattle.http_spec.specs.Streams.{Timed, bytes_in}
use Rattle.httparse.specs.Grammar.{print_request}
use Rattle.http_spec.proofs.HeadLemmas.{no_head_stays, doomed_more}
use Rattle.http_spec.proofs.StreamLemmas.{cut_later, bytes-append}

pub refused_later : (ended : Bool) (rest more : List ℕ) → IsRefused false rest → IsRefused ended (rest ++ more)
refused_later ended rest more (none, inl full) =
    (no_head_stays rest more none (inl full), inl (omega (arith, length-append rest more, full)))
refused_later ended rest more (none, inr (inl doomed)) =
    (no_head_stays rest more none (inr doomed), inr (inl (doomed_more rest more doomed)))
refused_later ended rest more (none, inr (inr (never, within))) = absurd (let e : false ≡ true = never in cc)

pub due_later : (ended : Bool) (rest more : List ℕ) → IsDue false rest → IsDue ended (rest ++ more)
due_later ended rest more (inl (h, tail, reads)) =
    inl (h, tail ++ more, record { head = reads.head; whole = ap (λ s. s ++ more) reads.whole ∙ append_assoc (print_request h) tail more })
due_later ended rest more (inr refused) = inr (refused_later ended rest more refused)

pub closed_ends_later : (ended closed : Bool) (rest more : List ℕ) (last : List (List ℕ)) → Ends false Closed rest closed last → Ends ended Closed (rest ++ more) closed last
closed_ends_later ended closed rest more last (inl over) = inl over
closed_ends_later ended closed rest more last (inr (inl (goes, refused, one))) = inr (inl (goes, refused_later ended rest more refused, one))
closed_ends_later ended closed rest more last (inr (inr (goes, never, waits, clean, nothing))) = absurd (let e : false ≡ true = never in cc)

pub closed_later : {D : Type 0} (page : D → Showing) (limit : ℕ) (stream more : List (Timed D)) (ended : Bool) (replies : List (List ℕ))
    → AnswersStream page limit stream false Closed replies → AnswersStream page limit (stream ++ more) ended Closed replies
closed_later page limit stream more ended replies a = record {
  requests = a.requests;
  rest = a.rest ++ more;
  answered = a.answered;
  closed = a.closed;
  last = a.last;
  session = record { cut = cut_later stream more a.rest a.requests a.session.cut; answered = a.session.answered };
  ends = subst (λ s. Ends ended Closed s a.closed a.last) (sym (bytes-append a.rest more)) (closed_ends_later ended a.closed (bytes_in a.rest) (bytes_in more) a.last a.ends);
  whole = a.whole;
}

pub short_later : {D : Type 0} (page : D → Showing) (limit : ℕ) (stream more : List (Timed D)) (ended : Bool) (replies : List (List ℕ))
    → AnswersStream page limit stream false Short replies → AnswersStream page limit (stream ++ more) ended Short replies
short_later page limit stream more ended replies a = record {
  requests = a.requests;
  rest = a.rest ++ more;
  answered = a.answered;
  closed = a.closed;
  last = a.last;
  session = record { cut = cut_later stream more a.rest a.requests a.session.cut; answered = a.session.answered };
  ends = subst (λ s. Ends ended Short s a.closed a.last) (sym (bytes-append a.rest more))
      (a.ends.0, due_later ended (bytes_in a.rest) (bytes_in more) a.ends.1, a.ends.2);
  whole = a.whole;
}
