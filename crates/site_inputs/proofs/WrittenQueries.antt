-- Queries that are read and then checked.
use Rattle.std.proofs.Common.{◌≡◌, ◌⊎◌, ℕ, List, refl, sym, subst, inl, inr}
use Rattle.std.specs.Prelude.{Some, Err}
use Rattle.command_spec.specs.Limits.{text_limit}
use Rattle.struql_parse.specs.declared.refusal.ParseRefusal.{ParseRefusal}
use Rattle.query_reader.specs.declared.QueryRefusal.{QueryRefusal}
use Rattle.query_reader.specs.declared.QueryRefusal.TheVariants.{NotSpelled}
use Rattle.query_reader.specs.Reads.{IsWritten, IsRefused}
use Rattle.run_report.specs.declared.status.Place.TheVariants.{At}
use Rattle.site_inputs.specs.declared.fault.Fault.{Fault}
use Rattle.site_inputs.specs.declared.fault.Fault.TheVariants.{Refused, Unread, Faulty, NotFound, NoMemory}
use Rattle.data_source.specs.declared.numbered.NumberedFault.{NumberedFault}
use Rattle.site_inputs.specs.Sites.{query_told, QueryRefused, WrittenTaken, QueryTaken}

-- what a refusal reports, or out of memory in saying so
pub told_refused : (path : List ℕ) (e : QueryRefusal) (told : NumberedFault) (fault : Fault) → query_told e ≡ Some told
    → (fault ≡ Refused (record { file = path; number = told.number; place = At told.at })) ⊎ (fault ≡ NoMemory) → QueryRefused path e fault
told_refused path e told fault known (inl is) = subst (QueryRefused path e) (sym is) (told, refl, known)
told_refused path e told fault known (inr is) = subst (QueryRefused path e) (sym is) tt

-- a text that spells no query
pub unwritten : (path bytes : List ℕ) (e : ParseRefusal) (fault : Fault) → IsWritten text_limit bytes (Err e) → QueryRefused path (NotSpelled e) fault → WrittenTaken path bytes (Err fault)
unwritten path bytes e (Refused refusal) states refused = (e, states, refused)
unwritten path bytes e (Unread unread) states refused = absurd refused
unwritten path bytes e (Faulty term kind) states refused = absurd refused
unwritten path bytes e NotFound states refused = absurd refused
unwritten path bytes e NoMemory states refused = tt

-- a text that is refused
pub refused_taken : (path bytes : List ℕ) (e : QueryRefusal) (fault : Fault) → IsRefused text_limit bytes e → QueryRefused path e fault → QueryTaken path bytes (Err fault)
refused_taken path bytes e (Refused refusal) reason (told, is, known) = (told, is, e, reason, known)
refused_taken path bytes e (Unread unread) reason refused = absurd refused
refused_taken path bytes e (Faulty term kind) reason refused = absurd refused
refused_taken path bytes e NotFound reason refused = absurd refused
refused_taken path bytes e NoMemory reason refused = tt

-- a text that spells no query is refused as one
pub unwritten_taken : (path bytes : List ℕ) (fault : Fault) → WrittenTaken path bytes (Err fault) → QueryTaken path bytes (Err fault)
unwritten_taken path bytes (Refused refusal) (e, states, refused) = refused_taken path bytes (NotSpelled e) (Refused refusal) states refused
unwritten_taken path bytes (Unread unread) (e, states, refused) = absurd refused
unwritten_taken path bytes (Faulty term kind) (e, states, refused) = absurd refused
unwritten_taken path bytes NotFound (e, states, refused) = absurd refused
unwritten_taken path bytes NoMemory taken = tt
