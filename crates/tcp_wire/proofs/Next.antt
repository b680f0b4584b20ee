-- What the next event leaves as it was.
use Rattle.std.proofs.Common.{◌≡◌, ap}
use Rattle.happenings.specs.declared.event.WireEvent.{WireEvent}
use Rattle.happenings.specs.declared.event.WireEvent.TheVariants.{Opened, Bytes, Ended, Lost, Change, Done}
use Rattle.tcp_wire.specs.TcpState.{TcpState, IsNextIn}

-- no event counts as a failure
pub faults_stay
    : (w : TcpState) (event : WireEvent) (after : TcpState) → IsNextIn w event after
    → after.next_faults ≡ w.next_faults
faults_stay w (Opened number) after next = ap (λ (s : TcpState). s.next_faults) next.is
faults_stay w (Bytes number piece) after (some, takes, is) = ap (λ (s : TcpState). s.next_faults) is
faults_stay w (Ended number) after (takes, is) = ap (λ (s : TcpState). s.next_faults) is
faults_stay w (Lost number) after (is_open, is) = ap (λ (s : TcpState). s.next_faults) is
faults_stay w (Change text) after (some, gives) = ap (λ (s : TcpState). s.next_faults) gives.is
faults_stay w Done after (none, empty, is) = ap (λ (s : TcpState). s.next_faults) is
