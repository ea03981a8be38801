-- What came of waiting for a datagram.
use Rattle.std.specs.Prelude.{◌≡◌, ◌≢◌, ℕ, List}
use Rattle.lisp_turns.specs.Outside.{Reception, Datagram, Nothing, Failed}
use Rattle.lisp_udp.specs.declared.datagrams.Arrival.{Arrival}
use Rattle.lisp_udp.specs.declared.datagrams.Arrival.TheVariants as arrivals

-- whether what was received is the datagram, byte for byte
abbrev pub IsArrivalOf : List ℕ → List ℕ → Arrival → Type 0
IsArrivalOf bytes received arrivals.Arrived = received ≡ bytes
IsArrivalOf bytes received arrivals.Lost = received ≢ bytes
IsArrivalOf bytes received arrivals.Failed = ⊥

abbrev pub IsArrival : List ℕ → Reception → Arrival → Type 0
IsArrival bytes (Datagram from received) arrival = IsArrivalOf bytes received arrival
IsArrival bytes Nothing arrival = arrival ≡ arrivals.Lost
IsArrival bytes Failed arrival = arrival ≡ arrivals.Failed
