-- What stands around a Map-Request is read without memory: it never runs out.
use Rattle.std.proofs.Common.{◌≡◌, ◌≢◌, ℕ, ◌/◌, ◌%◌, ◌==◌, Bool, true, false, not, ◌&&◌, cond, nat_le, nat_lt, List, length, take, drop, slice_index, sym, ap, ◌∙◌, subst}
use Rattle.std.specs.Prelude.{Result, Ok, Err}
use Rattle.std.specs.Result.{IsErrAnd}
use Rattle.lisp_records.specs.Result.{◌>>=◌}
use Rattle.lisp_requests.specs.declared.fault.RequestFault.{RequestFault}
use Rattle.lisp_requests.specs.declared.fault.RequestFault.TheVariants as faults
use Rattle.lisp_requests.specs.Encapsulated.{DatagramValue, control_port, datagram_at, encapsulated_at, header_len, ipv4_at, ipv6_at, is_summed, lisp_at, udp_at}
use Rattle.lisp_requests.specs.Checksum.{all_ones, sum_of}
use Rattle.lisp_records.specs.Reading.{is_set, number_at}
use Rattle.lisp_records.specs.declared.address.Addr.TheVariants.{V4, V6}
use Rattle.lisp_requests.specs.Reading.{after, require}
use Rattle.lisp_mapping.specs.declared.unasked.Unasked.{Unasked}
use Rattle.lisp_mapping.specs.declared.unasked.Unasked.TheVariants.{Request}

-- it is read, or another fault is met
abbrev pub IsOther : {X : Type 0} → Result X RequestFault → Type 0
IsOther r = r ≢ Err faults.OutOfMemory

its_fault : {X : Type 0} (one other : RequestFault) → ◌≡◌ {A = Result X RequestFault} (Err one) (Err other) → one ≡ other
its_fault one other is = cc

read : {X : Type 0} (x : X) → IsOther (Ok x)
read x is = absurd cc

step : {X Y : Type 0} (r : Result X RequestFault) (f : X → Result Y RequestFault) → IsOther r → ((x : X) → IsOther (f x)) → IsOther (r >>= f)
step (Ok x) f first more is = more x is
step (Err fault) f first more is = first (ap Err (its_fault fault faults.OutOfMemory is))

required : (fault : RequestFault) (holds : Bool) → fault ≢ faults.OutOfMemory → IsOther (require fault holds)
required fault true other is = absurd cc
required fault false other is = other (its_fault fault faults.OutOfMemory is)

either : {X : Type 0} (test : Bool) (one other : Result X RequestFault) → IsOther one → IsOther other → IsOther (cond test one other)
either true one other is _ = is
either false one other _ is = is

long : (n : ℕ) (bytes : List ℕ) → IsOther (after n bytes)
long n bytes = either (nat_lt (length bytes) n) (Err faults.Short) (Ok (drop n bytes)) (λ is. absurd cc) (read (drop n bytes))

lisp : (bytes : List ℕ) → IsOther (lisp_at bytes)
unfolding lisp_at
lisp bytes = step (after 4 bytes) _ (long 4 bytes) (λ rest. step (require faults.Kind (slice_index bytes 0 / 16 == 8)) _ (required faults.Kind (slice_index bytes 0 / 16 == 8) (λ is. absurd cc)) (λ _. step (require faults.Security (not (is_set (slice_index bytes 0) 8))) _ (required faults.Security (not (is_set (slice_index bytes 0) 8)) (λ is. absurd cc)) (λ _. read rest)))

ipv4 : (bytes : List ℕ) → IsOther (ipv4_at bytes)
unfolding ipv4_at
ipv4 bytes = step (after 20 bytes) _ (long 20 bytes) (λ _. step (require faults.IpHeaderLength (nat_le 20 (header_len bytes))) _ (required faults.IpHeaderLength (nat_le 20 (header_len bytes)) (λ is. absurd cc)) (λ _. step (require faults.IpLength (nat_le (header_len bytes) (number_at bytes 2) && nat_le (number_at bytes 2) (length bytes))) _ (required faults.IpLength (nat_le (header_len bytes) (number_at bytes 2) && nat_le (number_at bytes 2) (length bytes)) (λ is. absurd cc)) (λ _. step (require faults.Fragment (number_at bytes 6 % 16384 == 0)) _ (required faults.Fragment (number_at bytes 6 % 16384 == 0) (λ is. absurd cc)) (λ _. step (require faults.Protocol (slice_index bytes 9 == 17)) _ (required faults.Protocol (slice_index bytes 9 == 17) (λ is. absurd cc)) (λ _. step (require faults.IpChecksum (sum_of (take (header_len bytes) bytes) == all_ones)) _ (required faults.IpChecksum (sum_of (take (header_len bytes) bytes) == all_ones) (λ is. absurd cc)) (λ _. read (record { source = V4 (take 4 (drop 12 bytes)); destination = V4 (take 4 (drop 16 bytes)); payload = drop (header_len bytes) (take (number_at bytes 2) bytes) })))))))

ipv6 : (bytes : List ℕ) → IsOther (ipv6_at bytes)
unfolding ipv6_at
ipv6 bytes = step (after 40 bytes) _ (long 40 bytes) (λ rest. step (require faults.IpLength (nat_le (number_at bytes 4) (length rest))) _ (required faults.IpLength (nat_le (number_at bytes 4) (length rest)) (λ is. absurd cc)) (λ _. step (require faults.Protocol (slice_index bytes 6 == 17)) _ (required faults.Protocol (slice_index bytes 6 == 17) (λ is. absurd cc)) (λ _. read (record { source = V6 (take 16 (drop 8 bytes)); destination = V6 (take 16 (drop 24 bytes)); payload = take (number_at bytes 4) rest }))))

datagram : (bytes : List ℕ) → IsOther (datagram_at bytes)
unfolding datagram_at
datagram bytes = step (after 1 bytes) _ (long 1 bytes) (λ _. either (slice_index bytes 0 / 16 == 4) (ipv4_at bytes) (cond (slice_index bytes 0 / 16 == 6) (ipv6_at bytes) (Err faults.IpVersion)) (ipv4 bytes) (either (slice_index bytes 0 / 16 == 6) (ipv6_at bytes) (Err faults.IpVersion) (ipv6 bytes) (λ is. absurd cc)))

udp : (d : DatagramValue) → IsOther (udp_at d)
unfolding udp_at
udp d = step (after 8 d.payload) _ (long 8 d.payload) (λ _. step (require faults.Port (number_at d.payload 2 == control_port)) _ (required faults.Port (number_at d.payload 2 == control_port) (λ is. absurd cc)) (λ _. step (require faults.UdpLength (nat_le 8 (number_at d.payload 4) && nat_le (number_at d.payload 4) (length d.payload))) _ (required faults.UdpLength (nat_le 8 (number_at d.payload 4) && nat_le (number_at d.payload 4) (length d.payload)) (λ is. absurd cc)) (λ _. step (require faults.UdpChecksum (is_summed d.source d.destination (take (number_at d.payload 4) d.payload))) _ (required faults.UdpChecksum (is_summed d.source d.destination (take (number_at d.payload 4) d.payload)) (λ is. absurd cc)) (λ _. read (record { source = d.source; destination = d.destination; port = number_at d.payload 0; message = drop 8 (take (number_at d.payload 4) d.payload) })))))

pub takes_no_memory : (bytes : List ℕ) → IsOther (encapsulated_at bytes)
unfolding encapsulated_at
takes_no_memory bytes = step (lisp_at bytes) _ (lisp bytes) (λ rest. step (datagram_at rest) udp_at (datagram rest) udp)

-- so no fault of it is that memory ran out
request_is : (one other : RequestFault) → Request one ≡ Request other → one ≡ other
request_is one other is = cc

pub never : {X P : Type 0} (result : Result X Unasked) (fault : RequestFault) (bytes : List ℕ) → encapsulated_at bytes ≡ Err fault → IsErrAnd result (λ given. given ≡ Request fault) → result ≡ Err (Request faults.OutOfMemory) → P
never {X} result fault bytes read given is =
    let same : faults.OutOfMemory ≡ fault = request_is faults.OutOfMemory fault (subst (λ (r : Result X Unasked). IsErrAnd r (λ given. given ≡ Request fault)) is given) in
    absurd (takes_no_memory bytes (read ∙ ap Err (sym same)))
