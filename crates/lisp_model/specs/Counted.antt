-- Counted: what a router makes of what arrives (RFC 9301 sections 5.7 and 8.2).
use Rattle.std.specs.Prelude.{ℕ, ◌==◌, ◌&&◌, List, [], ◌∷◌, map, Option, Some, None, Result, if◌then◌else◌}
use Rattle.std.specs.List.{find}
use Rattle.lisp_records.specs.declared.address.Addr.{Addr}
use Rattle.lisp_records.specs.Address.{addr_eq}
use Rattle.lisp_policy.specs.Configuration.{ConfigValue}
use Rattle.lisp_etr.specs.declared.notify_fault.NotifyFault.{NotifyFault}
use Rattle.lisp_etr.specs.Hearing.{ServerNotify, checked_notify}
use Rattle.lisp_model.specs.declared.line.Line.TheVariants as lines
use Rattle.lisp_model.specs.Trace.{Step, Opening, address_at, router_at, etr_config, Line}
use Rattle.lisp_model.specs.Bag.{Arrival}
use Rattle.lisp_model.specs.Numbers.{part_numbers}

-- the server of a router's list that has an address
abbrev pub server_from : ConfigValue → ℕ → Addr → Option ℕ
server_from c router from = find (λ s. addr_eq (address_at c s) from) (router_at c router).servers

-- the Map-Notify that arrives at a router, from one of its servers, where it passes all checks; or the first
-- that fails
abbrev pub notify_at : Opening → List Step → ℕ → Arrival → Result ServerNotify NotifyFault
notify_at o T router a = checked_notify (etr_config o T router) a.bytes a.read (server_from o.config router a.from)

-- the nonce of a router's last Map-Register of a part to a server since its start, or since it went over to its key,
-- also before a change of its database; 0 where there is none
abbrev pub latest_nonce_after : Line → ℕ → ℕ → ℕ → ℕ → ℕ
latest_nonce_after (lines.Sent router server part _ nonce _) r s p old =
    if router == r && server == s && part == p then nonce else old
latest_nonce_after (lines.Restarted node) r s p old = if node == r then 0 else old
latest_nonce_after (lines.Rotated node _) r s p old = if node == r then 0 else old
latest_nonce_after (lines.Emptied node _) r s p old = if node == r then 0 else old
latest_nonce_after _ r s p old = old

abbrev pub latest_nonce : List Step → ℕ → ℕ → ℕ → ℕ
latest_nonce [] r server part = 0
latest_nonce (s ∷ T) r server part = latest_nonce_after s.line r server part (latest_nonce T r server part)

-- part by part
abbrev pub latest_nonces : List Step → ℕ → ℕ → List ℕ
latest_nonces T r server = map (latest_nonce T r server) part_numbers

-- a Map-Register of a router that was acknowledged: of which part, under which key and nonce
pub record Acknowledged : Type 0 where
  pub part : ℕ
  pub key : ℕ
  pub nonce : ℕ

-- those that a router counted from a server, the last one first
abbrev pub counted_nonces_after : Line → ℕ → ℕ → List Acknowledged → List Acknowledged
counted_nonces_after (lines.Counted router server part key nonce) r s old =
    if router == r && server == s then record { part = part; key = key; nonce = nonce } ∷ old else old
counted_nonces_after _ r s old = old

abbrev pub counted_nonces : List Step → ℕ → ℕ → List Acknowledged
counted_nonces [] r server = []
counted_nonces (s ∷ T) r server = counted_nonces_after s.line r server (counted_nonces T r server)

-- the Key ID and the nonce of the last one of a part since the router's start
abbrev pub acked_after : Line → ℕ → ℕ → ℕ → Option (ℕ × ℕ) → Option (ℕ × ℕ)
acked_after (lines.Counted router server part key nonce) r s p old =
    if router == r && server == s && part == p then Some (key, nonce) else old
acked_after (lines.Restarted node) r s p old = if node == r then None else old
acked_after (lines.Emptied node _) r s p old = if node == r then None else old
acked_after _ r s p old = old

abbrev pub acked : List Step → ℕ → ℕ → ℕ → Option (ℕ × ℕ)
acked [] r server part = None
acked (s ∷ T) r server part = acked_after s.line r server part (acked T r server part)
