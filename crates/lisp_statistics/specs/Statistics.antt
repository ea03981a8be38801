-- What is counted of a node since its start.
use Rattle.std.specs.Prelude.{◌≡◌, ◌⊎◌, ℕ, ◌+◌, ◌-◌, ◌^◌, min, max, List, Option, Some, None, unwrap_or}
use Rattle.std.specs.BTreeMap.{BTreeMap, get, IsEmpty, IsUnchanged, Updates}
use Rattle.std.specs.declared.cmp.Ordering.{Ordering}
use Rattle.lisp_records.specs.declared.router.RouterId.{RouterId}
use Rattle.lisp_policy.specs.Configuration.{RouterEntryValue}
use Rattle.lisp_statistics.specs.LastRefusals.{NoneRefused}
use Rattle.lisp_statistics.specs.declared.hearing.Hearing.{Hearing}
use Rattle.lisp_statistics.specs.declared.statistics.Statistics.{Statistics}

-- at a moment, in a network of these routers: nothing was printed or refused, nobody was heard, nothing was saved, and no Map-Request came
pub record Begins {A : Type 0} (routers : List RouterEntryValue) (now : ℕ) (s : Statistics A) : Type 0 where
  pub started : s.started ≡ now
  pub tallies : IsEmpty s.tallies
  pub by_site : IsEmpty s.by_site
  pub refusals : NoneRefused routers s.last_refusals.by_address
  pub heard : IsEmpty s.heard
  pub save : s.longest_save ≡ 0
  pub requests : s.requests ≡ 0
  pub reply : s.slowest_reply ≡ 0

-- a key has a value now, and no other key another one; where memory is refused for a key that is new, all is as it was
abbrev pub Sets : {K X : Type 0} → (K → K → Ordering) → Type 0 → BTreeMap K X → BTreeMap K X → K → X → Type 0
Sets cmp may_refuse old new key value = Updates cmp old new key (Some value) ⊎ (may_refuse × (get cmp old key ≡ None) × IsUnchanged old new)

-- how many of a kind there were
abbrev pub tally_of : {K : Type 0} → (K → K → Ordering) → BTreeMap K ℕ → K → ℕ
tally_of cmp tallies kind = unwrap_or (get cmp tallies kind) 0

-- there is one more of a kind, up to 2^64 - 1, if one is counted
abbrev pub Counts : {K : Type 0} → (K → K → Ordering) → Type 0 → BTreeMap K ℕ → BTreeMap K ℕ → Option K → Type 0
Counts cmp may_refuse old new None = new ≡ old
Counts cmp may_refuse old new (Some kind) = Sets cmp may_refuse old new kind (min (tally_of cmp old kind + 1) (2 ^ 64 - 1))

-- a router was heard
abbrev pub HearsLine : {A : Type 0} → (RouterId → RouterId → Ordering) → Type 0 → Statistics A → Statistics A → Option (RouterId × Hearing) → Type 0
HearsLine cmp may_refuse old new (Some heard) = Sets cmp may_refuse old.heard new.heard heard.0 heard.1
HearsLine cmp may_refuse old new None = new.heard ≡ old.heard

-- a save took so many ms
abbrev pub saved : {A : Type 0} → Statistics A → ℕ → Statistics A
saved s ms = record s { longest_save = max s.longest_save ms }

-- a Map-Request came, up to 2^64 - 1 of them
abbrev pub requested : {A : Type 0} → Statistics A → Statistics A
requested s = record s { requests = min (s.requests + 1) (2 ^ 64 - 1) }

-- so many us after a Map-Request was taken a datagram for it was given to the socket
abbrev pub replied : {A : Type 0} → Statistics A → ℕ → Statistics A
replied s us = record s { slowest_reply = max s.slowest_reply us }
