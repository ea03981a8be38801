-- Clean: nobody outside knows a secret. Bytes from outside are those of a datagram that was sent before, or
-- spell no message, or aren't authentic under any secret that the node holds.
use Rattle.std.specs.Prelude.{◌≡◌, ◌⊎◌, ℕ, false, List, [], ◌∷◌, map, Err, if◌then◌else◌}
use Rattle.std.specs.List.{Contains, flat_map}
use Rattle.lisp_records.specs.declared.address.Addr.{Addr}
use Rattle.lisp_messages.specs.declared.fault.ReadFault.{ReadFault}
use Rattle.lisp_messages.specs.Authentic.{is_authentic}
use Rattle.lisp_messages.specs.Reading.{message_at}
use Rattle.lisp_model.specs.declared.event.Event.TheVariants as events
use Rattle.lisp_model.specs.Trace.{EventValue, Step, Opening, address_at, etr_config, sites, is_server}
use Rattle.lisp_model.specs.Bag.{Item, bytes_of, bag}

-- the secrets of a node at a moment: of a server those of all its sites, of a router its own
abbrev pub secrets_of : Opening → List Step → ℕ → List (List ℕ)
secrets_of o T node =
    if is_server o.config node then flat_map (λ s. map (λ k. k.secret) s.keys) (sites o T node)
    else (etr_config o T node).secret ∷ []

-- the bytes are those of a datagram from and to the same addresses
pub record IsEcho (items : List Item) (from to : Addr) (bytes : List ℕ) : Type 0 where
  pub item : Item
  pub sent : Contains items item
  pub source : item.from ≡ from
  pub target : item.to ≡ to
  pub same : bytes_of item ≡ bytes

-- they spell no message
abbrev pub IsNoise : List ℕ → Type 0
IsNoise bytes = (fault : ReadFault) × (message_at bytes ≡ Err fault)

-- they aren't authentic
abbrev pub IsForged : List (List ℕ) → List ℕ → Type 0
IsForged secrets bytes = (secret : List ℕ) → Contains secrets secret → is_authentic bytes secret ≡ false

abbrev pub IsHarmless : Opening → List Step → EventValue → Type 0
IsHarmless o T (events.Junk to from bytes) =
    IsEcho (bag o T) from (address_at o.config to) bytes ⊎ (IsNoise bytes ⊎ IsForged (secrets_of o T to) bytes)
IsHarmless o T _ = Unit {0}

abbrev pub Clean : Opening → List Step → Type 0
Clean o [] = Unit {0}
Clean o (s ∷ T) = IsHarmless o T s.event × Clean o T
