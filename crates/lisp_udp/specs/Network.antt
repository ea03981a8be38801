-- A network whose datagrams go over sockets: what it comes to that a command is taken.
use Rattle.std.specs.Prelude.{◌≡◌, ℕ, Bool, true, false, List, [], ◌∷◌, length, drop, slice_get, Option, Some, None}
use Rattle.std.specs.Io.KnownBytes.{Appends, Keeps}
use Rattle.std.specs.Option.{option_map}
use Rattle.lisp_model.specs.declared.event.Event.TheVariants.{Deliver}
use Rattle.lisp_refinement.specs.World.{DatagramValue, WorldState}
use Rattle.lisp_script.specs.Command.{CommandValue}
use Rattle.lisp_script.specs.declared.command.Command.TheVariants.{Act}
use Rattle.lisp_udp.specs.Sockets.{SocketValue, TellsArrival, SendsOne}

-- the datagram that the first command waits for, with its number: the one that it delivers, if it was sent
abbrev pub awaited : WorldState → List CommandValue → Option (ℕ × DatagramValue)
awaited w (Act (Deliver k fate) ∷ orders) = option_map (λ d. (k, d)) (slice_get w.bag k)
awaited w _ = None

-- whether it may be taken, and what is printed of the datagram that it waits for
abbrev pub TellsAwaited : Option (ℕ × DatagramValue) → List SocketValue → List SocketValue → Bool → List ℕ → Type 0
TellsAwaited None old new arrived text = (new ≡ old) × (arrived ≡ true) × (text ≡ [])
TellsAwaited (Some d) old new arrived text = TellsArrival old new d.0 d.1 arrived text

-- datagrams are sent, one after the other, and what is printed of each. `before` and `after` are what the writer has
abbrev pub SendsAll : List SocketValue → List SocketValue → List DatagramValue → Option (List ℕ) → Option (List ℕ) → Type 0
SendsAll old new [] before after = (new ≡ old) × (after ≡ before)
SendsAll old new (d ∷ others) before after = (between : List SocketValue) × (text : List ℕ) × (told : Option (List ℕ))
    × SendsOne old between d text × Appends before told text × SendsAll between new others told after

-- a command may be taken: it is played, and what it adds to the datagrams is sent. Else nothing is done
abbrev pub GoesOn : (Plays : Option (List ℕ) → Option (List ℕ) → Type 0) → WorldState → WorldState → List SocketValue → List SocketValue
    → Option (List ℕ) → Option (List ℕ) → Bool → Type 0
GoesOn Plays old new heard left told after true = (played : Option (List ℕ)) × (flushed : Option (List ℕ)) × Plays told played
    × Keeps played flushed × SendsAll heard left (drop (length old.bag) new.bag) flushed after
GoesOn Plays old new heard left told after false = (new ≡ old) × (left ≡ heard) × (after ≡ told)

-- a command is taken, if it waits for no datagram or that arrives
pub record TakesCommand (Plays : Option (List ℕ) → Option (List ℕ) → Type 0) (old new : WorldState) (sockets left : List SocketValue)
    (orders : List CommandValue) (before after : Option (List ℕ)) : Type 0 where
  pub arrived : Bool
  pub heard : List SocketValue
  pub text : List ℕ
  pub waits : TellsAwaited (awaited old orders) sockets heard arrived text
  pub told : Option (List ℕ)
  pub appends : Appends before told text
  pub goes_on : GoesOn Plays old new heard left told after arrived

-- commands are taken, one after the other
abbrev pub TakesAll : (Plays : WorldState → WorldState → List CommandValue → Option (List ℕ) → Option (List ℕ) → Type 0) → WorldState → WorldState
    → List SocketValue → List SocketValue → List CommandValue → Option (List ℕ) → Option (List ℕ) → Type 0
TakesAll Plays old new sockets left [] before after = (new ≡ old) × (left ≡ sockets) × (after ≡ before)
TakesAll Plays old new sockets left (order ∷ orders) before after = (between : WorldState) × (heard : List SocketValue) × (told : Option (List ℕ))
    × TakesCommand (Plays old between (order ∷ [])) old between sockets heard (order ∷ []) before told × TakesAll Plays between new heard left orders told after
