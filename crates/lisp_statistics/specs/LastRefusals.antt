-- The last refusal of a datagram from the address of each configured router.
use Rattle.std.specs.Prelude.{◌≡◌, ℕ, Bool, List, Option, Some, None, if◌then◌else◌}
use Rattle.std.specs.Bool.{MatchBool}
use Rattle.std.specs.BTreeMap.{BTreeMap, get, Updates}
use Rattle.std.specs.List.{list_any}
use Rattle.std.specs.Option.{is_some, unwrap_or}
use Rattle.std.specs.Ordering.{eq_by_cmp}
use Rattle.lisp_records.specs.Address.{addr_cmp}
use Rattle.lisp_records.specs.declared.address.Addr.{Addr}
use Rattle.lisp_policy.specs.Configuration.{RouterEntryValue}
use Rattle.lisp_model.specs.Faults.{refusal_number}
use Rattle.lisp_model.specs.declared.line.Line.TheVariants as lines
use Rattle.lisp_turns.specs.declared.outside.Printed.{Printed}
use Rattle.lisp_turns.specs.declared.outside.Printed.TheVariants as printed

-- of a datagram that is refused, the address that it came from, and the number of the refusal; of a Map-Request nothing is told
abbrev pub refused_from : Printed → Option (Addr × ℕ)
refused_from (printed.Heard (lines.Refused node what) from) = Some (from, refusal_number what)
refused_from _ = None

-- an address is that of one of the routers
abbrev pub is_of_router : List RouterEntryValue → Addr → Bool
is_of_router routers address = list_any (λ r. eq_by_cmp addr_cmp r.address address) routers

-- the address of each of them has a place, and no other one has; nothing from it was refused yet
abbrev pub NoneRefused : List RouterEntryValue → BTreeMap Addr (Option ℕ) → Type 0
NoneRefused routers refusals = (address : Addr) → get addr_cmp refusals address ≡ (if is_of_router routers address then Some None else None)

-- a refusal is the last one from its address, if that has a place; else all is as it was
abbrev pub NotesRefusal : BTreeMap Addr (Option ℕ) → BTreeMap Addr (Option ℕ) → Addr → ℕ → Type 0
NotesRefusal old new from number = MatchBool (is_some (get addr_cmp old from)) (Updates addr_cmp old new from (Some (Some number))) (new ≡ old)

abbrev pub RefusesLine : BTreeMap Addr (Option ℕ) → BTreeMap Addr (Option ℕ) → Option (Addr × ℕ) → Type 0
RefusesLine old new (Some refusal) = NotesRefusal old new refusal.0 refusal.1
RefusesLine old new None = new ≡ old

-- the number of the last one from an address
abbrev pub last_refusal : BTreeMap Addr (Option ℕ) → Addr → Option ℕ
last_refusal refusals address = unwrap_or (get addr_cmp refusals address) None
