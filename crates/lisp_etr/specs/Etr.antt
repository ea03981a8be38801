-- What a router is (RFC 9301 section 8.2).
use Rattle.std.specs.Prelude.{ℕ, List, length, map, replicate, Option}
use Rattle.lisp_records.specs.Parts.{part_count}
use Rattle.lisp_records.specs.Record.{MapRecordValue}
use Rattle.lisp_etr.specs.Config.{EtrConfigValue, with_key}
use Rattle.lisp_etr.specs.declared.rounds.Rounds.{Rounds}
use Rattle.lisp_etr.specs.Rounds.{first_rounds, new_rounds, rotated_rounds, due_part, first_part}

-- its configuration; what it registers; its last nonce; what the last save that was done has saved, 0
-- before; and how it stands with each of its Map-Servers
pub record EtrState : Type 0 where
  pub config : EtrConfigValue
  pub database : List MapRecordValue
  pub last : ℕ
  pub safe : ℕ
  pub rounds : List Rounds

-- a router that starts at a time, with its last nonce
abbrev pub etr_started : EtrConfigValue → List MapRecordValue → ℕ → ℕ → EtrState
etr_started config database last now = record { config = config; database = database; last = last; safe = 0; rounds = replicate (length config.servers) (first_rounds now) }

-- a router that registers another database from a time on
abbrev pub etr_changed : EtrState → List MapRecordValue → ℕ → EtrState
etr_changed e database now = record e { database = database; rounds = map (new_rounds now) e.rounds }

-- a router that goes over to another key at a time, with its last nonce under it
abbrev pub etr_rotated : EtrState → ℕ → List ℕ → ℕ → ℕ → EtrState
etr_rotated e key_id secret last now = record {
  config = with_key e.config key_id secret;
  database = e.database;
  last = last;
  safe = 0;
  rounds = map (rotated_rounds now) e.rounds;
}

-- the first of its Map-Servers that is due a Map-Register, and the first part of its database that is due there
abbrev pub due_at : EtrState → ℕ → Option (ℕ × ℕ)
due_at e now = first_part (due_part now (part_count e.database)) e.rounds
