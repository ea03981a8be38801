-- A node of a kind is found by its name.
use Rattle.std.specs.Prelude.{◌≡◌, ◌⊎◌, ℕ, ◌<◌, ◌≤◌, List, length, Some}
use Rattle.lisp_policy.specs.Configuration.{ConfigValue}
use Rattle.lisp_script.specs.RunFault.{numbered}
use Rattle.lisp_script.specs.declared.run_fault.RunFault.{RunFault}
use Rattle.lisp_sites.specs.Numbers.{IsNode, name_at, NoneNamed}
use Rattle.lisp_udp.specs.declared.entry.NodeKind.{NodeKind}
use Rattle.lisp_udp.specs.declared.entry.NodeKind.TheVariants as kinds

-- the node with a number is of the kind
abbrev pub IsOfKind : ConfigValue → NodeKind → ℕ → Type 0
IsOfKind config kinds.Server number = number < length config.servers
IsOfKind config kinds.Router number = length config.servers ≤ number

-- the node with a number is of the kind, and has the name
pub record IsNamed (config : ConfigValue) (kind : NodeKind) (name : List ℕ) (number : ℕ) : Type 0 where
  pub node : IsNode config number
  pub named : name_at config number ≡ Some name
  pub kind_is : IsOfKind config kind number

-- no node has the name; or one of the other kind has it
abbrev pub IsNameFault : ConfigValue → NodeKind → List ℕ → RunFault → Type 0
IsNameFault config kind name fault = ((fault ≡ numbered 70) × NoneNamed config name)
    ⊎ ((fault ≡ numbered 71) × (number : ℕ) × IsNode config number × (name_at config number ≡ Some name) × (IsOfKind config kind number → ⊥))
