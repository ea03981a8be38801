-- The numbers of the table, and what it is for a table to have them.
use Rattle.std.specs.Prelude.{◌≡◌, ℕ, Bool, List, [], ◌∷◌, map, nat_eq}
use Rattle.std.specs.List.{list_any}
use Rattle.lisp_refusals.specs.declared.row.Section.{Section}

-- refusals of a message
abbrev pub refusals_of_a_message : List ℕ
refusals_of_a_message = 50 ∷ 51 ∷ 52 ∷ 53 ∷ 54 ∷ 55 ∷ 56 ∷ 57 ∷ 58 ∷ 59 ∷ 60 ∷ 61 ∷ 69 ∷ 136 ∷ 137 ∷ 138 ∷ 139 ∷ 140 ∷ 94 ∷ []

-- faults of a notice
abbrev pub faults_of_a_notice : List ℕ
faults_of_a_notice = 62 ∷ 63 ∷ 68 ∷ 64 ∷ 66 ∷ 65 ∷ 67 ∷ []

-- faults of a router that starts
abbrev pub faults_of_a_router_that_starts : List ℕ
faults_of_a_router_that_starts = 36 ∷ 35 ∷ []

-- faults of a router that sends
abbrev pub faults_of_a_router_that_sends : List ℕ
faults_of_a_router_that_sends = 40 ∷ 49 ∷ 41 ∷ 48 ∷ 42 ∷ []

-- faults of a router that changes its key
abbrev pub faults_of_a_router_that_changes_its_key : List ℕ
faults_of_a_router_that_changes_its_key = 37 ∷ 38 ∷ []

-- refusals of a router
abbrev pub refusals_of_a_router : List ℕ
refusals_of_a_router = 43 ∷ 44 ∷ 45 ∷ 46 ∷ 47 ∷ 48 ∷ []

-- why bytes are not a message
abbrev pub why_bytes_are_not_a_message : List ℕ
why_bytes_are_not_a_message = 1 ∷ 9 ∷ 10 ∷ 11 ∷ 12 ∷ 13 ∷ 14 ∷ 15 ∷ []

-- why bytes are not a record
abbrev pub why_bytes_are_not_a_record : List ℕ
why_bytes_are_not_a_record = 1 ∷ 2 ∷ 3 ∷ 9 ∷ []

-- why bytes are not a Map-Request, a Map-Reply or an encapsulated message
abbrev pub why_bytes_are_not_a_request : List ℕ
why_bytes_are_not_a_request = 9 ∷ 110 ∷ 111 ∷ 112 ∷ 113 ∷ 114 ∷ 115 ∷ 116 ∷ 117 ∷ 118 ∷ 119 ∷ 120 ∷ 121 ∷ 122 ∷ 123 ∷ 124 ∷ 125 ∷ []

-- why a node takes nothing of a Map-Request, or holds back what it would send
abbrev pub why_a_request_is_not_answered : List ℕ
why_a_request_is_not_answered = 126 ∷ 127 ∷ 128 ∷ 129 ∷ 130 ∷ 135 ∷ []

-- faults of a configuration
abbrev pub faults_of_a_configuration : List ℕ
faults_of_a_configuration = 20 ∷ 21 ∷ 22 ∷ 23 ∷ 24 ∷ 25 ∷ []

-- faults of a database
abbrev pub faults_of_a_database : List ℕ
faults_of_a_database = 4 ∷ 5 ∷ []

-- faults of a store of nonces
abbrev pub faults_of_a_store_of_nonces : List ℕ
faults_of_a_store_of_nonces = 30 ∷ 31 ∷ 32 ∷ []

-- faults of a network
abbrev pub faults_of_a_network : List ℕ
faults_of_a_network = 70 ∷ 71 ∷ 78 ∷ 77 ∷ 72 ∷ 73 ∷ 74 ∷ 75 ∷ 76 ∷ []

-- faults of a script
abbrev pub faults_of_a_script : List ℕ
faults_of_a_script = 80 ∷ 81 ∷ 82 ∷ 83 ∷ 84 ∷ 85 ∷ 86 ∷ []

-- refusals of a socket
abbrev pub refusals_of_a_socket : List ℕ
refusals_of_a_socket = 90 ∷ 91 ∷ []

-- faults of the program
abbrev pub faults_of_the_program : List ℕ
faults_of_the_program = 87 ∷ 88 ∷ 89 ∷ 92 ∷ 93 ∷ 95 ∷ 96 ∷ 97 ∷ 98 ∷ 99 ∷ 131 ∷ 132 ∷ 133 ∷ 134 ∷ 141 ∷ 142 ∷ 143 ∷ 144 ∷ 145 ∷ []

-- refusals of the library for C programs
abbrev pub refusals_of_the_library : List ℕ
refusals_of_the_library = 100 ∷ 101 ∷ 102 ∷ 103 ∷ 104 ∷ 105 ∷ 106 ∷ []

-- the numbers of each section, in the order of the document
unfoldable pub numbers : List (List ℕ)
numbers = refusals_of_a_message
    ∷ faults_of_a_notice
    ∷ faults_of_a_router_that_starts
    ∷ faults_of_a_router_that_sends
    ∷ faults_of_a_router_that_changes_its_key
    ∷ refusals_of_a_router
    ∷ why_bytes_are_not_a_message
    ∷ why_bytes_are_not_a_record
    ∷ why_bytes_are_not_a_request
    ∷ why_a_request_is_not_answered
    ∷ faults_of_a_configuration
    ∷ faults_of_a_database
    ∷ faults_of_a_store_of_nonces
    ∷ faults_of_a_network
    ∷ faults_of_a_script
    ∷ refusals_of_a_socket
    ∷ faults_of_the_program
    ∷ refusals_of_the_library
    ∷ []

-- whether a section has a row with the number
unfoldable pub is_known : ℕ → Bool
is_known number = list_any (list_any (λ n. nat_eq n number)) numbers

abbrev pub section_numbers : Section → List ℕ
section_numbers section = map (λ row. row.number) section.rows.now

-- the rows of a table, by its sections, have exactly these numbers
abbrev pub HasNumbers : List Section → Type 0
HasNumbers sections = map section_numbers sections ≡ numbers
