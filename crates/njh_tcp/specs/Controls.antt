-- Control records, which come before TTBs (NJE over TCP/IP): 33 bytes.
use Rattle.std.specs.Prelude.{◌≡◌, ℕ, if◌then◌else◌, List, [], ◌∷◌, ◌++◌, length, take, drop, nat_eq, slice_index}
use Rattle.std.specs.Prelude.{Option, Some, None}
use Rattle.std.specs.List.{starts_with}
use Rattle.njh_tcp.specs.declared.control.Hosts.{Hosts}
use Rattle.njh_tcp.specs.declared.control.ControlRecord.{ControlRecord}
use Rattle.njh_tcp.specs.declared.control.ControlRecord.TheVariants.{Open, Ack, Nak}

-- OPEN, ACK and NAK in EBCDIC, with blanks behind
abbrev pub open_type : List ℕ
open_type = 0xD6 ∷ 0xD7 ∷ 0xC5 ∷ 0xD5 ∷ 0x40 ∷ 0x40 ∷ 0x40 ∷ 0x40 ∷ []

abbrev pub ack_type : List ℕ
ack_type = 0xC1 ∷ 0xC3 ∷ 0xD2 ∷ 0x40 ∷ 0x40 ∷ 0x40 ∷ 0x40 ∷ 0x40 ∷ []

abbrev pub nak_type : List ℕ
nak_type = 0xD5 ∷ 0xC1 ∷ 0xD2 ∷ 0x40 ∷ 0x40 ∷ 0x40 ∷ 0x40 ∷ 0x40 ∷ []

-- the type, RHOST, RIP, OHOST, OIP, R
abbrev pub record_of : List ℕ → List ℕ → List ℕ → List ℕ → List ℕ → ℕ → List ℕ
record_of kind rhost rip ohost oip reason = kind ++ rhost ++ rip ++ ohost ++ oip ++ reason ∷ []

pub record HaveSizes (kind rhost rip ohost oip : List ℕ) : Type 0 where
  pub kind_size : length kind ≡ 8
  pub rhost_size : length rhost ≡ 8
  pub rip_size : length rip ≡ 4
  pub ohost_size : length ohost ≡ 8
  pub oip_size : length oip ≡ 4

-- Where the hub writes one the addresses are 0.
abbrev pub no_address : List ℕ
no_address = 0 ∷ 0 ∷ 0 ∷ 0 ∷ []

abbrev pub fields : List ℕ → Hosts → ℕ → List ℕ
fields kind hosts reason = record_of kind hosts.from no_address hosts.to no_address reason

abbrev pub control_bytes : ControlRecord → List ℕ
control_bytes (Open hosts) = fields open_type hosts 0
control_bytes (Ack hosts) = fields ack_type hosts 0
control_bytes (Nak hosts reason) = fields nak_type hosts reason

-- RHOST and OHOST have eight bytes each
abbrev pub AreHosts : Hosts → Type 0
AreHosts hosts = (length hosts.from ≡ 8) × (length hosts.to ≡ 8)

abbrev pub hosts_of : ControlRecord → Hosts
hosts_of (Open hosts) = hosts
hosts_of (Ack hosts) = hosts
hosts_of (Nak hosts reason) = hosts

abbrev pub exchanged : Hosts → Hosts
exchanged hosts = record { from = hosts.to; to = hosts.from }

abbrev pub hosts_in : List ℕ → Hosts
hosts_in bytes = record { from = take 8 (drop 8 bytes); to = take 8 (drop 20 bytes) }

-- what 33 bytes are: of the addresses, and of R in OPEN and ACK, nothing is looked at
unfoldable pub control_in : List ℕ → Option ControlRecord
control_in bytes =
    if starts_with nat_eq bytes open_type then Some (Open (hosts_in bytes)) else
    if starts_with nat_eq bytes ack_type then Some (Ack (hosts_in bytes)) else
    if starts_with nat_eq bytes nak_type then Some (Nak (hosts_in bytes) (slice_index bytes 32)) else None
