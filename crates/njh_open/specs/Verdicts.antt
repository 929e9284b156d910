-- What becomes of who asks for a line, and what it is answered (NJE over TCP/IP).
use Rattle.std.specs.Prelude.{◌≡◌, ℕ, List, Option, Some}
use Rattle.njh_tcp.specs.Controls.{control_in, exchanged}
use Rattle.njh_tcp.specs.declared.control.Hosts.{Hosts}
use Rattle.njh_tcp.specs.declared.control.ControlRecord.{ControlRecord}
use Rattle.njh_tcp.specs.declared.control.ControlRecord.TheVariants.{Open, Ack, Nak}
use Rattle.njh_open.specs.declared.verdict.Vacancy.{Vacancy}
use Rattle.njh_open.specs.declared.verdict.Vacancy.TheVariants.{Free, Taken, Stopped}
use Rattle.njh_open.specs.declared.verdict.Verdict.{Verdict}
use Rattle.njh_open.specs.declared.verdict.Verdict.TheVariants.{Connected, Second, WhileStopped, OtherNames, NoOpen}

-- RHOST is the line's node, and OHOST is the hub.
abbrev pub AreRight : (node hub : List ℕ) → Hosts → Type 0
AreRight node hub hosts = (hosts.from ≡ node) × (hosts.to ≡ hub)

-- What an OPEN with such names becomes.
abbrev pub IsOpenVerdict : (node hub : List ℕ) → Vacancy → Hosts → Verdict → Type 0
IsOpenVerdict node hub vacancy hosts Connected = AreRight node hub hosts × (vacancy ≡ Free)
IsOpenVerdict node hub vacancy hosts Second = AreRight node hub hosts × (vacancy ≡ Taken)
IsOpenVerdict node hub vacancy hosts WhileStopped = AreRight node hub hosts × (vacancy ≡ Stopped)
IsOpenVerdict node hub vacancy hosts (OtherNames others) = (¬ AreRight node hub hosts) × (others ≡ hosts)
IsOpenVerdict node hub vacancy hosts NoOpen = ⊥

-- It is an OPEN, and what that becomes; or it is none.
abbrev pub IsRecordVerdict : (node hub : List ℕ) → Vacancy → Option ControlRecord → Verdict → Type 0
IsRecordVerdict node hub vacancy (Some (Open hosts)) verdict = IsOpenVerdict node hub vacancy hosts verdict
IsRecordVerdict node hub vacancy other verdict = verdict ≡ NoOpen

abbrev pub IsVerdict : (node hub : List ℕ) → Vacancy → (bytes : List ℕ) → Verdict → Type 0
IsVerdict node hub vacancy bytes verdict = IsRecordVerdict node hub vacancy (control_in bytes) verdict

-- The answer has the names that came, exchanged. R is 2 where the line is taken, 4 where it is stopped, and else 1.
abbrev pub answer_to : Verdict → Hosts → ControlRecord
answer_to Connected hosts = Ack (exchanged hosts)
answer_to Second hosts = Nak (exchanged hosts) 2
answer_to WhileStopped hosts = Nak (exchanged hosts) 4
answer_to (OtherNames others) hosts = Nak (exchanged hosts) 1
answer_to NoOpen hosts = Nak (exchanged hosts) 1
