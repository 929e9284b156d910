-- To whom a line is given, and what an answer tells.
use Rattle.std.proofs.Common.{◌≡◌, ℕ, List, refl, ap, ◌∙◌}
use Rattle.std.specs.Prelude.{Option, Some, None}
use Rattle.njh_tcp.specs.Controls.{control_in, exchanged, hosts_of}
use Rattle.njh_tcp.specs.declared.control.Hosts.{Hosts}
use Rattle.njh_tcp.specs.declared.control.ControlRecord.{ControlRecord}
use Rattle.njh_tcp.specs.declared.control.ControlRecord.TheVariants.{Open, Ack, Nak}
use Rattle.njh_open.specs.Verdicts.{IsRecordVerdict, IsVerdict, answer_to}
use Rattle.njh_open.specs.declared.verdict.Vacancy.{Vacancy}
use Rattle.njh_open.specs.declared.verdict.Vacancy.TheVariants.{Free}
use Rattle.njh_open.specs.declared.verdict.Verdict.{Verdict}
use Rattle.njh_open.specs.declared.verdict.Verdict.TheVariants.{Connected, Second, WhileStopped, OtherNames, NoOpen}

given-record : (node hub : List ℕ) (vacancy : Vacancy) (control : Option ControlRecord)
    → IsRecordVerdict node hub vacancy control Connected
    → (control ≡ Some (Open (record { from = node; to = hub }))) × (vacancy ≡ Free)
given-record node hub vacancy (Some (Open hosts)) is =
    let from = ap (λ (name : List ℕ). Some (Open (record { from = name; to = hosts.to }))) is.0.0 in
    let to = ap (λ (name : List ℕ). Some (Open (record { from = node; to = name }))) is.0.1 in
    (from ∙ to, is.1)
given-record node hub vacancy (Some (Ack hosts)) is = absurd (cc)
given-record node hub vacancy (Some (Nak hosts reason)) is = absurd (cc)
given-record node hub vacancy None is = absurd (cc)

pub given_line : (node hub bytes : List ℕ) (vacancy : Vacancy) → IsVerdict node hub vacancy bytes Connected
    → (control_in bytes ≡ Some (Open (record { from = node; to = hub }))) × (vacancy ≡ Free)
given_line node hub bytes vacancy is = given-record node hub vacancy (control_in bytes) is

pub answered_ack : (verdict : Verdict) (hosts answer : Hosts) → answer_to verdict hosts ≡ Ack answer
    → verdict ≡ Connected
answered_ack Connected hosts answer is = refl
answered_ack Second hosts answer is = absurd (cc)
answered_ack WhileStopped hosts answer is = absurd (cc)
answered_ack (OtherNames others) hosts answer is = absurd (cc)
answered_ack NoOpen hosts answer is = absurd (cc)

pub told_names : (verdict : Verdict) (hosts : Hosts) → hosts_of (answer_to verdict hosts) ≡ exchanged hosts
told_names Connected hosts = refl
told_names Second hosts = refl
told_names WhileStopped hosts = refl
told_names (OtherNames others) hosts = refl
told_names NoOpen hosts = refl
