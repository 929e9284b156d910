-- Who asks for a line over TCP/IP, and what it is answered; and what the peer answers that was dialled.
use Rattle.std.specs.Prelude.{◌≡◌, ℕ, ◌⊎◌, List, [], ◌++◌, length, take}
use Rattle.njh_tcp.specs.Controls.{control_bytes, hosts_in}
use Rattle.njh_tcp.specs.declared.control.ControlRecord.{ControlRecord}
use Rattle.njh_open.specs.Calls.{call_outcome}
use Rattle.njh_open.specs.Verdicts.{answer_to, IsVerdict}
use Rattle.njh_open.specs.Waits.{Wait}
use Rattle.njh_open.specs.declared.caller.CallOutcome.{CallOutcome}
use Rattle.njh_open.specs.declared.caller.CallOutcome.TheVariants as outcomes
use Rattle.njh_open.specs.declared.verdict.Vacancy.{Vacancy}
use Rattle.njh_open.specs.declared.verdict.Verdict.{Verdict}
use Rattle.njh_sites.specs.declared.asking.Asking.{Asking}
use Rattle.njh_sites.specs.declared.asking.Heard.{Heard}
use Rattle.njh_sites.specs.declared.asking.Heard.TheVariants.{Waits, Gone, Answered}
use Rattle.njh_sites.specs.declared.dial.DialState.{DialState}
use Rattle.njh_sites.specs.declared.dial.DialState.TheVariants as states

-- the bytes of the answer to who sent these 33
abbrev pub answer_bytes : Verdict → (came : List ℕ) → List ℕ
answer_bytes verdict came = control_bytes (answer_to verdict (hosts_in came))

-- What came was taken for the control record that is waited for, and nothing behind it was read; and these bytes went
-- out.
pub record IsHeard {C : Type 0} (moved : C → C → List ℕ → List ℕ → Type 0) (before after : C) (wait new_wait : Wait)
    (went : List ℕ) : Type 0 where
  pub bytes : List ℕ
  pub moves : moved before after bytes went
  pub took : new_wait ≡ record wait { came = wait.came ++ bytes }

-- So it is with who asks for a line.
abbrev pub IsAsked : {C : Type 0} → (C → C → List ℕ → List ℕ → Type 0) → Asking C → Asking C → (went : List ℕ) → Type 0
IsAsked moved before after went = IsHeard moved before.connection after.connection before.asker after.asker went

-- Once 33 bytes came it is answered what its verdict says, and by nothing else; before that nothing goes out.
abbrev pub IsAnswer : {C : Type 0} → (C → C → List ℕ → List ℕ → Type 0) → (node hub : List ℕ) → Vacancy → Asking C →
    Asking C → Heard → Type 0
IsAnswer moved node hub vacancy before after Waits = IsAsked moved before after []
IsAnswer moved node hub vacancy before after (Answered verdict) = (length after.asker.came ≡ 33)
    × (IsVerdict node hub vacancy after.asker.came verdict
    × IsAsked moved before after (answer_bytes verdict after.asker.came))
IsAnswer {C} moved node hub vacancy before after Gone = IsAsked moved before after []
    ⊎ ((verdict : Verdict) × ((count : ℕ) × ((length after.asker.came ≡ 33)
    × (IsVerdict node hub vacancy after.asker.came verdict
    × IsAsked moved before after (take count (answer_bytes verdict after.asker.came))))))

-- What became of an OPEN is what the answer says, as far as it came; or no answer comes any more.
abbrev pub IsOutcome : Wait → (now : ℕ) → CallOutcome → Type 0
IsOutcome wait now outcome = (call_outcome wait now ≡ outcome)
    ⊎ ((call_outcome wait now ≡ outcomes.Waits) × (outcome ≡ outcomes.NoAnswer))

-- So it is with a dial that waits for an answer. Else there is nothing to hear.
abbrev pub IsCallHeard : {C : Type 0} → (C → C → List ℕ → List ℕ → Type 0) → DialState C → DialState C → (now : ℕ) →
    CallOutcome → Type 0
IsCallHeard moved (states.Asking before wait) (states.Asking after new_wait) now outcome =
    IsHeard moved before after wait new_wait [] × IsOutcome new_wait now outcome
IsCallHeard moved (states.Asking before wait) state now outcome = ⊥
IsCallHeard moved (states.Resting moment) state now outcome =
    (outcome ≡ outcomes.Waits) × (state ≡ states.Resting moment)
IsCallHeard moved (states.Dialling connection moment) state now outcome =
    (outcome ≡ outcomes.Waits) × (state ≡ states.Dialling connection moment)
IsCallHeard moved states.Connected state now outcome = (outcome ≡ outcomes.Waits) × (state ≡ states.Connected)

-- An OPEN went out whole on a connection that was made, and its answer is waited for since.
abbrev pub IsOpened : {C : Type 0} → (C → C → List ℕ → List ℕ → Type 0) → DialState C → DialState C →
    (open_record : ControlRecord) → (now : ℕ) → Type 0
IsOpened moved (states.Dialling before moment) (states.Asking after wait) open_record now =
    moved before after [] (control_bytes open_record) × (wait ≡ record { came = []; since = now })
IsOpened moved (states.Dialling before moment) state open_record now = ⊥
IsOpened moved (states.Resting moment) state open_record now = ⊥
IsOpened moved (states.Asking before wait) state open_record now = ⊥
IsOpened moved states.Connected state open_record now = ⊥
