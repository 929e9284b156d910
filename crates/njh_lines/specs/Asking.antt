-- How a line over TCP/IP is given a connection: whose OPEN names it, or which it dialled and whose peer answered ACK.
use Rattle.std.specs.Prelude.{◌≡◌, ℕ, Bool, true, false, List, min, fold, Some, None}
use Rattle.njh_table.specs.declared.Role.{Role}
use Rattle.njh_table.specs.declared.Role.TheVariants.{Call, Answer}
use Rattle.njh_open.specs.Verdicts.{IsVerdict}
use Rattle.njh_open.specs.Waits.{late_at}
use Rattle.njh_open.specs.declared.caller.CallOutcome.TheVariants.{Acknowledged}
use Rattle.njh_open.specs.declared.verdict.Vacancy.{Vacancy}
use Rattle.njh_open.specs.declared.verdict.Vacancy.TheVariants.{Free, Taken, Stopped}
use Rattle.njh_open.specs.declared.verdict.Verdict.TheVariants.{Connected}
use Rattle.njh_anteroom.specs.declared.guest.Guest.{Guest}
use Rattle.njh_sites.specs.Asking.{answer_bytes, IsAsked, IsCallHeard}
use Rattle.njh_sites.specs.Dialling.{connection_in}
use Rattle.njh_sites.specs.declared.asking.Asking.{Asking}
use Rattle.njh_sites.specs.declared.dial.DialState.{DialState}
use Rattle.njh_wire.specs.Standing.{Standing, after_admission, after_displacement}

-- a connection carries the frames of a line from now on, which has it in place of the one that it had
pub record IsGivenByTcp {C : Type 0} (over_tcp : Role → C → C → Type 0) (role : Role) (connection : C)
    (wire new : Standing C) : Type 0 where
  pub made : C
  pub over : over_tcp role connection made
  pub stands : new ≡ record (after_admission made (after_displacement wire)) { end = None }

-- The line was given to who asked for it: the OPEN, of 33 bytes that came and none behind them, names the line's node
-- and the hub, while the line was free; and ACK went out.
pub record IsGivenByOpen {C : Type 0} (moved : C → C → List ℕ → List ℕ → Type 0) (over_tcp : Role → C → C → Type 0)
    (node hub : List ℕ) (before : Asking C) (wire new : Standing C) : Type 0 where
  pub after : Asking C
  pub named : IsVerdict node hub Free after.asker.came Connected
  pub answered : IsAsked moved before after (answer_bytes Connected after.asker.came)
  pub given : IsGivenByTcp over_tcp Answer after.connection wire new

-- the connection of a dial carries the frames of its line
pub record IsJoined {C : Type 0} (over_tcp : Role → C → C → Type 0) (state : DialState C) (wire new : Standing C) :
    Type 0 where
  pub connection : C
  pub there : connection_in state ≡ Some connection
  pub given : IsGivenByTcp over_tcp Call connection wire new

-- The line was given a connection that was dialled: ACK came, and nothing behind it was read.
pub record IsGivenByAck {C : Type 0} (moved : C → C → List ℕ → List ℕ → Type 0) (over_tcp : Role → C → C → Type 0)
    (state : DialState C) (now : ℕ) (wire new : Standing C) : Type 0 where
  pub heard : DialState C
  pub acknowledged : IsCallHeard moved state heard now Acknowledged
  pub joined : IsJoined over_tcp heard wire new

-- how a line is to who asks for it
abbrev pub vacancy_of : (is_stopped keeps : Bool) → Vacancy
vacancy_of true keeps = Stopped
vacancy_of false true = Taken
vacancy_of false false = Free

-- when the first of those who ask is waited for no more; the last moment of all if nobody asks
abbrev pub first_late : {C : Type 0} → List (Guest (Asking C)) → ℕ
first_late waiting = fold (λ least guest. min least (late_at guest.connection.asker)) 18446744073709551615 waiting
