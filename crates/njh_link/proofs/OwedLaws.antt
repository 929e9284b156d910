-- An Ack0 is given where it is owed, and then none is owed until the line writes.
use Rattle.std.proofs.Common.{ℕ, ◌+◌, ◌≤◌, Bool, true, false, IsTrue, List, [], ◌∷◌, arith}
use Rattle.std.specs.Prelude.{Ok, Err}
use Rattle.std.specs.List.{AllByRecursion}
use Rattle.njh_tcp.specs.Carried.{Carried, Enquiry, Ack0, Text}
use Rattle.njh_tcp.specs.Hearing.{Outcome}
use Rattle.njh_tcp.specs.ByteSteps.{outcomes_after, rest_after}
use Rattle.njh_link.specs.Links.{LinkState, after_outcomes, with_given}
use Rattle.njh_link.specs.Acts.{LinkAct, Came, Gave, Acknowledged, Wrote, Went, KeptAlive, SignedOff}
use Rattle.njh_link.specs.Acts.{after_act, AreAllowed, IsAllowed, IsUnwritten, acknowledged_by, acknowledged_in}

-- how many Ack0s can be given before the line writes
abbrev owed_count : Bool → ℕ
owed_count true = 1
owed_count false = 0

within_one : (owed : Bool) → owed_count owed ≤ 1
within_one true = omega arith
within_one false = omega arith

no_more : (owed : Bool) → 0 ≤ owed_count owed
no_more owed = omega arith

-- what comes owes nothing
given-owed : (carried : Carried) (s : LinkState)
    → owed_count (with_given carried s).talk.owed ≤ owed_count s.talk.owed
given-owed Enquiry s = omega arith
given-owed Ack0 s = omega arith
given-owed (Text text) s = no_more s.talk.owed

outcomes-owed : (outcomes : List Outcome) (s : LinkState)
    → owed_count (after_outcomes outcomes s).talk.owed ≤ owed_count s.talk.owed
outcomes-owed [] s = omega arith
outcomes-owed (Ok carried ∷ outcomes) s =
    let later = outcomes-owed outcomes (with_given carried s) in
    let first = given-owed carried s in
    omega arith
outcomes-owed (Err fault ∷ outcomes) s = outcomes-owed outcomes s

owed_one : (owed : Bool) → IsTrue owed → 1 ≤ owed_count owed
owed_one true owed = omega arith
owed_one false owed = absurd (cc)

owed-step : (act : LinkAct) (s : LinkState) → IsAllowed act s → IsUnwritten act
    → acknowledged_by act + owed_count (after_act act s).talk.owed ≤ owed_count s.talk.owed
owed-step (Came bytes) s may un =
    let owed = outcomes-owed (outcomes_after s.coming bytes) (record s { coming = rest_after s.coming bytes }) in
    omega arith
owed-step (Gave count) s may un = omega arith
owed-step Acknowledged s may un = owed_one s.talk.owed may.owed
owed-step (Wrote bytes) s may un = absurd un
owed-step (Went count) s may un = omega arith
owed-step KeptAlive s may un = omega arith
owed-step SignedOff s may un = omega arith

owed-acts : (acts : List LinkAct) (s : LinkState) → AreAllowed acts s → AllByRecursion IsUnwritten acts
    → acknowledged_in acts ≤ owed_count s.talk.owed
owed-acts [] s may un = no_more s.talk.owed
owed-acts (act ∷ acts) s may un =
    let first = owed-step act s may.0 un.0 in
    let later = owed-acts acts (after_act act s) may.1 un.1 in
    omega arith

pub one_at_most : (acts : List LinkAct) (s : LinkState) → AreAllowed acts s → AllByRecursion IsUnwritten acts
    → acknowledged_in acts ≤ 1
one_at_most acts s may un =
    let owed = owed-acts acts s may un in
    let one = within_one s.talk.owed in
    omega arith
