use Rattle.std.proofs.Common.{◌≡◌, ℕ, length, Ok, ap, rules, arith}
use Rattle.std.proofs.lemmas.Option.{IfSome_then}
use Rattle.std.proofs.lemmas.Result.{IfOk-weaker}
use Rattle.njh_replay.specs.Replayed.{HasScript}
use Rattle.njh_replay.specs.Script.{script_of}
use Rattle.njh_replay.proofs.replaying.read_events.Goals as goal

pub returns-clause-good : goal.returns-clause-good
returns-clause-good g c =
    let within = c.in_ok-text.ensures.within in
    IfOk-weaker c.events_of.result
    (λ events. script_of c.args.tables.now c.deref.result.now ≡ Ok events.items)
    (λ events. HasScript c.args.tables.now (g.R.Read.remaining c.args.script.now) events.items)
    (λ events said. IfSome_then (g.R.Read.remaining c.args.script.now) c.in_ok-text.ensures.text
    (λ text same. let read : c.deref.result.now ≡ text = search rules
    in (omega (arith, ap (length {A = ℕ}) same), rw read at said)))
    c.events_of.ensures.events

pub returns-clause-bad : goal.returns-clause-bad
returns-clause-bad g c = λ number stopped.
    let within = c.in_ok-text.ensures.within in
    let said = c.events_of.ensures.bad number stopped in
    IfSome_then (g.R.Read.remaining c.args.script.now) c.in_ok-text.ensures.text
    (λ text same. let read : c.deref.result.now ≡ text = search rules
    in (omega (arith, ap (length {A = ℕ}) same), rw read at said))
