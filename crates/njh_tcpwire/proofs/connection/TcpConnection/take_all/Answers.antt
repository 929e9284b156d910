use Rattle.std.proofs.Common.{◌≡◌, ◌∙◌, ℕ, ◌+◌, ap, arith, refl, sym}
use Rattle.std.specs.Prelude.{Option, Result, Ok}
use Rattle.njh_wire.specs.declared.connection.ConnectionFault.{ConnectionFault}
use Rattle.njh_tcpwire.specs.Moves.{IsOfSend, count_taken}
use Rattle.njh_tcpwire.specs.code.MovesLaws.{moves_none}
use Rattle.njh_tcpwire.proofs.StepLaws.{gone_more, moves_more, within_more}
use Rattle.njh_tcpwire.proofs.connection.TcpConnection.take_all.Goals as goal

-- how many were taken, by what was answered
counted : (result : Result (Option ℕ) ConnectionFault) (inside found : Option ℕ) → result ≡ Ok inside → inside ≡ found
    → count_taken result ≡ count_taken (Ok found)
counted result inside found is its =
    ap count_taken is ∙ ap (λ (count : Option ℕ). count_taken (Ok count)) its

-- none were taken at first
pub loop-init : goal.loop-init
loop-init g c = record {
  moved = moves_none IsOfSend g.C.Connection.moved g.met.C.Connection.none c.args.self.now;
  within = omega arith;
  gone = λ some none. absurd (omega (arith, some, none));
  place = refl;
}

-- then some more
pub loop-preserved : goal.loop-preserved
loop-preserved g c =
    let so_far = c.loop.invariant in
    let many : c.loop.taken + c.in-Ok-Some.count ≡ c.loop.taken + count_taken c.take_some.result =
    ap (λ (n : ℕ). c.loop.taken + n) (sym (counted _ _ _ c.in-Ok-Some.is c.in-Ok-Some.field-0-is)) in record {
      moved = moves_more g.C.Connection.moved g.met.C.Connection.more _ _ _ c.args.bytes.now c.loop.taken _ _ many
          so_far.within so_far.moved c.take_some.ensures.moved;
      within = within_more c.args.bytes.now c.loop.taken _ _ many so_far.within c.take_some.ensures.within;
      gone = gone_more c.args.bytes.now c.loop.taken _ _ _ _ many so_far.within so_far.gone c.take_some.ensures.idle
          c.take_some.ensures.gone;
      place = c.take_some.ensures.place ∙ so_far.place;
    }

-- or no more
pub returns-in-Ok-None-clause-moved : goal.returns-in-Ok-None-clause-moved
returns-in-Ok-None-clause-moved g c =
    let so_far = c.loop.invariant in
    let none = counted _ _ _ c.in-Ok-None.is c.in-Ok-None.field-0-is in
    moves_more g.C.Connection.moved g.met.C.Connection.more _ _ _ c.args.bytes.now c.loop.taken _ c.loop.taken
    (omega (arith, none)) so_far.within so_far.moved c.take_some.ensures.moved

pub returns-in-Ok-None-clause-gone : goal.returns-in-Ok-None-clause-gone
returns-in-Ok-None-clause-gone g c =
    let so_far = c.loop.invariant in
    let none = counted _ _ _ c.in-Ok-None.is c.in-Ok-None.field-0-is in
    gone_more c.args.bytes.now c.loop.taken _ c.loop.taken _ _ (omega (arith, none)) so_far.within so_far.gone
    c.take_some.ensures.idle c.take_some.ensures.gone

-- or the other connection failed, at first
pub returns-in-Err-clause-moved : goal.returns-in-Err-clause-moved
returns-in-Err-clause-moved g c =
    let so_far = c.loop.invariant in
    let none = ap count_taken c.in-Err.is in
    moves_more g.C.Connection.moved g.met.C.Connection.more _ _ _ c.args.bytes.now c.loop.taken _ 0
    (omega (arith, none)) so_far.within so_far.moved c.take_some.ensures.moved

-- or behind some
pub returns-in-Err-2-clause-moved : goal.returns-in-Err-2-clause-moved
returns-in-Err-2-clause-moved g c =
    let so_far = c.loop.invariant in
    let none = ap count_taken c.in-Err-2.is in
    moves_more g.C.Connection.moved g.met.C.Connection.more _ _ _ c.args.bytes.now c.loop.taken _ c.loop.taken
    (omega (arith, none)) so_far.within so_far.moved c.take_some.ensures.moved
