use Rattle.std.proofs.Common.{◌≡◌, ◌∙◌, ap, sym, false, cond, Bool, None}
use Rattle.std.specs.Prelude.{position}
use Rattle.njh_anteroom.specs.Addresses.{is_loopback}
use Rattle.njh_anteroom.specs.Waiting.{is_from}
use Rattle.njh_anteroom.proofs.QueueLaws.{found_in, free_where_none, if_some_is, number_at, within}
use Rattle.njh_anteroom.proofs.queue.Queue.place_of.Goals as goal

pub returns-else-is_loopback-clause-place : goal.returns-else-is_loopback-clause-place
returns-else-is_loopback-clause-place g c =
    let stranger : is_loopback c.args.number ≡ false = sym c.is_loopback.ensures ∙ c.if-is_loopback.false in
    found_in (is_from {C = g.row.C.Denot} c.args.number) _ _ _ _ c.place_from.ensures c.deref.ensures.value
    c.self.view_is
    ∙ sym (ap (λ (b : Bool). cond b None (position (is_from {C = g.row.C.Denot} c.args.number) c.args.self.now))
    stranger)

pub returns-else-is_loopback-clause-fits : goal.returns-else-is_loopback-clause-fits
returns-else-is_loopback-clause-fits g c =
    let found = found_in (is_from {C = g.row.C.Denot} c.args.number) _ _ _ _ c.place_from.ensures c.deref.ensures.value
    c.self.view_is in
    if_some_is c.place_from.result
    (λ place is. (
      within (is_from {C = g.row.C.Denot} c.args.number) c.args.self.now place (sym found ∙ is),
      number_at c.args.number c.args.self.now place (sym found ∙ is),
    ))

pub returns-else-is_loopback-clause-free : goal.returns-else-is_loopback-clause-free
returns-else-is_loopback-clause-free g c =
    λ none stranger. free_where_none c.args.number c.args.self.now
    (sym (found_in (is_from {C = g.row.C.Denot} c.args.number) _ _ _ _ c.place_from.ensures c.deref.ensures.value
    c.self.view_is) ∙ none)
