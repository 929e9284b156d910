use Rattle.std.proofs.Common.{◌≡◌, ◌<◌, ◌≤◌, length, set, ap, sym, subst, ◌∙◌, arith}
use Rattle.std.proofs.lemmas.List.{get_or-set_other, get_or_read, length-map}
use Rattle.njh_lines.specs.Attention.{at_once, watch_at, AreCalled}
use Rattle.njh_lines.specs.Resting.{IsLinesMoment}
use Rattle.njh_lines.specs.declared.attention.Watch.{Watch}
use Rattle.njh_lines.proofs.MomentLaws.{moment_called}
use Rattle.njh_lines.specs.Watching.{served_line, Watched}
use Rattle.njh_lines.specs.declared.post.Post.{Post}
use Rattle.njh_lines.proofs.CallLaws.{one_called, one_early}
use Rattle.njh_lines.proofs.GroupLaws.{line_called}
use Rattle.njh_lines.proofs.waking.call.Goals as goal

-- its group is looked at then too
pub invariant_of-exchange : goal.invariant_of-exchange
invariant_of-exchange g c =
    line_called _ c.exchange.inside.ready.items c.exchange.inside.watches.items c.exchange.inside.groups.items _
    c.exchange.inside.next _ c.args.place c.exchange.inside.surroundings.now c.index_mut.result.now c.call.new.self
    (omega (arith, c.if-len-place.false, c.exchange.invariant.many_watches)) c.index_mut.ensures.value
    c.call.ensures c.call_group.ensures.many c.min-exchange-inside.ensures
    c.call_group.ensures.lowers c.call_group.ensures.calls c.call_group.ensures.others
    c.call_group.ensures.stays c.exchange.invariant

pub returns-clause-calls : goal.returns-clause-calls
returns-clause-calls g c =
    let Calls : Watched → Type 0 = λ seen. AreCalled seen.now seen.watches
    (set c.exchange.inside.watches.items c.args.place c.call.new.self) in
    subst Calls c.exchange.view_is (one_called c.exchange.inside.surroundings.now c.exchange.inside.watches.items
    c.args.place c.index_mut.result.now c.call.new.self (omega (arith, c.if-len-place.false))
    c.index_mut.ensures.value c.call.ensures)

pub returns-clause-others : goal.returns-clause-others
returns-clause-others g c = λ other apart.
    let Same : Watched → Type 0 = λ seen.
    watch_at (set c.exchange.inside.watches.items c.args.place c.call.new.self) other
    ≡ watch_at seen.watches other in
    subst Same c.exchange.view_is (get_or-set_other c.exchange.inside.watches.items c.args.place other c.call.new.self
    at_once apart)

-- the attendant waits no longer
pub returns-clause-waits : goal.returns-clause-waits
returns-clause-waits g c = λ first.
    let w = c.exchange.inside.watches.items in
    let lines = length-map c.exchange.inside.posts.items
    (λ (post : Post g.row.N-Listener.Denot g.row.N-Connection.Denot). served_line g.N.Network.address_of post) in
    let there : c.args.place < length w = omega (arith, c.if-len-place.false) in
    let read : c.index_mut.result.now ≡ watch_at w c.args.place =
    get_or_read w c.args.place c.index_mut.result.now there c.index_mut.ensures.value at_once in
    let waits = c.exchange.invariant.waits c.args.place (omega (arith, there, c.exchange.invariant.many_watches)) in
    let First : Watched → Type 0 = λ seen. IsLinesMoment seen seen.next in
    let old : c.index_mut.result.now.moment ≡ (watch_at w c.args.place).moment = ap (λ (x : Watch). x.moment) read in
    moment_called _ w c.args.place c.exchange.inside.surroundings.now c.exchange.inside.next
    c.min-exchange-inside.result c.index_mut.result.now c.call.new.self
    (omega (arith, there, lines, c.exchange.invariant.many_watches)) there read c.call.ensures
    (omega (arith, waits, old)) c.min-exchange-inside.ensures (subst First (sym c.exchange.view_is) first)

pub returns-clause-called : goal.returns-clause-called
returns-clause-called g c = λ there.
    let Early : Watched → Type 0 = λ seen.
    (watch_at (set c.exchange.inside.watches.items c.args.place c.call.new.self) c.args.place).moment ≤ seen.now in
    subst Early c.exchange.view_is (one_early c.exchange.inside.surroundings.now c.exchange.inside.watches.items
    c.args.place c.index_mut.result.now c.call.new.self (omega (arith, c.if-len-place.false)) c.call.ensures)

-- each line has its watch
pub returns-then-len-place-clause-called : goal.returns-then-len-place-clause-called
returns-then-len-place-clause-called g c = λ there.
    let lines : length c.args.exchange.now.lines ≡ length c.exchange.inside.posts.items =
    sym (ap (λ (seen : Watched). length seen.lines) c.exchange.view_is)
    ∙ length-map c.exchange.inside.posts.items
    (λ (post : Post g.row.N-Listener.Denot g.row.N-Connection.Denot). served_line g.N.Network.address_of post) in
    let none : ⊥ = omega (arith, there, lines, c.exchange.invariant.many_watches, c.if-len-place.true) in absurd none
