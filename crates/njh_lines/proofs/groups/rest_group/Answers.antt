use Rattle.std.proofs.Common.{length, arith, inr, refl, subst}
use Rattle.std.proofs.lemmas.List.{length-map}
use Rattle.njh_lines.specs.Resting.{IsMomentIn}
use Rattle.njh_lines.specs.Watching.{served_line, Watched}
use Rattle.njh_lines.specs.declared.post.Post.{Post}
use Rattle.njh_lines.proofs.GroupLaws.{due_of_group, first_of_group, group_rests}
use Rattle.njh_lines.proofs.MomentLaws.{first_in_group}
use Rattle.njh_lines.proofs.groups.rest_group.Goals as goal

-- it is looked at when the first of its lines wants to be, and in this round if one of them is
pub invariant_of-exchange : goal.invariant_of-exchange
invariant_of-exchange g c =
    group_rests _ c.exchange.inside.ready.items c.exchange.inside.watches.items c.exchange.inside.groups.items
    c.exchange.inside.next c.args.group
    record { moment = c.first_moment-moment.result; is_due = c.is_any_due-is_due.result }
    (omega (arith, c.if-group-len.true))
    (λ place within before. first_of_group _ c.exchange.inside.watches.items c.deref.result.now
    c.args.group _ _ _ c.first_moment-moment.result c.deref.ensures.value c.places_of-first.ensures.first
    c.places_of-first.ensures.end (omega (arith, c.exchange.invariant.many_watches))
    c.exchange.invariant.many_watches c.first_moment-moment.ensures place within before)
    (λ place within before due. due_of_group _ c.exchange.inside.watches.items c.deref-2.result.now c.args.group _ _ _
    c.is_any_due-is_due.result c.deref-2.ensures.value c.places_of-first.ensures.first c.places_of-first.ensures.end
    (omega (arith, c.exchange.invariant.many_watches)) c.exchange.invariant.many_watches c.is_any_due-is_due.ensures
    place within before due)
    (inr (first_in_group _ (length c.exchange.inside.posts.items) c.exchange.inside.watches.items c.deref.result.now
    c.args.group _ _ _ c.first_moment-moment.result c.deref.ensures.value refl c.places_of-first.ensures.first
    c.places_of-first.ensures.end (omega (arith, c.exchange.invariant.many_watches)) c.first_moment-moment.ensures))
    c.exchange.invariant

pub returns-then-group-len-clause-first : goal.returns-then-group-len-clause-first
returns-then-group-len-clause-first g c = λ place within before.
    let many = length-map c.exchange.inside.posts.items
    (λ (post : Post g.row.N-Listener.Denot g.row.N-Connection.Denot). served_line g.N.Network.address_of post) in
    first_of_group (length c.exchange.inside.posts.items) c.exchange.inside.watches.items c.deref.result.now
    c.args.group _ _ _ c.first_moment-moment.result c.deref.ensures.value c.places_of-first.ensures.first
    c.places_of-first.ensures.end (omega (arith, c.exchange.invariant.many_watches))
    c.exchange.invariant.many_watches c.first_moment-moment.ensures place within (omega (arith, before, many))

-- one of its lines wants that
pub returns-then-group-len-clause-wanted : goal.returns-then-group-len-clause-wanted
returns-then-group-len-clause-wanted g c =
    let many = length-map c.exchange.inside.posts.items
    (λ (post : Post g.row.N-Listener.Denot g.row.N-Connection.Denot). served_line g.N.Network.address_of post) in
    first_in_group (length c.exchange.inside.posts.items) _ c.exchange.inside.watches.items c.deref.result.now
    c.args.group _ _ _ c.first_moment-moment.result c.deref.ensures.value many c.places_of-first.ensures.first
    c.places_of-first.ensures.end (omega (arith, c.exchange.invariant.many_watches)) c.first_moment-moment.ensures

pub returns-else-group-len-clause-wanted : goal.returns-else-group-len-clause-wanted
returns-else-group-len-clause-wanted g c =
    let many = length-map c.exchange.inside.posts.items
    (λ (post : Post g.row.N-Listener.Denot g.row.N-Connection.Denot). served_line g.N.Network.address_of post) in
    let In : Watched → Type 0 = λ seen. IsMomentIn c.args.group seen c.first_moment-moment.result in
    subst In c.exchange.view_is
    (first_in_group (length c.exchange.inside.posts.items) _ c.exchange.inside.watches.items c.deref.result.now
    c.args.group _ _ _ c.first_moment-moment.result c.deref.ensures.value many c.places_of-first.ensures.first
    c.places_of-first.ensures.end (omega (arith, c.exchange.invariant.many_watches)) c.first_moment-moment.ensures)
