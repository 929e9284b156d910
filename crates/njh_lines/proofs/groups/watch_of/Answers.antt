use Rattle.std.proofs.Common.{◌<◌, length, arith, refl, subst, sym, ⊎_elim}
use Rattle.std.specs.Prelude.{IsTrue}
use Rattle.std.proofs.lemmas.List.{get_or_read, length-map}
use Rattle.njh_lines.specs.Attention.{at_once, IsInGroup, IsMomentOf}
use Rattle.njh_lines.specs.Resting.{IsMomentIn}
use Rattle.njh_lines.specs.Watching.{served_line, IsGroupsMoment, Watched}
use Rattle.njh_lines.specs.declared.attention.Watch.{Watch}
use Rattle.njh_lines.specs.declared.post.Post.{Post}
use Rattle.njh_lines.proofs.MomentLaws.{moment_among}
use Rattle.njh_lines.proofs.groups.watch_of.Goals as goal

-- one of its lines wants what it does, unless it is looked at
pub returns-clause-wanted : goal.returns-clause-wanted
returns-clause-wanted g c = λ idle.
    let many = length-map c.exchange.inside.posts.items
    (λ (post : Post g.row.N-Listener.Denot g.row.N-Connection.Denot). served_line g.N.Network.address_of post) in
    let w = c.exchange.inside.watches.items in
    let posts = length c.exchange.inside.posts.items in
    let own = get_or_read c.exchange.inside.groups.items c.args.group c.index.result.now
    (omega (arith, c.if-len-group.false)) c.index.ensures at_once in
    let At : Watch → Type 0 = λ watch. IsGroupsMoment posts w c.args.group watch in
    let In : Watched → Type 0 = λ seen. IsMomentIn c.args.group seen c.index.result.now.moment in
    subst In c.exchange.view_is (⊎_elim
    (λ (due : IsTrue c.index.result.now.is_due). absurd (idle due))
    (λ (first : IsMomentOf (λ place. IsInGroup place c.args.group × (place < posts)) w c.index.result.now.moment).
    moment_among _ _ w w c.index.result.now.moment (λ place its. (its.0, omega (arith, its.1, many)))
    (λ place its. refl) first)
    (subst At (sym own) (c.exchange.invariant.wanted c.args.group)))
