use Rattle.std.proofs.Common.{◌≡◌, ◌∙◌, ℕ, ap, arith, length, subst, sym}
use Rattle.std.specs.Prelude.{◌+◌, ◌*◌, ◌<◌, ◌↔◌, IsTrue, List}
use Rattle.std.proofs.lemmas.List.{length-map}
use Rattle.njh_wire.specs.declared.network.Readiness.{Readiness}
use Rattle.njh_lines.specs.Attention.{mark_at, watch_at, IsAnyMarked, IsInGroup}
use Rattle.njh_lines.specs.Watching.{served_line, HasBegun, Watched}
use Rattle.njh_lines.specs.declared.post.Post.{Post}
use Rattle.njh_lines.proofs.GroupLaws.{idle_group, none_due}
use Rattle.njh_lines.proofs.groups.wakes.Goals as goal

-- its moment isn't behind that of a line
pub returns-clause-idle : goal.returns-clause-idle
returns-clause-idle g c =
    let Idle : Watched → Type 0 = λ seen. ¬ IsTrue c.wakes.result → (place : ℕ) → IsInGroup place c.args.group
    → HasBegun seen.now (mark_at seen.ready place) (mark_at seen.ready place) (watch_at seen.watches place)
    (watch_at seen.watches place) in
    let Marked : List Readiness → Type 0 = λ marks. IsTrue c.is_ready-is_ready.result
    ↔ IsAnyMarked marks (16 * c.args.group) (16 * c.args.group + 16) in
    let ready = subst Marked (sym (ap (λ (seen : Watched). seen.ready) c.exchange.view_is)) c.is_ready-is_ready.ensures in
    subst Idle c.exchange.view_is (idle_group _ c.exchange.inside.surroundings.now c.exchange.inside.ready.items
    c.exchange.inside.watches.items c.exchange.inside.groups.items c.exchange.inside.next c.args.group c.is_ready-is_ready.result
    c.wakes.result c.index.result.now c.exchange.invariant (omega (arith, c.if-len-group.false))
    c.index.ensures ready c.wakes.ensures)

-- it is looked at if one of its lines is
pub returns-clause-none : goal.returns-clause-none
returns-clause-none g c =
    let lines : length c.args.exchange.now.lines ≡ length c.exchange.inside.posts.items =
    sym (ap (λ (seen : Watched). length seen.lines) c.exchange.view_is)
    ∙ length-map c.exchange.inside.posts.items
    (λ (post : Post g.row.N-Listener.Denot g.row.N-Connection.Denot). served_line g.N.Network.address_of post) in
    let None : Watched → Type 0 = λ seen. ¬ IsTrue c.wakes.result → (place : ℕ) → IsInGroup place c.args.group
    → place < length c.args.exchange.now.lines → ¬ IsTrue (watch_at seen.watches place).is_due in
    subst None c.exchange.view_is (λ idle place within before. none_due _ c.exchange.inside.surroundings.now
    c.exchange.inside.ready.items c.exchange.inside.watches.items c.exchange.inside.groups.items c.exchange.inside.next
    c.args.group c.is_ready-is_ready.result c.wakes.result c.index.result.now c.exchange.invariant
    (omega (arith, c.if-len-group.false)) c.index.ensures c.wakes.ensures idle place within
    (omega (arith, before, lines)))
