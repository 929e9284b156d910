use Rattle.std.proofs.Common.{◌+◌, set, ap, arith, length, subst, sym, ◌∙◌}
use Rattle.std.proofs.lemmas.List.{length-set}
use Rattle.njh_lines.specs.Attention.{mark_at, watch_at, IsDue}
use Rattle.njh_lines.specs.Watching.{served_line, HaveBegun, ServedLine, Watched}
use Rattle.njh_lines.specs.declared.post.Post.{Post}
use Rattle.njh_lines.proofs.GroupLaws.{begun_more}
use Rattle.njh_lines.proofs.PostLaws.{line_there, lines_stay, post_there, served_stays}
use Rattle.njh_lines.proofs.RoundLaws.{due_there, one_begun, past_line}
use Rattle.njh_lines.proofs.exchange.Exchange.begin.Goals as goal

-- no line is there
pub returns-then-len-place-clause-begun : goal.returns-then-len-place-clause-begun
returns-then-len-place-clause-begun g c =
    let P : Watched → Type 0 = λ seen.
    HaveBegun seen.now c.args.place (c.args.place + 1) seen.ready seen.ready seen.watches seen.watches in
    subst P c.self.view_is (past_line c.self.inside.surroundings.now c.args.place c.self.inside.ready.items
    c.self.inside.watches.items (omega (arith, c.if-len-place.true, c.self.invariant.many_marks))
    (omega (arith, c.if-len-place.true, c.self.invariant.many_watches)))

pub invariant_of-self : goal.invariant_of-self
invariant_of-self g c =
    let posts = c.self.inside.posts.items in
    begun_more (length posts) c.self.inside.ready.items c.self.inside.watches.items c.self.inside.groups.items
    _ c.self.inside.next _ c.args.place c.begin.new.ready c.index_mut-watch.result.now c.begin.new.watch
    (length-set posts c.args.place c.begin.new.post) (omega (arith, c.if-len-place.false))
    c.index_mut-watch.ensures.value c.begin.ensures.moment c.look_at_group.ensures.many c.look_at_group.ensures.moments
    c.look_at_group.ensures.stays c.look_at_group.ensures.due c.self.invariant

pub returns-clause-begun : goal.returns-clause-begun
returns-clause-begun g c =
    let P : Watched → Type 0 = λ seen. HaveBegun seen.now c.args.place (c.args.place + 1) seen.ready
    (set c.self.inside.ready.items c.args.place c.begin.new.ready) seen.watches
    (set c.self.inside.watches.items c.args.place c.begin.new.watch) in
    subst P c.self.view_is (one_begun c.self.inside.surroundings.now c.args.place c.self.inside.ready.items
    c.self.inside.watches.items c.index_mut-ready.result.now c.begin.new.ready c.index_mut-watch.result.now
    c.begin.new.watch
    (omega (arith, c.if-len-place.false, c.self.invariant.many_marks))
    (omega (arith, c.if-len-place.false, c.self.invariant.many_watches)) c.index_mut-ready.ensures.value
    c.index_mut-watch.ensures.value c.begin.ensures.due c.begin.ensures.moment c.begin.ensures.unmarked)

-- it has no connection if it is stopped
pub returns-clause-stopped : goal.returns-clause-stopped
returns-clause-stopped g c = λ line found stopped due.
    let P : Type 0 = Post g.row.N-Listener.Denot g.row.N-Connection.Denot in
    let own = line_there (λ (post : P). served_line g.N.Network.address_of post) c.self.inside.posts.items
    c.args.self.now.lines c.args.place c.index_mut-post.result.now line
    (ap (λ (seen : Watched). seen.lines) c.self.view_is) (omega (arith, c.if-len-place.false))
    c.index_mut-post.ensures.value found in
    let Due : Watched → Type 0 = λ seen.
    IsDue (mark_at seen.ready c.args.place) (watch_at seen.watches c.args.place).moment seen.now in
    let its_due = due_there c.self.inside.surroundings.now c.args.place c.self.inside.ready.items c.self.inside.watches.items
    c.index_mut-ready.result.now c.index_mut-watch.result.now
    (omega (arith, c.if-len-place.false, c.self.invariant.many_marks))
    (omega (arith, c.if-len-place.false, c.self.invariant.many_watches)) c.index_mut-ready.ensures.value
    c.index_mut-watch.ensures.value (subst Due (sym c.self.view_is) due) in
    c.begin.ensures.stopped (sym (ap (λ (l : ServedLine). l.state) own) ∙ stopped) (c.begin.ensures.due.1 its_due)

-- no line is where no post is
pub returns-then-len-place-clause-stopped : goal.returns-then-len-place-clause-stopped
returns-then-len-place-clause-stopped g c = λ line found stopped due.
    let within = post_there
    (λ (post : Post g.row.N-Listener.Denot g.row.N-Connection.Denot). served_line g.N.Network.address_of post)
    c.self.inside.posts.items c.args.self.now.lines c.args.place line
    (ap (λ (seen : Watched). seen.lines) c.self.view_is) found in
    let none : ⊥ = omega (arith, within, c.if-len-place.true) in absurd none

pub returns-clause-lines : goal.returns-clause-lines
returns-clause-lines g c =
    lines_stay
    (λ (post : Post g.row.N-Listener.Denot g.row.N-Connection.Denot). served_line g.N.Network.address_of post)
    c.self.inside.posts.items
    c.args.self.now.lines c.args.place c.index_mut-post.result.now c.begin.new.post
    (ap (λ (seen : Watched). seen.lines) c.self.view_is) c.index_mut-post.ensures.value
    (served_stays g.N.Network.address_of c.index_mut-post.result.now c.begin.new.post c.begin.ensures.line
    c.begin.ensures.site c.begin.ensures.from c.begin.ensures.state)
