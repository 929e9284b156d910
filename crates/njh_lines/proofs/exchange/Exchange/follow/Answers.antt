use Rattle.std.proofs.Common.{◌≡◌, ℕ, ◌<◌, map, subst, refl, sym, ap, ◌∙◌}
use Rattle.std.proofs.lemmas.Bool.{false≢true}
use Rattle.njh_hub.specs.Views.{hub_line, line_view}
use Rattle.njh_hub.specs.WholeHub.{HasLine}
use Rattle.njh_hub.specs.declared.session_view.SessionView.{SessionView}
use Rattle.njh_table.specs.declared.LineId.{LineId}
use Rattle.njh_sight.specs.Steps.{steps_after, IsNoted}
use Rattle.njh_lines.specs.Watching.{served_line, ServedLine, Watched}
use Rattle.njh_lines.specs.declared.post.Post.{Post}
use Rattle.njh_sight.specs.declared.steps.Steps.{Steps}
use Rattle.njh_lines.proofs.PostLaws.{line_there, lines_stay, others_noted, post_there, seen_there, served_stays}
use Rattle.njh_lines.proofs.exchange.Exchange.follow.Goals as goal

pub returns-clause-lines : goal.returns-clause-lines
returns-clause-lines g c =
    lines_stay
    (λ (post : Post g.row.N-Listener.Denot g.row.N-Connection.Denot). served_line g.N.Network.address_of post)
    c.self.inside.posts.items
    c.args.self.now.lines c.args.place c.in-Some.post.now c.follow.new.post
    (ap (λ (seen : Watched). seen.lines) c.self.view_is) c.in-Some.ensures.value
    (served_stays g.N.Network.address_of c.in-Some.post.now c.follow.new.post c.follow.ensures.line
    c.follow.ensures.site c.follow.ensures.from c.follow.ensures.state)

-- what is counted goes on from what was
pub returns-clause-counted : goal.returns-clause-counted
returns-clause-counted g c = λ line was now found before after there.
    let P : Type 0 = Post g.row.N-Listener.Denot g.row.N-Connection.Denot in
    let Within : ℕ → Type 0 = λ many. c.args.place < many in
    let IsThere : ServedLine → Type 0 = λ own. HasLine c.args.hub.now own.id in
    let low = subst Within c.self.inside.posts.ok.0 (c.in-Some.ensures.variant.0 refl) in
    let post = c.in-Some.post.now in
    let own = line_there (λ (x : P). served_line g.N.Network.address_of x) c.self.inside.posts.items
    c.args.self.now.lines c.args.place post line (ap (λ (w : Watched). w.lines) c.self.view_is) low
    c.in-Some.ensures.value found in
    let had = line_there (λ (x : P). x.steps) c.self.inside.posts.items c.args.self.now.steps c.args.place post was
    (ap (λ (w : Watched). w.steps) c.self.view_is) low c.in-Some.ensures.value before in
    let has = seen_there (λ (x : P). x.steps) c.self.inside.posts.items c.args.place c.follow.new.post now low after in
    let After : ServedLine → Steps = λ its.
    steps_after was (line_view (hub_line its.id c.args.hub.now).state) c.args.frame.now in
    has ∙ (c.follow.ensures.steps (subst IsThere own there)
    ∙ (ap (λ (before : Steps). steps_after before (line_view (hub_line post.line c.args.hub.now).state)
    c.args.frame.now) (sym had) ∙ sym (ap After own)))

-- what is noted is this step
pub returns-clause-noted : goal.returns-clause-noted
returns-clause-noted g c = λ line noted found seen there.
    let P : Type 0 = Post g.row.N-Listener.Denot g.row.N-Connection.Denot in
    let Within : ℕ → Type 0 = λ many. c.args.place < many in
    let IsThere : ServedLine → Type 0 = λ own. HasLine c.args.hub.now own.id in
    let low = subst Within c.self.inside.posts.ok.0 (c.in-Some.ensures.variant.0 refl) in
    let post = c.in-Some.post.now in
    let new = c.follow.new.post in
    let own = seen_there (λ (x : P). served_line g.N.Network.address_of x) c.self.inside.posts.items c.args.place new
    line low found in
    let has = seen_there (λ (x : P). x.steps) c.self.inside.posts.items c.args.place new noted low seen in
    let same : line.id ≡ post.line = ap (λ (its : ServedLine). its.id) own ∙ c.follow.ensures.line in
    let View : LineId → SessionView = λ id. line_view (hub_line id c.args.hub.now).state in
    let after : Steps = steps_after post.steps (View post.line) c.args.frame.now in
    let is : noted ≡ after = has ∙ c.follow.ensures.steps (subst (λ (id : LineId). HasLine c.args.hub.now id) same there)
    in
    let IsAfter : IsNoted (View post.line) c.args.frame.now after = record { up = refl; count = refl; sent = refl } in
    subst (λ (its : Steps). IsNoted (View line.id) c.args.frame.now its) (sym is)
    (subst (λ (id : LineId). IsNoted (View id) c.args.frame.now after) (sym same) IsAfter)

-- of the others nothing is counted
pub returns-clause-others : goal.returns-clause-others
returns-clause-others g c = λ other apart.
    others_noted
    (λ (post : Post g.row.N-Listener.Denot g.row.N-Connection.Denot). post.streams.tally) c.self.inside.posts.items
    c.args.self.now.tallies c.args.place other c.follow.new.post
    (ap (λ (seen : Watched). seen.tallies) c.self.view_is) apart

-- no line is where no post is
pub returns-in_default-clause-noted : goal.returns-in_default-clause-noted
returns-in_default-clause-noted g c = λ line noted found seen there.
    let P : Type 0 = Post g.row.N-Listener.Denot g.row.N-Connection.Denot in
    let line_of : P → ServedLine = λ post. served_line g.N.Network.address_of post in
    let Within : ℕ → Type 0 = λ many. c.args.place < many in
    let within = post_there line_of c.self.inside.posts.items (map line_of c.self.inside.posts.items) c.args.place line
    refl found in
    absurd (false≢true (c.in_default.ensures.variant.1 (subst Within (sym c.self.inside.posts.ok.0) within)))

pub returns-in_default-clause-counted : goal.returns-in_default-clause-counted
returns-in_default-clause-counted g c = λ line was now found before after there.
    let Within : ℕ → Type 0 = λ many. c.args.place < many in
    let within = post_there
    (λ (post : Post g.row.N-Listener.Denot g.row.N-Connection.Denot). served_line g.N.Network.address_of post)
    c.self.inside.posts.items c.args.self.now.lines c.args.place line
    (ap (λ (w : Watched). w.lines) c.self.view_is) found in
    absurd (false≢true (c.in_default.ensures.variant.1 (subst Within (sym c.self.inside.posts.ok.0) within)))
