use Rattle.std.proofs.Common.{◌≡◌, ℕ, ◌<◌, Some, map, subst, refl, sym, ap, ◌∙◌}
use Rattle.std.specs.Prelude.{slice_get}
use Rattle.std.proofs.lemmas.Bool.{false≢true}
use Rattle.njh_hub.specs.Quiets.{quiet_on}
use Rattle.njh_hub.specs.Views.{HasGivenUp, hub_line, line_view}
use Rattle.njh_hub.specs.declared.session_view.SessionView.{SessionView}
use Rattle.njh_hub.specs.WholeHub.{HasLine}
use Rattle.njh_sight.specs.Sessions.{is_up, HasRefusedMore}
use Rattle.njh_lines.specs.Resting.{IsNextLook}
use Rattle.njh_lines.specs.Watching.{noted_of, served_line, Noted, ServedLine, Watched}
use Rattle.njh_lines.specs.Wires.{session_on}
use Rattle.njh_lines.specs.declared.post.Post.{Post}
use Rattle.njh_lines.specs.Connecting.{StaysOn}
use Rattle.njh_lines.proofs.ProtocolLaws.{stays_not_over}
use Rattle.njh_lines.proofs.PostLaws.{lines_stay, line_there, others_noted, post_there, seen_there, served_stays}
use Rattle.njh_lines.proofs.exchange.Exchange.apply_session.Goals as goal

pub returns-clause-lines : goal.returns-clause-lines
returns-clause-lines g c =
    lines_stay
    (λ (post : Post g.row.N-Listener.Denot g.row.N-Connection.Denot). served_line g.N.Network.address_of post)
    c.self.inside.posts.items
    c.args.self.now.lines c.args.place c.in-Some.post.now c.apply_session.new.post
    (ap (λ (seen : Watched). seen.lines) c.self.view_is) c.in-Some.ensures.value
    (served_stays g.N.Network.address_of c.in-Some.post.now c.apply_session.new.post c.apply_session.ensures.line
    c.apply_session.ensures.site c.apply_session.ensures.from c.apply_session.ensures.state)

pub returns-clause-kept : goal.returns-clause-kept
returns-clause-kept g c = λ line seen found noted there alive fits stays.
    let Within : ℕ → Type 0 = λ many. c.args.place < many in
    let IsThere : ServedLine → Type 0 = λ own. HasLine c.args.hub.now own.id in
    let IsAlive : ServedLine → Type 0 = λ own. ¬ HasGivenUp c.args.hub.now own.id in
    let session : ServedLine → SessionView = λ own. line_view (hub_line own.id c.args.hub.now).state in
    let post = c.in-Some.post.now in
    let low = subst Within c.self.inside.posts.ok.0 (c.in-Some.ensures.variant.0 refl) in
    let own = line_there
    (λ (x : Post g.row.N-Listener.Denot g.row.N-Connection.Denot). served_line g.N.Network.address_of x)
    c.self.inside.posts.items c.args.self.now.lines c.args.place post line
    (ap (λ (w : Watched). w.lines) c.self.view_is) low c.in-Some.ensures.value found in
    let had = line_there (λ (x : Post g.row.N-Listener.Denot g.row.N-Connection.Denot). x.label.refusals)
    c.self.inside.posts.items c.args.self.now.refusals c.args.place post seen
    (ap (λ (w : Watched). w.refusals) c.self.view_is) low c.in-Some.ensures.value noted in
    c.apply_session.ensures.kept (subst IsThere own there) (subst IsAlive own alive)
    (subst (λ (its : ServedLine). ¬ HasRefusedMore post.label.refusals (session its)) own
    (subst (λ (n : ℕ). ¬ HasRefusedMore n (session line)) had fits))
    (stays_not_over c.args.wire.now.protocol post.label (line_view (hub_line post.line c.args.hub.now).state)
    (subst (λ (its : ServedLine). StaysOn c.args.wire.now.protocol (session its)) own stays))

pub returns-clause-quiet : goal.returns-clause-quiet
returns-clause-quiet g c = λ line found there.
    let Within : ℕ → Type 0 = λ many. c.args.place < many in
    let IsThere : ServedLine → Type 0 = λ own. HasLine c.args.hub.now own.id in
    let quiet : ServedLine → ℕ = λ own. quiet_on own.id c.args.hub.now in
    let own = line_there
    (λ (post : Post g.row.N-Listener.Denot g.row.N-Connection.Denot). served_line g.N.Network.address_of post)
    c.self.inside.posts.items c.args.self.now.lines c.args.place c.in-Some.post.now line
    (ap (λ (seen : Watched). seen.lines) c.self.view_is)
    (subst Within c.self.inside.posts.ok.0 (c.in-Some.ensures.variant.0 refl)) c.in-Some.ensures.value found in
    c.apply_session.ensures.quiet (subst IsThere own there) ∙ ap quiet (sym own)

-- no line is where no post is
pub returns-in_default-clause-quiet : goal.returns-in_default-clause-quiet
returns-in_default-clause-quiet g c = λ line found there.
    let Within : ℕ → Type 0 = λ many. c.args.place < many in
    let within = post_there
    (λ (post : Post g.row.N-Listener.Denot g.row.N-Connection.Denot). served_line g.N.Network.address_of post)
    c.self.inside.posts.items c.args.self.now.lines c.args.place line
    (ap (λ (seen : Watched). seen.lines) c.self.view_is) found in
    absurd (false≢true (c.in_default.ensures.variant.1 (subst Within (sym c.self.inside.posts.ok.0) within)))

-- what is noted of it there is that of its post
pub returns-clause-asks : goal.returns-clause-asks
returns-clause-asks g c = λ own found.
    let P : Type 0 = Post g.row.N-Listener.Denot g.row.N-Connection.Denot in
    let Within : ℕ → Type 0 = λ many. c.args.place < many in
    let low = subst Within c.self.inside.posts.ok.0 (c.in-Some.ensures.variant.0 refl) in
    let is = seen_there (λ (post : P). noted_of post) c.self.inside.posts.items c.args.place c.apply_session.new.post
    own low found in
    let time = ap (λ (w : Watched). w.now) c.self.view_is in
    let Asks : Noted → ℕ → Type 0 = λ noted now. IsNextLook c.apply_session.new.wire noted now c.apply_session.result in
    subst (λ (n : ℕ). Asks own n) time
    (subst (λ (noted : Noted). Asks noted c.self.inside.surroundings.now) (sym is) c.apply_session.ensures.asks)

pub returns-in_default-clause-asks : goal.returns-in_default-clause-asks
returns-in_default-clause-asks g c = λ own found.
    let Within : ℕ → Type 0 = λ many. c.args.place < many in
    let P : Type 0 = Post g.row.N-Listener.Denot g.row.N-Connection.Denot in
    let Note : P → Noted = λ post. noted_of post in
    let within = post_there Note c.self.inside.posts.items (map Note c.self.inside.posts.items) c.args.place own refl
    found in
    absurd (false≢true (c.in_default.ensures.variant.1 (subst Within (sym c.self.inside.posts.ok.0) within)))

pub returns-clause-others : goal.returns-clause-others
returns-clause-others g c = λ other apart.
    let P : Type 0 = Post g.row.N-Listener.Denot g.row.N-Connection.Denot in
    others_noted (λ (post : P). noted_of post) c.self.inside.posts.items c.args.self.now.noted c.args.place other
    c.apply_session.new.post (ap (λ (seen : Watched). seen.noted) c.self.view_is) apart

pub returns-in_default-clause-others : goal.returns-in_default-clause-others
returns-in_default-clause-others g c = λ other apart.
    ap (λ (seen : Watched). slice_get seen.noted other) c.self.view_is

pub returns-clause-counts_of_others : goal.returns-clause-counts_of_others
returns-clause-counts_of_others g c = λ other apart.
    let P : Type 0 = Post g.row.N-Listener.Denot g.row.N-Connection.Denot in
    others_noted (λ (post : P). post.label.refusals) c.self.inside.posts.items c.args.self.now.refusals c.args.place other
    c.apply_session.new.post (ap (λ (seen : Watched). seen.refusals) c.self.view_is) apart

pub returns-in_default-clause-counts_of_others : goal.returns-in_default-clause-counts_of_others
returns-in_default-clause-counts_of_others g c = λ other apart.
    ap (λ (seen : Watched). slice_get seen.refusals other) c.self.view_is

-- its session judges who is connected on its wire
pub returns-clause-judged : goal.returns-clause-judged
returns-clause-judged g c =
    let Within : ℕ → Type 0 = λ many. c.args.place < many in
    let IsThere : ServedLine → Type 0 = λ own. HasLine c.args.hub.now own.id in
    let post = c.in-Some.post.now in
    let low = subst Within c.self.inside.posts.ok.0 (c.in-Some.ensures.variant.0 refl) in
    let own = λ (line : ServedLine) (found : slice_get c.args.self.now.lines c.args.place ≡ Some line). line_there
    (λ (x : Post g.row.N-Listener.Denot g.row.N-Connection.Denot). served_line g.N.Network.address_of x)
    c.self.inside.posts.items c.args.self.now.lines c.args.place post line
    (ap (λ (w : Watched). w.lines) c.self.view_is) low c.in-Some.ensures.value found in record {
      refused = λ line seen found noted there more.
          let had = line_there (λ (x : Post g.row.N-Listener.Denot g.row.N-Connection.Denot). x.label.refusals)
          c.self.inside.posts.items c.args.self.now.refusals c.args.place post seen
          (ap (λ (w : Watched). w.refusals) c.self.view_is) low c.in-Some.ensures.value noted in
          c.apply_session.ensures.refused (subst IsThere (own line found) there)
          (subst (λ (its : ServedLine). HasRefusedMore post.label.refusals (session_on its.id c.args.hub.now))
          (own line found) (subst (λ (n : ℕ). HasRefusedMore n (session_on line.id c.args.hub.now)) had more));
      up = λ line found there. c.apply_session.ensures.up (subst IsThere (own line found) there)
          ∙ ap (λ (its : ServedLine). is_up (session_on its.id c.args.hub.now).phase) (sym (own line found));
    }

-- no line is where no post is
pub returns-in_default-clause-judged : goal.returns-in_default-clause-judged
returns-in_default-clause-judged g c =
    let Within : ℕ → Type 0 = λ many. c.args.place < many in
    let none = λ (line : ServedLine) (found : slice_get c.args.self.now.lines c.args.place ≡ Some line). post_there
    (λ (post : Post g.row.N-Listener.Denot g.row.N-Connection.Denot). served_line g.N.Network.address_of post)
    c.self.inside.posts.items c.args.self.now.lines c.args.place line
    (ap (λ (seen : Watched). seen.lines) c.self.view_is) found in record {
      refused = λ line seen found noted there more. absurd (false≢true (c.in_default.ensures.variant.1
          (subst Within (sym c.self.inside.posts.ok.0) (none line found))));
      up = λ line found there. absurd (false≢true (c.in_default.ensures.variant.1
          (subst Within (sym c.self.inside.posts.ok.0) (none line found))));
    }
