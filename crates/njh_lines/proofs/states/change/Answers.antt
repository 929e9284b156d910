use Rattle.std.proofs.Common.{ℕ, ◌<◌, ◌≤◌, List, length, ap, sym, subst, refl, ⊎_elim}
use Rattle.std.proofs.lemmas.Bool.{cases_lt, false≢true}
use Rattle.njh_lines.specs.LineStates.{with_state, IsMadeAt}
use Rattle.njh_lines.specs.Watching.{served_line, ServedLine, Watched}
use Rattle.njh_lines.specs.declared.post.Post.{Post}
use Rattle.njh_lines.proofs.PostLaws.{served_so}
use Rattle.njh_lines.proofs.StateLaws.{line_made, none_made, none_there}
use Rattle.njh_lines.proofs.states.change.Goals as goal

-- the line there is served so, whether it is told or not
pub returns : goal.returns
returns g c =
    let P : Type 0 = Post g.row.N-Listener.Denot g.row.N-Connection.Denot in
    let Within : ℕ → Type 0 = λ many. c.args.place < many in
    line_made (λ (post : P). served_line g.N.Network.address_of post) c.exchange.inside.posts.items c.args.exchange.now.lines
    c.args.place c.in-Some.post.now c.set_state.new.self (with_state c.args.state)
    (ap (λ (seen : Watched). seen.lines) c.exchange.view_is)
    (subst Within c.exchange.inside.posts.ok.0 (c.in-Some.ensures.variant.0 refl)) c.in-Some.ensures.value
    (served_so g.N.Network.address_of c.in-Some.post.now c.set_state.new.self c.args.state
    c.set_state.ensures.line (c.set_state.ensures.site g.N.Network.address_of) c.set_state.ensures.from
    c.set_state.ensures.state)

pub returns-in_default-set_state : goal.returns-in_default-set_state
returns-in_default-set_state g c =
    let P : Type 0 = Post g.row.N-Listener.Denot g.row.N-Connection.Denot in
    let Within : ℕ → Type 0 = λ many. c.args.place < many in
    line_made (λ (post : P). served_line g.N.Network.address_of post) c.exchange.inside.posts.items c.args.exchange.now.lines
    c.args.place c.in-Some.post.now c.set_state.new.self (with_state c.args.state)
    (ap (λ (seen : Watched). seen.lines) c.exchange.view_is)
    (subst Within c.exchange.inside.posts.ok.0 (c.in-Some.ensures.variant.0 refl)) c.in-Some.ensures.value
    (served_so g.N.Network.address_of c.in-Some.post.now c.set_state.new.self c.args.state
    c.set_state.ensures.line (c.set_state.ensures.site g.N.Network.address_of) c.set_state.ensures.from
    c.set_state.ensures.state)

-- no line is where no post is
pub returns-in_default : goal.returns-in_default
returns-in_default g c =
    let P : Type 0 = Post g.row.N-Listener.Denot g.row.N-Connection.Denot in
    let line_of : P → ServedLine = λ post. served_line g.N.Network.address_of post in
    let Within : ℕ → Type 0 = λ many. c.args.place < many in
    let Made : List ServedLine → Type 0 = λ new.
    IsMadeAt c.args.place (with_state c.args.state) c.args.exchange.now.lines new in
    let seen = ap (λ (w : Watched). w.lines) c.exchange.view_is in ⊎_elim
    (λ (within : c.args.place < length c.exchange.inside.posts.items).
    absurd (false≢true (c.in_default.ensures.variant.1 (subst Within (sym c.exchange.inside.posts.ok.0) within))))
    (λ (past : length c.exchange.inside.posts.items ≤ c.args.place).
    subst Made (sym seen) (none_made (with_state c.args.state) c.args.exchange.now.lines c.args.place
    (none_there line_of c.exchange.inside.posts.items c.args.exchange.now.lines c.args.place seen past)))
    (cases_lt c.args.place (length c.exchange.inside.posts.items))
