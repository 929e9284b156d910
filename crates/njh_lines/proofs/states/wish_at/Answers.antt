use Rattle.std.proofs.Common.{◌≡◌, ◌<◌, List, length, map, ap, sym, subst, arith}
use Rattle.njh_request.specs.declared.request.LineState.{LineState}
use Rattle.njh_lines.specs.LineStates.{line_wished, with_state}
use Rattle.njh_lines.specs.Watching.{served_line, ServedLine, Watched}
use Rattle.njh_lines.specs.declared.post.Post.{Post}
use Rattle.njh_lines.proofs.StateLaws.{as_made, line_at, none_made, none_there}
use Rattle.njh_lines.proofs.states.wish_at.Goals as goal

-- the line there is as the operator wants it
pub returns : goal.returns
returns g c =
    let P : Type 0 = Post g.row.N-Listener.Denot g.row.N-Connection.Denot in
    let line_of : P → ServedLine = λ post. served_line g.N.Network.address_of post in
    let post = c.in-Some.post.now in
    let Lines : List P → Type 0 = λ posts. map line_of posts ≡ c.args.exchange.now.lines in
    let seen = subst Lines (sym c.deref.ensures.value) (ap (λ (w : Watched). w.lines) c.exchange.view_is) in
    let there : c.args.place < length c.deref.result.now = omega (arith, c.in-Some.ensures.lookup) in
    let found = line_at line_of c.deref.result.now c.args.exchange.now.lines c.args.place post seen there
    c.in-Some.ensures.lookup.1 in
    as_made (with_state c.state_after-state.result) (line_wished c.args.id c.args.wish) c.args.place
    c.args.exchange.now.lines c.set_state.new.exchange.lines (line_of post) found
    (ap (λ (s : LineState). with_state s (line_of post)) c.state_after-state.ensures) c.set_state.ensures

-- no line is where no post is
pub returns-in_default : goal.returns-in_default
returns-in_default g c =
    let P : Type 0 = Post g.row.N-Listener.Denot g.row.N-Connection.Denot in
    let line_of : P → ServedLine = λ post. served_line g.N.Network.address_of post in
    let Lines : List P → Type 0 = λ posts. map line_of posts ≡ c.args.exchange.now.lines in
    let seen = subst Lines (sym c.deref.ensures.value) (ap (λ (w : Watched). w.lines) c.exchange.view_is) in
    none_made (line_wished c.args.id c.args.wish) c.args.exchange.now.lines c.args.place
    (none_there line_of c.deref.result.now c.args.exchange.now.lines c.args.place seen
    (omega (arith, c.in_default.ensures.lookup)))
