use Rattle.std.proofs.Common.{◌≡◌, ◌<◌, List, length, map, ap, sym, subst, arith}
use Rattle.std.proofs.lemmas.Option.{slice_get_within}
use Rattle.njh_request.specs.declared.request.LineState.{LineState}
use Rattle.njh_lines.specs.LineStates.{line_settled, with_state}
use Rattle.njh_lines.specs.Watching.{served_line, ServedLine, Watched}
use Rattle.njh_lines.specs.declared.post.Post.{Post}
use Rattle.njh_lines.proofs.StateLaws.{as_made, line_at, none_made, none_there}
use Rattle.njh_lines.proofs.states.settle_at.Goals as goal

-- the line there is as a round leaves it
pub returns-clause-made : goal.returns-clause-made
returns-clause-made g c =
    let P : Type 0 = Post g.row.N-Listener.Denot g.row.N-Connection.Denot in
    let line_of : P → ServedLine = λ post. served_line g.N.Network.address_of post in
    let post = c.in-Some.post.now in
    let state = c.state_settled-state.result in
    let Lines : List P → Type 0 = λ posts. map line_of posts ≡ c.args.exchange.now.lines in
    let seen = subst Lines (sym c.deref.ensures.value) (ap (λ (w : Watched). w.lines) c.exchange.view_is) in
    let there : c.args.place < length c.deref.result.now = omega (arith, c.in-Some.ensures.lookup) in
    let found = line_at line_of c.deref.result.now c.args.exchange.now.lines c.args.place post seen there
    c.in-Some.ensures.lookup.1 in
    as_made (with_state state) (line_settled c.args.hub.now) c.args.place c.args.exchange.now.lines
    c.set_state.new.exchange.lines (line_of post) found
    (ap (λ (s : LineState). with_state s (line_of post)) c.state_settled-state.ensures) c.set_state.ensures

-- no line is where no post is
pub returns-in_default : goal.returns-in_default
returns-in_default g c =
    let P : Type 0 = Post g.row.N-Listener.Denot g.row.N-Connection.Denot in
    let line_of : P → ServedLine = λ post. served_line g.N.Network.address_of post in
    let Lines : List P → Type 0 = λ posts. map line_of posts ≡ c.args.exchange.now.lines in
    let seen = subst Lines (sym c.deref.ensures.value) (ap (λ (w : Watched). w.lines) c.exchange.view_is) in
    let past = none_there line_of c.deref.result.now c.args.exchange.now.lines c.args.place seen
    (omega (arith, c.in_default.ensures.lookup)) in record {
      made = none_made (line_settled c.args.hub.now) c.args.exchange.now.lines c.args.place past;
      state = λ line at.
          let none : ⊥ = omega (arith, past, slice_get_within c.args.exchange.now.lines c.args.place line at) in
          absurd none;
    }
