use Rattle.std.proofs.Common.{ℕ, ◌<◌, ◌≤◌, List, length, map, set, refl, sym, ap, subst, ◌∙◌, ⊎_elim}
use Rattle.std.proofs.lemmas.Bool.{cases_lt, false≢true}
use Rattle.njh_lines.specs.LineStates.{with_from, IsMadeAt}
use Rattle.njh_lines.specs.Watching.{noted_of, served_line, ServedLine, Watched}
use Rattle.njh_lines.specs.declared.post.Post.{Post}
use Rattle.njh_lines.proofs.PostLaws.{lines_stay}
use Rattle.njh_lines.proofs.StateLaws.{line_made, none_made, none_there}
use Rattle.njh_lines.proofs.exchange.Exchange.take_from.Goals as goal

-- the peer of the line there may connect from there
pub returns-clause-lines : goal.returns-clause-lines
returns-clause-lines g c =
    let P : Type 0 = Post g.row.N-Listener.Denot g.row.N-Connection.Denot in
    let line_of : P → ServedLine = λ post. served_line g.N.Network.address_of post in
    let Within : ℕ → Type 0 = λ many. c.args.place < many in
    line_made line_of c.self.inside.posts.items c.args.self.now.lines c.args.place c.in-Some.post.now
    c.take_from.new.post (with_from c.args.from.now) (ap (λ (seen : Watched). seen.lines) c.self.view_is)
    (subst Within c.self.inside.posts.ok.0 (c.in-Some.ensures.variant.0 refl)) c.in-Some.ensures.value
    (ap line_of c.take_from.ensures.taken)

-- all else is as it was
pub returns-clause-same : goal.returns-clause-same
returns-clause-same g c =
    let P : Type 0 = Post g.row.N-Listener.Denot g.row.N-Connection.Denot in
    let posts = c.self.inside.posts.items in
    let post = c.in-Some.post.now in
    let new = c.take_from.new.post in
    let is = c.take_from.ensures.taken in
    let read = c.in-Some.ensures.value in
    let lines = map (λ (one : P). served_line g.N.Network.address_of one) (set posts c.args.place new) in
    let noted = lines_stay (λ (one : P). noted_of one) posts (map (λ (one : P). noted_of one) posts) c.args.place
    post new refl read (ap (λ (one : P). noted_of one) is) in
    let steps = lines_stay (λ (one : P). one.steps) posts (map (λ (one : P). one.steps) posts) c.args.place post new
    refl read (ap (λ (one : P). one.steps) is) in
    let tallies = lines_stay (λ (one : P). one.streams.tally) posts (map (λ (one : P). one.streams.tally) posts)
    c.args.place post new refl read (ap (λ (one : P). one.streams.tally) is) in
    let refusals = lines_stay (λ (one : P). one.label.refusals) posts (map (λ (one : P). one.label.refusals) posts)
    c.args.place post new refl read (ap (λ (one : P). one.label.refusals) is) in
    (λ i. record {
      lines = lines;
      noted = noted i;
      steps = steps i;
      tallies = tallies i;
      refusals = refusals i;
      ready = c.self.inside.ready.items;
      watches = c.self.inside.watches.items;
      customers = c.take_from.ensures.customers i;
      next = c.self.inside.next;
      now = c.take_from.ensures.now i;
      arrivals = c.self.inside.arrivals;
    })
    ∙ ap (λ (seen : Watched). record seen { lines = lines }) c.self.view_is

-- no line is where no post is
pub returns-in_default-clause-lines : goal.returns-in_default-clause-lines
returns-in_default-clause-lines g c =
    let P : Type 0 = Post g.row.N-Listener.Denot g.row.N-Connection.Denot in
    let line_of : P → ServedLine = λ post. served_line g.N.Network.address_of post in
    let Within : ℕ → Type 0 = λ many. c.args.place < many in
    let made = with_from c.args.from.now in
    let Made : List ServedLine → Type 0 = λ new. IsMadeAt c.args.place made c.args.self.now.lines new in
    let seen = ap (λ (w : Watched). w.lines) c.self.view_is in ⊎_elim
    (λ (within : c.args.place < length c.self.inside.posts.items).
    absurd (false≢true (c.in_default.ensures.variant.1 (subst Within (sym c.self.inside.posts.ok.0) within))))
    (λ (past : length c.self.inside.posts.items ≤ c.args.place).
    subst Made (sym seen) (none_made made c.args.self.now.lines c.args.place
    (none_there line_of c.self.inside.posts.items c.args.self.now.lines c.args.place seen past)))
    (cases_lt c.args.place (length c.self.inside.posts.items))

pub returns-in_default-clause-same : goal.returns-in_default-clause-same
returns-in_default-clause-same g c =
    c.self.view_is
    ∙ ap (λ (lines : List ServedLine). record c.args.self.now { lines = lines })
    (sym (ap (λ (w : Watched). w.lines) c.self.view_is))
