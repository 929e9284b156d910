use Rattle.std.proofs.Common.{arith, ◌≡◌, ℕ, ◌<◌, List, length, map, subst, sym, ap, ◌∙◌}
use Rattle.std.specs.Prelude.{◌&&◌, IsTrue}
use Rattle.std.proofs.lemmas.Bool.{false≢true}
use Rattle.njh_hub.specs.Resting.{HasNext}
use Rattle.njh_table.specs.declared.LineId.{LineId}
use Rattle.njh_sight.specs.Prompting.{may_prompt}
use Rattle.njh_lines.specs.Watching.{noted_of, served_line, Noted, ServedLine, Watched}
use Rattle.njh_lines.specs.declared.post.Post.{Post}
use Rattle.njh_lines.proofs.PostLaws.{line_there, post_there, seen_of}
use Rattle.njh_lines.proofs.waking.is_wanted.Goals as goal

-- what is seen of the line and what was noted of it are those of the post there
pub returns : goal.returns
returns g c =
    let P : Type 0 = Post g.row.N-Listener.Denot g.row.N-Connection.Denot in
    let Line : P → ServedLine = λ post. served_line g.N.Network.address_of post in
    let Note : P → Noted = λ post. noted_of post in
    let Lines : List P → Type 0 = λ posts. map Line posts ≡ c.args.exchange.now.lines in
    let Notes : List P → Type 0 = λ posts. map Note posts ≡ c.args.exchange.now.noted in
    let there : c.args.place < length c.deref.result.now = omega (arith, c.in-Some.ensures.lookup) in
    let lines = subst Lines (sym c.deref.ensures.value) (ap (λ (seen : Watched). seen.lines) c.exchange.view_is) in
    let notes = subst Notes (sym c.deref.ensures.value) (ap (λ (seen : Watched). seen.noted) c.exchange.view_is) in
    let now = ap (λ (seen : Watched). seen.now) c.exchange.view_is in
    let May : Noted → ℕ → Type 0 = λ own moment. IsTrue (own.traffic.seen.rests && may_prompt own.traffic moment) in
    let Has : LineId → Type 0 = λ line. HasNext c.args.hub.now line in (
      λ wakes.
          let is = c.wakes.ensures.0 wakes in
          let parts = is.1 in record {
            line = Line c.in-Some.post.now;
            noted = Note c.in-Some.post.now;
            there = seen_of Line c.deref.result.now c.args.exchange.now.lines c.args.place c.in-Some.post.now lines
                there c.in-Some.ensures.lookup.1;
            known = seen_of Note c.deref.result.now c.args.exchange.now.noted c.args.place c.in-Some.post.now notes
                there c.in-Some.ensures.lookup.1;
            own = is.0;
            may = subst (May (Note c.in-Some.post.now)) now parts.0;
            has = parts.1;
          },
      λ wanted.
          let own = line_there Line c.deref.result.now c.args.exchange.now.lines c.args.place c.in-Some.post.now
          wanted.line lines there c.in-Some.ensures.lookup.1 wanted.there in
          let its = line_there Note c.deref.result.now c.args.exchange.now.noted c.args.place c.in-Some.post.now
          wanted.noted notes there c.in-Some.ensures.lookup.1 wanted.known in
          let id : wanted.line.id ≡ c.in-Some.post.now.line = ap (λ (served : ServedLine). served.id) own in
          c.wakes.ensures.1 (
            sym (ap (λ (line : LineId). line.customer) id) ∙ wanted.own,
            (
              subst (May (Note c.in-Some.post.now)) (sym now)
                  (subst (λ (noted : Noted). May noted c.args.exchange.now.now) its wanted.may),
              subst Has id wanted.has,
            ),
          ),
    )

-- no line is where no post is
pub returns-in_default : goal.returns-in_default
returns-in_default g c = (
  λ wakes. absurd (false≢true wakes),
  λ wanted.
      let P : Type 0 = Post g.row.N-Listener.Denot g.row.N-Connection.Denot in
      let Line : P → ServedLine = λ post. served_line g.N.Network.address_of post in
      let Lines : List P → Type 0 = λ posts. map Line posts ≡ c.args.exchange.now.lines in
      let lines = subst Lines (sym c.deref.ensures.value) (ap (λ (seen : Watched). seen.lines) c.exchange.view_is) in
      let there : c.args.place < length c.deref.result.now =
      post_there Line c.deref.result.now c.args.exchange.now.lines c.args.place wanted.line lines wanted.there in
      absurd (omega (arith, there, c.in_default.ensures.lookup)),
)
