use Rattle.std.proofs.Common.{arith, ◌≡◌, ℕ, ◌<◌, ◌↔◌, List, length, map, subst, sym, ap, refl}
use Rattle.std.specs.Prelude.{IsTrue, Some, slice_get}
use Rattle.njh_table.specs.declared.LineId.{LineId}
use Rattle.njh_sight.specs.Prompting.{IsPrompted}
use Rattle.njh_lines.specs.Watching.{noted_of, served_line, Noted, ServedLine, Watched}
use Rattle.njh_lines.specs.declared.post.Post.{Post}
use Rattle.njh_sight.specs.declared.traffic.Traffic.{Traffic}
use Rattle.njh_lines.proofs.PostLaws.{line_there, post_there, seen_of}
use Rattle.njh_lines.proofs.exchange.Exchange.prompts.Goals as goal

-- what is seen of the line and what was noted of it are those of the post there
pub returns : goal.returns
returns g c =
    let P : Type 0 = Post g.row.N-Listener.Denot g.row.N-Connection.Denot in
    let Line : P → ServedLine = λ post. served_line g.N.Network.address_of post in
    let Note : P → Noted = λ post. noted_of post in
    let Lines : List P → Type 0 = λ posts. map Line posts ≡ c.args.self.now.lines in
    let Notes : List P → Type 0 = λ posts. map Note posts ≡ c.args.self.now.noted in
    let there : c.args.place < length c.deref.result.now = omega (arith, c.in-Some.ensures.lookup) in
    let lines = subst Lines (sym c.deref.ensures.value) (ap (λ (seen : Watched). seen.lines) c.self.view_is) in
    let notes = subst Notes (sym c.deref.ensures.value) (ap (λ (seen : Watched). seen.noted) c.self.view_is) in
    let Says : Traffic → LineId → ℕ → Type 0 =
    λ noted id now. IsTrue c.prompts.result ↔ IsPrompted noted c.args.hub.now id now in
    let at_now = subst (Says c.in-Some.post.now.traffic c.in-Some.post.now.line)
    (ap (λ (seen : Watched). seen.now) c.self.view_is) c.prompts.ensures.prompted in
    let of_line : (line : ServedLine) (noted : Noted) → slice_get c.args.self.now.lines c.args.place ≡ Some line
    → slice_get c.args.self.now.noted c.args.place ≡ Some noted → Says noted.traffic line.id c.args.self.now.now =
    λ line noted found known.
    let own = line_there Line c.deref.result.now c.args.self.now.lines c.args.place c.in-Some.post.now line lines there
    c.in-Some.ensures.lookup.1 found in
    let its = line_there Note c.deref.result.now c.args.self.now.noted c.args.place c.in-Some.post.now noted notes there
    c.in-Some.ensures.lookup.1 known in
    subst (λ (own : Noted). Says own.traffic line.id c.args.self.now.now) (sym its)
    (subst (λ (id : LineId). Says c.in-Some.post.now.traffic id c.args.self.now.now)
    (ap (λ (served : ServedLine). served.id) (sym own)) at_now) in (
      (λ prompted line noted found known. (of_line line noted found known).0 prompted),
      (λ all. at_now.1 (all (Line c.in-Some.post.now) (Note c.in-Some.post.now)
          (seen_of Line c.deref.result.now c.args.self.now.lines c.args.place c.in-Some.post.now lines there
          c.in-Some.ensures.lookup.1)
          (seen_of Note c.deref.result.now c.args.self.now.noted c.args.place c.in-Some.post.now notes there
          c.in-Some.ensures.lookup.1))),
    )

-- no line is where no post is
pub returns-in_default : goal.returns-in_default
returns-in_default g c =
    let P : Type 0 = Post g.row.N-Listener.Denot g.row.N-Connection.Denot in
    let Line : P → ServedLine = λ post. served_line g.N.Network.address_of post in
    let Lines : List P → Type 0 = λ posts. map Line posts ≡ c.args.self.now.lines in
    let lines = subst Lines (sym c.deref.ensures.value) (ap (λ (seen : Watched). seen.lines) c.self.view_is) in (
      (λ prompted line noted found known.
          let there : c.args.place < length c.deref.result.now =
          post_there Line c.deref.result.now c.args.self.now.lines c.args.place line lines found in
          absurd (omega (arith, there, c.in_default.ensures.lookup))),
      (λ all. refl),
    )
