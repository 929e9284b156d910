use Rattle.std.proofs.Common.{◌≡◌, ◌≢◌, ℕ, ◌<◌, Some, length, ap, sym, subst, ◌∙◌, arith, refl, ⊎_elim}
use Rattle.std.specs.Prelude.{false, IsTrue, slice_get}
use Rattle.std.proofs.lemmas.Bool.{cases_eq, false≢true}
use Rattle.std.proofs.lemmas.List.{length-map}
use Rattle.std.proofs.lemmas.Option.{slice_get_within}
use Rattle.njh_sight.specs.Streams.{is_free}
use Rattle.njh_lines.specs.Watching.{served_line, ServedLine, Watched}
use Rattle.njh_lines.specs.declared.post.Post.{Post}
use Rattle.njh_lines.proofs.PostLaws.{line_there}
use Rattle.njh_lines.proofs.StateLaws.{line_at}
use Rattle.njh_lines.proofs.exchange.Exchange.are_free.Goals as goal

pub loop-place-init : goal.loop-place-init
loop-place-init g c = λ p line before found. let none : ⊥ = omega (arith, before) in absurd none

-- no file is on the streams of one line more
pub loop-place-preserved : goal.loop-place-preserved
loop-place-preserved g c = λ p line before found. ⊎_elim
    (λ (here : p ≡ c.loop-place.place).
    let there : c.loop-place.place < length c.self.inside.posts.items = omega (arith, c.loop-place-test.true) in
    let At : ℕ → Type 0 = λ k. slice_get c.args.self.now.lines k ≡ Some line in
    let own = line_there
    (λ (post : Post g.row.N-Listener.Denot g.row.N-Connection.Denot). served_line g.N.Network.address_of post)
    c.self.inside.posts.items c.args.self.now.lines c.loop-place.place c.index.result.now line
    (ap (λ (seen : Watched). seen.lines) c.self.view_is) there c.index.ensures
    (subst At here found) in
    ap (λ (l : ServedLine). is_free l.id c.args.hub.now) own ∙ (sym c.is_free.ensures ∙ c.if-not-is_free.false))
    (λ (other : p ≢ c.loop-place.place). c.loop-place.invariant p line (omega (arith, before, other)) found)
    (cases_eq p c.loop-place.place)

-- a file is on those of the line there
pub returns-then-not-is_free : goal.returns-then-not-is_free
returns-then-not-is_free g c =
    let there : c.loop-place.place < length c.self.inside.posts.items = omega (arith, c.loop-place-test.true) in
    let line_of = λ (post : Post g.row.N-Listener.Denot g.row.N-Connection.Denot).
    served_line g.N.Network.address_of post in
    let found = line_at line_of c.self.inside.posts.items c.args.self.now.lines c.loop-place.place c.index.result.now
    (ap (λ (seen : Watched). seen.lines) c.self.view_is) there c.index.ensures in (
      λ (free : IsTrue false). absurd (false≢true free),
      λ all. absurd (false≢true (sym c.if-not-is_free.true
          ∙ (c.is_free.ensures ∙ all c.loop-place.place (line_of c.index.result.now) found))),
    )

-- none is
pub returns : goal.returns
returns g c =
    let lines : length c.args.self.now.lines ≡ length c.self.inside.posts.items =
    sym (ap (λ (seen : Watched). length seen.lines) c.self.view_is)
    ∙ length-map c.self.inside.posts.items
    (λ (post : Post g.row.N-Listener.Denot g.row.N-Connection.Denot). served_line g.N.Network.address_of post) in (
      λ free p line found. c.loop-place.invariant p line
          (omega (arith, lines, slice_get_within c.args.self.now.lines p line found, c.loop-place-test.false)) found,
      λ all. refl,
    )
