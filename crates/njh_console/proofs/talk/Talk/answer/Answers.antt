use Rattle.std.proofs.Common.{◌≡◌, ◌∙◌, subst}
use Rattle.http_server.specs.Connection.{config_of, history}
use Rattle.http_server.specs.History.{IsServed}
use Rattle.http_server.specs.declared.state.Config.{Config}
use Rattle.http_server.proofs.Theorems.{always_served}
use Rattle.njh_console.specs.Seats.{config, IsAsking, IsHeldUp}
use Rattle.njh_console.specs.code.Talks.{TalkState}
use Rattle.njh_console.proofs.TalkLaws.{asks_no_more, held_up}
use Rattle.njh_console.proofs.talk.Talk.answer.Goals as goal

pub returns-then-not-self-clause-served : goal.returns-then-not-self-clause-served
returns-then-not-self-clause-served g c =
    let before = c.self.inside.connection in
    subst (λ (talk : TalkState). ∥ IsServed config talk.history ∥₁) c.self.view_is
    (subst (λ (k : Config). ∥ IsServed k (history before) ∥₁) c.self.invariant.0 (always_served before))

pub invariant_of-self : goal.invariant_of-self
invariant_of-self g c =
    let after = c.advance.new.self in
    let known = c.advance.ensures.config ∙ c.self.invariant.0 in
    (known, λ is. asks_no_more (config_of after) (history after) known c.advance.ensures.rests)

pub returns-clause-asked : goal.returns-clause-asked
returns-clause-asked g c =
    let before = c.self.inside.connection in
    let after = c.advance.new.self in
    let known = c.advance.ensures.config ∙ c.self.invariant.0 in
    subst (λ (talk : TalkState). IsAsking talk.history → (history after).calls ≡ talk.history.calls
    → IsHeldUp (history after)) c.self.view_is
    (held_up (config_of after) (history before) (history after) known c.advance.ensures.rests c.advance.ensures.quiet)
