-- What is read of an answer.
use Rattle.std.proofs.Common.{◌≡◌, List, ℕ, sym, ap, subst, ◌∙◌}
use Rattle.http1.specs.declared.conn.Event.{Event}
use Rattle.httparse.specs.declared.spans.ResponseSpans.{ResponseSpans}
use Rattle.njh_ctl.specs.Exchanges.{IsNext, Link, Receives, ReplyView, TakesNext, reply_after}
use Rattle.njh_ctl.specs.declared.session.Next.{Next}

abbrev pub with_body : List ℕ → ReplyView → ReplyView
with_body body reply = record reply { body = body }

-- an event changes the answer so, and this comes next
pub record IsStep (input : List ℕ) (e : Event ResponseSpans) (before after : ReplyView) (next : Next) : Type 0 where
  pub reply : after ≡ reply_after input e before
  pub is_next : IsNext next e

pub step_by : (input : List ℕ) (e is : Event ResponseSpans) (before after : ReplyView) (next then : Next) → e ≡ is
    → next ≡ then → after ≡ reply_after input is before → IsNext then is → IsStep input e before after next
step_by input e is before after next then found comes reply is_next = record {
  reply = reply ∙ ap (λ (x : Event ResponseSpans). reply_after input x before) (sym found);
  is_next = subst (λ (x : Event ResponseSpans). IsNext next x) (sym found)
      (subst (λ (n : Next). IsNext n is) (sym comes) is_next);
}

-- the connection as its value says
pub received_by : (old was new : Link) → was ≡ old → Receives was new → Receives old new
received_by old was new same it = subst (λ (x : Link). Receives x new) same it

pub taken_by : (old was new : Link) (before after : ReplyView) (next : Next) → was ≡ old
    → TakesNext was new before after next → TakesNext old new before after next
taken_by old was new before after next same it = subst (λ (x : Link). TakesNext x new before after next) same it
