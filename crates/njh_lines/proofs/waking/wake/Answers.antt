use Rattle.std.proofs.Common.{◌≡◌, ◌≢◌, ℕ, arith, refl, subst, sym, ap, ◌∙◌}
use Rattle.std.proofs.lemmas.List.{length-map}
use Rattle.njh_lines.specs.Resting.{AreServedBy, AreWoken, IsLinesMoment}
use Rattle.njh_lines.specs.Watching.{served_line, Watched}
use Rattle.njh_lines.specs.declared.post.Post.{Post}
use Rattle.njh_lines.proofs.CallLaws.{none_served, none_woken, served_more, waits_for_first, woken_after}
use Rattle.njh_lines.proofs.GroupLaws.{waits_less}
use Rattle.njh_lines.proofs.waking.wake.Goals as goal

pub loop-customer-init : goal.loop-customer-init
loop-customer-init g c = record {
  lines = refl;
  noted = refl;
  now = refl;
  calls = none_woken c.args.exchange.now c.args.hub.now;
  waits = λ first. first;
  woken = none_served c.args.exchange.now c.args.hub.now c.args.exchange.now.watches;
  later = λ k from. refl;
}

pub loop-customer-preserved : goal.loop-customer-preserved
loop-customer-preserved g c = record {
  lines = c.wake_customer.ensures.lines ∙ c.loop-customer.invariant.lines;
  noted = c.wake_customer.ensures.noted ∙ c.loop-customer.invariant.noted;
  now = c.wake_customer.ensures.now ∙ c.loop-customer.invariant.now;
  calls = woken_after c.args.exchange.now c.loop-customer.exchange c.args.hub.now
      c.wake_customer.new.exchange.watches c.loop-customer.invariant.lines c.loop-customer.invariant.noted
      c.loop-customer.invariant.now c.loop-customer.invariant.calls c.wake_customer.ensures.calls;
  waits = λ first. c.wake_customer.ensures.waits (c.loop-customer.invariant.waits first);
  woken = served_more c.args.exchange.now c.loop-customer.exchange c.wake_customer.new.exchange
      c.loop-customer.customer c.args.hub.now c.loop-customer.invariant.lines c.loop-customer.invariant.noted
      c.loop-customer.invariant.now (c.loop-customer.invariant.later c.loop-customer.customer (omega arith))
      c.wake_customer.ensures.calls c.wake_customer.ensures.woken c.loop-customer.invariant.woken;
  later = λ k from.
      let apart : k ≢ c.loop-customer.customer = λ here. omega (arith, here, from) in
      c.wake_customer.ensures.others k apart ∙ c.loop-customer.invariant.later k (omega (arith, from));
}

-- it waits for a customer too, and no longer by that
pub invariant_of-exchange : goal.invariant_of-exchange
invariant_of-exchange g c =
    waits_less _ c.exchange.inside.ready.items c.exchange.inside.watches.items c.exchange.inside.groups.items
    c.exchange.inside.next c.min-exchange-inside.result (omega (arith, c.min-exchange-inside.ensures))
    c.exchange.invariant

pub returns-clause-lines : goal.returns-clause-lines
returns-clause-lines g c = ap (λ (seen : Watched). seen.lines) c.exchange.view_is ∙ c.loop-customer.invariant.lines

pub returns-clause-noted : goal.returns-clause-noted
returns-clause-noted g c = ap (λ (seen : Watched). seen.noted) c.exchange.view_is ∙ c.loop-customer.invariant.noted

pub returns-clause-now : goal.returns-clause-now
returns-clause-now g c = ap (λ (seen : Watched). seen.now) c.exchange.view_is ∙ c.loop-customer.invariant.now

pub returns-clause-calls : goal.returns-clause-calls
returns-clause-calls g c =
    let Woken : Watched → Type 0 = λ seen. AreWoken c.args.exchange.now c.args.hub.now seen.watches in
    subst Woken (sym c.exchange.view_is) c.loop-customer.invariant.calls

-- until the first moment of a line or of a customer
pub returns-clause-waits : goal.returns-clause-waits
returns-clause-waits g c = λ first.
    let many = length-map c.exchange.inside.posts.items
    (λ (post : Post g.row.N-Listener.Denot g.row.N-Connection.Denot). served_line g.N.Network.address_of post) in
    let First : Watched → Type 0 = λ seen. IsLinesMoment seen seen.next in
    waits_for_first _ c.exchange.inside.next c.moment.result c.min-exchange-inside.ensures
    (λ place before. c.exchange.invariant.waits place (omega (arith, before, many)))
    (subst First (sym c.exchange.view_is) (c.loop-customer.invariant.waits first)) c.moment.ensures

pub returns-clause-woken : goal.returns-clause-woken
returns-clause-woken g c =
    let last : c.loop-customer.customer ≡ 64 = omega (arith, c.loop-customer-test.false) in
    let Woken : Watched → Type 0 = λ seen. AreServedBy c.args.exchange.now c.args.hub.now c.loop-customer.customer
    seen.watches in
    let To : ℕ → Type 0 = λ n. AreServedBy c.args.exchange.now c.args.hub.now n c.exchange.inside.watches.items in
    subst To last (subst Woken (sym c.exchange.view_is) c.loop-customer.invariant.woken)
