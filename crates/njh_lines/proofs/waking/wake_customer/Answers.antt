use Rattle.std.proofs.Common.{◌≡◌, ◌∙◌, ℕ, ◌<◌, ◌≤◌, List, ap, arith, refl, subst, sym}
use Rattle.std.specs.Prelude.{slice_get, IsTrue}
use Rattle.std.proofs.lemmas.Option.{same_Some}
use Rattle.njh_sight.specs.Waking.{is_wanted}
use Rattle.njh_sight.specs.declared.customers.Row.{Row}
use Rattle.njh_lines.specs.Attention.{watch_at}
use Rattle.njh_lines.specs.Resting.{AreWoken, IsLinesMoment}
use Rattle.njh_lines.specs.Watching.{IsToBeWoken, Watched}
use Rattle.njh_lines.specs.declared.attention.Watch.{Watch}
use Rattle.njh_lines.proofs.CallLaws.{all_woken, none_woken, to_be_woken}
use Rattle.njh_lines.proofs.waking.wake_customer.Goals as goal

pub returns-clause-calls : goal.returns-clause-calls
returns-clause-calls g c =
    let old = c.args.exchange.now in
    let Woken : List Watch → Type 0 = λ watches. AreWoken old c.args.hub.now watches in
    subst Woken (sym (ap (λ (seen : Watched). seen.watches) c.exchange-2.view_is))
    (all_woken _ old c.args.hub.now c.wake_row-held.new.exchange.watches
    (sym (ap (λ (seen : Watched). seen.lines) c.exchange.view_is))
    (sym (ap (λ (seen : Watched). seen.noted) c.exchange.view_is))
    (sym (ap (λ (seen : Watched). seen.now) c.exchange.view_is))
    (sym (ap (λ (seen : Watched). seen.watches) c.exchange.view_is)) c.wake_row-held.ensures.calls)

pub returns-clause-waits : goal.returns-clause-waits
returns-clause-waits g c = λ first.
    let First : Watched → Type 0 = λ seen. IsLinesMoment seen seen.next in
    subst First (sym c.exchange-2.view_is) (c.wake_row-held.ensures.waits (subst First (sym c.exchange.view_is) first))

-- each of its lines that is to be woken was
pub returns-clause-woken : goal.returns-clause-woken
returns-clause-woken g c = λ row place found wants from end wanted.
    let old = c.args.exchange.now in
    let its = ap (λ (seen : Watched). slice_get seen.customers c.args.customer) c.exchange.view_is in
    let is : c.in-Some.row ≡ row = same_Some c.in-Some.row row (sym c.in-Some.ensures.found.0 ∙ (its ∙ found)) in
    let time = ap (λ (seen : Watched). seen.now) c.exchange.view_is in
    let watch = ap (λ (seen : Watched). (watch_at seen.watches place).moment) c.exchange-2.view_is in
    let Own : Row → Type 0 = λ r. r.first ≤ place → place < r.end → IsToBeWoken old place r.customer c.args.hub.now
    → (watch_at c.wake_row-held.new.exchange.watches place).moment ≤ old.now in
    let early = subst Own is (λ first last its_own.
    let then = c.wake_row-held.ensures.woken place first last
    (to_be_woken old _ c.args.hub.now place c.in-Some.row.customer
    (ap (λ (seen : Watched). seen.lines) c.exchange.view_is) (ap (λ (seen : Watched). seen.noted) c.exchange.view_is)
    time its_own) in
    omega (arith, then, time)) from end wanted in
    omega (arith, early, watch)

-- of the other customers nothing changed
pub returns-clause-others : goal.returns-clause-others
returns-clause-others g c = λ other apart.
    c.look_again.ensures.others other apart
    ∙ (ap (λ (seen : Watched). slice_get seen.customers other) c.exchange-2.view_is
    ∙ (ap (λ (rows : List Row). slice_get rows other) c.wake_row-held.ensures.customers
    ∙ (c.look.ensures.others other apart
    ∙ ap (λ (seen : Watched). slice_get seen.customers other) c.exchange.view_is)))

pub returns-in_default-clause-calls : goal.returns-in_default-clause-calls
returns-in_default-clause-calls g c = none_woken c.args.exchange.now c.args.hub.now

-- they may not be looked at by now
pub returns-in_default-clause-woken : goal.returns-in_default-clause-woken
returns-in_default-clause-woken g c = λ row place found wants from end wanted.
    let its = ap (λ (seen : Watched). slice_get seen.customers c.args.customer) c.exchange.view_is in
    let At : ℕ → Type 0 = λ n. IsTrue (is_wanted row n) in
    absurd (c.in_default.ensures.none refl row (its ∙ found)
    (subst At (sym (ap (λ (seen : Watched). seen.now) c.exchange.view_is)) wants))
