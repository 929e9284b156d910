-- Lines of which none is to be stopped once it is idle, and lines as the console tells them.
use Rattle.std.proofs.Common.{◌≡◌, ℕ, ◌+◌, ◌<◌, List, [], ◌∷◌, ◌++◌, length, get_or, take, map, Some, refl}
use Rattle.std.proofs.Common.{sym, ap, ◌∙◌, subst}
use Rattle.std.proofs.lemmas.List.{map-append}
use Rattle.std.specs.Prelude.{Bool, true, false, cond, Option, None, slice_get, if◌then◌else◌, ◌&&◌}
use Rattle.std.specs.Option.{option_map}
use Rattle.std.specs.declared.net.socket_addr.SocketAddr.{SocketAddr}
use Rattle.njh_request.specs.declared.request.LineState.TheVariants.{Stopped}
use Rattle.njh_answer.specs.declared.views.LineView.{LineView}
use Rattle.njh_console.specs.Consoles.{ConsoleState}
use Rattle.njh_console.specs.declared.act.Act.{Act}
use Rattle.njh_console.specs.declared.act.Act.TheVariants as act
use Rattle.njh_hub.specs.WholeHub.{Part}
use Rattle.njh_answer.specs.Tickets.{is_late}
use Rattle.njh_answer.specs.declared.orders.Outcome.TheVariants.{TooLate}
use Rattle.njh_console.specs.Orders.{due_if, given_if, order_due, with_order_given, with_outcome, NoneIsOpen, TakenOrders}
use Rattle.njh_console.specs.declared.act.Asked.{Asked}
use Rattle.njh_console.specs.declared.order_book.WaitingOrder.{WaitingOrder}
use Rattle.njh_turns.specs.Service.{order_event, AskedOrder}
use Rattle.njh_turns.specs.declared.attendant.NewOrder.{NewOrder}
use Rattle.njh_request.specs.declared.request.EndMoment.{EndMoment}
use Rattle.njh_service.specs.Bureaus.{lines_told, post_told, stop_after, view_told}
use Rattle.njh_service.specs.Bureaus.{Attended, AwaitsAnswer, IsAsked, IsObeyed, ToldLine}
use Rattle.njh_sight.specs.Streams.{is_free}
use Rattle.njh_lines.specs.LineStates.{is_draining, line_settled, line_wished, with_state, AreMade}
use Rattle.njh_lines.specs.LineStates.{NoneDrains}
use Rattle.njh_revision.specs.Revisions.{KnownTables}
use Rattle.njh_lines.specs.Watching.{served_line, ServedLine, Watched}
use Rattle.njh_lines.specs.declared.post.Post.{Post}
use Rattle.njh_sight.specs.declared.steps.Steps.{Steps}
use Rattle.njh_sight.specs.declared.tally.Tally.{Tally}
use Rattle.njh_sites.proofs.OpenedLaws.{made_more}

settled_same : (parts : List Part) (line : ServedLine) → is_draining line.state ≡ false
    → line ≡ line_settled parts line
settled_same parts line none =
    sym (ap (λ (drains : Bool). with_state (if drains && is_free line.id parts then Stopped else line.state) line) none)

settled_where : (parts : List Part) (found : Option ServedLine)
    → ((line : ServedLine) → found ≡ Some line → is_draining line.state ≡ false)
    → found ≡ option_map (line_settled parts) found
settled_where parts None none = refl
settled_where parts (Some line) none = ap Some (settled_same parts line (none line refl))

-- where none is to be stopped once it is idle, a round leaves all as they are
pub none_settled : (parts : List Part) (lines : List ServedLine) → NoneDrains lines
    → AreMade (line_settled parts) lines lines
none_settled parts lines none place =
    settled_where parts (slice_get lines place) (λ line found. none place line found)

-- an order that is brought is the one that was given
given_case : (late : Bool) (w : WaitingOrder) (o : TakenOrders)
    → AwaitsAnswer (AskedOrder (option_map order_event (cond late None (Some w.order))))
    (cond late (with_outcome w.ticket TooLate (record o { waiting = None; given = None }))
    (record o { waiting = None; given = Some w.ticket }))
given_case true w o = record { none_waits = refl; none_given = refl }
given_case false w o = (refl, (w, refl, refl))

due_case : (now : ℕ) (waiting : Option WaitingOrder) (o : TakenOrders) → o.waiting ≡ waiting
    → AwaitsAnswer (AskedOrder (option_map order_event (due_if now waiting))) (given_if now waiting o)
due_case now None o is = record { none_waits = is; none_given = refl }
due_case now (Some w) o is = given_case (is_late now w.ticket.terms) w o

pub awaits_what_was_given : (now : ℕ) (brought : Option NewOrder) (orders new : TakenOrders)
    → brought ≡ order_due now orders → new ≡ with_order_given now orders
    → AwaitsAnswer (AskedOrder (option_map order_event brought)) new
awaits_what_was_given now brought orders new is given =
    subst (λ (b : Option NewOrder). AwaitsAnswer (AskedOrder (option_map order_event b)) new) (sym is)
    (subst (λ (n : TakenOrders). AwaitsAnswer (AskedOrder (option_map order_event (order_due now orders))) n)
    (sym given) (due_case now orders.waiting orders refl))

-- what is told of posts is what is told of their lines, with what was noted of the steps on them and counted
posts_told : {L C : Type 0} (address_of : L → SocketAddr) (posts : List (Post L C))
    → map post_told posts ≡ lines_told (map (served_line address_of) posts) (map (λ post. post.steps) posts)
    (map (λ post. post.streams.tally) posts)
posts_told address_of [] = refl
posts_told address_of (post ∷ posts) = ap (λ rest. post_told post ∷ rest) (posts_told address_of posts)

pub all_told : {L C : Type 0} (address_of : L → SocketAddr) (posts : List (Post L C)) (lines : List ServedLine)
    (steps : List Steps) (tallies : List Tally) → map (served_line address_of) posts ≡ lines
    → map (λ post. post.steps) posts ≡ steps → map (λ post. post.streams.tally) posts ≡ tallies
    → map post_told posts ≡ lines_told lines steps tallies
all_told address_of posts lines steps tallies seen noted counted =
    posts_told address_of posts
    ∙ (ap (λ (own : List ServedLine). lines_told own (map (λ post. post.steps) posts)
    (map (λ post. post.streams.tally) posts)) seen
    ∙ (ap (λ (own : List Steps). lines_told lines own (map (λ post. post.streams.tally) posts)) noted
    ∙ ap (λ (own : List Tally). lines_told lines steps own) counted))

-- what is told of the lines so far, and of one more
pub told_more : {L C : Type 0} (posts : List (Post L C)) (n : ℕ) (post : Post L C) (views new : List LineView)
    (view : LineView) → n < length posts → map view_told views ≡ map post_told (take n posts)
    → new ≡ views ++ view ∷ [] → view_told view ≡ post_told post → post ≡ get_or posts n post
    → map view_told new ≡ map post_told (take (n + 1) posts)
told_more posts n post views new view within so_far pushed told read =
    made_more post_told posts n post (map view_told views) (map view_told new) within so_far
    (ap (map view_told) pushed
    ∙ (map-append view_told views (view ∷ [])
    ∙ ap (λ (one : ToldLine). map view_told views ++ one ∷ []) (told ∙ ap post_told read)))

-- ---- what is asked is done

-- a line is none that drains, where it was none
pub none_drain : (old new : Watched) → new ≡ old → NoneDrains old.lines → NoneDrains new.lines
none_drain old new same none = subst (λ (w : Watched). NoneDrains w.lines) (sym same) none

-- what was asked of the same service
pub asked_as : {V : Type 0} (parts : List Part) (seen own : Attended V) (after : ConsoleState V) (what : Asked)
    → seen ≡ own → IsAsked parts seen after what → IsAsked parts own after what
asked_as {V} parts seen own after what same is = subst (λ (s : Attended V). IsAsked parts s after what) same is

-- what is obeyed behind an answer that changed nothing
pub obeyed_after : {V : Type 0} (what : Option Act) (old between new : Attended V) → between.exchange ≡ old.exchange
    → between.stop ≡ old.stop → IsObeyed what between new → IsObeyed what old new
obeyed_after None old between new same stop obeyed = (obeyed.0 ∙ same, obeyed.1 ∙ stop)
obeyed_after (Some (act.Line id wish)) old between new same stop obeyed = (
  subst (λ (w : Watched). AreMade (line_wished id wish) w.lines new.exchange.lines) same obeyed.0,
  obeyed.1 ∙ stop,
)
obeyed_after (Some (act.Stop moment)) old between new same stop obeyed =
    (obeyed.0 ∙ same, obeyed.1 ∙ ap (λ (was : Option EndMoment). stop_after was moment) stop)

-- the same of a service of which the lines and the end are those of another
pub obeyed_as : {V : Type 0} (what : Option Act) (old new after : Attended V) → after.exchange ≡ new.exchange
    → after.stop ≡ new.stop → IsObeyed what old new → IsObeyed what old after
obeyed_as None old new after same stop obeyed = (same ∙ obeyed.0, stop ∙ obeyed.1)
obeyed_as (Some (act.Line id wish)) old new after same stop obeyed = (
  subst (λ (w : Watched). AreMade (line_wished id wish) old.exchange.lines w.lines) (sym same) obeyed.0,
  stop ∙ obeyed.1,
)
obeyed_as (Some (act.Stop moment)) old new after same stop obeyed = (same ∙ obeyed.0, stop ∙ obeyed.1)
