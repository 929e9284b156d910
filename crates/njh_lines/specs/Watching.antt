-- What is seen of the attendant, and what a round of it looks at.
use Rattle.std.specs.Prelude.{◌≡◌, ℕ, ◌*◌, ◌<◌, ◌≤◌, ◌⊎◌, ◌&&◌, IsTrue, List, length, Some, slice_get}
use Rattle.std.specs.declared.net.ip_addr.IpAddr.{IpAddr}
use Rattle.std.specs.declared.net.socket_addr.SocketAddr.{SocketAddr}
use Rattle.njh_hub.specs.Views.{hub_line, line_view}
use Rattle.njh_hub.specs.WholeHub.{HasLine, Part}
use Rattle.njh_table.specs.declared.address_range.AddressRange.{AddressRange}
use Rattle.njh_table.specs.declared.LineId.{LineId}
use Rattle.njh_table.specs.TableFile.{TableFile, table_line}
use Rattle.njh_wire.specs.declared.network.Readiness.{Readiness}
use Rattle.njh_lines.specs.Attention.{IsDue, IsInGroup, IsMarked, IsMomentOf, mark_at, watch_at}
use Rattle.njh_sites.specs.Opened.{site_kept, site_on}
use Rattle.njh_lines.specs.declared.attention.Watch.{Watch}
use Rattle.njh_sites.specs.declared.endpoints.Endpoint.{Endpoint}
use Rattle.njh_arrivals.specs.Arrivals.{Seen}
use Rattle.njh_request.specs.declared.request.LineState.{LineState}
use Rattle.njh_request.specs.declared.request.LineState.TheVariants.{Started}
use Rattle.njh_lines.specs.declared.post.Post.{Post}
use Rattle.njh_sites.specs.declared.site.Site.{Site}
use Rattle.njh_hub.specs.Resting.{HasNext}
use Rattle.njh_sight.specs.News.{news_moment}
use Rattle.njh_sight.specs.Prompting.{may_prompt, IsPrompted}
use Rattle.njh_sight.specs.Steps.{IsNoted}
use Rattle.njh_sight.specs.declared.customers.Row.{Row}
use Rattle.njh_sight.specs.declared.steps.Steps.{Steps}
use Rattle.njh_sight.specs.declared.tally.Tally.{Tally}
use Rattle.njh_sight.specs.declared.traffic.Traffic.{Traffic}

-- A line that is served: which it is, the address and the port on which it listens, or the peer that it dials, from
-- where it takes connections, and how it is served.
pub record ServedLine : Type 0 where
  pub id : LineId
  pub site : Site (IpAddr × ℕ) SocketAddr
  pub from : List AddressRange
  pub state : LineState

abbrev pub served_line : {L C : Type 0} → (L → SocketAddr) → Post L C → ServedLine
served_line address_of post = record {
  id = post.line;
  site = site_kept address_of post.site;
  from = post.entrance.from;
  state = post.state;
}

-- the line of an endpoint of tables, if lines with a port listen on this address, at first
abbrev pub served_on : TableFile → IpAddr → Endpoint → ServedLine
served_on tables address endpoint = record {
  id = endpoint.line;
  site = site_on address endpoint.site;
  from = (table_line tables endpoint.line).from;
  state = Started;
}

-- What is noted of a line: its traffic, when its site is to be looked at, and when something is to be told of it.
pub record Noted : Type 0 where
  pub traffic : Traffic
  pub site : ℕ
  pub tells : ℕ

abbrev pub noted_of : {L C : Type 0} → Post L C → Noted
noted_of post = record { traffic = post.traffic; site = post.moment; tells = news_moment post.label.news }

-- What is seen of the attendant: the lines that it serves, by their places, what it noted of each, and of the steps
-- on it, what it counted of its files, how many sign-ons were refused on each as its session was seen last, what is
-- ready of each, when each is looked at, where the lines of each customer are and when they are looked at for what
-- came, until when it waits, the time, and when files came.
pub record Watched : Type 0 where
  pub lines : List ServedLine
  pub noted : List Noted
  pub steps : List Steps
  pub tallies : List Tally
  pub refusals : List ℕ
  pub ready : List Readiness
  pub watches : List Watch
  pub customers : List Row
  pub next : ℕ
  pub now : ℕ
  pub arrivals : Seen

-- What is noted of the last step on the line at a place is this, where the hub has it: its session, and this frame.
abbrev pub HasNoted : Watched → ℕ → List Part → List ℕ → Type 0
HasNoted seen place parts frame = (line : ServedLine) (noted : Steps) → slice_get seen.lines place ≡ Some line
    → slice_get seen.steps place ≡ Some noted → HasLine parts line.id
    → IsNoted (line_view (hub_line line.id parts).state) frame noted

-- The line at a place, if there is one, is to be asked for what it has to send, if it rests.
abbrev pub IsToBePrompted : Watched → ℕ → List Part → Type 0
IsToBePrompted seen place parts = (line : ServedLine) (noted : Noted) → slice_get seen.lines place ≡ Some line
    → slice_get seen.noted place ≡ Some noted → IsPrompted noted.traffic parts line.id seen.now

-- The line at a place is this customer's, rests, doesn't owe for too many blocks, and has something to send.
pub record IsToBeWoken (seen : Watched) (place customer : ℕ) (parts : List Part) : Type 0 where
  pub line : ServedLine
  pub noted : Noted
  pub there : slice_get seen.lines place ≡ Some line
  pub known : slice_get seen.noted place ≡ Some noted
  pub own : line.id.customer ≡ customer
  pub may : IsTrue (noted.traffic.seen.rests && may_prompt noted.traffic seen.now)
  pub has : HasNext parts line.id

-- ---- what a round looks at

-- A line is looked at if something of it is ready or its moment came, and not else. No mark of it stays, and its moment
-- is what it was.
pub record HasBegun (now : ℕ) (mark new_mark : Readiness) (watch new_watch : Watch) : Type 0 where
  pub due : IsDue mark watch.moment now → IsTrue new_watch.is_due
  pub only : IsTrue new_watch.is_due → IsDue mark watch.moment now
  pub unmarked : ¬ IsMarked new_mark
  pub moment : new_watch.moment ≡ watch.moment

-- So it is with each line from the first of these places on, up to the other. Of the others nothing changed.
pub record HaveBegun (now first end : ℕ) (ready new_ready : List Readiness) (watches new_watches : List Watch)
    : Type 0 where
  pub each : (place : ℕ) → first ≤ place → place < end → HasBegun now (mark_at ready place) (mark_at new_ready place)
      (watch_at watches place) (watch_at new_watches place)
  pub same_mark : (place : ℕ) → (place < first) ⊎ (end ≤ place) → mark_at new_ready place ≡ mark_at ready place
  pub same_watch : (place : ℕ) → (place < first) ⊎ (end ≤ place) → watch_at new_watches place ≡ watch_at watches place

-- A round passes over none of so many lines: these marks were there once the wait was over, and each line was looked at
-- if one of them was its, or if its moment came.
pub record IsRoundBegun (lines : ℕ) (old new : Watched) : Type 0 where
  pub marks : List Readiness
  pub each : (place : ℕ) → place < lines → HasBegun new.now (mark_at marks place) (mark_at new.ready place)
      (watch_at old.watches place) (watch_at new.watches place)

-- ---- until when it waits

-- One of the lines of a group wants to be looked at when the group does, unless none wants it ever, or the group is
-- looked at in this round.
abbrev pub IsGroupsMoment : (lines : ℕ) → (watches : List Watch) → (group : ℕ) → Watch → Type 0
IsGroupsMoment lines watches group watch =
    IsTrue watch.is_due ⊎ IsMomentOf (λ place. IsInGroup place group × (place < lines)) watches watch.moment

-- Each of so many lines has its mark and its watch, and is in a group. No group wants to be looked at later than one of
-- its lines does, and the attendant doesn't wait for longer. A group is looked at in this round if one of its lines is;
-- else it wants to be when one of them does.
pub record AreGrouped (lines : ℕ) (ready : List Readiness) (watches groups : List Watch) (next : ℕ) : Type 0 where
  pub many_marks : length ready ≡ lines
  pub many_watches : length watches ≡ lines
  pub many_groups : lines ≤ 16 * length groups
  pub covered : (group place : ℕ) → IsInGroup place group → place < lines
      → (watch_at groups group).moment ≤ (watch_at watches place).moment
  pub waits : (place : ℕ) → place < lines → next ≤ (watch_at watches place).moment
  pub due : (group place : ℕ) → IsInGroup place group → place < lines → IsTrue (watch_at watches place).is_due
      → IsTrue (watch_at groups group).is_due
  pub wanted : (group : ℕ) → IsGroupsMoment lines watches group (watch_at groups group)
