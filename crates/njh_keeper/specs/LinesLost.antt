-- What a customer of a hub that is opened again has, beside what the customer alone would have if it had gone on.
use Rattle.std.specs.Prelude.{◌≡◌, ℕ, ◌<◌, ◌≤◌, List, [], All, length, map, Some}
use Rattle.std.specs.List.{Contains, filter_map}
use Rattle.njh_bisync.specs.Reading.{Nothing}
use Rattle.njh_line.specs.Sessions.{fresh}
use Rattle.njh_line.specs.declared.Phase.TheVariants.{Down}
use Rattle.njh_spool.specs.CustomerSpool.{WholeFile}
use Rattle.njh_spool.specs.declared.State.TheVariants.{Sending}
use Rattle.njh_table.specs.Entries.{CustomerEntry, RouteEntry}
use Rattle.njh_customer.specs.Customer.{CustomerLine, line_at}
use Rattle.njh_customer.specs.InOrder.{IsIdle, IsInOrder, after_losses, at_rest, phase_of}
use Rattle.njh_customer.specs.NewRoutes.{entry_with, part_after_routes}
use Rattle.njh_customer.specs.Part.{rest_on}
use Rattle.njh_customer.specs.Runs.{OwnEvent, alone_run}
use Rattle.njh_hub.specs.OwnEvents.{events_of}
use Rattle.njh_hub.specs.WholeHub.{Part, hub_run, part, part_at_open}
use Rattle.njh_hub.specs.declared.event.Event.{Event}
use Rattle.njh_turns.specs.Keeping.{kept_files, kept_of}
use Rattle.njh_table.specs.TableFile.{TableFile, customer_at, entry_of}
use Rattle.njh_spoolfile.specs.Kept.{SpoolContents, Whole, kept}
use Rattle.njh_keeper.specs.Keeper.{left_in}
use Rattle.njh_keeper.specs.Opened.{AllAreBack, AreBack, file_in, hub_opened, own_files, part_opened}
use Rattle.njh_keeper.specs.OpenedFiles.{OpenedFile, opened_of}

-- ---- what is compared

-- a whole file without its number: Held if it is Held, and else Ready
abbrev pub file_at_rest : WholeFile → OpenedFile
file_at_rest f = opened_of (at_rest f)

-- a line without its messages and notices, the last frame that it sent, and all of its session but the phase
abbrev pub bare : CustomerLine → CustomerLine
bare x = record x {
  notices = [];
  state = record x.state { session = record fresh { phase = phase_of x }; last = []; messages = [] };
}

-- Nothing goes on: no file is being sent and none is partial, no line is up, no stream is about a file, no answer
-- waits, and nothing has come of a frame.
pub record IsAtRest (p : Part) : Type 0 where
  pub none_sent : (f : WholeFile) → Contains p.customer.spool.whole f → f.state ≡ Sending → ⊥
  pub partial : p.customer.spool.partial ≡ []
  pub down : (l : ℕ) → l < length p.customer.lines → phase_of (line_at l p.customer.lines) ≡ Down
  pub idle : (l : ℕ) → l < length p.customer.lines → IsIdle (line_at l p.customer.lines)
  pub rests : (l : ℕ) → rest_on l p ≡ Nothing

-- A customer that was opened has what one has whose lines were lost. These are the same: the entry; the whole files in
-- their order, each with its kind and its records, Held if the other is Held and Ready if it isn't; and the
-- lines, but for what `bare` leaves out. Both are in order, with the same quota and limit, and on both nothing goes on.
pub record StandsAs (opened lost : Part) : Type 0 where
  pub entry : opened.customer.entry ≡ lost.customer.entry
  pub files : map opened_of opened.customer.spool.whole ≡ map file_at_rest lost.customer.spool.whole
  pub lines : map bare opened.customer.lines ≡ map bare lost.customer.lines
  pub rests : opened.rests ≡ lost.rests
  pub opened_order : IsInOrder opened.customer
  pub lost_order : IsInOrder lost.customer
  pub opened_at_rest : IsAtRest opened
  pub lost_at_rest : IsAtRest lost

-- ---- the law

-- whole files of a spool file are those that a part has, in their order
abbrev pub AreFilesOf : List Whole → Part → Type 0
AreFilesOf ws p = map (λ w. file_in w.file w.records) ws ≡ map Some (kept_files p)

-- those that can be read are; so a crash leaves them
abbrev pub AreLeftOf : List Whole → Part → Type 0
AreLeftOf ws p = filter_map (λ w. file_in w.file w.records) ws ≡ kept_files p

-- A customer was opened from some files of its own, or from none, and whatever events came, it had these files then. If
-- it is opened again from them, by an entry with other routes or with the same, each of them can be put back, and it
-- has what it would have alone if the sessions of all its lines were lost and it were then given these routes.
abbrev pub OpenedAsLinesLost : Type 0
OpenedAsLinesLost =
    (entry : CustomerEntry) (before ws : List Whole) (events : List OwnEvent) (routes : List RouteEntry)
    → All (λ line. line.streams ≤ 4) entry.lines → AreBack (part_at_open entry) before →
    let p = (alone_run (part_opened entry before) events).after in
    AreFilesOf ws p
    → AreBack (part_at_open (entry_with routes entry)) ws
    × StandsAs (part_opened (entry_with routes entry) ws) (part_after_routes routes (after_losses p))

-- The same of files that a crash left, if each of them could be put back.
abbrev pub LeftAsLinesLost : Type 0
LeftAsLinesLost =
    (entry : CustomerEntry) (before ws : List Whole) (events : List OwnEvent) (routes : List RouteEntry)
    → All (λ line. line.streams ≤ 4) entry.lines → AreBack (part_at_open entry) before →
    let p = (alone_run (part_opened entry before) events).after in
    AreLeftOf ws p → AreBack (part_at_open (entry_with routes entry)) ws
    → StandsAs (part_opened (entry_with routes entry) ws) (part_after_routes routes (after_losses p))

-- ---- a hub that is started again

-- A hub was opened from a spool file, and whatever events came, the spool file was left with the whole files of its
-- customers as it had them then. If a hub of the same tables, or of others, is opened from what was left, a customer
-- whose name and entry are the same but for its routes has what it would have alone, over its own events, if the
-- sessions of all its lines were lost and it were then given these routes.
abbrev pub StartedAgain : Type 0
StartedAgain =
    (table again : TableFile) (spool left : SpoolContents) (events : List Event) → AllAreBack table (kept spool)
    → left_in (map (λ c. c.name) table.customers) left ≡ kept_of (hub_run (hub_opened table spool) events).parts
    → AllAreBack again (kept left)
    → (c d : ℕ) (routes : List RouteEntry) → c < length table.customers → d < length again.customers →
    let name = (customer_at table c).name in
    let entry = entry_of (customer_at table c) in
    (customer_at again d).name ≡ name → entry_of (customer_at again d) ≡ entry_with routes entry
    → All (λ line. line.streams ≤ 4) entry.lines →
    let alone = (alone_run (part_opened entry (own_files name spool)) (events_of c events)).after in
    StandsAs (part d (hub_opened again left)) (part_after_routes routes (after_losses alone))
