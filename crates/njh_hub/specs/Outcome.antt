-- What a caller has of one customer when a run is over.
use Rattle.std.specs.Prelude.{◌≡◌, ℕ, List, map, slice_index_or}
use Rattle.njh_table.specs.Entries.{CustomerEntry}
use Rattle.njh_table.specs.Marks.{entry_unmarked}
use Rattle.njh_table.specs.declared.LineId.{LineId}
use Rattle.njh_customer.specs.Runs.{OwnEvent, alone_run}
use Rattle.njh_hub.specs.declared.event.Event.{Event}
use Rattle.njh_hub.specs.Files.{FileView, files_at, files_of}
use Rattle.njh_hub.specs.OwnEvents.{sent_to}
use Rattle.njh_hub.specs.WholeHub.{part_at_open, no_entry, hub_run}

-- The frames on its lines, in order, each with its line; and its files, in order of arrival.
pub record Outcome : Type 0 where
  pub sent : List (ℕ × List ℕ)
  pub files : List FileView

-- of the customer alone on a hub of its own, over its own events
abbrev pub alone : CustomerEntry → List OwnEvent → Outcome
alone entry events =
    let r = alone_run (part_at_open entry) events in record { sent = r.sent; files = files_of r.after.customer.spool }

-- of customer c of a hub of many, over the events of all
abbrev pub outcome_of : ℕ → List CustomerEntry → List Event → Outcome
outcome_of c entries events =
    let r = hub_run (map part_at_open entries) events in record { sent = sent_to c r.sent; files = files_at c r.parts }

-- a customer's entry in a table
abbrev pub entry_at : ℕ → List CustomerEntry → CustomerEntry
entry_at c entries = slice_index_or entries c no_entry

-- Two entries are the same but for which lines count as up. A hub that is opened wipes that.
abbrev pub AgreeButForMarks : (a b : CustomerEntry) → Type 0
AgreeButForMarks a b = entry_unmarked a ≡ entry_unmarked b

-- Frames that a sink took, and files that the hub answered, are this outcome of customer c.
pub record IsOutcome {S : Type 0} (took : S → S → List (LineId × List ℕ) → Type 0) (c : ℕ) (before after : S)
    (shown : List FileView)
    (outcome : Outcome) : Type 0 where
  pub pairs : List (LineId × List ℕ)
  pub handed : took before after pairs
  pub sent : sent_to c pairs ≡ outcome.sent
  pub files : shown ≡ outcome.files

-- Two sinks took the same frames on a customer's lines, and two hubs answered equal files of it.
pub record AreEqual {S Z : Type 0} (took : S → S → List (LineId × List ℕ) → Type 0)
    (took_too : Z → Z → List (LineId × List ℕ) → Type 0)
    (c d : ℕ) (before after : S) (before_too after_too : Z) (shown shown_too : List FileView) : Type 0 where
  pub pairs : List (LineId × List ℕ)
  pub pairs_too : List (LineId × List ℕ)
  pub handed : took before after pairs
  pub handed_too : took_too before_too after_too pairs_too
  pub sent : sent_to c pairs ≡ sent_to d pairs_too
  pub files : shown ≡ shown_too
