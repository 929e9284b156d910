-- What becomes of a customer's files whose end hasn't come, and which files become whole.
use Rattle.std.specs.Prelude.{◌≡◌, ℕ, ◌+◌, ◌<◌, ◌≤◌, ◌==◌, List, ◌++◌, Option, Some, None, count_by, find, length}
use Rattle.std.specs.List.{Contains}
use Rattle.njh_bisync.specs.Limits.{longest_text}
use Rattle.njh_bisync.specs.Reading.{Rest, Nothing, AfterSoh, AfterDle, InText}
use Rattle.njh_record.specs.Stored.{Stored}
use Rattle.njh_record.specs.declared.Kind.{Kind}
use Rattle.njh_spool.specs.CustomerSpool.{CustomerSpool, PartialFile, WholeFile, max_arrived}
use Rattle.njh_table.specs.Entries.{CustomerEntry}
use Rattle.njh_table.specs.NewRoutes.{NewRoute}
use Rattle.njh_customer.specs.declared.given_order.GivenOrder.{GivenOrder}
use Rattle.njh_customer.specs.declared.signal.Signal.{Signal}
use Rattle.njh_customer.specs.Part.{Part, part_at_open, part_after_bytes, part_after_signal, rest_on}
use Rattle.njh_customer.specs.Runs.{OwnEvent, OwnRoutes, OwnOrder, event_run}
use Rattle.njh_customer.specs.Surviving.{IsRerouted, Survive}

-- These records have come of a file of this number and kind: they are few, at most k; or a partial file of that number
-- and kind was there, and they are its records and after them at most k more.
pub data HasCome (k : ℕ) (before : List PartialFile) (number : ℕ) (kind : Kind) (records : List Stored) : Type 0 where
  few : length records ≤ k → HasCome k before number kind records
  goes_on :
      (f : PartialFile) (more : List Stored) → Contains before f → f.number ≡ number → f.kind ≡ kind
      → length more ≤ k → records ≡ f.records ++ more → HasCome k before number kind records

-- A file has become whole: its records are those that came, or what commands REROUTE left of them since.
pub record HasBecomeWhole (k : ℕ) (before : List PartialFile) (f : WholeFile) : Type 0 where
  pub came : List Stored
  pub has_come : HasCome k before f.number f.kind came
  pub records : IsRerouted f.kind came f.records

-- What was in a spool became this, by at most k records. Of the whole files some are still there, and after them are
-- others that became whole since, at most as many as were counted. Each of these, and each file that is partial now,
-- has at most k records or goes on from a partial file of its number and kind.
pub record FilesGrow (k : ℕ) (x y : CustomerSpool) : Type 0 where
  pub still : List WholeFile
  pub new : List WholeFile
  pub files : y.whole ≡ still ++ new
  pub survive : Survive x.whole still
  pub counted : y.arrived < max_arrived → x.arrived + length new ≤ y.arrived
  pub became_whole : (f : WholeFile) → Contains new f → HasBecomeWhole k x.partial f
  pub partial : (f : PartialFile) → Contains y.partial f → HasCome k x.partial f.number f.kind f.records

-- and so by one thing and then another
abbrev pub FilesGrowFurther : Type 0
FilesGrowFurther =
    (j k : ℕ) (x y z : CustomerSpool) → FilesGrow j x y → FilesGrow k y z → FilesGrow (j + k) x z

-- ---- what has come of a line's next frame

-- of a text no more than a text may have
abbrev pub IsShortText : Option (List ℕ) → Type 0
IsShortText None = Unit {0}
IsShortText (Some held) = length held ≤ longest_text

abbrev pub IsShortRest : Rest → Type 0
IsShortRest Nothing = Unit {0}
IsShortRest AfterSoh = Unit {0}
IsShortRest AfterDle = Unit {0}
IsShortRest (InText held dangling) = IsShortText held

-- on each line
abbrev pub HasShortRests : Part → Type 0
HasShortRests p = (l : ℕ) → IsShortRest (rest_on l p)

-- So it is when a customer is opened, and stays so.
abbrev pub OpenedHasShortRests : Type 0
OpenedHasShortRests = (entry : CustomerEntry) → HasShortRests (part_at_open entry)

abbrev pub EventsKeepShortRests : Type 0
EventsKeepShortRests = (p : Part) (event : OwnEvent) → HasShortRests p → HasShortRests (event_run p event).after

abbrev pub TakesKeepShortRests : Type 0
TakesKeepShortRests =
    (p : Part) (l : ℕ) (piece : List ℕ) → HasShortRests p → HasShortRests (part_after_bytes p l piece).after

-- ---- steps

-- A step by bytes of a line: the records of at most one block act in it, of which fewer than 1,366 have data.
abbrev pub TakesGrowFiles : Type 0
TakesGrowFiles =
    (p : Part) (l : ℕ) (piece : List ℕ) → IsShortRest (rest_on l p)
    → (k : ℕ) × (k < 1366) × FilesGrow k p.customer.spool (part_after_bytes p l piece).after.customer.spool

-- By a signal no record comes,
abbrev pub SignalsGrowFiles : Type 0
SignalsGrowFiles =
    (p : Part) (l : ℕ) (signal : Signal)
    → FilesGrow 0 p.customer.spool (part_after_signal p l signal).after.customer.spool

-- by new routes none does,
abbrev pub RoutesGrowFiles : Type 0
RoutesGrowFiles =
    (p : Part) (routes : List NewRoute)
    → FilesGrow 0 p.customer.spool (event_run p (OwnRoutes routes)).after.customer.spool

-- and by an order none does.
abbrev pub OrdersGrowFiles : Type 0
OrdersGrowFiles =
    (p : Part) (order : GivenOrder)
    → FilesGrow 0 p.customer.spool (event_run p (OwnOrder order)).after.customer.spool

-- ---- what is read from it

-- REROUTE leaves as many records as there were.
abbrev pub ReroutesKeepCounts : Type 0
ReroutesKeepCounts =
    (kind : Kind) (before after : List Stored) → IsRerouted kind before after → length after ≡ length before

-- A file with more records goes on from a partial file of its number and kind.
pub record GoesOnFrom (before : List PartialFile) (number : ℕ) (kind : Kind) (records : List Stored) : Type 0 where
  pub file : PartialFile
  pub more : List Stored
  pub there : Contains before file
  pub same_number : file.number ≡ number
  pub same_kind : file.kind ≡ kind
  pub records_are : records ≡ file.records ++ more

abbrev pub ManyRecordsGoOn : Type 0
ManyRecordsGoOn =
    (k n : ℕ) (before : List PartialFile) (kind : Kind) (records : List Stored) → k < length records
    → HasCome k before n kind records → GoesOnFrom before n kind records

-- Which one that was says its number, if no two partial files had one number.
abbrev pub PartialsAreNumbered : Type 0
PartialsAreNumbered =
    (before : List PartialFile) (f : PartialFile) → count_by (λ g. g.number == f.number) before ≤ 1
    → Contains before f → find (λ g. g.number == f.number) before ≡ Some f
