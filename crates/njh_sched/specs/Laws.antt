-- What one source of a block does to a stream: nothing, or one of three things.
use Rattle.std.specs.Prelude.{◌≡◌, ℕ, Bool, true, false, List, [], ◌∷◌, ◌++◌, filter, Some, ◌==◌}
use Rattle.njh_block.specs.Blocks.{Item, Data, Aborted, Long, Control, General, is_on, rcb_of}
use Rattle.njh_block.specs.Codes.{kind_of}
use Rattle.njh_spool.specs.CustomerSpool.{WholeFile}
use Rattle.njh_stream.specs.Sending.{next_of}
use Rattle.njh_stream.specs.declared.sender.Sender.TheVariants.{Idle, Requested, Aborting}
use Rattle.njh_sched.specs.NextBlock.{Filling, Source, after_source, data_item, sends_file, oldest, sender_at}

abbrev pub is_under : ℕ → Item → Bool
is_under rcb (Data own srcb bytes) = own == rcb
is_under rcb (Aborted own srcb) = false
is_under rcb (Long own srcb) = false
is_under rcb (Control own srcb) = false
is_under rcb (General srcb rest) = false

-- the records of a block under an RCB
abbrev pub records_under : ℕ → List Item → List Item
records_under rcb items = filter (is_under rcb) items

-- the stream is about what it was, and no record stands under its RCB that didn't
pub record IsLeft (k : ℕ) (x y : Filling) : Type 0 where
  pub sender : sender_at k y.outlet ≡ sender_at k x.outlet
  pub items : records_under (rcb_of k) y.block.items ≡ records_under (rcb_of k) x.block.items

-- its file was given up, and it is idle
pub record GivesUp (k : ℕ) (x y : Filling) : Type 0 where
  pub before : sender_at k x.outlet ≡ Aborting
  pub after : sender_at k y.outlet ≡ Idle
  pub items : records_under (rcb_of k) y.block.items ≡ records_under (rcb_of k) x.block.items

-- it was idle, and asks for the oldest file that may go on it
pub record Asks (goes : WholeFile → Bool) (k : ℕ) (x y : Filling) : Type 0 where
  pub before : sender_at k x.outlet ≡ Idle
  pub file : WholeFile
  pub is_oldest : oldest goes (kind_of k) x.spool ≡ Some file
  pub after : sender_at k y.outlet ≡ Requested file.number
  pub items : records_under (rcb_of k) y.block.items ≡ records_under (rcb_of k) x.block.items

-- it sends a file, and the peer lets it: its next record, or its end of file behind the last, is added, and it moves on
-- by it
pub record Sends (k : ℕ) (x y : Filling) : Type 0 where
  pub lets : is_on x.outlet.peer_fcs k ≡ true
  pub before : sends_file (sender_at k x.outlet) ≡ true
  pub item : y.block.items ≡ x.block.items ++ data_item k (next_of (sender_at k x.outlet) x.spool).stored ∷ []
  pub after : sender_at k y.outlet ≡ (next_of (sender_at k x.outlet) x.spool).sender

pub data Does (goes : WholeFile → Bool) (k : ℕ) (x y : Filling) : Type 0 where
  left : IsLeft k x y → Does goes k x y
  gives_up : GivesUp k x y → Does goes k x y
  asks : Asks goes k x y → Does goes k x y
  sends : Sends k x y → Does goes k x y

-- each of some sources does so, one after the other
abbrev pub EachDoes : (WholeFile → Bool) → ℕ → List Source → Filling → Type 0
EachDoes goes k [] x = Unit {0}
EachDoes goes k (source ∷ more) x =
    Does goes k x (after_source goes source x) × EachDoes goes k more (after_source goes source x)
