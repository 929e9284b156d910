-- What a block carries of a file that goes out on a stream: the file's records from the stream's place on, each once
-- and in order, and behind the last one the end of file.
use Rattle.std.specs.Prelude.{◌≡◌, ℕ, ◌+◌, ◌-◌, ◌≤◌, List, [], ◌∷◌, ◌++◌, length, take, drop, map, Option, Some, None}
use Rattle.njh_block.specs.Blocks.{Item, Data, rcb_of}
use Rattle.njh_record.specs.Stored.{Stored}
use Rattle.njh_spool.specs.CustomerSpool.{CustomerSpool, WholeFile, whole_numbered}
use Rattle.njh_stream.specs.declared.sender.Sender.TheVariants.{Sending, EofSent}
use Rattle.njh_sched.specs.NextBlock.{Filling, sender_at}
use Rattle.njh_sched.specs.Laws.{records_under}

-- the records of the whole file of a number; none where there is no such file
abbrev pub records_of : Option WholeFile → List Stored
records_of None = []
records_of (Some f) = f.records

abbrev pub file_records : ℕ → CustomerSpool → List Stored
file_records n s = records_of (whole_numbered n s)

-- a record of a stream's file, as the block has it
abbrev pub record_item : ℕ → Stored → Item
record_item k r = Data (rcb_of k) r.srcb r.bytes

abbrev pub end_of_file : ℕ → Item
end_of_file k = Data (rcb_of k) 0x80 []

-- Stream k sent a file of these records, the one at place p next. From then on so many more of them stand under its RCB
-- behind those that did before, and the next is behind them; or all the others do, with the end of file behind the
-- last, and it waits for the peer.
pub data Carries (k n p : ℕ) (records : List Stored) (before : List Item) (y : Filling) : Type 0 where
  on_its_way :
      (m : ℕ) → m ≤ length records - p → sender_at k y.outlet ≡ Sending n (p + m)
      → records_under (rcb_of k) y.block.items ≡ before ++ map (record_item k) (take m (drop p records))
      → Carries k n p records before y
  at_its_end :
      sender_at k y.outlet ≡ EofSent n
      → records_under (rcb_of k) y.block.items ≡ before ++ (map (record_item k) (drop p records) ++ end_of_file k ∷ [])
      → Carries k n p records before y
