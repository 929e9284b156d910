-- What a reader of a file's records has left, and what always holds of it.
use Rattle.std.specs.Prelude.{ℕ, ◌<◌, List, length, drop}
use Rattle.njh_record.specs.Stored.{Stored}
use Rattle.njh_spool.specs.declared.file_slot.FileSlot.{FileSlot}
use Rattle.njh_spool.specs.declared.file_slot.RecordPlace.{RecordPlace}
use Rattle.njh_spool.specs.code.Chains.{Chain, StoreValue, chain_at}
use Rattle.njh_spool.specs.code.Packing.{unpacked_records}
use Rattle.njh_spool.specs.code.Slots.{IsFile, IsPlace}

-- a file's records from a place on
abbrev pub records_from : FileSlot → Chain → RecordPlace → List Stored
records_from slot chain from = drop from.record_index (unpacked_records slot.count chain.bytes)

-- the file's chain is one of the store's, and the next record begins at the place
pub record IsReading (store : StoreValue) (at : ℕ) (slot : FileSlot) (from : RecordPlace) : Type 0 where
  pub within : at < length store.chains
  pub file : IsFile slot (chain_at at store)
  pub place : IsPlace (unpacked_records slot.count (chain_at at store).bytes) (chain_at at store).keys from
