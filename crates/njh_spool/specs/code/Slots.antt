-- What the slots of the files and the chains of the store are to each customer, and what always holds of them.
use Rattle.std.specs.Prelude.{◌≡◌, ℕ, ◌+◌, ◌*◌, ◌<◌, ◌≤◌, Bool, true, false, List, [], ◌∷◌, length, take, map, cond}
use Rattle.std.specs.Prelude.{drop, nat_lt, sum_by, count_by, slice_index_or, ◌==◌}
use Rattle.std.specs.List.{All, AllByRecursion, list_any}
use Rattle.njh_record.specs.Stored.{Stored}
use Rattle.njh_record.specs.declared.Kind.{Kind}
use Rattle.njh_record.specs.declared.Kind.TheVariants.{In}
use Rattle.njh_spool.specs.declared.State.{State}
use Rattle.njh_spool.specs.declared.State.TheVariants.{Ready}
use Rattle.njh_table.specs.Limits.{max_customers, max_quota, max_files}
use Rattle.njh_spool.specs.declared.file_slot.Stage.{Stage}
use Rattle.njh_spool.specs.declared.file_slot.Stage.TheVariants.{Free, Partial, Whole}
use Rattle.njh_spool.specs.declared.file_slot.FileSlot.{FileSlot}
use Rattle.njh_spool.specs.declared.file_slot.RecordPlace.{RecordPlace}
use Rattle.njh_spool.specs.declared.file_slot.KeptPlaces.{KeptPlaces}
use Rattle.njh_spool.specs.declared.customer_files.CustomerFiles.{CustomerFiles}
use Rattle.njh_spool.specs.code.Chains.{Chain, StoreValue, empty_chain, blocks_used, IsBlockOf}
use Rattle.njh_spool.specs.CustomerSpool.{CustomerSpool, WholeFile, PartialFile, stored_size, used_blocks}
use Rattle.njh_spool.specs.Spools.{IsSound}
use Rattle.njh_spool.specs.Headers.{is_header, is_header_srcb, kept_headers, no_headers}
use Rattle.njh_spool.specs.code.Packing.{packed_bytes, unpacked_records, HasByteSrcb, IsShort}

-- where the first record of any file begins
abbrev pub first_place : RecordPlace
first_place = record { record_index = 0; place = 0; block = record { index = 0; key = 0 } }

-- the places of a file of which no record was read
abbrev pub first_places : KeptPlaces
first_places = record { last = first_place; next = first_place }

-- a slot in which no file is
abbrev pub free_slot : FileSlot
free_slot = record {
  stage = Free;
  kind = In;
  count = 0;
  headers_end = 0;
  places = first_places;
  headers = no_headers;
}

-- a customer that the spool does not have
abbrev pub no_files : CustomerFiles
no_files = record { quota = 0; limit = 0; used = 0; arrived = 0; whole = []; partial = [] }

-- the place of a customer's file in the lists of slots and chains
abbrev pub place_of : ℕ → ℕ → ℕ
place_of c n = max_files * c + n

-- the slot and the chain of a customer's file
abbrev pub slot_of : List FileSlot → ℕ → ℕ → FileSlot
slot_of slots c n = cond (nat_lt n max_files) (slice_index_or slots (place_of c n) free_slot) free_slot

abbrev pub chain_of : List Chain → ℕ → ℕ → Chain
chain_of chains c n = cond (nat_lt n max_files) (slice_index_or chains (place_of c n) empty_chain) empty_chain

-- what a slot and its chain are: a file, or nothing
pub record Content : Type 0 where
  pub stage : Stage
  pub kind : Kind
  pub records : List Stored

abbrev pub content : FileSlot → Chain → Content
content slot chain = record { stage = slot.stage; kind = slot.kind; records = unpacked_records slot.count chain.bytes }

-- a customer's files by their numbers
abbrev pub contents : List FileSlot → List Chain → ℕ → ℕ → Content
contents slots chains c n = content (slot_of slots c n) (chain_of chains c n)

abbrev pub is_free : Stage → Bool
is_free Free = true
is_free Partial = false
is_free (Whole state) = false

abbrev pub is_partial : Stage → Bool
is_partial Free = false
is_partial Partial = true
is_partial (Whole state) = false

abbrev pub is_whole_stage : Stage → Bool
is_whole_stage Free = false
is_whole_stage Partial = false
is_whole_stage (Whole state) = true

abbrev pub state_of : Stage → State
state_of Free = Ready
state_of Partial = Ready
state_of (Whole state) = state

abbrev pub whole_file : (ℕ → Content) → ℕ → WholeFile
whole_file files n =
    record { number = n; kind = (files n).kind; records = (files n).records; state = state_of (files n).stage }

abbrev pub partial_file : (ℕ → Content) → ℕ → PartialFile
partial_file files n = record { number = n; kind = (files n).kind; records = (files n).records }

abbrev pub spool_of : CustomerFiles → (ℕ → Content) → CustomerSpool
spool_of own files = record {
  quota = own.quota;
  limit = own.limit;
  whole = map (whole_file files) own.whole;
  partial = map (partial_file files) own.partial;
  arrived = own.arrived;
}

abbrev pub spools_from : ℕ → List CustomerFiles → (ℕ → ℕ → Content) → List CustomerSpool
spools_from c [] files = []
spools_from c (own ∷ others) files = spool_of own (files c) ∷ spools_from (c + 1) others files

abbrev pub spools_of : List CustomerFiles → (ℕ → ℕ → Content) → List CustomerSpool
spools_of customers files = spools_from 0 customers files

-- what always holds of a customer: its blocks are counted, its spool is sound, and its lists name each of its files
-- once
pub record IsOwn (own : CustomerFiles) (files : ℕ → Content) : Type 0 where
  pub counted : own.used ≡ used_blocks (spool_of own files)
  pub sound : IsSound (spool_of own files)
  pub whole_once : (n : ℕ) → count_by (λ m. m == n) own.whole ≡ cond (is_whole_stage (files n).stage) 1 0
  pub partial_once : (n : ℕ) → count_by (λ m. m == n) own.partial ≡ cond (is_partial (files n).stage) 1 0

-- a record's place in a file of these records, in a chain of these blocks
pub record IsPlace (records : List Stored) (keys : List ℕ) (at : RecordPlace) : Type 0 where
  pub before : at.record_index ≤ length records
  pub place : at.place ≡ stored_size (take at.record_index records)
  pub block : IsBlockOf keys at.block

-- the places that a file's slot keeps
pub record ArePlaces (records : List Stored) (keys : List ℕ) (kept : KeptPlaces) : Type 0 where
  pub last : IsPlace records keys kept.last
  pub next : IsPlace records keys kept.next

-- So many records reach to the last header, that one too: from a record on there is a header exactly where the record
-- is one of these.
abbrev pub AreHeadersEnd : List Stored → ℕ → Type 0
AreHeadersEnd records headers_end = (k : ℕ) → list_any is_header (drop k records) ≡ nat_lt k headers_end

-- a file's slot with a record more, of this SRCB
abbrev pub with_record : ℕ → FileSlot → FileSlot
with_record srcb slot = record slot {
  count = slot.count + 1;
  headers_end = cond (is_header_srcb srcb) (slot.count + 1) slot.headers_end;
}

-- what always holds of a slot and its chain: the chain has the bytes of as many records as the slot counts, none where
-- the slot is free, the slot knows how far they reach that have headers, and records begin at the places that it keeps
pub record IsFile (slot : FileSlot) (chain : Chain) : Type 0 where
  pub bytes : chain.bytes ≡ packed_bytes (unpacked_records slot.count chain.bytes)
  pub short : All IsShort (unpacked_records slot.count chain.bytes)
  pub codes : AllByRecursion HasByteSrcb (unpacked_records slot.count chain.bytes)
  pub free : is_free slot.stage ≡ true → slot.count ≡ 0
  pub small : length chain.bytes ≤ 252 * max_quota
  pub headers_end : AreHeadersEnd (unpacked_records slot.count chain.bytes) slot.headers_end
  pub places : ArePlaces (unpacked_records slot.count chain.bytes) chain.keys slot.places

-- a whole file's slot keeps what the headers of its records say
abbrev pub KeepsHeaders : FileSlot → Chain → Type 0
KeepsHeaders slot chain =
    is_whole_stage slot.stage ≡ true → slot.headers ≡ kept_headers slot.kind (unpacked_records slot.count chain.bytes)

-- what always holds of the spool
pub record IsKept (store : StoreValue) (slots : List FileSlot) (customers : List CustomerFiles) : Type 0 where
  pub few : length customers ≤ max_customers
  pub all_slots : length slots ≡ max_files * length customers
  pub all_chains : length store.chains ≡ max_files * length customers
  pub blocks : blocks_used store ≡ sum_by (λ own. own.used) customers
  pub quotas : sum_by (λ own. own.quota) customers ≤ store.capacity
  pub own : (c : ℕ) → c < length customers → IsOwn (slice_index_or customers c no_files) (contents slots store.chains c)
  pub files : (c n : ℕ) → IsFile (slot_of slots c n) (chain_of store.chains c n)
  pub headers : (c n : ℕ) → KeepsHeaders (slot_of slots c n) (chain_of store.chains c n)
