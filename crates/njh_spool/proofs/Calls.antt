-- Where a call is made: at a customer's file, by its number, of a spool that is kept.
use Rattle.std.proofs.Common.{ℕ, ◌<◌, List, length}
use Rattle.njh_spool.specs.declared.file_slot.FileSlot.{FileSlot}
use Rattle.njh_spool.specs.declared.customer_files.CustomerFiles.{CustomerFiles}
use Rattle.njh_spool.specs.declared.spool.Spool.TheInside.{Inside}
use Rattle.njh_spool.specs.code.Chains.{Chain, StoreValue}
use Rattle.njh_spool.specs.CustomerSpool.{CustomerSpool}
use Rattle.njh_spool.specs.Spools.{spool_at}
use Rattle.njh_spool.specs.code.Slots.{Content, contents, slot_of, chain_of, spools_of, IsKept}
use Rattle.njh_spool.proofs.KeptLaws.{own_of, HasOwn, has_own, Moves}

abbrev pub spools_in : Inside → List CustomerSpool
spools_in spool = spools_of spool.customers.items (contents spool.slots spool.store.chains)

pub record Call : Type 0 where
  pub spool : Inside
  pub customer : ℕ
  pub number : ℕ
  pub kept : IsKept spool.store spool.slots spool.customers.items
  pub inside : customer < length (spools_in spool)

abbrev pub call_on : (spool : Inside) (c n : ℕ) → IsKept spool.store spool.slots spool.customers.items → c < length
    (spools_in spool) → Call
call_on spool c n kept inside = record { spool = spool; customer = c; number = n; kept = kept; inside = inside }

-- what the customer has, its files, and the slot and the chain of the call's file
abbrev pub own_at : Call → CustomerFiles
own_at here = own_of here.spool.customers.items here.customer

abbrev pub files_at : Call → ℕ → Content
files_at here = contents here.spool.slots here.spool.store.chains here.customer

abbrev pub slot_at : Call → FileSlot
slot_at here = slot_of here.spool.slots here.customer here.number

abbrev pub chain_of_file : Call → Chain
chain_of_file here = chain_of here.spool.store.chains here.customer here.number

pub has : (here : Call) → HasOwn here.spool.store here.spool.slots here.spool.customers.items here.customer
has here = has_own here.spool.store here.spool.slots here.spool.customers.items here.customer here.kept here.inside

-- a call after which the spool has these, and the customer what the call makes of it
abbrev pub MovesTo : Call → StoreValue → List FileSlot → List CustomerFiles → (CustomerSpool → CustomerSpool) → Type 0
MovesTo here store slots customers call =
    Moves here.spool.store here.spool.slots here.spool.customers.items store slots customers here.customer
    (call (spool_at here.customer (spools_in here.spool)))
