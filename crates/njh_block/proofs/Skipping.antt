-- What follows a record, found without the record.
use Rattle.std.proofs.Common.{◌≡◌, ℕ, ◌<◌, List, length, Option, Some, None, Result, Ok, Err, sym, ◌∙◌, ap}
use Rattle.njh_record.specs.Unspelled.{Unspelled, Fault}
use Rattle.njh_record.specs.Skipped.{behind}
use Rattle.njh_block.specs.declared.fault.BlockFault.{BlockFault}
use Rattle.njh_block.specs.declared.fault.BlockFault.TheVariants.{BadRecord}
use Rattle.njh_block.specs.Blocks.{First, record_of_spelling, first_record, items_in}
use Rattle.njh_block.specs.code.Skipped.{rest_behind}
use Rattle.njh_block.proofs.ReadingLaws.{items_from, items_in_step, Shorter, first_record-shorter, fault_in}
use Rattle.njh_block.proofs.ReadingLaws.{fault_in-with_item}

-- ---- a spelling

abbrev pub spelled_behind : Option (List ℕ) → Result (Option (List ℕ)) BlockFault
spelled_behind (Some rest) = Ok (Some rest)
spelled_behind None = Err BadRecord

pub behind_spelling : (rcb srcb : ℕ) (read : Result Unspelled Fault) (found : Option (List ℕ)) → found ≡ behind read
    → spelled_behind found ≡ rest_behind (record_of_spelling rcb srcb read)
behind_spelling rcb srcb (Ok r) found is = ap spelled_behind is
behind_spelling rcb srcb (Err e) found is = ap spelled_behind is

-- ---- a record after the other

less : (n : ℕ) (found : Result (Option First) BlockFault) (rest : List ℕ) → Ok (Some rest) ≡ rest_behind found
    → Shorter n found → length rest < n
less n (Ok None) rest is shorter = absurd cc
less n (Ok (Some x)) rest is shorter = let same : rest ≡ x.rest = cc in rw same shorter
less n (Err e) rest is shorter = absurd cc

pub behind-less : (bytes rest : List ℕ) → Ok (Some rest) ≡ rest_behind (first_record bytes) → length rest < length bytes
behind-less bytes rest is = less (length bytes) (first_record bytes) rest is (first_record-shorter bytes)

fault_on : (found : Result (Option First) BlockFault) (rest : List ℕ) → Ok (Some rest) ≡ rest_behind found
    → fault_in (items_from found items_in) ≡ fault_in (items_in rest)
fault_on (Ok None) rest is = absurd cc
fault_on (Ok (Some x)) rest is =
    let same : x.rest ≡ rest = cc in
    fault_in-with_item x.item (items_in x.rest) ∙ ap (λ (r : List ℕ). fault_in (items_in r)) same
fault_on (Err e) rest is = absurd cc

pub behind-fault : (bytes rest : List ℕ) → Ok (Some rest) ≡ rest_behind (first_record bytes)
    → fault_in (items_in rest) ≡ fault_in (items_in bytes)
behind-fault bytes rest is = sym (ap fault_in (items_in_step bytes) ∙ fault_on (first_record bytes) rest is)
