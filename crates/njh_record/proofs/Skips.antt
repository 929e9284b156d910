-- What follows a spelling is found past its items.
use Rattle.std.proofs.Common.{◌≡◌, ℕ, List, Some, None, Result, Ok, Err, refl, ◌∙◌, ap}
use Rattle.njh_record.specs.declared.End.{End}
use Rattle.njh_record.specs.declared.RecordFault.{RecordFault}
use Rattle.njh_record.specs.declared.RecordFault.TheVariants as faults
use Rattle.njh_record.specs.Spelling.{Item, added_bytes}
use Rattle.njh_record.specs.Unspelled.{Unspelled, Fault, OfItem, OfEnd, Bad, Cut, with_front, record_at_front}
use Rattle.njh_record.specs.Skipped.{behind}
use Rattle.njh_record.specs.code.Parts.{StandsFirst, LeadsToPart}
use Rattle.njh_record.proofs.ReadingLaws.{unspelled-first}

behind-with_front : (front : List ℕ) (read : Result Unspelled Fault) → behind (with_front front read) ≡ behind read
behind-with_front front (Ok found) = refl
behind-with_front front (Err e) = refl

pub behind-item : (bytes rest : List ℕ) (item : Item) → StandsFirst bytes (OfItem item rest)
    → behind (record_at_front bytes) ≡ behind (record_at_front rest)
behind-item bytes rest item stands =
    ap behind (unspelled-first bytes (OfItem item rest) stands)
    ∙ behind-with_front (added_bytes item) (record_at_front rest)

pub behind-end : (bytes rest : List ℕ) (end : End) → StandsFirst bytes (OfEnd end rest)
    → behind (record_at_front bytes) ≡ Some rest
behind-end bytes rest end stands = ap behind (unspelled-first bytes (OfEnd end rest) stands)

pub behind-fault : (bytes : List ℕ) (fault : RecordFault) → LeadsToPart bytes (Err fault)
    → behind (record_at_front bytes) ≡ None
behind-fault bytes faults.BadScb stands = ap behind (unspelled-first bytes Bad stands)
behind-fault bytes faults.Truncated stands = ap behind (unspelled-first bytes Cut stands)
behind-fault bytes (faults.TooLong used) stands = absurd stands
