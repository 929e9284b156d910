-- The steps of reading: a record takes what an item adds, or has no room for it, up to an end or a fault.
use Rattle.std.proofs.Common.{◌≡◌, ℕ, ◌-◌, Bool, true, false, List, [], ◌∷◌, ◌++◌, length, Ok, Err, refl, ◌∙◌, ap}
use Rattle.std.proofs.Common.{subst, arith, length-append}
use Rattle.std.proofs.lemmas.List.{append-nil}
use Rattle.njh_record.specs.Bytes.{AreBytes}
use Rattle.njh_record.specs.declared.End.{End}
use Rattle.njh_record.specs.declared.End.TheVariants.{Record, Abort}
use Rattle.njh_record.specs.declared.RecordFault.{RecordFault}
use Rattle.njh_record.specs.declared.RecordFault.TheVariants as faults
use Rattle.njh_record.specs.Spelling.{Item, added_bytes, end_byte}
use Rattle.njh_record.specs.Reading.{Begins, Unspells}
use Rattle.njh_record.specs.Unspelled.{OfItem, OfEnd, BadScb, Truncated, with_front, ReadsAs}
use Rattle.njh_record.specs.code.Parts.{StandsFirst, LeadsToPart, Takes, Holds, HasRead}
use Rattle.njh_record.proofs.Fronts.{front_leaves_less}
use Rattle.njh_record.proofs.ReadingLaws.{AreBytes-left, item_reads, bad_reads, truncated_at, Spelling-end}
use Rattle.njh_record.proofs.ReadBack.{with_front-with_front, with_front-nil}
use Rattle.njh_record.proofs.AnswerLaws.{begins}

pub Takes-same : (taken : Bool) (old more same new : List ℕ) → more ≡ same → Takes taken old more new
    → Takes taken old same new
Takes-same taken old more same new is takes = rw is at takes

Holds-takes : (taken : Bool) (adds old more new : List ℕ) → Holds true adds old → Takes taken old more new
    → Holds taken (adds ++ more) new
Holds-takes true adds old more new held takes =
    (takes.0 ∙ ap (λ (bytes : List ℕ). bytes ++ more) held.0, rw (length-append, ← held.0) takes.1)
Holds-takes false adds old more new held takes = rw (length-append, ← held.0) takes

-- ---- an item

pub HasRead-none : (bytes contents : List ℕ) → contents ≡ [] → AreBytes bytes → HasRead bytes bytes contents true
HasRead-none bytes contents none are =
    record {
      adds = [];
      reads = λ read reads. subst (ReadsAs bytes) (with_front-nil read) reads;
      left = are;
      within = omega arith;
      holds = (none, omega arith);
    }

goes_on : (bytes rest after old new : List ℕ) (item : Item) (fits taken : Bool) (read : HasRead bytes rest old fits)
    → StandsFirst rest (OfItem item after)
    → Holds taken (read.adds ++ added_bytes item) new → HasRead bytes after new taken
goes_on bytes rest after old new item fits taken so_far stands holds = record {
  adds = so_far.adds ++ added_bytes item;
  reads = λ read reads.
      subst (ReadsAs bytes) (with_front-with_front so_far.adds (added_bytes item) read)
      (so_far.reads (with_front (added_bytes item) read) (item_reads rest after item read so_far.left stands reads));
  left = AreBytes-left rest after item so_far.left stands;
  within = omega (arith, so_far.within, front_leaves_less rest after item stands.1);
  holds = holds;
}

pub HasRead-takes : (bytes rest after old new : List ℕ) (item : Item) (fits taken : Bool) → fits ≡ true
    → HasRead bytes rest old fits
    → StandsFirst rest (OfItem item after) → Takes taken old (added_bytes item) new → HasRead bytes after new taken
HasRead-takes bytes rest after old new item true taken is read stands takes =
    goes_on bytes rest after old new item true taken read stands
    (Holds-takes taken read.adds old (added_bytes item) new read.holds takes)
HasRead-takes bytes rest after old new item false taken is read stands takes = absurd cc

-- what is too long stays too long
pub HasRead-passes : (bytes rest after old : List ℕ) (item : Item) (fits : Bool) → fits ≡ false
    → HasRead bytes rest old fits
    → StandsFirst rest (OfItem item after) → HasRead bytes after old fits
HasRead-passes bytes rest after old item false is read stands =
    goes_on bytes rest after old old item false false read stands
    (omega (arith, read.holds, length-append read.adds (added_bytes item)))
HasRead-passes bytes rest after old item true is read stands = absurd cc

-- ---- an end, or a fault

begins-read : (bytes rest after contents : List ℕ) (fits : Bool) (end : End) (so_far : HasRead bytes rest contents fits)
    → StandsFirst rest (OfEnd end after) → Begins bytes (length bytes - length after) so_far.adds end
begins-read bytes rest after contents fits end so_far stands =
    let read = so_far.reads (Ok (record { contents = []; end = end; rest = after }))
    (end_byte end ∷ [], Spelling-end end, stands) in
    rw append-nil at (begins bytes read.0 (so_far.adds ++ []) after end read.1 read.2)

pub unspells-aborted : (bytes rest after contents : List ℕ) (fits : Bool) → HasRead bytes rest contents fits
    → StandsFirst rest (OfEnd Abort after)
    → Unspells bytes (Ok (length bytes - length after, Abort)) []
unspells-aborted bytes rest after contents fits so_far stands =
    ((so_far.adds, begins-read bytes rest after contents fits Abort so_far stands), refl)

pub unspells-whole : (bytes rest after contents : List ℕ) (fits : Bool) → fits ≡ true → HasRead bytes rest contents fits
    → StandsFirst rest (OfEnd Record after)
    → Unspells bytes (Ok (length bytes - length after, Record)) contents
unspells-whole bytes rest after contents true is so_far stands =
    rw so_far.holds.0 (begins-read bytes rest after contents true Record so_far stands, so_far.holds.1)
unspells-whole bytes rest after contents false is so_far stands = absurd cc

pub unspells-too_long : (bytes rest after contents : List ℕ) (fits : Bool) → fits ≡ false
    → HasRead bytes rest contents fits
    → StandsFirst rest (OfEnd Record after)
    → Unspells bytes (Err (faults.TooLong (length bytes - length after))) []
unspells-too_long bytes rest after contents true is so_far stands = absurd cc
unspells-too_long bytes rest after contents false is so_far stands =
    ((so_far.adds, begins-read bytes rest after contents false Record so_far stands, so_far.holds), refl)

-- what stops the reading is the fault of all
pub unspells-fault : (bytes rest contents : List ℕ) (fits : Bool) (fault : RecordFault)
    → HasRead bytes rest contents fits
    → LeadsToPart rest (Err fault) → Unspells bytes (Err fault) []
unspells-fault bytes rest contents fits faults.BadScb so_far stands =
    (so_far.reads (Err BadScb) (bad_reads rest stands), refl)
unspells-fault bytes rest contents fits faults.Truncated so_far stands =
    (so_far.reads (Err Truncated) (truncated_at rest so_far.left stands), refl)
unspells-fault bytes rest contents fits (faults.TooLong used) so_far stands = absurd stands
