-- What is printed of a spool file.
use Rattle.std.specs.Prelude.{◌≡◌, ◌<◌, ℕ, Bool, true, List, [], Option, None, Some, is_some, length, ⊤}
use Rattle.std.specs.Io.KnownBytes.{Appends}
use Rattle.njh_spoolfile.specs.Kept.{SpoolContents}
use Rattle.njh_listing.specs.Asked.{IsRefusedOf}
use Rattle.njh_listing.specs.Faults.{IsOfSpool}
use Rattle.njh_listing.specs.declared.fault.FilesFault.{FilesFault}
use Rattle.njh_listing.specs.declared.fault.FilesFault.TheVariants.{NoFile}
use Rattle.njh_listing.specs.Exported.{IsExported, IsExportedInPart, IsExportedOf}
use Rattle.njh_listing.specs.Listed.{IsListed, IsListedInPart, listing_text}

-- if no file is named the listing, and else what is written of a file's records
abbrev pub IsPrinted : {Name : Type 0} → Option (List ℕ) → (file : Option Name) → (raw : Bool)
    → (old new : Option (List ℕ)) → Type 0
IsPrinted customer None raw old new = IsListed customer old new
IsPrinted customer (Some name) raw old new = IsExported raw old new

abbrev pub IsPrintedInPart : {Name : Type 0} → Option (List ℕ) → (file : Option Name) → (raw : Bool)
    → (old new : Option (List ℕ)) → Type 0
IsPrintedInPart customer None raw old new = IsListedInPart customer old new
IsPrintedInPart customer (Some name) raw old new = IsExportedInPart raw old new

-- a customer that is named has a line at least of a listing
abbrev pub HasLine : (customer : Option (List ℕ)) → (text : List ℕ) → Type 0
HasLine None text = ⊤
HasLine (Some customer) text = 0 < length text

-- Why nothing, or not all, of a listing: a customer is named that has no line of it; or the spool file, the writer or
-- memory failed.
abbrev pub IsUnlisted : (customer : Option (List ℕ)) → (text : List ℕ) → FilesFault → Type 0
IsUnlisted customer text (NoFile name) = (is_some customer ≡ true) × (text ≡ [])
IsUnlisted customer text fault = IsOfSpool fault

-- Of a spool: the listing of its files, of all or of the customer's, which has some; or if a file is named the records
-- of the one that is asked for.
abbrev pub IsPrintedOf : (customer : Option (List ℕ)) → (file : Option (List ℕ)) → (number : Option ℕ) → (raw : Bool)
    → SpoolContents → (old new : Option (List ℕ)) → Type 0
IsPrintedOf customer None number raw spool old new =
    HasLine customer (listing_text customer spool.files) × Appends old new (listing_text customer spool.files)
IsPrintedOf customer (Some name) number raw spool old new = IsExportedOf customer number name raw spool old new

-- Why nothing, or not all, of that: the spool file, the writer or memory failed, or the file that is named isn't one,
-- or the customer has none.
abbrev pub IsFaultOf : (customer : Option (List ℕ)) → (file : Option (List ℕ)) → (number : Option ℕ) → SpoolContents
    → FilesFault → Type 0
IsFaultOf customer None number spool fault = IsUnlisted customer (listing_text customer spool.files) fault
IsFaultOf customer (Some name) number spool fault = IsRefusedOf customer number name spool.files fault
