-- What is printed of the whole files of a spool file: a line a file.
use Rattle.std.specs.Prelude.{ℕ, zero, suc, Bool, cond, List, [], ◌++◌, codes, bytes_eq, flat_map}
use Rattle.std.specs.Prelude.{Option, None, Some, filter, length, slice_get, take}
use Rattle.std.specs.Fmt.{decimal}
use Rattle.std.specs.List.{list_any}
use Rattle.std.specs.Io.KnownBytes.{Appends}
use Rattle.njh_io.specs.Written.{AppendsBeginning}
use Rattle.njh_spoolfile.specs.Kept.{File}
use Rattle.njh_spoolfile.specs.Sent.{without_mark}

-- one text after another, as the pieces of a line come
infixr 20 ◌+++◌
abbrev pub ◌+++◌ : List ℕ → List ℕ → List ℕ
front +++ back = front ++ back

-- LYON.42
unfoldable pub name_text : File → List ℕ
name_text f = f.owner_node +++ codes "." +++ decimal f.number

-- a user is left out with its blank if there is none
unfoldable pub user_words : List ℕ → List ℕ
user_words user = cond (bytes_eq user (codes "")) (codes "") (codes " " +++ user)

unfoldable pub kind_words : List ℕ → List ℕ
kind_words kind =
    cond (bytes_eq kind (codes "SYSIN")) (codes "IN") (cond (bytes_eq kind (codes "SYSOUT")) (codes "OUT") kind)

unfoldable pub state_words : Bool → List ℕ
state_words held = cond held (codes "HELD") (codes "READY")

-- what NJH001 says of a file, after its number: LYON.42 TO METZ PAUL OUT 4 RECORDS READY
unfoldable pub said_of : File → List ℕ
said_of f =
    name_text f +++ codes " TO " +++ without_mark f.to_node +++ user_words f.to_user +++ codes " " +++ kind_words f.kind
    +++ codes " " +++ decimal f.records +++ codes " RECORDS " +++ state_words f.held

-- a file: the name of its customer, a blank, what NJH001 says of it, and the end of the line
unfoldable pub file_line : File → List ℕ
file_line f = f.customer +++ codes " " +++ said_of f +++ codes "\n"

-- whether a file is this customer's
abbrev pub is_of : List ℕ → ℕ × File → Bool
is_of customer e = bytes_eq e.1.customer customer

-- the files of a customer, in their order of arrival
abbrev pub files_of : List ℕ → List (ℕ × File) → List (ℕ × File)
files_of customer es = filter (is_of customer) es

abbrev pub has_customer : List ℕ → List (ℕ × File) → Bool
has_customer customer es = list_any (is_of customer) es

-- the files of the customer of the file at a place, if no earlier file is this customer's
abbrev pub first_files_of : (all before : List (ℕ × File)) → Option (ℕ × File) → List (ℕ × File)
first_files_of all before None = []
first_files_of all before (Some e) = cond (has_customer e.1.customer before) [] (files_of e.1.customer all)

unfoldable pub first_files : ℕ → List (ℕ × File) → List (ℕ × File)
first_files at all = first_files_of all (take at all) (slice_get all at)

-- the files of the customers of so many first files
abbrev pub files_up_to : ℕ → List (ℕ × File) → List (ℕ × File)
files_up_to zero all = []
files_up_to (suc n) all = files_up_to n all ++ first_files n all

-- all files, the customers in the order of their first files; or those of one customer
abbrev pub listed_files : Option (List ℕ) → List (ℕ × File) → List (ℕ × File)
listed_files None es = files_up_to (length es) es
listed_files (Some customer) es = files_of customer es

-- a line for each of them
abbrev pub listing_text : Option (List ℕ) → List (ℕ × File) → List ℕ
listing_text customer es = flat_map (λ e. file_line e.1) (listed_files customer es)

-- The listing of some files came after what had been written; or a beginning of it did.
abbrev pub IsListed : Option (List ℕ) → (old new : Option (List ℕ)) → Type 0
IsListed customer old new = (files : List (ℕ × File)) × Appends old new (listing_text customer files)

abbrev pub IsListedInPart : Option (List ℕ) → (old new : Option (List ℕ)) → Type 0
IsListedInPart customer old new = (files : List (ℕ × File)) × AppendsBeginning old new (listing_text customer files)
