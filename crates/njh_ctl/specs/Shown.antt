-- What is told for people of customers, files, replies and the hub.
use Rattle.std.specs.Prelude.{◌≡◌, ℕ, ◌++◌, ◌^◌, ◌-◌, false, List, [], ◌∷◌, codes}
use Rattle.std.specs.Prelude.{Option, Some, None}
use Rattle.std.specs.Prelude.{String, string_bytes}
use Rattle.std.specs.declared.alloc.Global.{Global}
use Rattle.std.specs.Fmt.{decimal, format_spec, padded, padded_integral}
use Rattle.serde_json.specs.Data.{Data}
use Rattle.serde_json.specs.Find.{as_str, get}
use Rattle.serde_json.specs.View.{items_of}
use Rattle.njh_ctl.specs.Answers.{count_in, list_in, string_in}
use Rattle.njh_ctl.specs.Questions.{Text}

-- a text is put behind what there was
abbrev pub Grows : Text → String Global → String Global → Type 0
Grows text old new = string_bytes new ≡ string_bytes old ++ text

-- a text like this is put behind what there was
abbrev pub Adds : (Text → Type 0) → String Global → String Global → Type 0
Adds is old new = (text : Text) × is text × (string_bytes new ≡ string_bytes old ++ text)

-- ---- columns

abbrev pub newline : Text
newline = 10 ∷ []

-- a text in a column of so many characters
abbrev pub left : ℕ → Text → Text
left width text = padded (format_spec 32 1 0 width (2 ^ 64 - 1)) text

-- a number at the right of a column
abbrev pub right : ℕ → ℕ → Text
right width number = padded_integral (format_spec 32 3 0 width (2 ^ 64 - 1)) false [] (decimal number)

-- a row for each, in their order
pub data Rows (row : Data → Text → Type 0) : List Data → Text → Type 0 where
  no_row : Rows row [] []
  one_row_more : (ds : List Data) (text : Text) (d : Data) (more : Text) → Rows row ds text → row d more
      → Rows row (ds ++ (d ∷ [])) (text ++ more)

pub record RowsOf (key : Text) (row : Data → Text → Type 0) (d : Data) (text : Text) : Type 0 where
  pub items : List Data
  pub found : list_in key d ≡ Some (items_of items)
  pub rows : Rows row items text

-- ---- customers

abbrev pub customers_head : Text
customers_head = codes "CUSTOMER  QUOTA   USED  READY   HELD REFUSED SENDING ARRIVED   MOST TURNEDAWAY OLDEST\n"

-- how many files are in each state
pub record IsTally (files : Data) (text : Text) : Type 0 where
  pub ready : ℕ
  pub held : ℕ
  pub refused : ℕ
  pub sending : ℕ
  pub ready_is : count_in (codes "ready") files ≡ Some ready
  pub held_is : count_in (codes "held") files ≡ Some held
  pub refused_is : count_in (codes "refused") files ≡ Some refused
  pub sending_is : count_in (codes "sending") files ≡ Some sending
  pub text_is : text ≡ right 6 ready ++ (codes " " ++ (right 6 held ++ (codes " " ++ (right 7 refused
      ++ (codes " " ++ (right 7 sending ++ codes " "))))))

-- what a customer is called, may have and has; what is told behind it of how many files it may have, of those that were
-- refused and of its oldest may be anything
abbrev pub quota_text : Text → ℕ → ℕ → Text
quota_text name quota used = left 8 name ++ (codes " " ++ (right 6 quota ++ (codes " " ++ (right 6 used ++ codes " "))))

abbrev pub arrived_text : ℕ → Text → Text
arrived_text arrived limits = right 7 arrived ++ (limits ++ newline)

pub record IsCustomerRow (d : Data) (text : Text) : Type 0 where
  pub name : Text
  pub quota : ℕ
  pub used : ℕ
  pub arrived : ℕ
  pub files : Data
  pub tally : Text
  pub limits : Text
  pub name_is : string_in (codes "name") d ≡ Some name
  pub quota_is : count_in (codes "quota") d ≡ Some quota
  pub used_is : count_in (codes "blocks") d ≡ Some used
  pub arrived_is : count_in (codes "arrived") d ≡ Some arrived
  pub files_are : get (codes "files") d ≡ Some files
  pub tally_is : IsTally files tally
  pub text_is : text ≡ quota_text name quota used ++ (tally ++ arrived_text arrived limits)

-- ---- files

abbrev pub files_head : Text
files_head =
    codes "CUSTOMER FILE           KIND STATE    RECORDS BLOCKS SINCE                LINE     OWNER             FOR\n"

-- a user at a node, or a node alone
abbrev pub user_text : Text → Text → Text
user_text node [] = node
user_text node (c ∷ name) = node ++ (codes "." ++ (c ∷ name))

pub record IsUser (d : Data) (text : Text) : Type 0 where
  pub node : Text
  pub user : Text
  pub node_is : string_in (codes "node") d ≡ Some node
  pub user_is : string_in (codes "user") d ≡ Some user
  pub text_is : text ≡ user_text node user

-- no date where nobody knows since when it is there
abbrev pub IsSince : Option ℕ → Text → Type 0
IsSince None text = text ≡ codes "-"
IsSince (Some moment) text = Unit {0}

abbrev pub text_or : Option Text → Text → Text
text_or None other = other
text_or (Some text) other = text

-- since when a file is there, and by which line it goes
pub record IsWay (d : Data) (text : Text) : Type 0 where
  pub since : Text
  pub since_is : IsSince (count_in (codes "came") d) since
  pub text_is : text ≡ left 20 since ++ (codes " "
      ++ (left 8 (text_or (string_in (codes "line") d) (codes "no route")) ++ codes " "))

-- whose a file is, and for whom
pub record AreUsers (owner destination : Data) (text : Text) : Type 0 where
  pub owner_text : Text
  pub destination_text : Text
  pub owner_is : IsUser owner owner_text
  pub destination_is : IsUser destination destination_text
  pub text_is : text ≡ left 17 owner_text ++ (codes " " ++ (destination_text ++ newline))

-- what a file is called and is
abbrev pub file_text : Text → Text → Text → Text → Text
file_text customer name kind state = left 8 customer ++ (codes " " ++ (left 14 name ++ (codes " " ++ (left 4 kind
    ++ (codes " " ++ (left 8 state ++ codes " "))))))

abbrev pub size_text : ℕ → ℕ → Text
size_text records blocks = right 7 records ++ (codes " " ++ (right 6 blocks ++ codes " "))

pub record IsFileRow (customer : Text) (d : Data) (text : Text) : Type 0 where
  pub name : Text
  pub kind : Text
  pub state : Text
  pub records : ℕ
  pub blocks : ℕ
  pub way : Text
  pub owner : Data
  pub destination : Data
  pub users : Text
  pub name_is : string_in (codes "name") d ≡ Some name
  pub kind_is : string_in (codes "kind") d ≡ Some kind
  pub state_is : string_in (codes "state") d ≡ Some state
  pub records_are : count_in (codes "records") d ≡ Some records
  pub blocks_are : count_in (codes "blocks") d ≡ Some blocks
  pub way_is : IsWay d way
  pub owner_is : get (codes "owner") d ≡ Some owner
  pub destination_is : get (codes "destination") d ≡ Some destination
  pub users_are : AreUsers owner destination users
  pub text_is : text ≡ file_text customer name kind state ++ (size_text records blocks ++ (way ++ users))

-- ---- replies

abbrev pub IsReply : Data → Text → Type 0
IsReply d text = (reply : Text) × (as_str d ≡ Some reply) × (text ≡ reply ++ newline)

abbrev pub AreRepliesShown : Data → Text → Type 0
AreRepliesShown = RowsOf (codes "replies") IsReply

-- ---- the hub

abbrev pub lines_text : ℕ → ℕ → ℕ → Text
lines_text customers up all = codes "customers " ++ (decimal customers ++ (codes ", lines up " ++ (decimal up
    ++ (codes " of " ++ (decimal all ++ newline)))))

abbrev pub blocks_text : ℕ → ℕ → ℕ → Text
blocks_text files used rest = codes "files " ++ (decimal files ++ (codes ", blocks " ++ (decimal used
    ++ (codes " used and " ++ (decimal rest ++ codes " left\n")))))

pub record IsSums (d : Data) (text : Text) : Type 0 where
  pub customers : ℕ
  pub files : ℕ
  pub lines : Data
  pub up : ℕ
  pub all : ℕ
  pub blocks : Data
  pub used : ℕ
  pub rest : ℕ
  pub customers_are : count_in (codes "customers") d ≡ Some customers
  pub files_are : count_in (codes "files") d ≡ Some files
  pub lines_are : get (codes "lines") d ≡ Some lines
  pub up_is : count_in (codes "up") lines ≡ Some up
  pub all_is : count_in (codes "all") lines ≡ Some all
  pub blocks_are : get (codes "blocks") d ≡ Some blocks
  pub used_is : count_in (codes "used") blocks ≡ Some used
  pub rest_is : count_in (codes "left") blocks ≡ Some rest
  pub text_is : text ≡ lines_text customers up all ++ blocks_text files used rest

-- the size of the spool file, where it is known
abbrev pub bytes_text : Option ℕ → Text
bytes_text None = []
bytes_text (Some bytes) = codes "spool file " ++ (decimal bytes ++ codes " bytes\n")

-- what is wrong, and below it how grave it is and since when, which may be anything
abbrev pub IsFault : Data → Text → Type 0
IsFault d text = (fault : Text) × ((gravity : Text) × (as_str d ≡ Some fault)
    × (text ≡ codes "wrong: " ++ (fault ++ (newline ++ gravity))))

abbrev pub AreFaults : List Data → Text → Type 0
AreFaults [] text = text ≡ codes "nothing is wrong\n"
AreFaults (d ∷ ds) text = Rows IsFault (d ∷ ds) text

abbrev pub version_text : Text → Text → Text
version_text version since = codes "njehub " ++ (version ++ (codes ", since " ++ (since ++ newline)))

-- what is told of its room and of the time, and of what the operator wants so, may be anything
pub record IsStatusShown (d : Data) (text : Text) : Type 0 where
  pub version : Text
  pub since : ℕ
  pub since_text : Text
  pub sums : Text
  pub room : Text
  pub faults : List Data
  pub faults_text : Text
  pub intended : Text
  pub version_is : string_in (codes "version") d ≡ Some version
  pub since_is : count_in (codes "since") d ≡ Some since
  pub sums_are : IsSums d sums
  pub faults_are : list_in (codes "faults") d ≡ Some (items_of faults)
  pub faults_text_is : AreFaults faults faults_text
  pub text_is : text ≡ version_text version since_text
      ++ (sums ++ (bytes_text (count_in (codes "file_bytes") d) ++ (room ++ (faults_text ++ intended))))
