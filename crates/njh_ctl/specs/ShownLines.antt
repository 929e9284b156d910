-- What is told for people of lines.
use Rattle.std.specs.Prelude.{◌≡◌, ℕ, ◌++◌, Bool, true, false, codes, Some, is_some}
use Rattle.std.specs.Fmt.{decimal}
use Rattle.serde_json.specs.Data.{Data}
use Rattle.serde_json.specs.Find.{as_null, as_str, get}
use Rattle.njh_ctl.specs.Answers.{count_in, string_in}
use Rattle.njh_ctl.specs.Questions.{Text}
use Rattle.njh_ctl.specs.Shown.{RowsOf, left, newline, text_or}

abbrev pub lines_head : Text
lines_head =
    codes "CUSTOMER LINE     NODE     ROLE    STATE    SESSION    TURN   SINCE                "
    ++ codes "SITE                        PEER\n"

-- what a line is called and is
pub record AreLineNames (customer : Text) (d : Data) (text : Text) : Type 0 where
  pub name : Text
  pub node : Text
  pub role : Text
  pub name_is : string_in (codes "name") d ≡ Some name
  pub node_is : string_in (codes "node") d ≡ Some node
  pub role_is : string_in (codes "role") d ≡ Some role
  pub text_is : text ≡ left 8 customer ++ (codes " " ++ (left 8 name ++ (codes " " ++ (left 8 node
      ++ (codes " " ++ (left 7 role ++ codes " "))))))

-- the address of who is connected, or a dash
abbrev pub peer_in : Data → Text
peer_in served = text_or (string_in (codes "peer") served) (codes "-")

-- how a line is served, how its session is, since when, and who is connected
abbrev pub served_text : Text → Text → Text → Text → Text → Text → Text
served_text state phase turn since site peer = left 8 state ++ (codes " " ++ (left 10 phase ++ (codes " "
    ++ (left 6 turn ++ (codes " " ++ (left 20 since ++ (codes " " ++ (left 27 site ++ (codes " "
    ++ (peer ++ newline))))))))))

pub record IsServedRow (served session : Data) (text : Text) : Type 0 where
  pub state : Text
  pub site : Text
  pub phase : Text
  pub turn : Text
  pub since : Text
  pub state_is : string_in (codes "state") served ≡ Some state
  pub site_is : string_in (codes "site") served ≡ Some site
  pub phase_is : string_in (codes "phase") session ≡ Some phase
  pub turn_is : string_in (codes "turn") session ≡ Some turn
  pub text_is : text ≡ served_text state phase turn since site (peer_in served)

-- ---- who else comes to a line

-- an address that waits for it
abbrev pub IsGuestRow : Data → Text → Type 0
IsGuestRow d text = (guest : Text) × (as_str d ≡ Some guest) × (text ≡ codes "  waits: " ++ (guest ++ newline))

-- an address, and how many of its sign-ons were refused
pub record IsRefusalRow (d : Data) (text : Text) : Type 0 where
  pub address : Text
  pub count : ℕ
  pub address_is : string_in (codes "address") d ≡ Some address
  pub count_is : count_in (codes "count") d ≡ Some count
  pub text_is : text ≡ codes "  refused sign-ons of " ++ (address ++ (codes ": " ++ (decimal count ++ newline)))

-- those that wait, then those of which sign-ons were refused
pub record AreCallers (served : Data) (text : Text) : Type 0 where
  pub guests : Text
  pub refusals : Text
  pub guests_are : RowsOf (codes "waiting") IsGuestRow served guests
  pub refusals_are : RowsOf (codes "refused") IsRefusalRow served refusals
  pub text_is : text ≡ guests ++ refusals

-- ---- a line

-- its row, what was asked for or sent again, and who else comes to it
pub record IsSessionTold (served session : Data) (text : Text) : Type 0 where
  pub row : Text
  pub troubles : Text
  pub callers : Text
  pub row_is : IsServedRow served session row
  pub callers_are : AreCallers served callers
  pub text_is : text ≡ row ++ (troubles ++ callers)

abbrev pub ServedWhere : Bool → Data → Data → Text → Type 0
ServedWhere true served session text = text ≡ codes "not served\n"
ServedWhere false served session text = IsSessionTold served session text

-- how it is served, if it is
pub record IsServed (d : Data) (text : Text) : Type 0 where
  pub served : Data
  pub session : Data
  pub served_is : get (codes "served") d ≡ Some served
  pub session_is : get (codes "session") d ≡ Some session
  pub told : ServedWhere (is_some (as_null served)) served session text

-- what a line is called and is, and how it is served; what is told of its messages and its streams follows
pub record IsLineRow (customer : Text) (d : Data) (text : Text) : Type 0 where
  pub names : Text
  pub served : Text
  pub more : Text
  pub names_are : AreLineNames customer d names
  pub served_is : IsServed d served
  pub text_is : text ≡ names ++ (served ++ more)

-- a text, whichever it is
abbrev pub IsAny : Text → Type 0
IsAny text = Unit {0}
