-- What is told for people of the nodal messages of lines.
use Rattle.std.specs.Prelude.{◌≡◌, ℕ, ◌++◌, Bool, true, false, codes, Some, is_some}
use Rattle.std.specs.Fmt.{decimal}
use Rattle.serde_json.specs.Data.{Data}
use Rattle.serde_json.specs.Find.{as_null, get}
use Rattle.njh_ctl.specs.Answers.{count_in, string_in}
use Rattle.njh_ctl.specs.Questions.{Text}
use Rattle.njh_ctl.specs.Shown.{IsSince, IsUser, RowsOf, left, newline}

abbrev pub messages_head : Text
messages_head = codes "CUSTOMER LINE     FOR               SINCE\n"

-- ---- those that wait

abbrev pub message_text : Text → Text → Text → Text → Text
message_text customer line whom since = left 8 customer ++ (codes " " ++ (left 8 line ++ (codes " "
    ++ (left 17 whom ++ (codes " " ++ (since ++ newline))))))

-- a message: on whose line it waits, for whom, and since when
pub record IsMessageRow (customer line : Text) (d : Data) (text : Text) : Type 0 where
  pub whom : Text
  pub since : Text
  pub whom_is : IsUser d whom
  pub since_is : IsSince (count_in (codes "since") d) since
  pub text_is : text ≡ message_text customer line whom since

-- ---- how many there were

abbrev pub sums_text : ℕ → ℕ → ℕ → Text
sums_text came went dropped =
    codes "came " ++ (decimal came ++ (codes ", went " ++ (decimal went ++ (codes ", dropped " ++ decimal dropped))))

-- how many came, went and were dropped
pub record AreMessageSums (counts : Data) (text : Text) : Type 0 where
  pub messages : Data
  pub came : ℕ
  pub went : ℕ
  pub dropped : ℕ
  pub messages_are : get (codes "messages") counts ≡ Some messages
  pub came_is : count_in (codes "in") messages ≡ Some came
  pub went_is : count_in (codes "out") messages ≡ Some went
  pub dropped_is : count_in (codes "dropped") counts ≡ Some dropped
  pub text_is : text ≡ sums_text came went dropped

pub record IsCountedOf (served : Data) (text : Text) : Type 0 where
  pub counts : Data
  pub counts_are : get (codes "counts") served ≡ Some counts
  pub sums_are : AreMessageSums counts text

abbrev pub CountedWhere : Bool → Data → Text → Type 0
CountedWhere true served text = text ≡ codes "not served"
CountedWhere false served text = IsCountedOf served text

-- they are counted on a line that is served
pub record IsCounted (d : Data) (text : Text) : Type 0 where
  pub served : Data
  pub served_is : get (codes "served") d ≡ Some served
  pub told : CountedWhere (is_some (as_null served)) served text

abbrev pub counted_text : Text → Text → Text → Text
counted_text customer line counts =
    left 8 customer ++ (codes " " ++ (left 8 line ++ (codes " " ++ (counts ++ newline))))

pub record IsCountsRow (customer line : Text) (d : Data) (text : Text) : Type 0 where
  pub counts : Text
  pub counts_are : IsCounted d counts
  pub text_is : text ≡ counted_text customer line counts

-- ---- a line

-- a row for each message that waits, in their order, and one of how many there were
pub record AreLineMessages (customer : Text) (d : Data) (text : Text) : Type 0 where
  pub line : Text
  pub rows : Text
  pub counts : Text
  pub line_is : string_in (codes "name") d ≡ Some line
  pub rows_are : RowsOf (codes "queue") (IsMessageRow customer line) d rows
  pub counts_are : IsCountsRow customer line d counts
  pub text_is : text ≡ rows ++ counts
