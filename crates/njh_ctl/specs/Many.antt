-- Orders for a customer's files that are chosen, name by name.
use Rattle.std.specs.Prelude.{◌≡◌, ℕ, ◌+◌, ◌++◌, ◌&&◌, Bool, true, false, List, codes, take, bytes_eq}
use Rattle.std.specs.Prelude.{not, nat_lt, count_by, cond, Option, Some, None, slice_get, string_bytes}
use Rattle.std.specs.Fmt.{decimal}
use Rattle.std.specs.List.{list_any}
use Rattle.serde_json.specs.Data.{Data}
use Rattle.njh_arguments.specs.Choices.{OwnerView}
use Rattle.njh_arguments.specs.Commands.{ChangeView, change_view}
use Rattle.njh_ctl.specs.Chosen.{FileView, IsFile, Wanted, is_chosen}
use Rattle.njh_ctl.specs.Orders.{GiverView, IsGivenSo, OrderView, TalkView, order_given, terms_of}
use Rattle.njh_ctl.specs.Questions.{Text, change_text}
use Rattle.njh_ctl.specs.Shown.{user_text}
use Rattle.njh_ctl.specs.Told.{LineTold, Told}
use Rattle.njh_ctl.specs.declared.counts.Counts.{Counts}
use Rattle.njh_ctl.specs.declared.counts.Outcome.{Outcome}
use Rattle.njh_ctl.specs.declared.counts.Outcome.TheVariants as outcome
use Rattle.njh_ctl.specs.declared.ending.Ending.{Ending}
use Rattle.njh_ctl.specs.declared.ending.Ending.TheVariants.{Done, TurnedDown, Wrong}
use Rattle.njh_ctl.specs.declared.ending.Given.{Given}
use Rattle.njh_ctl.specs.declared.ending.Given.TheVariants as given
use Rattle.njh_ctl.specs.declared.entries.Entry.{Entry}
use Rattle.njh_ctl.specs.declared.entries.Share.{Share}
use Rattle.njh_ctl.specs.declared.many.Many.{Many}

-- ---- a customer's files

-- a file's name and owner, and whether it is chosen
pub record EntryView : Type 0 where
  pub name : Text
  pub owner : OwnerView
  pub chosen : Bool

abbrev pub entry_view : Entry → EntryView
entry_view e = record {
  name = string_bytes e.name;
  owner = record { node = string_bytes e.node; user = string_bytes e.user };
  chosen = e.is_chosen;
}

abbrev pub named_entry : FileView → Bool → EntryView
named_entry f chosen = record { name = f.name; owner = f.owner; chosen = chosen }

abbrev pub entry_of : Wanted → FileView → EntryView
entry_of wanted f = named_entry f (is_chosen wanted f)

-- an answer's file is this entry
pub record IsEntry (wanted : Wanted) (d : Data) (e : EntryView) : Type 0 where
  pub file : FileView
  pub of : IsFile d file
  pub is_so : e ≡ entry_of wanted file

-- ---- which files an order is for: all of the name and the owner

abbrev pub is_same : EntryView → EntryView → Bool
is_same e f = bytes_eq e.name f.name && (bytes_eq e.owner.node f.owner.node && bytes_eq e.owner.user f.owner.user)

abbrev pub is_chosen_same : EntryView → EntryView → Bool
is_chosen_same e f = f.chosen && is_same e f

-- how many files of its name and owner there are, and how many of them are chosen
abbrev pub share_of : List EntryView → EntryView → Share
share_of entries e = record { all = count_by (is_same e) entries; chosen = count_by (is_chosen_same e) entries }

-- of the chosen files of a name and an owner the first stands for all
abbrev pub stands_first : List EntryView → EntryView → Bool
stands_first before e = e.chosen && not (list_any (is_chosen_same e) before)

abbrev pub share_by : Bool → List EntryView → EntryView → Option Share
share_by true entries e = Some (share_of entries e)
share_by false entries e = None

abbrev pub share_at : List EntryView → ℕ → EntryView → Option Share
share_at entries at e = share_by (stands_first (take at entries) e) entries e

-- ---- what is ordered

pub record ManyView : Type 0 where
  pub change : ChangeView
  pub customer : Text
  pub dry_run : Bool

abbrev pub many_view : Many → ManyView
many_view many = record { change = change_view many.change; customer = many.customer.now; dry_run = many.dry_run }

abbrev pub is_passed_over : Share → Bool
is_passed_over share = nat_lt share.chosen share.all

abbrev pub share_text : Bool → Text
share_text true = codes " files, passed over"
share_text false = codes " files"

-- HOLD LYON.42 of LYON.ANNA: 1 of 3 files, passed over
abbrev pub name_text : ManyView → EntryView → Share → Text
name_text many e share = change_text many.change e.name ++ (codes " of " ++ (user_text e.owner.node e.owner.user
    ++ (codes ": " ++ (decimal share.chosen ++ (codes " of " ++ (decimal share.all
    ++ share_text (is_passed_over share)))))))

-- the order of a name, in its owner's name
abbrev pub order_of : ManyView → EntryView → OrderView
order_of many e = order_given many.customer (change_text many.change e.name) (Some e.owner)

abbrev pub outcome_of : Ending → Outcome
outcome_of Done = outcome.Done
outcome_of TurnedDown = outcome.NotDone
outcome_of Wrong = outcome.NotDone

-- what is told of what came of it: a refusal
abbrev pub GivenTold : Given → Told → Told → Outcome → Type 0
GivenTold (given.Ended ending) old new out = (new ≡ old) × (out ≡ outcome_of ending)
GivenTold (given.Refused refusal) old new out =
    LineTold (codes "refused: " ++ string_bytes refusal.sentence) old new × (out ≡ outcome.Refused)

-- the order is given, as the giver's of this place and up to some second, and what came of it is told
pub record NameGiven (many : ManyView) (giver : GiverView) (at : ℕ) (e : EntryView) (old new : TalkView) (out : Outcome)
    : Type 0 where
  pub until : ℕ
  pub mid : TalkView
  pub given : Given
  pub is_so : IsGivenSo (order_of many e) (terms_of giver at until) old mid given
  pub told : GivenTold given mid.told new.told out
  pub same : new ≡ record mid { told = new.told }

abbrev pub NameTried : (dry_run : Bool) → ManyView → GiverView → ℕ → EntryView → TalkView → TalkView → Outcome → Type 0
NameTried true many giver at e old new out = (new ≡ old) × (out ≡ outcome.Done)
NameTried false many giver at e old new out = NameGiven many giver at e old new out

-- a name of which not all files are chosen is passed over
abbrev pub ShareTried : (passed : Bool) → ManyView → GiverView → ℕ → EntryView → TalkView → TalkView → Outcome → Type 0
ShareTried true many giver at e old new out = (new ≡ old) × (out ≡ outcome.PassedOver)
ShareTried false many giver at e old new out = NameTried many.dry_run many giver at e old new out

pub record NameTold (many : ManyView) (giver : GiverView) (at : ℕ) (e : EntryView) (share : Share) (old new : TalkView)
    (out : Outcome) : Type 0 where
  pub mid : TalkView
  pub line : LineTold (name_text many e share) old.told mid.told
  pub same : mid ≡ record old { told = mid.told }
  pub tried : ShareTried (is_passed_over share) many giver at e mid new out

-- an entry that stands for its name and owner is told and tried; of others nothing is
abbrev pub EntryTried : ManyView → GiverView → ℕ → EntryView → Option Share → TalkView → TalkView → Outcome → Type 0
EntryTried many giver at e None old new out = (new ≡ old) × (out ≡ outcome.Left)
EntryTried many giver at e (Some share) old new out = NameTold many giver at e share old new out

-- ---- how many of each outcome

abbrev pub counts_with : Outcome → Counts → Counts
counts_with outcome.Left n = n
counts_with outcome.Done n = record n { done = n.done + 1 }
counts_with outcome.NotDone n = record n { not_done = n.not_done + 1 }
counts_with outcome.Refused n = record n { refused = n.refused + 1 }
counts_with outcome.PassedOver n = record n { passed_over = n.passed_over + 1 }

abbrev pub no_counts : Counts
no_counts = record { done = 0; not_done = 0; refused = 0; passed_over = 0 }

-- the entries up to a place are tried, one after another
pub data Tried (many : ManyView) (giver : GiverView) (entries : List EntryView) (old : TalkView) : ℕ → TalkView → Counts
    → Type 0 where
  trying_begins : Tried many giver entries old 0 old no_counts
  trying_goes_on : (at : ℕ) (e : EntryView) (mid new : TalkView) (n : Counts) (out : Outcome)
      → Tried many giver entries old at mid n → slice_get entries at ≡ Some e
      → EntryTried many giver at e (share_at entries at e) mid new out
      → Tried many giver entries old (at + 1) new (counts_with out n)

-- what is told last
abbrev pub counts_text : Bool → Counts → Text
counts_text true n = codes "nothing was ordered: " ++ (decimal n.done ++ (codes " names, and "
    ++ (decimal n.passed_over ++ codes " passed over")))
counts_text false n = codes "done " ++ (decimal n.done ++ (codes ", not done " ++ (decimal n.not_done
    ++ (codes ", refused " ++ (decimal n.refused ++ (codes ", passed over " ++ decimal n.passed_over))))))

abbrev pub ending_of : Counts → Ending
ending_of n = cond (nat_lt 0 (n.not_done + n.refused + n.passed_over)) TurnedDown Done
