-- How a command is carried out: what is asked of a console, what is understood, and what is told.
use Rattle.std.specs.Prelude.{◌≡◌, ℕ, ◌==◌, ◌||◌, Bool, true, false, List, [], ◌∷◌, ◌++◌, length, not}
use Rattle.std.specs.Prelude.{Option, Some, None}
use Rattle.std.specs.Option.{option_map}
use Rattle.std.specs.List.{list_any}
use Rattle.std.specs.Prelude.{bytes_eq}
use Rattle.njh_arguments.specs.Choices.{ChoiceView, choice_view, owner_view, viewed_owner}
use Rattle.njh_arguments.specs.Commands.{change_view}
use Rattle.njh_arguments.specs.declared.console_command.ConsoleCommand.{ConsoleCommand}
use Rattle.njh_arguments.specs.declared.console_command.ConsoleCommand.TheVariants as command
use Rattle.njh_ctl.specs.Answers.{next_in}
use Rattle.njh_ctl.specs.Asked.{AnswerView, Gathered, IsName, Understands, part_asked, status_asked}
use Rattle.njh_ctl.specs.Chosen.{Wanted}
use Rattle.njh_ctl.specs.Lists.{Customers, Files, Lines, ListView, Messages, PartTold}
use Rattle.njh_ctl.specs.Many.{EntryView, IsEntry, ManyView, Tried, counts_text, ending_of}
use Rattle.njh_ctl.specs.Orders.{GivenOnce, GiverView, IsCarriedOut, IsSaid, IsWrongBy, OperatorView, TalkView}
use Rattle.njh_ctl.specs.Orders.{diff_given, message_given, order_given, reload_given, shutdown_given, start_given}
use Rattle.njh_ctl.specs.Orders.{stop_given}
use Rattle.njh_ctl.specs.Questions.{Text, change_text}
use Rattle.njh_ctl.specs.Shown.{IsStatusShown, customers_head, files_head}
use Rattle.njh_ctl.specs.ShownLines.{lines_head}
use Rattle.njh_ctl.specs.ShownMessages.{messages_head}
use Rattle.njh_ctl.specs.Told.{LineTold, Tells, headed}
use Rattle.njh_ctl.specs.declared.counts.Counts.{Counts}
use Rattle.njh_ctl.specs.declared.ending.Ending.{Ending}
use Rattle.njh_ctl.specs.declared.ending.Ending.TheVariants.{Done}

-- ---- the hub

-- the hub is asked how it is, and that is told
pub record StatusTold (old new : TalkView) : Type 0 where
  pub answer : AnswerView
  pub understood : Understands status_asked old.link new.link answer
  pub told : Tells (IsStatusShown answer.value) answer.reply.body old.told new.told
  pub moment : new.moment ≡ old.moment

-- it is only looked whether something is wrong, and nothing is told
pub record StatusLooked (old new : TalkView) (ending : Ending) : Type 0 where
  pub answer : AnswerView
  pub understood : Understands status_asked old.link new.link answer
  pub told : new.told ≡ old.told
  pub ends : IsWrongBy answer.value ending
  pub moment : new.moment ≡ old.moment

abbrev pub StatusAsked : (quiet : Bool) → TalkView → TalkView → Ending → Type 0
StatusAsked true old new ending = StatusLooked old new ending
StatusAsked false old new ending = StatusTold old new × (ending ≡ Done)

-- ---- lists

-- a part of a list is asked for and told, and says where the list goes on, if it does
pub record PartListed (list : ListView) (from : ℕ) (old new : TalkView) (next : Option ℕ) : Type 0 where
  pub part : AnswerView
  pub understood : Understands (part_asked list from) old.link new.link part
  pub told : PartTold list part.reply.body part.value old.told new.told
  pub goes_on : next_in part.value ≡ Some next
  pub moment : new.moment ≡ old.moment

-- A list is asked for part by part, and each is told, up to a place; none if it has ended.
pub data Listed (list : ListView) (old : TalkView) : TalkView → Option ℕ → Type 0 where
  list_begins : Listed list old old (Some 0)
  list_goes_on : (mid new : TalkView) (from : ℕ) (next : Option ℕ) → Listed list old mid (Some from)
      → PartListed list from mid new next → Listed list old new next

-- to its end
abbrev pub ListedWhole : ListView → TalkView → TalkView → Type 0
ListedWhole list old new = Listed list old new None

-- this for each name, in their order
pub data ForEach (this : Text → TalkView → TalkView → Type 0) (old : TalkView) : List Text → TalkView → Type 0 where
  each_begins : ForEach this old [] old
  each_goes_on : (names : List Text) (name : Text) (mid new : TalkView) → ForEach this old names mid → this name mid new
      → ForEach this old (names ++ (name ∷ [])) new

-- the names of all customers are asked for, and nothing is told
pub record Named (old new : TalkView) (names : List Text) : Type 0 where
  pub gathered : Gathered Customers IsName old.link new.link names None
  pub same : new ≡ record old { link = new.link }

-- this for all customers
pub record OfAll (this : Text → TalkView → TalkView → Type 0) (old new : TalkView) : Type 0 where
  pub names : List Text
  pub mid : TalkView
  pub named : Named old mid names
  pub each : ForEach this mid names new

abbrev pub with_head : Text → TalkView → TalkView
with_head head talk = record talk { told = headed head talk.told }

-- a customer's files, and lines, that are looked for
abbrev pub FilesOf : Wanted → Text → TalkView → TalkView → Type 0
FilesOf wanted customer old new = ListedWhole (Files customer wanted) old new

abbrev pub LinesOf : Option Text → Text → TalkView → TalkView → Type 0
LinesOf line customer old new = ListedWhole (Lines customer line) old new

abbrev pub FilesListed : Wanted → Option Text → TalkView → TalkView → Type 0
FilesListed wanted (Some customer) old new = ListedWhole (Files customer wanted) old new
FilesListed wanted None old new = OfAll (FilesOf wanted) old new

-- the lines of the customer of this name, or if there is none the line of this name
abbrev pub LinesNamed : (is_customer : Bool) → List Text → Text → TalkView → TalkView → Type 0
LinesNamed true names name old new = ListedWhole (Lines name None) old new
LinesNamed false names name old new = ForEach (LinesOf (Some name)) old names new

-- whether there is such a customer, or such a line, of which something was told
pub record LinesFound (is_customer : Bool) (names : List Text) (name : Text) (old new : TalkView) (found : Bool)
    : Type 0 where
  pub told : LinesNamed is_customer names name old new
  pub is_so : found ≡ (is_customer || not (length new.told.text == length old.told.text))

pub record NameListed (name : Text) (old new : TalkView) : Type 0 where
  pub names : List Text
  pub mid : TalkView
  pub named : Named old mid names
  pub told : LinesNamed (list_any (λ n. bytes_eq n name) names) names name mid new

abbrev pub LinesListed : Option Text → TalkView → TalkView → Type 0
LinesListed (Some name) old new = NameListed name old new
LinesListed None old new = OfAll (LinesOf None) old new

-- the messages of a customer's line of this name
abbrev pub MessagesOf : Text → Text → TalkView → TalkView → Type 0
MessagesOf line customer old new = ListedWhole (Messages customer line) old new

-- of these customers, and whether one has such a line, of which something was told
pub record MessagesFound (names : List Text) (line : Text) (old new : TalkView) (found : Bool) : Type 0 where
  pub told : ForEach (MessagesOf line) old names new
  pub is_so : found ≡ not (length new.told.text == length old.told.text)

-- of all customers
pub record MessagesListed (line : Text) (old new : TalkView) (found : Bool) : Type 0 where
  pub names : List Text
  pub mid : TalkView
  pub named : Named old mid names
  pub told : MessagesFound names line mid new found

-- ---- many orders

-- a customer's files are asked for, each name that is chosen is tried, and how many came to what is told
pub record ManyTried (many : ManyView) (wanted : Wanted) (giver : GiverView) (old new : TalkView) (ending : Ending)
    : Type 0 where
  pub entries : List EntryView
  pub mid : TalkView
  pub gathered : Gathered (Files many.customer wanted) (IsEntry wanted) old.link mid.link entries None
  pub same : mid ≡ record old { link = mid.link }
  pub last : TalkView
  pub counts : Counts
  pub tried : Tried many giver entries mid (length entries) last counts
  pub told : LineTold (counts_text many.dry_run counts) last.told new.told
  pub then : new ≡ record last { told = new.told }
  pub is_so : ending ≡ ending_of counts

pub record ManyOrdered (many : ManyView) (wanted : Wanted) (old new : OperatorView) (ending : Ending) : Type 0 where
  pub tried : ManyTried many wanted old.giver old.talk new.talk ending
  pub giver : new.giver ≡ old.giver

-- ---- commands

abbrev pub wanted_at : ChoiceView → TalkView → Wanted
wanted_at choice talk = record { choice = choice; now = talk.moment }

-- what is only asked, and told
pub record InTalk (this : TalkView → TalkView → Ending → Type 0)
    (old new : OperatorView) (ending : Ending) : Type 0 where
  pub is_so : this old.talk new.talk ending
  pub giver : new.giver ≡ old.giver

-- and ends well
abbrev pub Well : (TalkView → TalkView → Type 0) → TalkView → TalkView → Ending → Type 0
Well this old new ending = this old new × (ending ≡ Done)

abbrev pub CustomersTold : TalkView → TalkView → Type 0
CustomersTold old new = ListedWhole Customers (with_head customers_head old) new

abbrev pub LinesTold : Option Text → TalkView → TalkView → Type 0
LinesTold name old new = LinesListed name (with_head lines_head old) new

abbrev pub MessagesTold : Text → TalkView → TalkView → Type 0
MessagesTold line old new = MessagesListed line (with_head messages_head old) new true

abbrev pub FilesTold : ChoiceView → Option Text → TalkView → TalkView → Type 0
FilesTold choice customer old new = FilesListed (wanted_at choice old) customer (with_head files_head old) new

abbrev pub CarriesOut : ConsoleCommand → OperatorView → OperatorView → Ending → Type 0
CarriesOut (command.Status quiet) old new ending = InTalk (StatusAsked quiet) old new ending
CarriesOut command.Customers old new ending = InTalk (Well CustomersTold) old new ending
CarriesOut (command.Lines name) old new ending =
    InTalk (Well (LinesTold (option_map (λ name. name.now) name))) old new ending
CarriesOut (command.Messages line) old new ending = InTalk (Well (MessagesTold line.now)) old new ending
CarriesOut (command.Files customer choice) old new ending =
    InTalk (Well (FilesTold (choice_view choice) (option_map (λ name. name.now) customer))) old new ending
CarriesOut (command.Change change customer file owner) old new ending =
    GivenOnce (order_given customer.now (change_text (change_view change) file.now) (viewed_owner owner)) old new ending
CarriesOut (command.ChangeMany change customer choice dry_run) old new ending =
    ManyOrdered (record { change = change_view change; customer = customer.now; dry_run = dry_run })
    (wanted_at (choice_view choice) old.talk) old new ending
CarriesOut (command.Tell customer node user text) old new ending =
    GivenOnce (message_given customer.now (owner_view (record { node = node; user = user })) text.now) old new ending
CarriesOut (command.Outcome order) old new ending = InTalk (IsSaid (IsCarriedOut order.now)) old new ending
CarriesOut (command.Stop line when_idle) old new ending = GivenOnce (stop_given line.now when_idle) old new ending
CarriesOut (command.Start line) old new ending = GivenOnce (start_given line.now) old new ending
CarriesOut (command.Shutdown when_idle) old new ending = GivenOnce (shutdown_given when_idle) old new ending
CarriesOut command.Reload old new ending = GivenOnce reload_given old new ending
CarriesOut (command.Diff file) old new ending = GivenOnce (diff_given file.now) old new ending
