-- What holds of answers, whoever computes them.
use Rattle.std.specs.Prelude.{◌≡◌, ℕ, ◌+◌, ◌≤◌, ◌<◌, List, ◌++◌, length, drop, Option, Ok}
use Rattle.std.specs.List.{AllByRecursion}
use Rattle.njh_ebcdic.specs.Users.{User}
use Rattle.njh_header.specs.FileNames.{FileName}
use Rattle.njh_spool.specs.CustomerSpool.{CustomerSpool, WholeFile}
use Rattle.njh_table.specs.TableFile.{TableFile}
use Rattle.njh_hub.specs.WholeHub.{Part, part}
use Rattle.njh_request.specs.declared.order.Order.TheVariants as order
use Rattle.njh_request.specs.declared.request.Request.TheVariants as request
use Rattle.njh_request.specs.declared.terms.Terms.{Terms}
use Rattle.njh_answer.specs.Answers.{answer_of}
use Rattle.njh_arrivals.specs.Arrivals.{Seen, seen_of}
use Rattle.njh_answer.specs.Files.{files_left, files_page, told_from}
use Rattle.njh_answer.specs.Owners.{IsOwnedBy, files_called, owner_of_files}
use Rattle.njh_answer.specs.declared.orders.OrderRecord.{OrderRecord}
use Rattle.njh_answer.specs.declared.views.LineView.{LineView}
use Rattle.njh_answer.specs.declared.views.ServiceView.{ServiceView}

-- The files of an answer, and those from where it ends, are all from where it begins: none is left out.
abbrev pub PagesTellAll : Type 0
PagesTellAll =
    (from : ℕ) (s : CustomerSpool)
    → told_from from s ++ drop (files_page from s).end s.whole ≡ drop (files_page from s).first s.whole

-- A customer's files after some time: of those that were told, and of those that weren't, some are left, and new ones
-- came behind them. Not more left than are gone.
pub record AreLeft (told untold : List WholeFile) (before : CustomerSpool) (left_told left_untold : List WholeFile)
    (after : CustomerSpool) : Type 0 where
  pub before_is : before.whole ≡ told ++ untold
  pub new : List WholeFile
  pub after_is : after.whole ≡ left_told ++ (left_untold ++ new)
  pub fewer_told : length left_told ≤ length told
  pub fewer_untold : length left_untold ≤ length untold
  pub arrived : after.arrived ≡ before.arrived + length new
  pub counted : length before.whole ≤ before.arrived

-- The answer that goes on from where one ended begins at the first file that wasn't told, or before it.
abbrev pub NoFileIsPassedOver : Type 0
NoFileIsPassedOver =
    (told untold left_told left_untold : List WholeFile) (before after : CustomerSpool)
    → AreLeft told untold before left_told left_untold after
    → (files_page (files_left before + length told) after).first ≤ length left_told

-- If a name has an owner, there is a file of the name, and each file of the name is that owner's.
abbrev pub OwnersOwnAll : Type 0
OwnersOwnAll =
    (name : FileName) (files : List WholeFile) (owner : User) → owner_of_files name files ≡ Ok owner
    → (0 < length (files_called name files)) × AllByRecursion (IsOwnedBy owner) (files_called name files)

-- What is told of a customer's files and lines, and in whose name a command of its is taken, is by its own part of the
-- hub, and of its files by its own arrivals: as on any other hub on which they stand alike.
pub record AnswersAreOwn (c : ℕ) (parts others : List Part) : Type 0 where
  pub of_files : (from : ℕ) (tables : TableFile) (service : ServiceView) (lines : List LineView) (seen any : Seen)
      (orders : List OrderRecord) (next : ℕ) → seen_of c seen ≡ seen_of c any
      → answer_of (request.Files c from) parts tables service lines seen orders next
      ≡ answer_of (request.Files c from) others tables service lines any orders next
  pub of_lines : (from : ℕ) (tables : TableFile) (service : ServiceView) (views : List LineView) (seen : Seen)
      (orders : List OrderRecord) (next : ℕ)
      → answer_of (request.Lines c from) parts tables service views seen orders next
      ≡ answer_of (request.Lines c from) others tables service views seen orders next
  pub of_orders : (terms : Terms) (owner : Option User) (text : List ℕ) (tables : TableFile) (service : ServiceView)
      (lines : List LineView) (seen : Seen) (orders : List OrderRecord) (next : ℕ)
      → answer_of (request.Order terms (order.Command c owner text)) parts tables service lines seen orders next
      ≡ answer_of (request.Order terms (order.Command c owner text)) others tables service lines seen orders next

abbrev pub AnswersAreOfTheCustomer : Type 0
AnswersAreOfTheCustomer =
    (c : ℕ) (parts others : List Part) → part c parts ≡ part c others → AnswersAreOwn c parts others
