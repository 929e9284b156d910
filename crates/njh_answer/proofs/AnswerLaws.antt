-- The laws of answers.
use Rattle.std.proofs.Common.{◌≡◌, ℕ, ◌+◌, ◌-◌, ◌≤◌, List, ◌++◌, length, take, drop, ap, sym, ◌∙◌, arith, cond}
use Rattle.std.proofs.Common.{length-append, take-append-drop}
use Rattle.std.proofs.lemmas.List.{drop-drop}
use Rattle.njh_spool.specs.CustomerSpool.{WholeFile}
use Rattle.njh_table.specs.TableFile.{customer_at}
use Rattle.njh_hub.specs.WholeHub.{Part, part}
use Rattle.njh_request.specs.declared.order.Order.TheVariants as order
use Rattle.njh_request.specs.declared.refusal.RequestRefusal.TheVariants.{TooLate}
use Rattle.njh_answer.specs.Answers.{ordered, refuses, shows, takes_work}
use Rattle.njh_arrivals.specs.Arrivals.{seen_of}
use Rattle.njh_answer.specs.Files.{files_data, files_page}
use Rattle.njh_answer.specs.Laws.{AnswersAreOfTheCustomer, NoFileIsPassedOver, PagesTellAll}
use Rattle.njh_answer.specs.Lines.{lines_data}
use Rattle.njh_answer.specs.Owners.{owner_for}
use Rattle.njh_answer.specs.Tickets.{command_work, is_late, ticket_of}
use Rattle.njh_arrivals.specs.declared.arrivals.FileArrival.{FileArrival}

-- so many from a place, and those behind them
parts-joined : (xs : List WholeFile) (first end : ℕ) → first ≤ end
    → take (end - first) (drop first xs) ++ drop end xs ≡ drop first xs
parts-joined xs first end ordered =
    let same : first + (end - first) ≡ end = omega arith in
    let behind : drop (end - first) (drop first xs) ≡ drop end xs =
    drop-drop (end - first) first xs ∙ ap (λ (n : ℕ). drop n xs) same in
    ap (λ (rest : List WholeFile). take (end - first) (drop first xs) ++ rest) (sym behind)
    ∙ take-append-drop (end - first) (drop first xs)

pub pages_tell_all : PagesTellAll
pages_tell_all from s =
    parts-joined s.whole (files_page from s).first (files_page from s).end (omega arith)

pub no_file_is_passed_over : NoFileIsPassedOver
no_file_is_passed_over told untold left_told left_untold before after x =
    let was = ap length x.before_is in
    let is = ap length x.after_is in
    omega (
      arith,
      was,
      is,
      x.fewer_told,
      x.fewer_untold,
      x.arrived,
      x.counted,
      length-append told untold,
      length-append left_told (left_untold ++ x.new),
      length-append left_untold x.new,
    )

pub answers_are_of_the_customer : AnswersAreOfTheCustomer
answers_are_of_the_customer c parts others same = record {
  of_files = λ from tables service lines seen any orders next alike.
      ap (λ (p : Part). shows service.since (files_data (customer_at tables c) p (seen_of c seen) from)) same
      ∙ ap (λ (row : List FileArrival). shows service.since (files_data (customer_at tables c) (part c others) row from))
      alike;
  of_lines = λ from tables service views seen orders next.
      ap (λ (p : Part). shows service.since (lines_data (customer_at tables c) c p views from)) same;
  of_orders = λ terms owner text tables service lines seen orders next.
      ap (λ (p : Part). ordered terms.name orders service terms (order.Command c owner text)
      (cond (is_late service.clock terms) (refuses service.since TooLate)
      (takes_work service.since (ticket_of next tables terms (order.Command c owner text))
      (command_work c text (owner_for owner text p.customer.spool.whole))))) same;
}
