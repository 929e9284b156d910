-- A hub that is opened from a spool file, runs, and is opened again from what was left.
use Rattle.njh_keeper.proofs.Words
use Words.{◌≡◌, ℕ, ◌<◌, List, [], length, map, get_or, get_or-map, sym, ap, subst, ◌∙◌, arith, length-map, filter_map}
use Words.{CustomerEntry, NamedCustomer, TableFile, customer_at, no_customer, SpoolContents, Whole, KeptFile}
use Words.{Part, no_part, part, part_at_open, kept_of, left_in, file_in, hub_opened, own_files, part_opened, AreBack}
use Words.{entry_with, part_after_routes}
use Rattle.njh_hub.{proofs.{NamedLaws.hub_run-length, RunLaws.each_is_alone}, specs.WholeHub.hub_run}
use Rattle.{njh_customer.specs.InOrder.after_losses, njh_table.specs.TableFile.entry_of}
use Rattle.{njh_hub.specs.OwnEvents.events_of, njh_customer.specs.Runs.alone_run, njh_turns.specs.Keeping.kept_files}
use Rattle.njh_keeper.{proofs.LinesLostLaws.left_as_lines_lost, specs.LinesLost.{AreLeftOf, StandsAs, StartedAgain}}

abbrev read : SpoolContents → List ℕ → List KeptFile
read spool name = filter_map (λ (w : Whole). file_in w.file w.records) (own_files name spool)

part_is : (table : TableFile) (spool : SpoolContents) (c : ℕ) → c < length table.customers
    → part c (hub_opened table spool)
    ≡ part_opened (entry_of (customer_at table c)) (own_files (customer_at table c).name spool)
part_is table spool c there =
    get_or-map (λ (x : NamedCustomer). part_opened (entry_of x) (own_files x.name spool)) table.customers c no_customer
    no_part there

-- of customer c what was left
left_at : (table : TableFile) (left : SpoolContents) (parts : List Part) (c : ℕ) → c < length table.customers
    → c < length parts → left_in (map (λ c. c.name) table.customers) left ≡ kept_of parts
    → read left (customer_at table c).name ≡ kept_files (part c parts)
left_at table left parts c there within is =
    let names = map (λ (x : NamedCustomer). x.name) table.customers in
    let long = length-map table.customers (λ (x : NamedCustomer). x.name) in
    ap (read left) (sym (get_or-map (λ (x : NamedCustomer). x.name) table.customers c no_customer [] there))
    ∙ sym (get_or-map (read left) names c [] [] (omega (arith, there, long)))
    ∙ ap (λ xs. get_or xs c []) is ∙ get_or-map kept_files parts c no_part [] within

pub started_again : StartedAgain
started_again table again spool left events back is back_again c d routes there there_again named entries few =
    let name = (customer_at table c).name in
    let entry : CustomerEntry = entry_of (customer_at table c) in
    let hub = hub_opened table spool in
    let behind = (hub_run hub events).parts in
    let opened = part_opened entry (own_files name spool) in
    let here : c < length hub =
    omega (
      arith,
      there,
      length-map table.customers
          (λ (x : NamedCustomer). part_opened (entry_of x) (own_files x.name spool)),
    ) in
    let within : c < length behind = omega (arith, here, hub_run-length hub events) in
    let same : part c behind ≡ (alone_run opened (events_of c events)).after =
    (each_is_alone c hub events here).after
    ∙ ap (λ (p : Part). (alone_run p (events_of c events)).after) (part_is table spool c there) in
    let are_left : AreLeftOf (own_files name left) (alone_run opened (events_of c events)).after =
    left_at table left behind c there within is ∙ ap kept_files same in
    let fits : AreBack (part_at_open (entry_with routes entry)) (own_files name left) =
    subst (λ e. AreBack (part_at_open e) (own_files name left)) entries
    (subst (λ n. AreBack (part_at_open (entry_of (customer_at again d))) (own_files n left)) named
    (back_again d there_again)) in
    let last : part d (hub_opened again left) ≡ part_opened (entry_with routes entry) (own_files name left) =
    part_is again left d there_again ∙ (λ i. part_opened (entries i) (own_files (named i) left)) in
    subst (λ (p : Part). StandsAs p (part_after_routes routes
    (after_losses (alone_run opened (events_of c events)).after))) (sym last)
    (left_as_lines_lost entry (own_files name spool) (own_files name left) (events_of c events) routes few
    (back c there) are_left fits)
