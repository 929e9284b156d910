use Rattle.std.proofs.Common.{◌≡◌, [], ◌++◌, length, Ok, ap, sym, refl, ◌∙◌}
use Rattle.std.proofs.lemmas.Bool.{lt-leb}
use Rattle.toml.specs.View.{items_view}
use Rattle.njh_table.specs.Limits.{max_customers}
use Rattle.njh_table.specs.TableFile.{names_in, line_names, line_owners, own_line}
use Rattle.njh_table.specs.Walk.{next_customer, lines_onto, routes_onto, line_number}
use Rattle.njh_table.proofs.OwnersLaws.{names-owners_from, owners_after, AreApart, own_line-is}
use Rattle.njh_table.proofs.Gives.{given}
use Rattle.njh_table.proofs.WalkedLines.{lines_onto-apart}
use Rattle.njh_table.proofs.Loops.{goes_on, ends, passes, stops}
use Rattle.njh_table.proofs.walk.customers.next_customer.Goals as goal
use Rattle.njh_table.proofs.walk.customers.next_customer.Goals.{In_ok-route_values, In_ok-lines}

-- the names of the lines before are those of the earlier customers
names : (c : In_ok-route_values) → line_names c.args.earlier.now ≡ names_in c.args.owners.now
names c = sym (ap names_in c.requires ∙ names-owners_from 0 c.args.earlier.now)

walked : (c : In_ok-lines)
    → lines_onto (length c.args.earlier.now) (line_names c.args.earlier.now) []
    (items_view c.in_ok-line_values.line_values.now) ≡ Ok c.in_ok-lines.lines.items
walked c =
    ap (λ n. lines_onto (length c.args.earlier.now) n [] (items_view c.in_ok-line_values.line_values.now))
    (names (goal.at.In_ok-lines c).In_ok-route_values)
    ∙ c.in_ok-lines.ensures.walk

-- the customer's own lines, found among all
own : (c : In_ok-lines) → line_number c.in_ok-lines.lines.items ≡ own_line c.lines_in.new.owners
    (length c.args.earlier.now)
own c =
    let lines = c.in_ok-lines.lines.items in
    let taken = line_names c.args.earlier.now in
    let n = length c.args.earlier.now in
    let owners = c.in_ok-lines.ensures.owners ∙ ap (λ o. o ++ line_owners n 0 lines) c.requires in
    let apart = lines_onto-apart n taken [] (items_view c.in_ok-line_values.line_values.now) refl in
    sym (ap (λ o. own_line o n) owners ∙ own_line-is c.args.earlier.now lines
    (given (AreApart taken) _ lines (walked c) apart))

pub returns-in_err-keys-clause-walk : goal.returns-in_err-keys-clause-walk
unfolding next_customer
returns-in_err-keys-clause-walk c =
    stops _ _ _ _ c.from_residual.ensures.1
    (λ _. passes _ _ _ (lt-leb max_customers _ c.if-earlier-ge-MAX_CUSTOMERS.false)
    ∙ ends _ _ _ (sym c.in_err-keys.ensures))

pub returns-in_err-own-clause-walk : goal.returns-in_err-own-clause-walk
unfolding next_customer
returns-in_err-own-clause-walk c =
    stops _ _ _ _ c.from_residual-in_err-own.ensures.1
    (λ _. passes _ _ _ (lt-leb max_customers _ c.if-earlier-ge-MAX_CUSTOMERS.false)
    ∙ goes_on _ _ _ (sym c.in_ok-keys.ensures)
    ∙ ends _ _ _ (sym c.in_err-own.ensures))

pub returns-in_err-line_values-clause-walk : goal.returns-in_err-line_values-clause-walk
unfolding next_customer
returns-in_err-line_values-clause-walk c =
    stops _ _ _ _ c.from_residual-in_err-line_values.ensures.1
    (λ _. passes _ _ _ (lt-leb max_customers _ c.if-earlier-ge-MAX_CUSTOMERS.false)
    ∙ goes_on _ _ _ (sym c.in_ok-keys.ensures)
    ∙ goes_on _ _ _ (sym c.in_ok-own.ensures)
    ∙ ends _ _ _ (sym c.in_err-line_values.ensures))

pub returns-in_err-route_values-clause-walk : goal.returns-in_err-route_values-clause-walk
unfolding next_customer
returns-in_err-route_values-clause-walk c =
    stops _ _ _ _ c.from_residual-in_err-route_values.ensures.1
    (λ _. passes _ _ _ (lt-leb max_customers _ c.if-earlier-ge-MAX_CUSTOMERS.false)
    ∙ goes_on _ _ _ (sym c.in_ok-keys.ensures)
    ∙ goes_on _ _ _ (sym c.in_ok-own.ensures)
    ∙ goes_on _ _ _ (sym c.in_ok-line_values.ensures)
    ∙ ends _ _ _ (sym c.in_err-route_values.ensures))

pub returns-in_err-lines-clause-walk : goal.returns-in_err-lines-clause-walk
unfolding next_customer
returns-in_err-lines-clause-walk c =
    let values = items_view c.in_ok-line_values.line_values.now in
    let taken = names (goal.at.returns-in_err-lines-clause-walk c).In_ok-route_values in
    stops _ _ _ _ c.from_residual-in_err-lines.ensures.1
    (λ no_memory. passes _ _ _ (lt-leb max_customers _ c.if-earlier-ge-MAX_CUSTOMERS.false)
    ∙ goes_on _ _ _ (sym c.in_ok-keys.ensures)
    ∙ goes_on _ _ _ (sym c.in_ok-own.ensures)
    ∙ goes_on _ _ _ (sym c.in_ok-line_values.ensures)
    ∙ goes_on _ _ _ (sym c.in_ok-route_values.ensures)
    ∙ ends _ _ _ (ap (λ n. lines_onto (length c.args.earlier.now) n [] values) taken
    ∙ c.in_err-lines.ensures.walk no_memory))

pub returns-in_err-routes-clause-walk : goal.returns-in_err-routes-clause-walk
unfolding next_customer
returns-in_err-routes-clause-walk c =
    let values = items_view c.in_ok-route_values.route_values.now in
    let at_lines = (goal.at.returns-in_err-routes-clause-walk c).In_ok-lines in
    stops _ _ _ _ c.from_residual-in_err-routes.ensures.1
    (λ no_memory. passes _ _ _ (lt-leb max_customers _ c.if-earlier-ge-MAX_CUSTOMERS.false)
    ∙ goes_on _ _ _ (sym c.in_ok-keys.ensures)
    ∙ goes_on _ _ _ (sym c.in_ok-own.ensures)
    ∙ goes_on _ _ _ (sym c.in_ok-line_values.ensures)
    ∙ goes_on _ _ _ (sym c.in_ok-route_values.ensures)
    ∙ goes_on _ _ _ (walked at_lines)
    ∙ ends _ _ _ (ap (λ f. routes_onto (length c.args.earlier.now) c.in_ok-own.own.hub f [] values) (own at_lines)
    ∙ c.in_err-routes.ensures no_memory))

pub returns-clause-walk : goal.returns-clause-walk
unfolding next_customer
returns-clause-walk c =
    let values = items_view c.in_ok-route_values.route_values.now in
    let at_lines = (goal.at.returns-clause-walk c).In_ok-lines in
    passes _ _ _ (lt-leb max_customers _ c.if-earlier-ge-MAX_CUSTOMERS.false)
    ∙ goes_on _ _ _ (sym c.in_ok-keys.ensures)
    ∙ goes_on _ _ _ (sym c.in_ok-own.ensures)
    ∙ goes_on _ _ _ (sym c.in_ok-line_values.ensures)
    ∙ goes_on _ _ _ (sym c.in_ok-route_values.ensures)
    ∙ goes_on _ _ _ (walked at_lines)
    ∙ goes_on _ _ _ (ap (λ f. routes_onto (length c.args.earlier.now) c.in_ok-own.own.hub f [] values) (own at_lines)
    ∙ c.in_ok-routes.ensures)

pub returns-clause-owners : goal.returns-clause-owners
returns-clause-owners c =
    c.in_ok-lines.ensures.owners ∙ ap (λ o. o ++ line_owners (length c.args.earlier.now) 0 c.in_ok-lines.lines.items)
    c.requires
    ∙ owners_after c.args.earlier.now _
