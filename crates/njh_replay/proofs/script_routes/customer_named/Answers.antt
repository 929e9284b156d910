use Rattle.std.proofs.Common.{◌≡◌, List, ℕ, Some, None, option_and_then, bytes_eq, sym, ap, ◌∙◌, rules}
use Rattle.std.specs.Prelude.{position}
use Rattle.std.specs.Result.{result_ok}
use Rattle.njh_ebcdic.specs.Reading.{name_of_text}
use Rattle.njh_table.specs.TableFile.{NamedCustomer}
use Rattle.njh_replay.proofs.script_routes.customer_named.Goals as goal

pub returns-in_err-place-clause-number : goal.returns-in_err-place-clause-number
returns-in_err-place-clause-number c =
    let name = c.in_ok-name.name in
    let customers = c.args.tables.now.customers in
    let place : List ℕ → _ = λ (n : List ℕ). position (λ (x : NamedCustomer). bytes_eq n x.name) customers in
    let known : result_ok (name_of_text c.args.word.now) ≡ Some name = search rules in
    let at = c.place_of.ensures.place ∙ ap (position (λ (x : NamedCustomer). bytes_eq name x.name))
    c.customers.ensures.all in
    let none : c.from_residual-in_err-place.result ≡ None = search rules in
    none ∙ sym c.in_err-place.was ∙ at ∙ sym (ap (option_and_then place) known)

pub returns-clause-number : goal.returns-clause-number
returns-clause-number c =
    let name = c.in_ok-name.name in
    let customers = c.args.tables.now.customers in
    let place : List ℕ → _ = λ (n : List ℕ). position (λ (x : NamedCustomer). bytes_eq n x.name) customers in
    let known : result_ok (name_of_text c.args.word.now) ≡ Some name = search rules in
    let at = c.place_of.ensures.place ∙ ap (position (λ (x : NamedCustomer). bytes_eq name x.name))
    c.customers.ensures.all in
    sym c.in_ok-place.was ∙ at ∙ sym (ap (option_and_then place) known)
