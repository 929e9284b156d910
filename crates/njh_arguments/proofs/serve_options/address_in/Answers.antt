use Rattle.std.proofs.Common.{◌≡◌, ◌∙◌, Option, Some, codes, option_map, sym, subst, rules}
use Rattle.std.specs.Prelude.{IsSomeAnd}
use Rattle.std.specs.Net.Grammar.{IsIpText}
use Rattle.std.specs.declared.net.ip_addr.IpAddr.{IpAddr}
use Rattle.clap.specs.Matches.{found_of}
use Rattle.clap.specs.Walk.{Text, first_of, rows_of}
use Rattle.njh_arguments.specs.Arguments.{ListensAt}
use Rattle.njh_arguments.proofs.ArgumentLaws.{first_value-rows}
use Rattle.njh_arguments.proofs.serve_options.address_in.Goals as goal

pub returns-in-Ok-clause-asked : goal.returns-in-Ok-clause-asked
returns-in-Ok-clause-asked c =
    let options = c.args.options.now in
    let found : option_map (λ s. s.now) c.get_str.result ≡ Some c.in-Some.text.now = search rules in
    let named : first_of (codes "listen") (rows_of (found_of options)) ≡ Some c.in-Some.text.now =
    sym (first_value-rows options (codes "listen")) ∙ (sym c.get_str.ensures ∙ found) in
    let spelled : IsIpText c.in-Some.text.now c.in-Ok.address = search rules in
    subst (λ (o : Option Text). ListensAt o c.in-Ok.address) (sym named) spelled

pub returns-in-Err-clause-refused : goal.returns-in-Err-clause-refused
returns-in-Err-clause-refused c =
    let options = c.args.options.now in
    let found : option_map (λ s. s.now) c.get_str.result ≡ Some c.in-Some.text.now = search rules in
    let named : first_of (codes "listen") (rows_of (found_of options)) ≡ Some c.in-Some.text.now =
    sym (first_value-rows options (codes "listen")) ∙ (sym c.get_str.ensures ∙ found) in
    let none : (address : IpAddr) → ¬ (IsIpText c.in-Some.text.now address) = search rules in
    subst (λ (o : Option Text). IsSomeAnd o (λ text. (address : IpAddr) → ¬ (IsIpText text address))) (sym named) none
