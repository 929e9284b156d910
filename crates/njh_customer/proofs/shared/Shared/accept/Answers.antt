-- A line's session and its mark are nothing that ties the customer's parts to each other.
use Rattle.njh_customer.proofs.Words
use Words.{ap, set, rules, after_input, in_state, on_line}
use Rattle.{std.proofs.Common.{◌≡◌, ◌∙◌}, njh_line.specs.LineTable.input_value}
use Rattle.njh_customer.proofs.ReadyLaws.{accepted_marks, accepted_ready, known_line}
use Rattle.njh_customer.proofs.shared.Shared.accept.Goals as goal

pub raise-requires-clause-line : goal.raise-requires-clause-line
raise-requires-clause-line c = known_line c.args.id c.args.self.now c.args.lines.now c.requires.ready

pub returns-clause-after : goal.returns-clause-after
returns-clause-after c =
    let l = c.args.id.number in
    let judged = in_state (after_input (input_value c.args.input.now)) in
    let is : set c.args.lines.now l c.accept-verdict.new.self ≡ on_line l judged c.args.lines.now =
    ap (set c.args.lines.now l) (c.accept-verdict.ensures.line ∙ ap judged c.line_mut.ensures.value) in
    search (rules, accepted_marks)

pub returns-clause-ready : goal.returns-clause-ready
returns-clause-ready c =
    let l = c.args.id.number in
    let judged = in_state (after_input (input_value c.args.input.now)) in
    let is : set c.args.lines.now l c.accept-verdict.new.self ≡ on_line l judged c.args.lines.now =
    ap (set c.args.lines.now l) (c.accept-verdict.ensures.line ∙ ap judged c.line_mut.ensures.value) in
    search (rules, accepted_ready)
