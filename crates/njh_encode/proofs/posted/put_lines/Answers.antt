use Rattle.std.proofs.Common.{rules}
use Rattle.njh_encode.proofs.PostedLaws.{if_err_is, put-all, put-bad, put-line, put-none}
use Rattle.njh_encode.proofs.posted.put_lines.Goals as goal

pub loop-line-init : goal.loop-line-init
loop-line-init c = put-none c.args.name.now c.args.text.now c.args.packing.now c.args.script.now.items

pub loop-line-preserved : goal.loop-line-preserved
loop-line-preserved c =
    put-line c.args.name.now c.args.text.now c.args.packing.now c.args.script.now.items c.loop-line.left.now
    c.loop-line.packing c.put_text_line.new.packing c.loop-line.script.items c.put_text_line.new.script.items
    c.in-Some.line.now c.in-Some.behind.now c.loop-line.invariant c.in-Some.ensures.lines
    c.in_ok-put_text_line.ensures.put

pub returns-clause-put : goal.returns-clause-put
returns-clause-put c =
    put-all c.args.name.now c.args.text.now c.args.packing.now c.args.script.now.items c.loop-line.left.now
    c.loop-line.packing c.loop-line.script.items c.loop-line.invariant c.in_default.ensures.lines

pub returns-in_err-put_text_line-clause-refused : goal.returns-in_err-put_text_line-clause-refused
returns-in_err-put_text_line-clause-refused c =
    let reason = c.in_err-put_text_line.field-0.0 in
    if_err_is c.from_residual.result reason _ (search rules)
    (λ other.
    put-bad c.args.name.now c.args.text.now c.args.packing.now c.args.script.now.items c.loop-line.left.now
    c.loop-line.packing c.loop-line.script.items c.in-Some.line.now c.in-Some.behind.now reason c.loop-line.invariant
    c.in-Some.ensures.lines (c.in_err-put_text_line.ensures.refused other))
