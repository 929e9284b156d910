use Rattle.std.proofs.Common.{◌≡◌, ◌∷◌, ◌++◌, [], rules}
use Rattle.njh_block.specs.Blocks.{Control}
use Rattle.njh_encode.specs.Encoded.{next_block}
use Rattle.njh_encode.specs.LineStates.{counted}
use Rattle.njh_encode.specs.Packing.{blocks_script, data_set_record, job_record}
use Rattle.njh_encode.proofs.PostedLaws.{posted-all}
use Rattle.njh_encode.proofs.posted.put_file.Goals as goal

pub returns-clause-put : goal.returns-clause-put
returns-clause-put c =
    let put = c.in_ok-put_lines.ensures.put in
    let name = c.args.name.now in
    let request : c.put_request.new.script.items ≡ c.args.script.now.items ++ blocks_script name
    (next_block c.args.state (Control 0x90 0x99) ∷ []) = search rules in
    let first : c.new-packing.result ≡ record { state = counted c.args.state; items = [] } = search rules in
    let job : c.deref.result.now ≡ job_record c.args.posting.now = search rules in
    let set : c.deref-2.result.now ≡ data_set_record c.args.posting.now = search rules in
    let posted = posted-all name c.args.state c.args.posting.now put.0 c.deref.result.now c.deref-2.result.now
    c.new-packing.result c.add.new.self c.add-2.new.self c.put_lines.new.packing c.add-3.new.self c.add-4.new.self
    c.end.new.self
    c.state.result c.args.script.now.items c.put_request.new.script.items c.add.new.script.items
    c.add-2.new.script.items
    c.put_lines.new.script.items c.add-3.new.script.items c.add-4.new.script.items c.end.new.script.items
    request first job set c.in_ok-add.ensures c.in_ok-add-2.ensures put.2 c.in_ok-add-3.ensures c.in_ok-add-4.ensures
    c.in_ok-end.ensures.line c.in_ok-end.ensures.next c.state.ensures in
    (put.0, put.1, posted.text, posted.counts)
