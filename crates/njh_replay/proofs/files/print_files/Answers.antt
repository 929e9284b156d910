use Rattle.std.proofs.Common.{ℕ, List, ◌++◌, suc, take, sym, ap, ◌∙◌, add-one, append_assoc, arith}
use Rattle.std.proofs.KnownBytes.{Appends-trans}
use Rattle.njh_hub.specs.Files.{files_at}
use Rattle.njh_replay.specs.Printed.{files_from, files_text}
use Rattle.njh_replay.proofs.FileLaws.{files_from-more, files_from-split}
use Rattle.njh_replay.proofs.PrintedParts.{beginning-after, on_err_of}
use Rattle.njh_replay.proofs.files.print_files.Goals as goal

pub returns-in_err-print_customer-clause-err : goal.returns-in_err-print_customer-clause-err
returns-in_err-print_customer-clause-err g c =
    let names = c.args.customers.now in
    let parts = c.args.hub.now in
    let i = c.loop-customer.customer in
    let name = c.index-customers-customer.result in
    let front = files_from 0 (take i names) parts in
    let own = files_text name (files_at i parts) in
    let back = files_from-split 0 names parts (suc i) in
    let more = files_from-more 0 i names parts i name (omega arith) c.index-customers-customer.is (omega arith) in
    on_err_of c.from_residual.result _
    (beginning-after _ _ _ front own back.0 (files_from 0 names parts) c.loop-customer.invariant
    c.in_err-print_customer.ensures.err
    (sym (append_assoc front own back.0) ∙ ap (λ (text : List ℕ). text ++ back.0) more ∙ back.1))

pub loop-customer-preserved : goal.loop-customer-preserved
loop-customer-preserved g c =
    let names = c.args.customers.now in
    let parts = c.args.hub.now in
    let i = c.loop-customer.customer in
    let name = c.index-customers-customer.result in
    let front = files_from 0 (take i names) parts in
    let own = files_text name (files_at i parts) in
    let more = files_from-more 0 i names parts i name (omega arith) c.index-customers-customer.is (omega arith)
    ∙ ap (λ (n : ℕ). files_from 0 (take n names) parts) (sym (add-one i)) in
    rw (← more) (Appends-trans _ _ _ front own c.loop-customer.invariant c.in_ok-print_customer.ensures.ok)
