use Rattle.std.proofs.Common.{◌≡◌, List, ℕ, ◌++◌, suc, take, drop, map, get_or, ap, ◌∙◌, subst, take_all, arith, rules}
use Rattle.std.specs.List.{flat_map}
use Rattle.std.specs.Io.KnownBytes.{Appends}
use Rattle.njh_command.specs.Files.{no_file}
use Rattle.njh_spool.specs.CustomerSpool.{WholeFile}
use Rattle.njh_hub.specs.Files.{view_of_file}
use Rattle.njh_hub.specs.WholeHub.{part}
use Rattle.njh_replay.specs.Printed.{files_text}
use Rattle.njh_replay.proofs.FileLaws.{flat_map-split, line_text, lines-same}
use Rattle.njh_replay.proofs.PrintedParts.{beginning-after, on_err_of}
use Rattle.njh_replay.proofs.files.print_customer.Goals as goal

pub returns-in_err-write_bytes-clause-err : goal.returns-in_err-write_bytes-clause-err
returns-in_err-write_bytes-clause-err g c =
    let name = c.args.name in
    let whole = (part c.args.customer c.args.hub.now).customer.spool.whole in
    let i = c.loop-index.index in
    let front = flat_map (line_text name) (take i whole) in
    let back = flat_map (line_text name) (drop (suc i) whole) in
    let line : c.deref.result.now ≡ line_text name (get_or whole i no_file) = search rules in
    on_err_of c.from_residual.result _
    (beginning-after _ _ _ front c.deref.result.now back (files_text name (map view_of_file whole))
    c.loop-index.invariant
    c.in_err-write_bytes.ensures.err
    (ap (λ (text : List ℕ). front ++ (text ++ back)) line
    ∙ flat_map-split (line_text name) whole i no_file
    (omega (arith, c.loop-index-test.true, c.file_count-index-end.ensures))
    ∙ lines-same name whole))

pub returns-clause-ok : goal.returns-clause-ok
returns-clause-ok g c =
    let name = c.args.name in
    let whole = (part c.args.customer c.args.hub.now).customer.spool.whole in
    let i = c.loop-index.index in
    let all = take_all i whole (omega (arith, c.loop-index-test.false, c.file_count-index-end.ensures)) in
    subst (λ (text : List ℕ). Appends (g.W.Write.contents c.args.out.now) (g.W.Write.contents c.loop-index.out) text)
    (ap (λ (files : List WholeFile). flat_map (line_text name) files) all ∙ lines-same name whole)
    c.loop-index.invariant
