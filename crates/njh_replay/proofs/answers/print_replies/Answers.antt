use Rattle.std.proofs.Common.{◌≡◌, ◌<◌, suc, take, drop, length, map, arith, rules, subst}
use Rattle.std.specs.List.{flat_map}
use Rattle.std.specs.Io.KnownBytes.{Appends}
use Rattle.std.proofs.KnownBytes.{Appends-trans}
use Rattle.njh_replay.specs.Printed.{replies_text, told_line}
use Rattle.njh_replay.proofs.FileLaws.{replies-all, replies-more, replies-split}
use Rattle.njh_replay.proofs.PrintedParts.{beginning-after, on_err_of}
use Rattle.njh_replay.proofs.answers.print_replies.Goals as goal

pub returns-in_err-write_bytes-clause-err : goal.returns-in_err-write_bytes-clause-err
returns-in_err-write_bytes-clause-err g c =
    let name = c.args.name in
    let replies = c.args.replies.now in
    let i = c.loop-reply.reply-index in
    let reply = c.reply-item.result in
    let text = c.deref-in-loop-reply.result.now in
    let within : i < length replies = omega arith in
    let line : text ≡ told_line name reply.items = search rules in
    on_err_of c.from_residual.result _
    (beginning-after _ _ _ (flat_map (λ r. told_line name r.items) (take i replies)) text
    (flat_map (λ r. told_line name r.items) (drop (suc i) replies)) (replies_text name (map (λ r. r.items) replies))
    c.loop-reply.invariant c.in_err-write_bytes.ensures.err
    (replies-split name (λ r. r.items) replies i reply text within c.reply-item.is line))

pub loop-reply-preserved : goal.loop-reply-preserved
loop-reply-preserved g c =
    let name = c.args.name in
    let replies = c.args.replies.now in
    let i = c.loop-reply.reply-index in
    let reply = c.reply-item.result in
    let text = c.deref-in-loop-reply.result.now in
    let within : i < length replies = omega arith in
    let line : text ≡ told_line name reply.items = search rules in
    let more = replies-more name (λ r. r.items) replies i reply text within c.reply-item.is line in
    subst (Appends (g.W.Write.contents c.args.out.now) (g.W.Write.contents c.write_bytes.new.out)) more
    (Appends-trans _ _ _ (flat_map (λ r. told_line name r.items) (take i replies)) text c.loop-reply.invariant
    c.in_ok-write_bytes.ensures.ok)

pub returns-clause-ok : goal.returns-clause-ok
returns-clause-ok g c =
    let name = c.args.name in
    let replies = c.args.replies.now in
    let i = c.loop-reply.reply-index in
    subst (Appends (g.W.Write.contents c.args.out.now) (g.W.Write.contents c.loop-reply.out))
    (replies-all name (λ r. r.items) replies i (omega arith)) c.loop-reply.invariant
