-- One file more was looked at, or all were.
use Rattle.std.proofs.Common.{◌<◌, ◌≤◌, ◌++◌, ◌∷◌, [], ℕ, List, true, false, filter, length, map, take, sym, ap, ap₂}
use Rattle.std.proofs.Common.{subst, ◌∙◌, arith}
use Rattle.njh_spool.specs.Spools.{spool_at}
use Rattle.njh_command.specs.Commands.{count, first_replies, is_owned}
use Rattle.njh_texts.specs.Texts.{file_line, files_line}
use Rattle.njh_command.proofs.ReplyLaws.{kept_more}
use Rattle.njh_command.proofs.WalkLaws.{counted_more, one_listed, all_looked_at}
use Rattle.njh_command.proofs.listing.list_files.Goals.{then-list_file, else-list_file}
use Rattle.njh_command.proofs.listing.list_files.Goals as goal

pub loop-index-preserved : goal.loop-index-preserved
loop-index-preserved c =
    let s = spool_at c.args.customer c.args.spool.now in
    let i = c.loop-index.index in
    let own = is_owned c.args.who in
    let inside : i < length s.whole = subst (λ (m : ℕ). i < m) c.files-index-end.ensures c.loop-index-test.true in
    let replies = one_listed c.args.who i s c.loop-index.replies c.list_file.new.replies inside
    c.loop-index.invariant.replies
    c.list_file.ensures.replies in
    elim c.if-list_file.branch [
      | then-list_file w ↦
          record {
            replies = replies;
            count = counted_more own true s i c.loop-index.count c.if-list_file.count inside
                (sym c.list_file.ensures.own
                ∙ w.if-list_file.true) c.loop-index.invariant.count (omega (arith, w.count-is));
            few = omega (arith, w.count-is, c.loop-index.invariant.few);
          }
      | else-list_file w ↦
          record {
            replies = replies;
            count = counted_more own false s i c.loop-index.count c.if-list_file.count inside
                (sym c.list_file.ensures.own
                ∙ w.if-list_file.false) c.loop-index.invariant.count (omega (arith, w.count-is));
            few = omega (arith, w.count-is, c.loop-index.invariant.few);
          }
    ]

pub returns : goal.returns
returns c =
    let s = spool_at c.args.customer c.args.spool.now in
    let own = is_owned c.args.who in
    let all : length s.whole ≤ c.loop-index.index = subst (λ (m : ℕ). m ≤ c.loop-index.index) c.files-index-end.ensures
    c.loop-index-test.false in
    let last : List (List ℕ) = files_line (count own s) ∷ [] in
    c.add.ensures
    ∙ ap₂ (λ (replies : List (List ℕ)) (text : List ℕ). first_replies (replies ++ text ∷ []))
    c.loop-index.invariant.replies
    (c.files_line.ensures ∙ ap files_line (c.loop-index.invariant.count
    ∙ ap (λ files. length (filter own files)) (all_looked_at
    s.whole c.loop-index.index all)))
    ∙ kept_more 64 (map file_line (filter own (take c.loop-index.index s.whole))) last
    ∙ ap (λ files. first_replies (map file_line (filter own files) ++ last))
    (all_looked_at s.whole c.loop-index.index all)
