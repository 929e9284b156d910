-- One record more of the file.
use Rattle.std.proofs.Common.{◌≡◌, ◌<◌, ◌+◌, ℕ, List, Option, None, Some, length, slice_set, sym, ap, ap₂, subst, ◌∙◌}
use Rattle.std.proofs.Common.{add-one, arith}
use Rattle.njh_record.specs.Stored.{Stored}
use Rattle.njh_record.specs.declared.Kind.{Kind}
use Rattle.njh_spool.specs.CustomerSpool.{CustomerSpool, WholeFile}
use Rattle.njh_spool.specs.Spools.{spool_at}
use Rattle.njh_command.specs.Files.{file_at, stored_at, with_file, with_records, with_redirected}
use Rattle.njh_command.specs.code.Looking.{looked_at}
use Rattle.njh_command.proofs.UpTo.{redirected_up_to, srcb_before}
use Rattle.njh_command.proofs.RecordLaws.{as_long, not_yet, one_more}
use Rattle.njh_command.proofs.LookingLaws.{looked_within, all_looked_at}
use Rattle.njh_command.proofs.WalkLaws.{part_of, file_is, file_twice, moved_twice}
use Rattle.njh_command.proofs.rerouting.redirect.Goals as goal

-- the file of which the first so many records are redirected
abbrev so_far : List ℕ → ℕ → WholeFile → WholeFile
so_far node n f = with_records (redirected_up_to f.kind node n f.records) f

known : (old now : List CustomerSpool) (c i n : ℕ) (node : List ℕ) → c < length old → i < length (spool_at c old).whole
    → n < length (file_at i (spool_at c old)).records
    → now ≡ slice_set old c (with_file i (so_far node n (file_at i (spool_at c old))) (spool_at c
    old))
    → file_at i (spool_at c now) ≡ so_far node n (file_at i (spool_at c old))
known old now c i n node range within inside moved =
    ap (file_at i) (part_of old now c (with_file i (so_far node n (file_at i (spool_at c old))) (spool_at c old)) range
    moved)
    ∙ file_is (spool_at c old) i (so_far node n (file_at i (spool_at c old))) within

-- a step at a file that is so far
abbrev step : (kind : Kind) (before : Option ℕ) (node : List ℕ) (i n : ℕ) → CustomerSpool → CustomerSpool
step kind before node i n s = with_file i (with_records (with_redirected kind before node n (file_at i s).records)
    (file_at i s)) s

stepped : (kind : Kind) (before : Option ℕ) (node : List ℕ) (i n : ℕ) (s : CustomerSpool) → i < length s.whole
    → n < length (file_at i s).records → kind ≡ (file_at i s).kind → before ≡ srcb_before n (file_at i s).records
    → step kind before node i n (with_file i (so_far node n (file_at i s)) s) ≡ with_file i
    (so_far node (n + 1) (file_at i s)) s
stepped kind before node i n s within inside kind_is before_is =
    ap (λ (f : WholeFile). with_file i (with_records (with_redirected kind before node n f.records) f)
    (with_file i (so_far node n
    (file_at i s)) s))
    (file_is s i (so_far node n (file_at i s)) within)
    ∙ file_twice s i (so_far node n (file_at i s))
    (with_records (with_redirected kind before node n
    (redirected_up_to (file_at i s).kind node n (file_at i s).records)) (file_at i s))
    ∙ ap (λ (records : List Stored). with_file i (with_records records (file_at i s)) s)
    (ap₂ (λ (k : Kind) (b : Option ℕ). with_redirected k b node n
    (redirected_up_to (file_at i s).kind node n (file_at i s).records))
    kind_is before_is
    ∙ one_more (file_at i s).kind node n (file_at i s).records inside
    ∙ ap (λ (m : ℕ). redirected_up_to (file_at i s).kind node m (file_at i s).records) (sym (add-one n)))

pub redirect_by_srcb-requires-clause-known : goal.redirect_by_srcb-requires-clause-known
redirect_by_srcb-requires-clause-known c =
    let s = spool_at c.args.customer c.args.spool.now in
    let f = file_at c.args.index s in
    let inside : c.loop-n.n < length f.records =
    looked_within c.kind_of-kind.result c.loop-n.n (length f.records) (subst (λ (m : ℕ). c.loop-n.n < m)
    c.count_looked_at-n-end.ensures c.loop-n-test.true) in
    subst (λ (m : ℕ). c.loop-n.n < m) (sym (as_long f.kind None c.args.node c.loop-n.n f.records)
    ∙ sym (ap (λ (x : WholeFile). length x.records)
    (known c.args.spool.now c.loop-n.spool c.args.customer c.args.index c.loop-n.n
    c.args.node
    c.requires.range c.requires.within inside c.loop-n.invariant.spool))) inside

pub loop-n-preserved : goal.loop-n-preserved
loop-n-preserved c =
    let s = spool_at c.args.customer c.args.spool.now in
    let f = file_at c.args.index s in
    let inside : c.loop-n.n < length f.records =
    looked_within c.kind_of-kind.result c.loop-n.n (length f.records) (subst (λ (m : ℕ). c.loop-n.n < m)
    c.count_looked_at-n-end.ensures c.loop-n-test.true) in
    record {
      before =
          ap Some (c.redirect_by_srcb.ensures.srcb
          ∙ ap (λ (x : WholeFile). (stored_at c.loop-n.n x.records).srcb)
          (known c.args.spool.now c.loop-n.spool c.args.customer
          c.args.index c.loop-n.n
          c.args.node c.requires.range c.requires.within inside c.loop-n.invariant.spool)
          ∙ ap (λ (r : Stored). r.srcb) (not_yet f.kind c.args.node c.loop-n.n f.records inside))
          ∙ ap (λ (m : ℕ). srcb_before m f.records) (sym (add-one c.loop-n.n));
      spool =
          moved_twice c.args.spool.now c.loop-n.spool c.redirect_by_srcb.new.spool c.args.customer
          (with_file c.args.index (so_far c.args.node c.loop-n.n f) s)
          (step c.kind_of-kind.result c.loop-n.before c.args.node c.args.index c.loop-n.n)
          c.requires.range c.loop-n.invariant.spool c.redirect_by_srcb.ensures.spool
          ∙ ap (slice_set c.args.spool.now c.args.customer)
          (stepped c.kind_of-kind.result c.loop-n.before c.args.node c.args.index
          c.loop-n.n s
          c.requires.within inside c.kind_of-kind.ensures c.loop-n.invariant.before);
    }

pub returns : goal.returns
returns c =
    let s = spool_at c.args.customer c.args.spool.now in
    let f = file_at c.args.index s in
    let ended : c.loop-n.n ≡ c.count_looked_at-n-end.result = omega (arith, c.loop-n.auto.n-end, c.loop-n-test.false) in
    let all : c.loop-n.n ≡ looked_at f.kind (length f.records) =
    ended ∙ c.count_looked_at-n-end.ensures
    ∙ ap (λ (k : Kind). looked_at k (length f.records)) c.kind_of-kind.ensures in
    c.loop-n.invariant.spool
    ∙ ap (λ (records : List Stored). slice_set c.args.spool.now c.args.customer
    (with_file c.args.index (with_records records f) s))
    (ap (λ (n : ℕ). redirected_up_to f.kind c.args.node n f.records) all
    ∙ all_looked_at f.kind c.args.node f.records)
