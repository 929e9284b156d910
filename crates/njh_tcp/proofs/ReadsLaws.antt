-- The grammar and the functions say the same.
use Rattle.std.proofs.Common.{◌≡◌, ℕ, List, [], ◌++◌, take, ap, sym, ◌∙◌, subst, append-nil, lit<}
use Rattle.std.specs.Prelude.{Option}
use Rattle.njh_tcp.specs.Blocks.{Ttb, Partial, in_head, Splits, items_of}
use Rattle.njh_tcp.specs.Hearing.{Outcome, Hears, outcomes_of, hearing_after}
use Rattle.njh_tcp.specs.Reading.{Rest, afresh, part_of, rest_of, Reads, outcome_list, TakesFirst}
use Rattle.njh_tcp.specs.ByteSteps.{feed_outcome, outcomes_after, rest_after, GoesOn}
use Rattle.njh_tcp.specs.declared.contact.Contact.{Contact}
use Rattle.njh_tcp.proofs.TtbRun.{Run, run, runs_as}
use Rattle.njh_tcp.proofs.HeardRun.{hears_as}
use Rattle.njh_tcp.proofs.RunTtbs.{run-split}
use Rattle.njh_tcp.proofs.FedLaws.{outcomes_after-append, rest_after-append, takes_front, goes_on}

pub run_of : (bytes : List ℕ) (ttbs : List Ttb) (partial : Partial) → Splits bytes ttbs partial
    → run (in_head []) bytes ≡ record { ttbs = ttbs; items = items_of ttbs partial; partial = partial }
run_of bytes ttbs partial splits =
    ap (run (in_head [])) splits.whole ∙ run-split ttbs partial splits.each splits.last

pub a_splitting : (bytes : List ℕ) → Splits bytes (run (in_head []) bytes).ttbs (run (in_head []) bytes).partial
a_splitting bytes =
    let read = runs_as (in_head []) bytes (lit< tt) in
    record { whole = read.whole; each = read.each; last = read.last }

pub reads_outcomes : (contact : Contact) (bytes : List ℕ) (outcomes : List Outcome) (rest : Rest)
    → Reads contact bytes outcomes rest → outcomes ≡ outcomes_after (afresh contact) bytes
reads_outcomes contact bytes outcomes rest reads =
    reads.outcomes_are
    ∙ (ap (λ (r : Run). outcomes_of (Hears contact) r.items)
    (sym (run_of bytes reads.ttbs reads.partial reads.splits))
    ∙ sym (hears_as (Hears contact) (in_head []) bytes (lit< tt) tt).outcomes)

pub reads_rest : (contact : Contact) (bytes : List ℕ) (outcomes : List Outcome) (rest : Rest)
    → Reads contact bytes outcomes rest → rest ≡ rest_after (afresh contact) bytes
reads_rest contact bytes outcomes rest reads =
    reads.rest_is
    ∙ (ap (λ (r : Run). rest_of (hearing_after (Hears contact) r.items) (part_of r.partial))
    (sym (run_of bytes reads.ttbs reads.partial reads.splits))
    ∙ sym (hears_as (Hears contact) (in_head []) bytes (lit< tt) tt).rest)

pub reads_from : (contact : Contact) (bytes : List ℕ)
    → Reads contact bytes (outcomes_after (afresh contact) bytes) (rest_after (afresh contact) bytes)
reads_from contact bytes =
    let heard = hears_as (Hears contact) (in_head []) bytes (lit< tt) tt in
    let told = (runs_as (in_head []) bytes (lit< tt)).told in
    let r = run (in_head []) bytes in
    record {
      ttbs = r.ttbs;
      partial = r.partial;
      splits = a_splitting bytes;
      outcomes_are = heard.outcomes ∙ ap (outcomes_of (Hears contact)) told;
      rest_is = heard.rest ∙ ap (λ items. rest_of (hearing_after (Hears contact) items) (part_of r.partial)) told;
    }

-- what more bytes add
pub reads_more : (contact : Contact) (seen : List ℕ) (outcomes : List Outcome) (rest : Rest) (more : List ℕ)
    → Reads contact seen outcomes rest
    → Reads contact (seen ++ more) (outcomes ++ outcomes_after rest more) (rest_after rest more)
reads_more contact seen outcomes rest more reads =
    let start = afresh contact in
    let outcomes_are = reads_outcomes contact seen outcomes rest reads in
    let rest_is = reads_rest contact seen outcomes rest reads in
    let outcomes_then : outcomes_after start (seen ++ more) ≡ outcomes ++ outcomes_after rest more =
    outcomes_after-append start seen more
    ∙ (ap (λ l. l ++ outcomes_after (rest_after start seen) more) (sym outcomes_are)
    ∙ ap (λ r. outcomes ++ outcomes_after r more) (sym rest_is)) in
    let rest_then : rest_after start (seen ++ more) ≡ rest_after rest more =
    rest_after-append start seen more ∙ ap (λ r. rest_after r more) (sym rest_is) in
    subst (λ (r : Rest). Reads contact (seen ++ more) (outcomes ++ outcomes_after rest more) r) rest_then
    (subst (λ (l : List Outcome). Reads contact (seen ++ more) l (rest_after start (seen ++ more))) outcomes_then
    (reads_from contact (seen ++ more)))

takes_first : (contact : Contact) (seen : List ℕ) (outcomes : List Outcome) (rest : Rest) (piece : List ℕ)
    → Reads contact seen outcomes rest
    → TakesFirst contact seen outcomes piece (feed_outcome rest piece).taken (feed_outcome rest piece).outcome
    (feed_outcome rest piece).rest
takes_first contact seen outcomes rest piece reads =
    let f = feed_outcome rest piece in
    let front = takes_front rest piece in
    record {
      within = front.within;
      through = subst (λ (r : Rest). Reads contact (seen ++ take f.taken piece)
          (outcomes ++ outcome_list f.outcome) r) front.left
          (subst (λ (l : List Outcome). Reads contact (seen ++ take f.taken piece) (outcomes ++ l)
          (rest_after rest (take f.taken piece))) front.outcomes
          (reads_more contact seen outcomes rest (take f.taken piece) reads));
      none_before = λ k below. (
        rest_after rest (take k piece),
        subst (λ (l : List Outcome). Reads contact (seen ++ take k piece) l (rest_after rest (take k piece)))
            (ap (λ l. outcomes ++ l) (front.none_before k below) ∙ append-nil outcomes)
            (reads_more contact seen outcomes rest (take k piece) reads),
      );
      all = front.all;
    }

-- what callers of `feed` learn beside the number, what is given and the rest themselves
pub record Feeds (rest : Rest) (piece : List ℕ) (taken : ℕ) (outcome : Option Outcome) : Type 0 where
  pub first : (contact : Contact) (seen : List ℕ) (outcomes : List Outcome) → Reads contact seen outcomes rest
      → TakesFirst contact seen outcomes piece taken outcome (feed_outcome rest piece).rest
  pub goes_on : GoesOn rest piece taken outcome (feed_outcome rest piece).rest

pub feeds : (rest : Rest) (piece : List ℕ) (taken : ℕ) (outcome : Option Outcome)
    → taken ≡ (feed_outcome rest piece).taken → outcome ≡ (feed_outcome rest piece).outcome
    → Feeds rest piece taken outcome
feeds rest piece taken outcome taken_is outcome_is =
    subst (λ (n : ℕ). Feeds rest piece n outcome) (sym taken_is)
    (subst (λ (o : Option Outcome). Feeds rest piece (feed_outcome rest piece).taken o) (sym outcome_is)
    (record {
      first = λ contact seen outcomes reads. takes_first contact seen outcomes rest piece reads;
      goes_on = goes_on rest piece;
    }))
