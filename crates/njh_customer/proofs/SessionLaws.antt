-- What a line sends, the end of its session, and all that comes on it leave a customer coherent.
use Rattle.njh_customer.proofs.Words
use Words.{ap, ℕ, false, List, length, set, replicate, refl, sym, subst, arith, get_or-map, map-set_same, map-set}
use Words.{length-map, length-set, length-replicate, All-same, All-set, HasHeaders, without_all_open, all_ended}
use Words.{tried_again, streams_at, AreTied, Receiver, Input, after_end, Phase, Config, LineReply, after_record}
use Words.{replied_to, with_idle_streams, session_over, accepted_on, after_line_input, after_block, Customer}
use Words.{no_customer_line, line_at, on_line, in_state, sending_of_reply, streams_to_hub, HasStreams, IsCoherent, Item}
use Words.{after_input, Bool, true, CustomerEntry, config_of, goes_up_by, map, map-map, with_raised_line, CustomerLine}
use Rattle.{std.proofs.Common.{◌≡◌, ◌<◌, ◌∙◌}, njh_block.specs.Blocks.Block, njh_stream.proofs.TiedLaws.session_ended}
use Rattle.{njh_stream.proofs.TiedLaws.untouched, njh_customer.proofs.CoherenceLaws.{coherent_still, lines_coherent}}
use Rattle.njh_customer.proofs.{CoherenceLaws.{accepted_coherent, acted_coherent, shape}, LineWalks.on_line_seen}
use Rattle.njh_customer.proofs.{ActingMoves.acts_so, FileListLaws.as_many, LineWalks.{acted_keeps, kept, kepts}}
use Rattle.njh_customer.proofs.{ReplyLaws.reply_lasting, Restated.IsRestated}
use Rattle.njh_customer.proofs.Restated.{as_it_is, ended_restated, restated_harmless, restated_then, without_open_same}
use Rattle.njh_customer.proofs.{SpoolWalks.replied_so, StepWalks.{StaysInSteps, block_so, input_so}}
use Rattle.njh_stream.specs.declared.receiver.Receiver.TheVariants as receiver

-- ---- what a line sends

reply_coherent : (l : ℕ) (r : LineReply) (c : Customer) → IsCoherent c → IsCoherent (replied_to l r c).after
reply_coherent l r c =
    let x = sending_of_reply c.entry l r c.spool (line_at l c.lines) in
    let same : shape x.line ≡ shape (line_at l c.lines) = ap (λ (p : Config × Phase × ℕ × List Receiver). (p.2, p.3))
    (reply_lasting c.entry l r c.spool (line_at l c.lines)) in
    coherent_still (replied_to l r c).after c (record {
      entry = (refl, refl, refl);
      lines = map-set_same shape c.lines l x.line no_customer_line same;
      files = restated_harmless c.spool x.spool (replied_so (IsRestated c.spool)
          (λ s t later first. restated_then c.spool s t first later) l r c (as_it_is c.spool));
    })

-- ---- the end of a session

over_coherent : (l : ℕ) (c : Customer) → l < length c.lines → IsCoherent c → IsCoherent (session_over l c)
over_coherent l c line_there coherent =
    let x = line_at l c.lines in
    let lines = streams_to_hub c.lines in
    let sent = tried_again c.entry l (all_ended x.senders c.spool) in
    let restated = ended_restated c.entry l x.senders c.spool in
    let gone = without_open_same x.receivers sent in
    let here : streams_at l lines ≡ x.receivers = get_or-map (λ y. y.receivers) c.lines l no_customer_line in
    let there : l < length lines = omega (arith, length-map c.lines (λ y. y.receivers)) in
    let tied = session_ended l lines sent there (untouched lines c.spool sent restated.partial coherent.tied) in
    let after : AreTied (set lines l (replicate (length x.receivers) receiver.Idle))
    (without_all_open x.receivers sent) =
    subst (λ rs. AreTied (set lines l (replicate (length rs) receiver.Idle)) (without_all_open rs sent)) here tied in
    let eight = coherent.streamed l no_customer_line line_there in
    record {
      tied = subst (λ rs. AreTied rs (without_all_open x.receivers sent))
          (sym (map-set (λ y. y.receivers) c.lines l (with_idle_streams x))) after;
      streamed = All-set HasStreams c.lines l (with_idle_streams x)
          (length-replicate (length x.receivers) receiver.Idle ∙ eight.0, eight.1) coherent.streamed;
      headers = All-same (λ f. HasHeaders f.kind f.records) (without_all_open x.receivers sent).whole sent.whole
          gone.whole ((restated_harmless c.spool sent restated).headers coherent.headers);
      quota = ap (λ (l : ℕ × ℕ). l.0) (gone.limits ∙ restated.limits) ∙ coherent.quota;
      limit = ap (λ (l : ℕ × ℕ). l.1) (gone.limits ∙ restated.limits) ∙ coherent.limit;
      marks = length-set c.entry.up l false ∙ coherent.marks ∙ sym (length-set c.lines l (with_idle_streams x));
    }

-- ---- what comes on a line

pub coherent_steps : StaysInSteps IsCoherent
coherent_steps = record {
  session = record {
    judged = λ l came c there. accepted_coherent l came c;
    answered = λ l r c there. reply_coherent l r c;
    ended = λ end l c there. lines_coherent (on_line l (in_state (after_end end)) c.lines) c
        (on_line_seen shape l (in_state (after_end end)) c.lines (λ x. refl));
    over = over_coherent;
  };
  acted = acted_coherent;
}

-- how each line is set up, and how the entry says so
abbrev pub set_up : CustomerLine → Config × ℕ
set_up x = (x.state.config, x.streams)

abbrev pub set_ups : List CustomerLine → List (Config × ℕ)
set_ups lines = map set_up lines

abbrev pub set_up_by : CustomerEntry → List (Config × ℕ)
set_up_by entry = map (λ line. (config_of entry line, line.streams)) entry.lines

abbrev kept_set_up : Config × List ℕ × Phase × ℕ → Config × ℕ
kept_set_up k = (k.0, k.3)

pub kept_set_ups : (xs ys : List CustomerLine) → kepts xs ≡ kepts ys → set_ups xs ≡ set_ups ys
kept_set_ups xs ys e = sym (map-map kept_set_up kept xs) ∙ ap (map kept_set_up) e ∙ map-map kept_set_up kept ys

-- an entry's marks don't say it
raised_set_up : (up : Bool) (l : ℕ) (entry : CustomerEntry) → set_up_by (with_raised_line up l entry) ≡ set_up_by entry
raised_set_up true l entry = refl
raised_set_up false l entry = refl

-- it is what it was
abbrev pub IsSetUpAs : Customer → Customer → Type 0
IsSetUpAs c d = (set_ups d.lines ≡ set_ups c.lines) × (set_up_by d.entry ≡ set_up_by c.entry)

pub set_up_steps : (first : Customer) → StaysInSteps (IsSetUpAs first)
set_up_steps first = record {
  session = record {
    judged = λ l came c there so. (
      on_line_seen set_up l (in_state (after_input came)) c.lines (λ x. refl) ∙ so.0,
      raised_set_up (goes_up_by l came c) l c.entry ∙ so.1,
    );
    answered = λ l r c there so. let sent = (sending_of_reply c.entry l r c.spool (line_at l c.lines)).line in (
      map-set_same set_up c.lines l sent no_customer_line (ap (λ (p : Config × Phase × ℕ × List Receiver). (p.0, p.2))
          (reply_lasting c.entry l r c.spool (line_at l c.lines))) ∙ so.0,
      so.1,
    );
    ended = λ end l c there so. (on_line_seen set_up l (in_state (after_end end)) c.lines (λ x. refl) ∙ so.0, so.1);
    over = λ l c there so. (on_line_seen set_up l with_idle_streams c.lines (λ x. refl) ∙ so.0, so.1);
  };
  acted = λ l i c there so. (
    kept_set_ups (after_record l i c).lines c.lines (acted_keeps l i c) ∙ so.0,
    ap set_up_by (acts_so l i c).entry ∙ so.1,
  );
}

-- what a step leaves of a customer
pub record Stays (d c : Customer) : Type 0 where
  pub coherent : IsCoherent d
  pub lines : length d.lines ≡ length c.lines

module _ (l : ℕ) (c : Customer) (there : l < length c.lines) (coherent : IsCoherent c) where
  stays : (d : Customer) → IsCoherent d → IsSetUpAs c d → Stays d c
  stays d still set_up_so = record { coherent = still; lines = as_many set_up d.lines c.lines set_up_so.0 }

  pub accepted_stays : (came : Input) → Stays (accepted_on l came c) c
  accepted_stays came = stays (accepted_on l came c) (accepted_coherent l came c coherent)
      ((set_up_steps c).session.judged l came c there (refl, refl))

  pub acted_stays : (i : Item) → Stays (after_record l i c) c
  acted_stays i = stays (after_record l i c) (acted_coherent l i c there coherent)
      ((set_up_steps c).acted l i c there (refl, refl))

  pub input_stays : (came : Input) → Stays (after_line_input l came c).after c
  input_stays came = stays (after_line_input l came c).after
      (input_so IsCoherent coherent_steps.session l came c there coherent)
      (input_so (IsSetUpAs c) (set_up_steps c).session l came c there (refl, refl))

  pub block_stays : (b : Block) → Stays (after_block l b c).after c
  block_stays b = stays (after_block l b c).after (block_so IsCoherent coherent_steps l b c there coherent)
      (block_so (IsSetUpAs c) (set_up_steps c) l b c there (refl, refl))
