-- A customer's whole files and its streams from the hub, as its lines change.
use Rattle.njh_customer.proofs.Words
use Words.{ℕ, List, [], map, set, get_or, fold, refl, sym, ap, false, length, replicate, get_or-map, map-set_same}
use Words.{map-set, set-get_or, CustomerSpool, WholeFile, all_ended, ready, tried_again, Sender, without_file}
use Words.{LineReply, without_sending, replied_to, with_idle_streams, session_over, Customer, CustomerLine}
use Words.{no_customer_line, line_at, on_line, with_sender, nowhere, onward, without_files, Over, LeadsByMoves}
use Words.{Outgoing, outgoing, streams_from_hub, sender_on, with_sender_on, with_files, sending_of_reply, is_next}
use Rattle.{std.proofs.Common.{◌≡◌, ◌∷◌, ◌∙◌}, njh_stream.specs.declared.sender.Sender.TheVariants.Idle}
use Rattle.njh_customer.proofs.{LineWalks.{StaysReceiving, on_line_seen, seen_receiving}, Restated.ended_restated}
use Rattle.njh_customer.{proofs.Restated.without_open_same, specs.Customer.sender_at}
use Rattle.njh_stream.specs.declared.sender.Sender.TheVariants as sender
use Rattle.njh_line.specs.declared.verdict.LineReply.TheVariants as reply

abbrev pub of_parts : List WholeFile → ℕ → List (List Sender) → Outgoing
of_parts files arrived streams = record { files = files; arrived = arrived; streams = streams }

-- ---- streams that stay

pub on_line_senders : (l : ℕ) (f : CustomerLine → CustomerLine) (lines : List CustomerLine)
    → ((x : CustomerLine) → (f x).senders ≡ x.senders) → streams_from_hub (on_line l f lines) ≡ streams_from_hub lines
on_line_senders l f lines same = on_line_seen (λ x. x.senders) l f lines same

-- what waits, and what comes, moves none
pub senders_receiving : (l : ℕ) (before : List CustomerLine)
    → StaysReceiving l (λ lines. streams_from_hub lines ≡ streams_from_hub before)
senders_receiving l before = seen_receiving (λ x. x.senders) l before (record {
  waiting = record { answers = λ a x. refl; messages = λ m x. refl };
  receivers = λ k r x. refl;
  notices = λ k r n x. refl;
})

-- ---- a stream that moves

pub stream_is : (l k : ℕ) (c : Customer) → sender_on l k (outgoing c) ≡ sender_at k (line_at l c.lines)
stream_is l k c = ap (λ senders. get_or senders k Idle) (get_or-map (λ x. x.senders) c.lines l no_customer_line)

-- a stream and the files
pub sent_is : (l k : ℕ) (x : Sender) (s : CustomerSpool) (c : Customer) → s.arrived ≡ c.spool.arrived
    → outgoing (record c { spool = s; lines = on_line l (with_sender k x) c.lines }) ≡ with_sender_on l k x
    (with_files s.whole (outgoing c))
sent_is l k x s c none_came =
    ap (λ n. of_parts s.whole n (streams_from_hub (on_line l (with_sender k x) c.lines))) none_came
    ∙ ap (of_parts s.whole c.spool.arrived) (map-set (λ y. y.senders) c.lines l (with_sender k x (line_at l c.lines))
    ∙ ap (λ senders. set (streams_from_hub c.lines) l (set senders k x))
    (sym (get_or-map (λ y. y.senders) c.lines l no_customer_line)))

-- one that doesn't
pub same_stream : (l k : ℕ) (s : Sender) (x : Outgoing) → sender_on l k x ≡ s → with_sender_on l k s x ≡ x
same_stream l k s x e = ap (λ t. with_sender_on l k t x) (sym e)
    ∙ ap (λ senders. of_parts x.files x.arrived (set x.streams l senders)) (set-get_or (get_or x.streams l []) k Idle)
    ∙ ap (of_parts x.files x.arrived) (set-get_or x.streams l [])

-- ---- a line that sends

-- what is no next block moves no stream and no file
pub reply_unmoved :
    (l : ℕ) (r : LineReply) (c : Customer) → is_next r ≡ false → outgoing (replied_to l r c).after ≡ outgoing c
reply_unmoved l (reply.Next or_ack0) c quiet = absurd (cc quiet)
reply_unmoved l r c quiet = ap (of_parts c.spool.whole c.spool.arrived) (map-set_same (λ y. y.senders) c.lines l
    (sending_of_reply c.entry l r c.spool (line_at l c.lines)).line no_customer_line refl)

-- a line's own streams are those in its place
pub own_again : (l : ℕ) (lines : List CustomerLine) → set (streams_from_hub lines) l
    (line_at l lines).senders ≡ streams_from_hub lines
own_again l lines =
    ap (set (streams_from_hub lines) l) (sym (get_or-map (λ y. y.senders) lines l no_customer_line)) ∙ set-get_or
    (streams_from_hub lines) l []

-- ---- streams that give their files up

one_given_up : (n : ℕ) (lines : List CustomerLine) → map (λ senders. map (without_file n) senders)
    (streams_from_hub lines) ≡ streams_from_hub (without_sending lines n)
one_given_up n [] = refl
one_given_up n (x ∷ xs) = ap (λ rest. map (without_file n) x.senders ∷ rest) (one_given_up n xs)

pub all_given_up : (ns : List ℕ) (files : List WholeFile) (arrived : ℕ) (lines : List CustomerLine)
    → without_files ns (of_parts files arrived (streams_from_hub lines)) ≡ of_parts files arrived
    (streams_from_hub (fold without_sending lines ns))
all_given_up [] files arrived lines = refl
all_given_up (n ∷ ns) files arrived lines =
    ap (λ streams. without_files ns (of_parts files arrived streams)) (one_given_up n lines)
    ∙ all_given_up ns files arrived (without_sending lines n)

-- ---- the end of a session

pub over_so : (l : ℕ) (c : Customer) → Over l (outgoing c) (outgoing (session_over l c))
over_so l c =
    let x = line_at l c.lines in
    let restated = ended_restated c.entry l x.senders c.spool in
    let gone = without_open_same x.receivers (tried_again c.entry l (all_ended x.senders c.spool)) in
    record {
      streams = map-set (λ y. y.senders) c.lines l (with_idle_streams x)
          ∙ ap (λ senders. set (streams_from_hub c.lines) l (replicate (length senders) sender.Idle))
          (sym (get_or-map (λ y. y.senders) c.lines l no_customer_line));
      files = ap (map ready) gone.whole ∙ restated.whole;
      arrived = gone.arrived ∙ restated.arrived;
    }

-- ---- moves, one after the other

pub leads_as : (M N : Outgoing → Outgoing → Type 0) (x z : Outgoing) → ((u v : Outgoing) → M u v → N u v)
    → LeadsByMoves M x z → LeadsByMoves N x z
leads_as M N _ _ each (nowhere x) = nowhere x
leads_as M N _ _ each (onward x y z move later) = onward x y z (each x y move) (leads_as M N y z each later)

pub leads_then : (M : Outgoing → Outgoing → Type 0) (x y z : Outgoing) → LeadsByMoves M x y → LeadsByMoves M y z
    → LeadsByMoves M x z
leads_then M _ _ z (nowhere x) second = second
leads_then M _ _ z (onward x u y move later) second = onward x u z move (leads_then M u y z later second)
