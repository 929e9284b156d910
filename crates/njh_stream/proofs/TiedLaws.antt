-- A customer's streams and files stay tied.
use Rattle.std.proofs.Common.{◌≡◌, ◌<◌, ◌≤◌, ℕ, zero, suc, true, false, ◌⊎◌, inl, inr, List, [], ◌++◌, length, take}
use Rattle.std.proofs.Common.{drop, set, get_or, replicate, Option, Some, None, ◌==◌, refl, sym, ap, subst, ◌∙◌, arith}
use Rattle.std.proofs.Math.Seq.{take-length, drop-length}
use Rattle.std.proofs.lemmas.Bool.Decides.{eqb_tells}
use Rattle.std.proofs.lemmas.List.{get_or-set_same, get_or-set_other, set-set, set-get_or, length-set, length-append}
use Rattle.std.proofs.lemmas.List.{length-replicate, length-drop, append-nil}
use Rattle.njh_block.specs.Codes.{kind_of}
use Rattle.njh_record.specs.declared.Kind.{Kind}
use Rattle.njh_spool.specs.CustomerSpool.{CustomerSpool, PartialFile, partial_numbered}
use Rattle.njh_stream.specs.declared.receiver.Receiver.{Receiver}
use Rattle.njh_stream.specs.declared.receiver.Receiver.TheVariants.{Idle, Open, Draining}
use Rattle.njh_table.specs.Entries.{CustomerEntry}
use Rattle.njh_stream.specs.Receiving.{Arrival, received_arrival, without_open, without_all_open}
use Rattle.njh_stream.specs.code.Agreement.{Agrees, AgreesWith, Comes, AreTied}
use Rattle.njh_stream.specs.Streams.{streams_at, stream_at, with_stream, without_streams, coming_file}
use Rattle.njh_stream.proofs.AgreesLaws.{IsFree, received_agrees}
use Rattle.njh_stream.proofs.EndingLaws.{become, next_is, open_so_far}
use Rattle.njh_stream.proofs.MoveLaws.{Moves, Has, arrivals, ends}
use Rattle.njh_stream.proofs.PartialLaws.{numbered}

-- ---- the stream at a place

-- two places of streams are the same, or they are not
data Places (l k m j : ℕ) : Type 0 where
  Same : l ≡ m → k ≡ j → Places l k m j
  Apart : ((l ≡ m) × (k ≡ j) → ⊥) → Places l k m j

places : (l k m j : ℕ) → Places l k m j
places l k m j = at_lines (eqb_tells l m) (eqb_tells k j)
  where
    at_lines :
        ((l == m) ≡ true) × (l ≡ m) ⊎ ((l == m) ≡ false) × (l ≡ m → ⊥)
        → ((k == j) ≡ true) × (k ≡ j) ⊎ ((k == j) ≡ false) × (k ≡ j → ⊥) → Places l k m j
    at_lines (inl line) (inl stream) = Same line.1 stream.1
    at_lines (inl line) (inr stream) = Apart (λ e. stream.1 e.1)
    at_lines (inr line) streams = Apart (λ e. line.1 e.0)

module _ (l k : ℕ) (r : Receiver) (lines : List (List Receiver)) (line_there : l < length lines) where
  now_there : k < length (streams_at l lines) → stream_at l k (with_stream l k r lines) ≡ r
  now_there stream_there =
      ap (λ rs. get_or rs k Idle) (get_or-set_same lines l (set (streams_at l lines) k r) [] line_there)
      ∙ get_or-set_same (streams_at l lines) k r Idle stream_there

  still_there : (m j : ℕ) → ((l ≡ m) × (k ≡ j) → ⊥) → stream_at m j (with_stream l k r lines) ≡ stream_at m j lines
  still_there m j apart = at_line (eqb_tells m l)
    where
      at_line :
          ((m == l) ≡ true) × (m ≡ l) ⊎ ((m == l) ≡ false) × (m ≡ l → ⊥)
          → stream_at m j (with_stream l k r lines) ≡ stream_at m j lines
      at_line (inr other) =
          ap (λ rs. get_or rs j Idle) (get_or-set_other lines l m (set (streams_at l lines) k r) [] other.1)
      at_line (inl same) =
          ap (λ x. stream_at x j (with_stream l k r lines)) same.1
          ∙ ap (λ rs. get_or rs j Idle) (get_or-set_same lines l (set (streams_at l lines) k r) [] line_there)
          ∙ get_or-set_other (streams_at l lines) k j r Idle (λ e. apart (sym same.1, sym e))
          ∙ ap (λ x. stream_at x j lines) (sym same.1)

-- ---- one stream moves

-- a stream that agrees with its file agrees with it where that is found as before
agrees_still :
    (kind : Kind) (x : Receiver) (s t : CustomerSpool)
    → ((n : ℕ) (f : PartialFile) → coming_file x ≡ Some n → partial_numbered n s ≡ Some f
    → partial_numbered n t ≡ Some f)
    → Agrees kind x s → Agrees kind x t
agrees_still kind Idle s t kept agrees = tt
agrees_still kind Draining s t kept agrees = tt
agrees_still kind (Open n progress) s t kept agrees = at_file (partial_numbered n s) refl agrees
  where
    at_file : (o : Option PartialFile) → partial_numbered n s ≡ o → AgreesWith kind progress o
        → AgreesWith kind progress (partial_numbered n t)
    at_file None e agrees = absurd agrees
    at_file (Some f) e agrees = subst (AgreesWith kind progress) (sym (kept n f refl e)) agrees

-- a stream that agrees has its file
has_file : (kind : Kind) (x : Receiver) (s : CustomerSpool) (n : ℕ) → Agrees kind x s → coming_file x ≡ Some n
    → partial_numbered n s ≡ None → ⊥
has_file kind Idle s n agrees e none = cc e
has_file kind Draining s n agrees e none = cc e
has_file kind (Open m progress) s n agrees e none =
    subst (AgreesWith kind progress) (ap (λ x. partial_numbered x s) (cc e) ∙ none) agrees

pub stream_moved :
    (l k : ℕ) (r : Receiver) (lines : List (List Receiver)) (s t : CustomerSpool)
    → l < length lines → k < length (streams_at l lines) → AreTied lines s
    → Moves (coming_file (stream_at l k lines)) s (coming_file r) t
    → Agrees (kind_of k) r t → AreTied (with_stream l k r lines) t
stream_moved l k r lines s t line_there stream_there tied moves agrees = record {
  agree = λ m j. agree_at m j (places l k m j);
  apart = λ m j p i n. apart_at m j p i n (places l k m j) (places l k p i);
  come = λ n f found. come_at n (moves.came n f found);
}
  where
    new : List (List Receiver)
    new = with_stream l k r lines

    here : stream_at l k new ≡ r
    here = now_there l k r lines line_there stream_there

    there : (m j : ℕ) → ((l ≡ m) × (k ≡ j) → ⊥) → stream_at m j new ≡ stream_at m j lines
    there = still_there l k r lines line_there

    was : ℕ → ℕ → Option ℕ
    was m j = coming_file (stream_at m j lines)

    -- another stream's file
    not_its : (m j n : ℕ) → ((l ≡ m) × (k ≡ j) → ⊥) → was m j ≡ Some n → was l k ≡ Some n → ⊥
    not_its m j n other e mine = other (tied.apart l k m j n mine e)

    agree_at : (m j : ℕ) → Places l k m j → Agrees (kind_of j) (stream_at m j new) t
    agree_at m j (Same line stream) =
        subst (λ x. Agrees (kind_of j) x t)
        (sym (ap (λ x. stream_at x j new) (sym line) ∙ ap (λ x. stream_at l x new) (sym stream) ∙ here))
        (subst (λ x. Agrees (kind_of x) r t) stream agrees)
    agree_at m j (Apart other) =
        subst (λ x. Agrees (kind_of j) x t) (sym (there m j other))
        (agrees_still (kind_of j) (stream_at m j lines) s t
        (λ n f e found. moves.kept n f (not_its m j n other e) found) (tied.agree m j))

    -- the stream that moved has no file that another has
    alone : (m j n : ℕ) → ((l ≡ m) × (k ≡ j) → ⊥) → was m j ≡ Some n
        → (was l k ≡ Some n) ⊎ (partial_numbered n s ≡ None) → ⊥
    alone m j n other e (inl mine) = not_its m j n other e mine
    alone m j n other e (inr none) = has_file (kind_of j) (stream_at m j lines) s n (tied.agree m j) e none

    at_place : (m j n : ℕ) → l ≡ m → k ≡ j → coming_file (stream_at m j new) ≡ Some n → coming_file r ≡ Some n
    at_place m j n line stream e =
        sym (ap coming_file (ap (λ x. stream_at x j new) (sym line) ∙ ap (λ x. stream_at l x new) (sym stream) ∙ here))
        ∙ e

    elsewhere : (m j n : ℕ) → ((l ≡ m) × (k ≡ j) → ⊥) → coming_file (stream_at m j new) ≡ Some n → was m j ≡ Some n
    elsewhere m j n other e = sym (ap coming_file (there m j other)) ∙ e

    apart_at :
        (m j p i n : ℕ) → Places l k m j → Places l k p i → coming_file (stream_at m j new) ≡ Some n
        → coming_file (stream_at p i new) ≡ Some n
        → (m ≡ p) × (j ≡ i)
    apart_at m j p i n (Same line stream) (Same line' stream') e f = (sym line ∙ line', sym stream ∙ stream')
    apart_at m j p i n (Same line stream) (Apart other) e f =
        absurd (alone p i n other (elsewhere p i n other f) (moves.own n (at_place m j n line stream e)))
    apart_at m j p i n (Apart other) (Same line stream) e f =
        absurd (alone m j n other (elsewhere m j n other e) (moves.own n (at_place p i n line stream f)))
    apart_at m j p i n (Apart other) (Apart another) e f =
        tied.apart m j p i n (elsewhere m j n other e) (elsewhere p i n another f)

    stays : (n : ℕ) → (was l k ≡ Some n → ⊥) → (x : Comes n lines) → Places l k x.line x.stream → Comes n new
    stays n not x (Same line stream) =
        absurd (not (ap coming_file (ap (λ y. stream_at y k lines) line ∙ ap (λ y. stream_at x.line y lines) stream)
        ∙ x.file))
    stays n not x (Apart other) = record {
      line = x.line;
      stream = x.stream;
      file = ap coming_file
          (there x.line x.stream other) ∙ x.file;
    }

    come_at : (n : ℕ) → (coming_file r ≡ Some n) ⊎ ((was l k ≡ Some n → ⊥) × Has n s) → Comes n new
    come_at n (inl e) = record { line = l; stream = k; file = ap coming_file here ∙ e }
    come_at n (inr old) =
        let x = tied.come n old.1.file old.1.found in
        stays n old.0 x (places l k x.line x.stream)

-- ---- the end of a line's session

module _ (l : ℕ) (lines : List (List Receiver)) (s : CustomerSpool) (line_there : l < length lines) where
  abbrev were : List Receiver
  were = streams_at l lines

  -- the first so many streams are over
  abbrev so_far : ℕ → List Receiver
  so_far i = replicate i Idle ++ drop i were

  length-so_far : (i : ℕ) → i ≤ length were → length (so_far i) ≡ length were
  length-so_far i h =
      omega (arith, h, length-append (replicate i Idle) (drop i were), length-replicate i Idle, length-drop i were)

  now_at : (i : ℕ) → streams_at l (set lines l (so_far i)) ≡ so_far i
  now_at i = get_or-set_same lines l (so_far i) [] line_there

  one_more_over : (i : ℕ) → i < length were
      → with_stream l i Idle (set lines l (so_far i)) ≡ set lines l (so_far (suc i))
  one_more_over i h =
      ap (λ rs. set (set lines l (so_far i)) l (set rs i Idle)) (now_at i)
      ∙ set-set lines l (so_far i) (set (so_far i) i Idle)
      ∙ ap (set lines l) (become Idle i were h)

  over_so_far : (i : ℕ) → i ≤ length were → AreTied lines s
      → AreTied (set lines l (so_far i)) (without_all_open (take i were) s)
  over_so_far zero h tied = subst (λ x. AreTied x s) (sym (set-get_or lines l [])) tied
  over_so_far (suc i) h tied =
      let spool = without_all_open (take i were) s in
      let r = stream_at l i (set lines l (so_far i)) in
      let before = over_so_far i (omega (arith, h)) tied in
      let r_is : r ≡ get_or were i Idle = ap (λ rs. get_or rs i Idle) (now_at i) ∙ next_is Idle Idle i were h in
      let over = stream_moved l i Idle (set lines l (so_far i)) spool (without_open r spool)
      (omega (arith, line_there, length-set lines l (so_far i)))
      (omega (arith, h, ap length (now_at i), length-so_far i (omega (arith, h)))) before (ends r spool) tt in
      subst (AreTied (set lines l (so_far (suc i))))
      (ap (λ x. without_open x spool) r_is ∙ sym (open_so_far i were Idle s h))
      (subst (λ x. AreTied x (without_open r spool)) (one_more_over i h) over)

pub session_ended :
    (l : ℕ) (lines : List (List Receiver)) (s : CustomerSpool) → l < length lines → AreTied lines s
    → AreTied (without_streams l lines) (without_all_open (streams_at l lines) s)
session_ended l lines s line_there tied =
    let rs = streams_at l lines in
    let all = over_so_far l lines s line_there (length rs) (omega arith) tied in
    subst (AreTied (without_streams l lines)) (ap (λ xs. without_all_open xs s) (take-length rs))
    (subst (λ x. AreTied x (without_all_open (take (length rs) rs) s))
    (ap (set lines l) (ap (λ xs. replicate (length rs) Idle ++ xs) (drop-length rs)
    ∙ append-nil (replicate (length rs) Idle))) all)

-- ---- what touches no partial file

pub untouched : (lines : List (List Receiver)) (s t : CustomerSpool) → t.partial ≡ s.partial → AreTied lines s
    → AreTied lines t
untouched lines s t same tied = record {
  agree = λ l k. agrees_still (kind_of k) (stream_at l k lines) s t (λ n f e found. ap (numbered n) same ∙ found)
      (tied.agree l k);
  apart = tied.apart;
  come = λ n f found. tied.come n f (ap (numbered n) (sym same) ∙ found);
}

-- with no stream about a file and no partial file
pub at_rest : (lines : List (List Receiver)) (s : CustomerSpool) → ((l k : ℕ) → stream_at l k lines ≡ Idle)
    → s.partial ≡ [] → AreTied lines s
at_rest lines s idle none = record {
  agree = λ l k. subst (λ x. Agrees (kind_of k) x s) (sym (idle l k)) tt;
  apart = λ l k m j n e f. absurd (cc (sym (ap coming_file (idle l k)) ∙ e));
  come = λ n f found. absurd (cc (sym (ap (numbered n) none) ∙ found));
}

-- ---- one arrival

pub arrival_tied :
    (entry : CustomerEntry) (l k : ℕ) (a : Arrival) (lines : List (List Receiver)) (s : CustomerSpool)
    → ((x : CustomerSpool) → IsFree x)
    → l < length lines → k < length (streams_at l lines) → AreTied lines s
    → (let done = received_arrival entry l (kind_of k) (stream_at l k lines) a s in AreTied
    (with_stream l k done.receiver lines) done.spool)
arrival_tied entry l k a lines s free line_there stream_there tied =
    let r = stream_at l k lines in
    let done = received_arrival entry l (kind_of k) r a s in
    stream_moved l k done.receiver lines s done.spool line_there stream_there tied
    (arrivals entry l (kind_of k) r a s free)
    (received_agrees entry l (kind_of k) r a s free (tied.agree l k))
