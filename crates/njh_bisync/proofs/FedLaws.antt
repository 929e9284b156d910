-- What one call takes of a piece, and the frames of bytes that come one after another.
use Rattle.std.proofs.Common.{◌≡◌, ℕ, zero, suc, ◌+◌, ◌<◌, ◌≤◌, List, [], ◌∷◌, ◌++◌, length, take, drop, refl, ap, sym}
use Rattle.std.proofs.Common.{◌∙◌, subst, arith, append-nil, one-add, zero-add}
use Rattle.std.specs.Prelude.{Option, Some, None}
use Rattle.std.specs.List.{cons_option}
use Rattle.std.proofs.lemmas.List.{take-append-drop, take_all}
use Rattle.njh_bisync.specs.Frames.{Received, LineUnit, Partial, nothing, Splits, frames_of}
use Rattle.njh_bisync.specs.Reading.{Rest, Nothing, rest_of, Reads, frame_list, TakesFirst}
use Rattle.njh_bisync.specs.ByteSteps.{RestStep, rest_step, Fed, ahead, stop_or, feed_outcome, frames_after, rest_after}
use Rattle.njh_bisync.specs.ByteSteps.{GoesOn}
use Rattle.njh_bisync.proofs.UnitReader.{run, runs_as, run-split}

cons_option-append : (frame : Option Received) (front back : List Received)
    → cons_option frame (front ++ back) ≡ cons_option frame front ++ back
cons_option-append None front back = refl
cons_option-append (Some frame) front back = refl

pub frames_after-append : (rest : Rest) (front back : List ℕ)
    → frames_after rest (front ++ back) ≡ frames_after rest front ++ frames_after (rest_after rest front) back
frames_after-append rest [] back = refl
frames_after-append rest (byte ∷ front) back =
    ap (cons_option (rest_step rest byte).frame) (frames_after-append (rest_step rest byte).rest front back)
    ∙ cons_option-append (rest_step rest byte).frame (frames_after (rest_step rest byte).rest front)
    (frames_after (rest_after (rest_step rest byte).rest front) back)

pub rest_after-append : (rest : Rest) (front back : List ℕ)
    → rest_after rest (front ++ back) ≡ rest_after (rest_after rest front) back
rest_after-append rest [] back = refl
rest_after-append rest (byte ∷ front) back = rest_after-append (rest_step rest byte).rest front back

-- what is taken of a piece, by the frames of its fronts
pub record TakesFront (rest : Rest) (piece : List ℕ) (f : Fed) : Type 0 where
  pub within : f.taken ≤ length piece
  pub some : 0 < length piece → 0 < f.taken
  pub frames : frames_after rest (take f.taken piece) ≡ frame_list f.frame
  pub left : rest_after rest (take f.taken piece) ≡ f.rest
  pub none_before : (k : ℕ) → k < f.taken → frames_after rest (take k piece) ≡ []
  pub all : f.frame ≡ None → f.taken ≡ length piece

-- one byte, by what its turn gives
frames_after-turned : (rest : Rest) (byte : ℕ) (bytes : List ℕ) (t : RestStep) → rest_step rest byte ≡ t
    → frames_after rest (byte ∷ bytes) ≡ cons_option t.frame (frames_after t.rest bytes)
frames_after-turned rest byte bytes t turned = ap (λ t'. cons_option t'.frame (frames_after t'.rest bytes)) turned

rest_after-turned : (rest : Rest) (byte : ℕ) (bytes : List ℕ) (t : RestStep) → rest_step rest byte ≡ t
    → rest_after rest (byte ∷ bytes) ≡ rest_after t.rest bytes
rest_after-turned rest byte bytes t turned = ap (λ t'. rest_after t'.rest bytes) turned

none_before-end : (rest : Rest) (piece : List ℕ) (k : ℕ) → k < 1 → frames_after rest (take k piece) ≡ []
none_before-end rest piece zero below = refl
none_before-end rest piece (suc k) below = absurd (omega arith)

none_before-later : (rest next : Rest) (byte : ℕ) (bytes : List ℕ) (n k : ℕ)
    → rest_step rest byte ≡ record { frame = None; rest = next }
    → ((j : ℕ) → j < n → frames_after next (take j bytes) ≡ []) → k < 1 + n
    → frames_after rest (take k (byte ∷ bytes)) ≡ []
none_before-later rest next byte bytes n zero turned later below = refl
none_before-later rest next byte bytes n (suc k) turned later below =
    frames_after-turned rest byte (take k bytes) _ turned ∙ later k (omega arith)

one_more : (rest next : Rest) (frame : Option Received) (byte : ℕ) (bytes : List ℕ)
    → rest_step rest byte ≡ record { frame = frame; rest = next }
    → TakesFront next bytes (feed_outcome next bytes) → TakesFront rest (byte ∷ bytes)
    (stop_or (record { frame = frame; rest = next }) (feed_outcome next bytes))
one_more rest next (Some frame) byte bytes turned later = record {
  within = omega arith;
  some = λ h. omega arith;
  frames = frames_after-turned rest byte [] _ turned;
  left = rest_after-turned rest byte [] _ turned;
  none_before = none_before-end rest (byte ∷ bytes);
  all = λ h. cc;
}
one_more rest next None byte bytes turned later = record {
  within = omega arith;
  some = λ h. omega arith;
  frames = rw one-add (frames_after-turned rest byte (take (feed_outcome next bytes).taken bytes) _ turned
      ∙ later.frames);
  left = rw one-add (rest_after-turned rest byte (take (feed_outcome next bytes).taken bytes) _ turned ∙ later.left);
  none_before = λ k below. none_before-later rest next byte bytes (feed_outcome next bytes).taken k turned
      later.none_before below;
  all = λ h. omega (arith, later.all h);
}

pub takes_front : (rest : Rest) (piece : List ℕ) → TakesFront rest piece (feed_outcome rest piece)
takes_front rest [] =
    record {
      within = omega arith;
      some = λ h. h;
      frames = refl;
      left = refl;
      none_before = λ k below. absurd (omega arith);
      all = λ h. refl;
    }
takes_front rest (byte ∷ bytes) =
    one_more rest (rest_step rest byte).rest (rest_step rest byte).frame byte bytes refl
    (takes_front (rest_step rest byte).rest bytes)

-- cut where it was taken, a piece gives its first frame and then those of what is left
pub goes_on : (rest : Rest) (piece : List ℕ)
    → GoesOn rest piece (feed_outcome rest piece).taken (feed_outcome rest piece).frame (feed_outcome rest piece).rest
goes_on rest piece =
    let f = feed_outcome rest piece in
    let front = takes_front rest piece in
    let whole = take-append-drop f.taken piece in
    record {
      within = front.within;
      some = front.some;
      frames = ap (frames_after rest) (sym whole)
          ∙ (frames_after-append rest (take f.taken piece) (drop f.taken piece)
          ∙ (ap (λ l. l ++ frames_after (rest_after rest (take f.taken piece)) (drop f.taken piece)) front.frames
          ∙ ap (λ r. frame_list f.frame ++ frames_after r (drop f.taken piece)) front.left));
      left = ap (rest_after rest) (sym whole)
          ∙ (rest_after-append rest (take f.taken piece) (drop f.taken piece)
          ∙ ap (λ r. rest_after r (drop f.taken piece)) front.left);
    }

pub taken_all : (rest : Rest) (piece : List ℕ) → (feed_outcome rest piece).frame ≡ None
    → ((feed_outcome rest piece).taken ≡ length piece) × ((feed_outcome rest piece).rest ≡ rest_after rest piece)
    × (frames_after rest piece ≡ [])
taken_all rest piece none =
    let front = takes_front rest piece in
    let whole : take (feed_outcome rest piece).taken piece ≡ piece =
    take_all (feed_outcome rest piece).taken piece (omega (arith, front.all none)) in (
      front.all none,
      sym front.left ∙ ap (rest_after rest) whole,
      ap (frames_after rest) (sym whole)
          ∙ (front.frames ∙ ap frame_list none),
    )

-- a piece after one in which no frame ends
on_one_more : (frame : Option Received) (next : Rest) (first whole : Fed) (n : ℕ) (later : Rest → Fed)
    → (first.frame ≡ None → whole ≡ ahead n (later first.rest))
    → (stop_or (record { frame = frame; rest = next }) first).frame ≡ None
    → stop_or (record { frame = frame; rest = next }) whole ≡ ahead (suc n)
    (later (stop_or (record { frame = frame; rest = next }) first).rest)
on_one_more (Some frame) next first whole n later more none = cc
on_one_more None next first whole n later more none =
    let sum : 1 + (n + (later first.rest).taken) ≡ suc n + (later first.rest).taken = omega arith in
    ap (ahead 1) (more none) ∙ ap (λ (k : ℕ). record (later first.rest) { taken = k }) sum

pub fed-append_none : (rest : Rest) (front back : List ℕ) → (feed_outcome rest front).frame ≡ None
    → feed_outcome rest (front ++ back) ≡ ahead (length front) (feed_outcome (feed_outcome rest front).rest back)
fed-append_none rest [] back none = ap (λ (k : ℕ). record (feed_outcome rest back) { taken = k })
    (sym (zero-add (feed_outcome rest back).taken))
fed-append_none rest (byte ∷ front) back none =
    let next = (rest_step rest byte).rest in
    on_one_more (rest_step rest byte).frame next (feed_outcome next front) (feed_outcome next (front ++ back))
    (length front) (λ r. feed_outcome r back)
    (fed-append_none next front back) none

-- and after one in which one ends
ended_one_more : (ended : Option Received) (next : Rest) (first whole : Fed) (frame : Received)
    → (first.frame ≡ Some frame → whole ≡ first)
    → (stop_or (record { frame = ended; rest = next }) first).frame ≡ Some frame
    → stop_or (record { frame = ended; rest = next }) whole ≡ stop_or (record { frame = ended; rest = next }) first
ended_one_more (Some ended) next first whole frame more some = refl
ended_one_more None next first whole frame more some = ap (ahead 1) (more some)

pub fed-append_some : (rest : Rest) (front back : List ℕ) (frame : Received)
    → (feed_outcome rest front).frame ≡ Some frame
    → feed_outcome rest (front ++ back) ≡ feed_outcome rest front
fed-append_some rest [] back frame some = cc
fed-append_some rest (byte ∷ front) back frame some =
    let next = (rest_step rest byte).rest in
    ended_one_more (rest_step rest byte).frame next (feed_outcome next front) (feed_outcome next (front ++ back)) frame
    (fed-append_some next front back frame) some

-- the grammar and the functions say the same

pub one_splitting : (bytes : List ℕ) (units : List LineUnit) (partial : Partial) → Splits bytes units partial
    → run nothing bytes ≡ record { units = units; partial = partial }
one_splitting bytes units partial splits =
    ap (run nothing) splits.whole ∙ run-split units partial splits.each splits.partial

pub a_splitting : (bytes : List ℕ) → Splits bytes (run nothing bytes).units (run nothing bytes).partial
a_splitting bytes =
    let read = runs_as nothing bytes tt in
    record { whole = read.whole; each = read.each; partial = read.is_partial }

pub reads_frames : (bytes : List ℕ) (frames : List Received) (rest : Rest) → Reads bytes frames rest
    → frames ≡ frames_after Nothing bytes
reads_frames bytes frames rest reads =
    reads.frames_are ∙ (ap (λ r. frames_of r.units) (sym (one_splitting bytes reads.units reads.partial reads.splits))
    ∙ sym (runs_as nothing bytes tt).frames)

pub reads_rest : (bytes : List ℕ) (frames : List Received) (rest : Rest) → Reads bytes frames rest
    → rest ≡ rest_after Nothing bytes
reads_rest bytes frames rest reads =
    reads.rest_is ∙ (ap (λ r. rest_of r.partial) (sym (one_splitting bytes reads.units reads.partial reads.splits))
    ∙ sym (runs_as nothing bytes tt).rest)

pub reads_from : (bytes : List ℕ) → Reads bytes (frames_after Nothing bytes) (rest_after Nothing bytes)
reads_from bytes = record {
  units = (run nothing bytes).units;
  partial = (run nothing bytes).partial;
  splits = a_splitting bytes;
  frames_are = (runs_as nothing bytes tt).frames;
  rest_is = (runs_as nothing bytes tt).rest;
}

-- what more bytes add
pub reads_more : (seen : List ℕ) (frames : List Received) (rest : Rest) (more : List ℕ) → Reads seen frames rest
    → Reads (seen ++ more) (frames ++ frames_after rest more) (rest_after rest more)
reads_more seen frames rest more reads =
    let frames_are = reads_frames seen frames rest reads in
    let rest_is = reads_rest seen frames rest reads in
    let frames_then : frames_after Nothing (seen ++ more) ≡ frames ++ frames_after rest more =
    frames_after-append Nothing seen more
    ∙ (ap (λ l. l ++ frames_after (rest_after Nothing seen) more) (sym frames_are)
    ∙ ap (λ r. frames ++ frames_after r more) (sym rest_is)) in
    let rest_then : rest_after Nothing (seen ++ more) ≡ rest_after rest more =
    rest_after-append Nothing seen more ∙ ap (λ r. rest_after r more) (sym rest_is) in
    subst (λ (r : Rest). Reads (seen ++ more) (frames ++ frames_after rest more) r) rest_then
    (subst (λ (l : List Received). Reads (seen ++ more) l (rest_after Nothing (seen ++ more))) frames_then
    (reads_from (seen ++ more)))

pub takes_first : (seen : List ℕ) (frames : List Received) (rest : Rest) (piece : List ℕ) → Reads seen frames rest
    → TakesFirst seen frames piece (feed_outcome rest piece).taken (feed_outcome rest piece).frame
    (feed_outcome rest piece).rest
takes_first seen frames rest piece reads =
    let f = feed_outcome rest piece in
    let front = takes_front rest piece in
    record {
      within = front.within;
      through = subst (λ (r : Rest). Reads (seen ++ take f.taken piece) (frames ++ frame_list f.frame) r) front.left
          (subst (λ (l : List Received). Reads (seen ++ take f.taken piece) (frames ++ l)
          (rest_after rest (take f.taken piece))) front.frames
          (reads_more seen frames rest (take f.taken piece) reads));
      none_before = λ k below. (
        rest_after rest (take k piece),
        subst (λ (l : List Received). Reads (seen ++ take k piece) l (rest_after rest (take k piece)))
            (ap (λ l. frames ++ l) (front.none_before k below) ∙ append-nil frames)
            (reads_more seen frames rest (take k piece) reads),
      );
      all = front.all;
    }

-- what callers of `feed` learn beside the number, the frame and the rest themselves
pub record Feeds (rest : Rest) (piece : List ℕ) (taken : ℕ) (frame : Option Received) : Type 0 where
  pub first : (seen : List ℕ) (frames : List Received) → Reads seen frames rest
      → TakesFirst seen frames piece taken frame (feed_outcome rest piece).rest
  pub goes_on : GoesOn rest piece taken frame (feed_outcome rest piece).rest

pub feeds : (rest : Rest) (piece : List ℕ) (taken : ℕ) (frame : Option Received)
    → taken ≡ (feed_outcome rest piece).taken
    → frame ≡ (feed_outcome rest piece).frame → Feeds rest piece taken frame
feeds rest piece taken frame taken_is frame_is =
    subst (λ (n : ℕ). Feeds rest piece n frame) (sym taken_is)
    (subst (λ (f : Option Received). Feeds rest piece (feed_outcome rest piece).taken f) (sym frame_is)
    (record { first = λ seen frames reads. takes_first seen frames rest piece reads; goes_on = goes_on rest piece }))

-- what is one frame to the turns is one frame to the grammar
pub reads_one : (bytes : List ℕ) (frame : Received)
    → feed_outcome Nothing bytes ≡ record { taken = length bytes; frame = Some frame; rest = Nothing }
    → Reads bytes (frame ∷ []) Nothing
reads_one bytes frame is =
    let first = takes_first [] [] Nothing bytes (reads_from []) in
    let whole : take (length bytes) bytes ≡ bytes = take_all (length bytes) bytes (omega arith) in
    subst (λ (l : List ℕ). Reads l (frame ∷ []) Nothing) whole
    (subst (λ (f : Fed). Reads (take f.taken bytes) (frame_list f.frame) f.rest) is first.through)
