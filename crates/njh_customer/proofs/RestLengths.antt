-- What has come of a line's next frame is of no more than a text may have.
use Rattle.njh_customer.proofs.Words
use Words.{ℕ, zero, suc, nat_lt, Bool, true, false, List, [], length, map, set, Option, Some, None, Ok, Err, refl}
use Words.{arith, length-append, inl, inr, subst, sym, ltb-true, RestStep, on_to, ends, kept_with, IsShort}
use Words.{text_or_spoiled, longest_text, Rest, Nothing, AfterSoh, AfterDle, InText, LineEntry, routes_checked}
use Words.{Customer, byte_step, bytes_run, Taking, or_later, take_step, IsShortText, IsShortRest, OpenedHasShortRests}
use Words.{EventsKeepShortRests, TakesKeepShortRests, taken_where, rest_at, rest_on, OwnBytes, OwnSignal, OwnRoutes}
use Words.{OwnOrder}
use Rattle.{std.proofs.Common.{◌≡◌, ◌==◌, if◌then◌else◌, ◌∷◌, ◌++◌}, njh_bisync.specs.ByteSteps.rest_step}
use Rattle.{njh_bisync.specs.Frames.Received, njh_customer.proofs.FileListLaws.{set_one}}
use Rattle.njh_bisync.specs.Frames as frame

-- ---- a byte

abbrev pub IsShortFrame : Option Received → Type 0
IsShortFrame None = Unit {0}
IsShortFrame (Some received) = IsShort received

abbrev pub IsShortStep : RestStep → Type 0
IsShortStep t = IsShortRest t.rest × IsShortFrame t.frame

either_step : (b : Bool) (x y : RestStep) → IsShortStep x → IsShortStep y → IsShortStep (if b then x else y)
either_step true x y first second = first
either_step false x y first second = second

kept_short : (held : Option (List ℕ)) (byte : ℕ) → IsShortText held → IsShortText (kept_with held byte)
kept_short None byte short = tt
kept_short (Some held) byte short = at_room (nat_lt (length held) longest_text) refl
  where
    at_room : (b : Bool) → nat_lt (length held) longest_text ≡ b
        → IsShortText (if b then Some (held ++ byte ∷ []) else None)
    at_room true e = omega (arith, ltb-true (length held) longest_text e, length-append held (byte ∷ []))
    at_room false e = tt

read_short : (held : Option (List ℕ)) → IsShortText held → IsShort (text_or_spoiled held)
read_short None short = tt
read_short (Some held) short = short

pub step_short : (rest : Rest) (byte : ℕ) → IsShortRest rest → IsShortStep (rest_step rest byte)
unfolding rest_step
step_short Nothing byte short =
    let eot = if byte == 0x37 then ends frame.Eot else on_to Nothing in
    let nak = if byte == 0x3D then ends frame.Nak else eot in
    let dle = if byte == 0x10 then on_to AfterDle else nak in
    either_step (byte == 0x01) (on_to AfterSoh) dle (tt, tt) (either_step (byte == 0x10) (on_to AfterDle) nak (tt, tt)
    (either_step (byte == 0x3D) (ends frame.Nak) eot (tt, tt)
    (either_step (byte == 0x37) (ends frame.Eot) (on_to Nothing) (tt, tt) (tt, tt))))
step_short AfterSoh byte short = either_step (byte == 0x2D) (ends frame.Enquiry) (on_to Nothing) (tt, tt) (tt, tt)
step_short AfterDle byte short =
    let begun = if byte == 0x02 then on_to (InText (Some []) false) else on_to Nothing in
    either_step (byte == 0x70) (ends frame.Ack0) begun (tt, tt)
    (either_step (byte == 0x02) (on_to (InText (Some []) false)) (on_to Nothing) (omega arith, tt) (tt, tt))
step_short (InText held false) byte short =
    either_step (byte == 0x10) (on_to (InText held true)) (on_to (InText (kept_with held byte) false)) (short, tt)
    (kept_short held byte short, tt)
step_short (InText held true) byte short =
    let text = ends (text_or_spoiled held) in
    let stray = if byte == 0x2D then ends frame.Spoiled else on_to (InText None false) in
    let etx = if byte == 0x03 then text else stray in
    let etb = if byte == 0x26 then text else etx in
    let fill = if byte == 0x32 then on_to (InText held false) else etb in
    either_step (byte == 0x10) (on_to (InText (kept_with held 0x10) false)) fill (kept_short held 0x10 short, tt)
    (either_step (byte == 0x32) (on_to (InText held false)) etb (short, tt)
    (either_step (byte == 0x26) text etx (tt, read_short held short)
    (either_step (byte == 0x03) text stray (tt, read_short held short)
    (either_step (byte == 0x2D) (ends frame.Spoiled) (on_to (InText None false)) (tt, tt) (tt, tt)))))

-- ---- bytes

run_short : (rest : Rest) (c : Customer) (l : ℕ) (bytes : List ℕ) → IsShortRest rest
    → IsShortRest (bytes_run rest c l bytes).rest
run_short rest c l [] short = short
run_short rest c l (byte ∷ bytes) short =
    let x = byte_step rest c l byte in run_short x.rest x.after l bytes (step_short rest byte short).0

later_short : (n : ℕ) (rest : Rest) (after : Customer) (sent : List ℕ) (later : Taking) → IsShortRest rest
    → IsShortRest later.rest → IsShortRest (or_later n rest (record { after = after; frame = sent }) later).rest
later_short n rest after [] later short short_later = short_later
later_short n rest after (b ∷ sent) later short short_later = short

take_short : (rest : Rest) (c : Customer) (l : ℕ) (piece : List ℕ) → IsShortRest rest
    → IsShortRest (take_step rest c l piece).rest
take_short rest c l [] short = short
take_short rest c l (byte ∷ bytes) short =
    let x = byte_step rest c l byte in
    let next = (step_short rest byte short).0 in
    later_short 1 x.rest x.after x.frame (take_step x.rest x.after l bytes) next
    (take_short x.rest x.after l bytes next)

-- ---- all lines

set_short : (rests : List Rest) (l m : ℕ) (rest : Rest) → IsShortRest rest → IsShortRest (rest_at m rests)
    → IsShortRest (rest_at m (set rests l rest))
set_short rests l m rest short there = elim (set_one rests l m rest Nothing) [
  | inl same ↦ subst IsShortRest (sym same) there
  | inr it ↦ subst IsShortRest (sym it.1) short
]

nothing_short : (lines : List LineEntry) (m : ℕ) → IsShortRest (rest_at m (map (λ line. Nothing) lines))
nothing_short [] m = tt
nothing_short (line ∷ lines) zero = tt
nothing_short (line ∷ lines) (suc m) = nothing_short lines m

pub opened_short : OpenedHasShortRests
opened_short entry m = nothing_short entry.lines m

pub takes_short : TakesKeepShortRests
takes_short p l piece short m =
    let t = take_step (rest_on l p) p.customer l piece in
    set_short p.rests l m t.rest (take_short (rest_on l p) p.customer l piece (short l)) (short m)

pub events_short : EventsKeepShortRests
events_short p (OwnBytes l piece) short m =
    let r = bytes_run (rest_on l p) p.customer l piece in
    set_short p.rests l m r.rest (run_short (rest_on l p) p.customer l piece (short l)) (short m)
events_short p (OwnSignal signal l) short m = set_short p.rests l m Nothing tt (short m)
events_short p (OwnRoutes routes) short m =
    elim (routes_checked p.customer.entry routes) as (λ w. IsShortRest (rest_at m (taken_where w routes p).rests))
    [ Ok faultless ↦ short m | Err fault ↦ short m ]
events_short p (OwnOrder order) short m = short m
