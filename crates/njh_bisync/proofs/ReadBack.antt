-- What was written is read back.
use Rattle.std.proofs.Common.{◌≡◌, ℕ, ◌+◌, ◌<◌, ◌≤◌, ◌==◌, List, [], ◌∷◌, ◌++◌, length, Bool, true, false}
use Rattle.std.proofs.Common.{if◌then◌else◌, refl, ap, sym, ◌∙◌, arith, append_assoc, append-nil, length-append}
use Rattle.std.specs.Prelude.{flat_map, Option, Some}
use Rattle.std.proofs.lemmas.Bool.{eqb-true, lt-ltb}
use Rattle.njh_bisync.specs.Limits.{longest_text}
use Rattle.njh_bisync.specs.Frames.{Text}
use Rattle.njh_bisync.specs.Reading.{Nothing, InText, Reads}
use Rattle.njh_bisync.specs.ByteSteps.{rest_step, Fed, ahead, feed_outcome, kept_with}
use Rattle.njh_bisync.specs.Written.{bytes_of_data, text_bytes, control_bytes, control_frame}
use Rattle.njh_bisync.specs.declared.frame.Control.{Control}
use Rattle.njh_bisync.specs.declared.frame.Control.TheVariants.{Enquiry, Ack0, Nak}
use Rattle.njh_bisync.proofs.FedLaws.{reads_one}

room-kept_with : (held : List ℕ) (byte : ℕ) → length held < longest_text
    → kept_with (Some held) byte ≡ Some (held ++ byte ∷ [])
room-kept_with held byte room = rw (lt-ltb (length held) longest_text room)

ahead-ahead : (f : Fed) → ahead 1 (ahead 1 f) ≡ ahead 2 f
ahead-ahead f =
    let e : 1 + (1 + f.taken) ≡ 2 + f.taken = omega arith in
    ap (λ (n : ℕ). record f { taken = n }) e

-- one byte of data, as it is written
data_byte-fed : (held : List ℕ) (byte : ℕ) (same : Bool) (more : List ℕ) → (byte == 0x10) ≡ same
    → length held < longest_text
    → feed_outcome (InText (Some held) false) ((if same then 0x10 ∷ 0x10 ∷ [] else byte ∷ []) ++ more)
    ≡ ahead (length (if same then 0x10 ∷ 0x10 ∷ [] else byte ∷ []))
    (feed_outcome (InText (Some (held ++ byte ∷ [])) false) more)
unfolding rest_step
data_byte-fed held byte true more is room =
    ahead-ahead (feed_outcome (InText (kept_with (Some held) 0x10) false) more)
    ∙ (ap (λ (h : Option (List ℕ)). ahead 2 (feed_outcome (InText h false) more)) (room-kept_with held 0x10 room)
    ∙ ap (λ b. ahead 2 (feed_outcome (InText (Some (held ++ b ∷ [])) false) more)) (sym (eqb-true byte 0x10 is)))
data_byte-fed held byte false more is room = rw (is, lt-ltb (length held) longest_text room)

-- a text that ended so many bytes ahead
abbrev told : ℕ → List ℕ → Fed
told n held = record { taken = n; frame = Some (Text held); rest = Nothing }

read_data : (done held more : List ℕ) → length done + length held ≤ longest_text
    → feed_outcome (InText (Some done) false) (flat_map bytes_of_data held ++ (0x10 ∷ 0x26 ∷ more)) ≡ told
    (length (flat_map bytes_of_data held) + 2) (done ++ held)
unfolding rest_step
read_data done [] more room = ap (told 2) (sym (append-nil done))
read_data done (byte ∷ held) more room =
    let rest = flat_map bytes_of_data held ++ (0x10 ∷ 0x26 ∷ more) in
    let longer : length (done ++ byte ∷ []) + length held ≤ longest_text =
    omega (arith, length-append done (byte ∷ [])) in
    let added : length (bytes_of_data byte) + (length (flat_map bytes_of_data held) + 2) ≡ length
    (bytes_of_data byte ++ flat_map bytes_of_data held) + 2 =
    omega (arith, length-append (bytes_of_data byte) (flat_map bytes_of_data held)) in
    ap (feed_outcome (InText (Some done) false))
    (append_assoc (bytes_of_data byte) (flat_map bytes_of_data held) (0x10 ∷ 0x26 ∷ more))
    ∙ (data_byte-fed done byte (byte == 0x10) rest refl (omega arith)
    ∙ (ap (ahead (length (bytes_of_data byte))) (read_data (done ++ byte ∷ []) held more longer)
    ∙ (ap (λ n. told n ((done ++ byte ∷ []) ++ held)) added
    ∙ ap (told (length (bytes_of_data byte ++ flat_map bytes_of_data held) + 2)) (append_assoc done (byte ∷ []) held))))

pub text_read_back : (held more : List ℕ) → length held ≤ longest_text
    → feed_outcome Nothing (text_bytes held ++ more)
    ≡ record { taken = length (text_bytes held); frame = Some (Text held); rest = Nothing }
unfolding rest_step text_bytes
text_read_back held more room =
    let long : 1 + (1 + (length (flat_map bytes_of_data held) + 2)) ≡ length
    (0x10 ∷ 0x02 ∷ flat_map bytes_of_data held ++ 0x10 ∷ 0x26 ∷ []) =
    omega (arith, length-append (flat_map bytes_of_data held) (0x10 ∷ 0x26 ∷ [])) in
    ap (λ bytes. ahead 1 (ahead 1 (feed_outcome (InText (Some []) false) bytes)))
    (append_assoc (flat_map bytes_of_data held) (0x10 ∷ 0x26 ∷ []) more)
    ∙ (ap (λ f. ahead 1 (ahead 1 f)) (read_data [] held more (omega arith))
    ∙ ap (λ n. told n held) long)

pub text_reads : (held : List ℕ) → length held ≤ longest_text → Reads (text_bytes held) (Text held ∷ []) Nothing
text_reads held room =
    reads_one (text_bytes held) (Text held)
    (ap (feed_outcome Nothing) (sym (append-nil (text_bytes held))) ∙ text_read_back held [] room)

pub control_read_back : (control : Control) (more : List ℕ)
    → feed_outcome Nothing (control_bytes control ++ more)
    ≡ record { taken = length (control_bytes control); frame = Some (control_frame control); rest = Nothing }
unfolding rest_step
control_read_back Enquiry more = refl
control_read_back Ack0 more = refl
control_read_back Nak more = refl

pub control_reads : (control : Control) → Reads (control_bytes control) (control_frame control ∷ []) Nothing
control_reads control =
    reads_one (control_bytes control) (control_frame control)
    (ap (feed_outcome Nothing) (sym (append-nil (control_bytes control))) ∙ control_read_back control [])
