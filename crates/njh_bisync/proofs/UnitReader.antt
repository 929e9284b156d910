-- A reader of units, one byte after another: what it has read is the one splitting of the bytes.
use Rattle.std.proofs.Common.{◌≡◌, ◌≢◌, ℕ, ◌==◌, List, [], ◌∷◌, ◌++◌, Bool, true, false, if◌then◌else◌, refl, ap, sym}
use Rattle.std.proofs.Common.{◌∙◌, append_assoc, append-nil}
use Rattle.std.specs.Prelude.{flat_map, Option, Some, None}
use Rattle.std.specs.List.{AllByRecursion, cons_option}
use Rattle.std.specs.Option.{option_to_list, option_and_then}
use Rattle.std.proofs.lemmas.Bool.{eqb-true, eqb-false, ne_eqb}
use Rattle.std.proofs.lemmas.List.Concat.{flat_map-append}
use Rattle.njh_bisync.specs.Frames.{Inner, plain, doubled, fill, stray, bytes_of_inner, IsInner, End, etb, etx, enq}
use Rattle.njh_bisync.specs.Frames.{bytes_of_end, LineUnit, enquiry, ack0, nak, eot, text, after_soh, after_dle, single}
use Rattle.njh_bisync.specs.Frames.{bytes_of_unit, IsUnit, data_so_far, frame_of, frames_of, Received, Partial, nothing}
use Rattle.njh_bisync.specs.Frames.{soh, dle, unended, bytes_of_partial, IsPartial}
use Rattle.njh_bisync.specs.Reading.{InText, rest_of}
use Rattle.njh_bisync.specs.ByteSteps.{RestStep, on_to, ends, rest_step, frames_after, rest_after}
use Rattle.njh_bisync.proofs.KeptLaws.{kept-none, kept-plain, kept-doubled, kept-fill, kept-stray}

-- the unit that a byte ends, or none, and the rest then
pub record Step : Type 0 where
  pub unit : Option LineUnit
  pub partial : Partial

abbrev pub goes_on : Partial → Step
goes_on partial = record { unit = None; partial = partial }

abbrev pub whole_unit : LineUnit → Step
whole_unit unit = record { unit = Some unit; partial = nothing }

abbrev pub step : Partial → ℕ → Step
step nothing byte =
    if byte == 0x01 then goes_on soh else
    if byte == 0x10 then goes_on dle else
    if byte == 0x3D then whole_unit nak else
    if byte == 0x37 then whole_unit eot else whole_unit (single byte)
step soh byte = if byte == 0x2D then whole_unit enquiry else whole_unit (after_soh byte)
step dle byte =
    if byte == 0x70 then whole_unit ack0 else
    if byte == 0x02 then goes_on (unended [] false) else whole_unit (after_dle byte)
step (unended inners false) byte =
    if byte == 0x10 then goes_on (unended inners true) else goes_on (unended (inners ++ plain byte ∷ []) false)
step (unended inners true) byte =
    if byte == 0x10 then goes_on (unended (inners ++ doubled ∷ []) false) else
    if byte == 0x32 then goes_on (unended (inners ++ fill ∷ []) false) else
    if byte == 0x26 then whole_unit (text inners etb) else
    if byte == 0x03 then whole_unit (text inners etx) else
    if byte == 0x2D then whole_unit (text inners enq) else goes_on (unended (inners ++ stray byte ∷ []) false)

-- A step keeps the bytes, reads what the grammar allows, and agrees with the turn of the rest.
pub record Agrees (partial : Partial) (byte : ℕ) (turned : RestStep) (stepped : Step) : Type 0 where
  pub bytes : bytes_of_partial partial ++ byte ∷ [] ≡ flat_map bytes_of_unit
      (option_to_list stepped.unit) ++ bytes_of_partial stepped.partial
  pub each : AllByRecursion IsUnit (option_to_list stepped.unit)
  pub is_partial : IsPartial stepped.partial
  pub frame : turned.frame ≡ option_and_then frame_of stepped.unit
  pub rest : turned.rest ≡ rest_of stepped.partial

-- a test of the byte, for both
tested_at : (partial : Partial) (byte value : ℕ) (t t' : RestStep) (s s' : Step) (test : Bool) → (byte == value) ≡ test
    → (byte ≡ value → Agrees partial byte t s) → (byte ≢ value → Agrees partial byte t' s')
    → Agrees partial byte (if test then t else t') (if test then s else s')
tested_at partial byte value t t' s s' true is same other = same (eqb-true byte value is)
tested_at partial byte value t t' s s' false is same other = other (eqb-false byte value is)

tested : (partial : Partial) (byte value : ℕ) (t t' : RestStep) (s s' : Step)
    → (byte ≡ value → Agrees partial byte t s) → (byte ≢ value → Agrees partial byte t' s')
    → Agrees partial byte (if byte == value then t else t') (if byte == value then s else s')
tested partial byte value t t' s s' same other = tested_at partial byte value t t' s s' (byte == value) refl same other

each-push : (inners : List Inner) (inner : Inner) → AllByRecursion IsInner inners → IsInner inner
    → AllByRecursion IsInner (inners ++ inner ∷ [])
each-push [] inner each is = (is, tt)
each-push (first ∷ inners) inner each is = (each.0, each-push inners inner each.1 is)

-- an open 10 and the byte after it are an inner unit
bytes-dangling : (inners : List Inner) (inner : Inner) (byte : ℕ) → 0x10 ∷ byte ∷ [] ≡ bytes_of_inner inner
    → (flat_map bytes_of_inner inners ++ 0x10 ∷ []) ++ byte ∷ [] ≡ flat_map bytes_of_inner (inners ++ inner ∷ [])
bytes-dangling inners inner byte is =
    append_assoc (flat_map bytes_of_inner inners) (0x10 ∷ []) (byte ∷ [])
    ∙ (ap (λ bytes. flat_map bytes_of_inner inners ++ bytes) (is ∙ sym (append-nil _))
    ∙ sym (flat_map-append bytes_of_inner inners (inner ∷ [])))

-- an open 10 and the byte after it are an end
bytes-ended : (inners : List Inner) (end : End) (byte : ℕ) → 0x10 ∷ byte ∷ [] ≡ bytes_of_end end
    → (flat_map bytes_of_inner inners ++ 0x10 ∷ []) ++ byte ∷ []
    ≡ ((flat_map bytes_of_inner inners ++ bytes_of_end end) ++ []) ++ []
bytes-ended inners end byte is =
    append_assoc (flat_map bytes_of_inner inners) (0x10 ∷ []) (byte ∷ [])
    ∙ (ap (λ bytes. flat_map bytes_of_inner inners ++ bytes) is ∙ (sym (append-nil _) ∙ sym (append-nil _)))

-- an open 10 and the byte after it go on with the text
inside : (inners : List Inner) (inner : Inner) (byte : ℕ) (held : Option (List ℕ)) → AllByRecursion IsInner inners
    → IsInner inner
    → 0x10 ∷ byte ∷ [] ≡ bytes_of_inner inner → InText held false ≡ InText (data_so_far (inners ++ inner ∷ [])) false
    → Agrees (unended inners true) byte (on_to (InText held false)) (goes_on (unended (inners ++ inner ∷ []) false))
inside inners inner byte held each is bytes rest = record {
  bytes = ap (λ more. 0x10 ∷ 0x02 ∷ more) (bytes-dangling inners inner byte bytes);
  each = tt;
  is_partial = each-push inners inner each is;
  frame = refl;
  rest = rest;
}

-- they end it
ended : (inners : List Inner) (end : End) (byte : ℕ) (frame : Received) → AllByRecursion IsInner inners
    → 0x10 ∷ byte ∷ [] ≡ bytes_of_end end → Some frame ≡ frame_of (text inners end)
    → Agrees (unended inners true) byte (ends frame) (whole_unit (text inners end))
ended inners end byte frame each bytes is = record {
  bytes = ap (λ more. 0x10 ∷ 0x02 ∷ more) (bytes-ended inners end byte bytes);
  each = (each, tt);
  is_partial = tt;
  frame = is;
  rest = refl;
}

pub agrees : (partial : Partial) (byte : ℕ) → IsPartial partial
    → Agrees partial byte (rest_step (rest_of partial) byte) (step partial byte)
unfolding rest_step
agrees nothing byte is =
    tested nothing byte 0x01 _ _ _ _
    (λ e. record { bytes = ap (λ b. b ∷ []) e; each = tt; is_partial = tt; frame = refl; rest = refl }) (λ not_soh.
    tested nothing byte 0x10 _ _ _ _
    (λ e. record { bytes = ap (λ b. b ∷ []) e; each = tt; is_partial = tt; frame = refl; rest = refl }) (λ not_dle.
    tested nothing byte 0x3D _ _ _ _
    (λ e. record { bytes = ap (λ b. b ∷ []) e; each = (tt, tt); is_partial = tt; frame = refl; rest = refl })
    (λ not_nak.
    tested nothing byte 0x37 _ _ _ _
    (λ e. record { bytes = ap (λ b. b ∷ []) e; each = (tt, tt); is_partial = tt; frame = refl; rest = refl })
    (λ not_eot.
    record {
      bytes = refl;
      each = ((not_soh, not_dle, not_nak, not_eot), tt);
      is_partial = tt;
      frame = refl;
      rest = refl;
    }))))
agrees soh byte is =
    tested soh byte 0x2D _ _ _ _
    (λ e. record { bytes = ap (λ b. 0x01 ∷ b ∷ []) e; each = (tt, tt); is_partial = tt; frame = refl; rest = refl })
    (λ not_enq.
    record { bytes = refl; each = (not_enq, tt); is_partial = tt; frame = refl; rest = refl })
agrees dle byte is =
    tested dle byte 0x70 _ _ _ _
    (λ e. record { bytes = ap (λ b. 0x10 ∷ b ∷ []) e; each = (tt, tt); is_partial = tt; frame = refl; rest = refl })
    (λ not_ack.
    tested dle byte 0x02 _ _ _ _
    (λ e. record { bytes = ap (λ b. 0x10 ∷ b ∷ []) e; each = tt; is_partial = tt; frame = refl; rest = kept-none })
    (λ not_stx.
    record { bytes = refl; each = ((not_ack, not_stx), tt); is_partial = tt; frame = refl; rest = refl }))
agrees (unended inners false) byte is =
    tested (unended inners false) byte 0x10 _ _ _ _
    (λ e. record {
      bytes = ap (λ b. 0x10 ∷ 0x02 ∷ flat_map bytes_of_inner inners ++ b ∷ []) e;
      each = tt;
      is_partial = is;
      frame = refl;
      rest = refl;
    }) (λ not_dle.
    record {
      bytes = ap (λ more. 0x10 ∷ 0x02 ∷ more) (sym (flat_map-append bytes_of_inner inners (plain byte ∷ [])));
      each = tt;
      is_partial = each-push inners (plain byte) is not_dle;
      frame = refl;
      rest = ap (λ held. InText held false) (sym (kept-plain inners byte));
    })
agrees (unended inners true) byte is =
    let P = unended inners true in
    tested P byte 0x10 _ _ _ _
    (λ e. inside inners doubled byte _ is tt (ap (λ b. 0x10 ∷ b ∷ []) e)
    (ap (λ held. InText held false) (sym (kept-doubled inners)))) (λ not_dle.
    tested P byte 0x32 _ _ _ _
    (λ e. inside inners fill byte _ is tt (ap (λ b. 0x10 ∷ b ∷ []) e)
    (ap (λ held. InText held false) (sym (kept-fill inners)))) (λ not_syn.
    tested P byte 0x26 _ _ _ _ (λ e. ended inners etb byte _ is (ap (λ b. 0x10 ∷ b ∷ []) e) refl) (λ not_etb.
    tested P byte 0x03 _ _ _ _ (λ e. ended inners etx byte _ is (ap (λ b. 0x10 ∷ b ∷ []) e) refl) (λ not_etx.
    tested P byte 0x2D _ _ _ _ (λ e. ended inners enq byte _ is (ap (λ b. 0x10 ∷ b ∷ []) e) refl) (λ not_enq.
    inside inners (stray byte) byte _ is (not_dle, not_syn, not_etb, not_etx, not_enq) refl
    (ap (λ held. InText held false) (sym (kept-stray inners byte))))))))

-- what bytes after a rest read as: the units that end in them, and the rest then
pub record Run : Type 0 where
  pub units : List LineUnit
  pub partial : Partial

abbrev pub after_unit : Option LineUnit → Run → Run
after_unit unit run = record run { units = cons_option unit run.units }

abbrev pub run : Partial → List ℕ → Run
run partial [] = record { units = []; partial = partial }
run partial (byte ∷ bytes) = after_unit (step partial byte).unit (run (step partial byte).partial bytes)

-- A run keeps the bytes, reads what the grammar allows, and agrees with the turns of the rest.
pub record RunsAs (partial : Partial) (bytes : List ℕ) (r : Run) : Type 0 where
  pub whole : bytes_of_partial partial ++ bytes ≡ flat_map bytes_of_unit r.units ++ bytes_of_partial r.partial
  pub each : AllByRecursion IsUnit r.units
  pub is_partial : IsPartial r.partial
  pub frames : frames_after (rest_of partial) bytes ≡ frames_of r.units
  pub rest : rest_after (rest_of partial) bytes ≡ rest_of r.partial

-- what a byte makes of a front, and what the bytes after it make of that
joined : (front next read read_later last : List ℕ) (byte : ℕ) (bytes : List ℕ) → front ++ byte ∷ [] ≡ read ++ next
    → next ++ bytes ≡ read_later ++ last
    → front ++ byte ∷ bytes ≡ (read ++ read_later) ++ last
joined front next read read_later last byte bytes one more =
    sym (append_assoc front (byte ∷ []) bytes)
    ∙ (ap (λ l. l ++ bytes) one ∙ (append_assoc read next bytes
    ∙ (ap (λ l. read ++ l) more ∙ sym (append_assoc read read_later last))))

-- one more unit, or none, before the units of a run
whole-after : (unit : Option LineUnit) (partial next : Partial) (byte : ℕ) (bytes : List ℕ) (r : Run)
    → bytes_of_partial partial ++ byte ∷ [] ≡ flat_map bytes_of_unit (option_to_list unit) ++ bytes_of_partial next
    → bytes_of_partial next ++ bytes ≡ flat_map bytes_of_unit r.units ++ bytes_of_partial r.partial
    → bytes_of_partial partial ++ byte ∷ bytes ≡ flat_map bytes_of_unit (cons_option unit r.units) ++ bytes_of_partial
    r.partial
whole-after None partial next byte bytes r one more =
    joined (bytes_of_partial partial) (bytes_of_partial next) [] (flat_map bytes_of_unit r.units)
    (bytes_of_partial r.partial) byte bytes one more
whole-after (Some unit) partial next byte bytes r one more =
    joined (bytes_of_partial partial) (bytes_of_partial next) (bytes_of_unit unit) (flat_map bytes_of_unit r.units)
    (bytes_of_partial r.partial) byte bytes
    (one ∙ ap (λ l. l ++ bytes_of_partial next) (append-nil (bytes_of_unit unit))) more

each-after : (unit : Option LineUnit) (units : List LineUnit) → AllByRecursion IsUnit (option_to_list unit)
    → AllByRecursion IsUnit units → AllByRecursion IsUnit (cons_option unit units)
each-after None units one more = more
each-after (Some unit) units one more = (one.0, more)

frames-after : (unit : Option LineUnit) (units : List LineUnit)
    → cons_option (option_and_then frame_of unit) (frames_of units) ≡ frames_of (cons_option unit units)
frames-after None units = refl
frames-after (Some unit) units = refl

pub runs_as : (partial : Partial) (bytes : List ℕ) → IsPartial partial → RunsAs partial bytes (run partial bytes)
runs_as partial [] is = record { whole = append-nil _; each = tt; is_partial = is; frames = refl; rest = refl }
runs_as partial (byte ∷ bytes) is =
    let one = agrees partial byte is in
    let more = runs_as (step partial byte).partial bytes one.is_partial in
    record {
      whole = whole-after (step partial byte).unit partial (step partial byte).partial byte bytes
          (run (step partial byte).partial bytes) one.bytes more.whole;
      each = each-after (step partial byte).unit _ one.each more.each;
      is_partial = more.is_partial;
      frames = rw (one.frame, one.rest, more.frames)
          (frames-after (step partial byte).unit (run (step partial byte).partial bytes).units);
      rest = rw one.rest more.rest;
    }

-- what a byte does that isn't any of those that mean something there
step-plain : (inners : List Inner) (byte : ℕ) → byte ≢ 0x10
    → step (unended inners false) byte ≡ goes_on (unended (inners ++ plain byte ∷ []) false)
step-plain inners byte is = rw (ne_eqb byte 0x10 is)

step-stray : (inners : List Inner) (byte : ℕ) → IsInner (stray byte)
    → step (unended inners true) byte ≡ goes_on (unended (inners ++ stray byte ∷ []) false)
step-stray inners byte is =
    rw (
      ne_eqb byte 0x10 is.0,
      ne_eqb byte 0x32 is.1,
      ne_eqb byte 0x26 is.2,
      ne_eqb byte 0x03 is.3,
      ne_eqb byte 0x2D
          is.4,
    )

step-after_soh : (byte : ℕ) → byte ≢ 0x2D → step soh byte ≡ whole_unit (after_soh byte)
step-after_soh byte is = rw (ne_eqb byte 0x2D is)

step-after_dle : (byte : ℕ) → IsUnit (after_dle byte) → step dle byte ≡ whole_unit (after_dle byte)
step-after_dle byte is = rw (ne_eqb byte 0x70 is.0, ne_eqb byte 0x02 is.1)

step-single : (byte : ℕ) → IsUnit (single byte) → step nothing byte ≡ whole_unit (single byte)
step-single byte is = rw (ne_eqb byte 0x01 is.0, ne_eqb byte 0x10 is.1, ne_eqb byte 0x3D is.2, ne_eqb byte 0x37 is.3)

abbrev run_after : List ℕ → Step → Run
run_after more stepped = after_unit stepped.unit (run stepped.partial more)

regrouped : (done inners : List Inner) (inner : Inner) (more : List ℕ)
    → run (unended ((done ++ inner ∷ []) ++ inners) false) more ≡ run (unended (done ++ inner ∷ inners) false) more
regrouped done inners inner more = ap (λ all. run (unended all false) more) (append_assoc done (inner ∷ []) inners)

-- inner units go on with the text
run-inners : (done inners : List Inner) (more : List ℕ) → AllByRecursion IsInner inners
    → run (unended done false) (flat_map bytes_of_inner inners ++ more) ≡ run (unended (done ++ inners) false) more
run-inners done [] more each = ap (λ all. run (unended all false) more) (sym (append-nil done))
run-inners done (plain byte ∷ inners) more each =
    ap (run_after (flat_map bytes_of_inner inners ++ more)) (step-plain done byte each.0)
    ∙ (run-inners (done ++ plain byte ∷ []) inners more each.1 ∙ regrouped done inners (plain byte) more)
run-inners done (doubled ∷ inners) more each =
    run-inners (done ++ doubled ∷ []) inners more each.1 ∙ regrouped done inners doubled more
run-inners done (fill ∷ inners) more each =
    run-inners (done ++ fill ∷ []) inners more each.1 ∙ regrouped done inners fill more
run-inners done (stray byte ∷ inners) more each =
    ap (run_after (flat_map bytes_of_inner inners ++ more)) (step-stray done byte each.0)
    ∙ (run-inners (done ++ stray byte ∷ []) inners more each.1 ∙ regrouped done inners (stray byte) more)

run-end : (inners : List Inner) (end : End) (more : List ℕ)
    → run (unended inners false) (bytes_of_end end ++ more) ≡ after_unit (Some (text inners end)) (run nothing more)
run-end inners etb more = refl
run-end inners etx more = refl
run-end inners enq more = refl

run-unit : (unit : LineUnit) (more : List ℕ) → IsUnit unit
    → run nothing (bytes_of_unit unit ++ more) ≡ after_unit (Some unit) (run nothing more)
run-unit enquiry more is = refl
run-unit ack0 more is = refl
run-unit nak more is = refl
run-unit eot more is = refl
run-unit (text inners end) more is =
    ap (run (unended [] false)) (append_assoc (flat_map bytes_of_inner inners) (bytes_of_end end) more)
    ∙ (run-inners [] inners (bytes_of_end end ++ more) is ∙ run-end inners end more)
run-unit (after_soh byte) more is = ap (run_after more) (step-after_soh byte is)
run-unit (after_dle byte) more is = ap (run_after more) (step-after_dle byte is)
run-unit (single byte) more is = ap (run_after more) (step-single byte is)

run-partial : (partial : Partial) → IsPartial partial
    → run nothing (bytes_of_partial partial) ≡ record { units = []; partial = partial }
run-partial nothing is = refl
run-partial soh is = refl
run-partial dle is = refl
run-partial (unended inners false) is =
    ap (run (unended [] false)) (sym (append-nil (flat_map bytes_of_inner inners))) ∙ run-inners [] inners [] is
run-partial (unended inners true) is = run-inners [] inners (0x10 ∷ []) is

pub run-split : (units : List LineUnit) (partial : Partial) → AllByRecursion IsUnit units → IsPartial partial
    → run nothing (flat_map bytes_of_unit units ++ bytes_of_partial partial)
    ≡ record { units = units; partial = partial }
run-split [] partial each is = run-partial partial is
run-split (unit ∷ units) partial each is =
    ap (run nothing) (append_assoc (bytes_of_unit unit) (flat_map bytes_of_unit units) (bytes_of_partial partial))
    ∙ (run-unit unit (flat_map bytes_of_unit units ++ bytes_of_partial partial) each.0
    ∙ ap (after_unit (Some unit)) (run-split units partial each.1 is))
