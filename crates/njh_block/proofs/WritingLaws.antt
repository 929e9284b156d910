-- What is written is read back.
use Rattle.std.proofs.Common.{◌≡◌, ℕ, ◌≤◌, Bool, true, false, leb, List, [], ◌∷◌, ◌++◌, ◌-◌, length, drop, Some, Result}
use Rattle.std.proofs.Common.{Ok, refl, sym, ◌∙◌, ap, subst, append_assoc, length-append, arith, IsTrue}
use Rattle.std.specs.Prelude.{not, ◌||◌, nat_le}
use Rattle.std.specs.List.{list_any, flat_map}
use Rattle.std.specs.Result.{result_unwrap_or}
use Rattle.std.proofs.lemmas.Bool.{cond-true, le-leb, leb-true, and_parts, or_parts, both_ways, not-true}
use Rattle.std.proofs.lemmas.List.{append-nil, take_at}
use Rattle.std.proofs.lemmas.List.Concat.{flat_map-append}
use Rattle.njh_record.specs.Writing.{spelling_of}
use Rattle.njh_record.specs.declared.End.TheVariants.{Record}
use Rattle.njh_record.proofs.ReadBack.{unspelled-spelling}
use Rattle.njh_record.proofs.WritingLaws.{Spelling-spelling_of, length-spelling_of, length-spelling_of-record}
use Rattle.njh_block.specs.declared.fault.BlockFault.{BlockFault}
use Rattle.njh_block.specs.declared.rcb.ControlRcb.{ControlRcb}
use Rattle.njh_block.specs.declared.rcb.Form.TheVariants as form
use Rattle.njh_block.specs.Blocks.{Item, Data, Aborted, Long, Control, General, control_byte, form_of}
use Rattle.njh_block.specs.Blocks.{record_of_spelling, first_record, with_item, items_in, is_bcb, is_fcs, block_with}
use Rattle.njh_block.specs.Blocks.{read_block, written_bytes, text_of}
use Rattle.njh_block.specs.declared.out.Out.{Out}
use Rattle.njh_block.specs.declared.out.Out.TheVariants as out
use Rattle.njh_block.specs.ItemViews.{outgoing_item, IsWritable}
use Rattle.njh_block.specs.Writing.{Writing, IsWritten, is_general, AreWritten, has_room, with_last, read_back}
use Rattle.njh_block.specs.Writing.{without_end, writing_of, IsWriting}
use Rattle.njh_block.proofs.Forms.{form_of-control}
use Rattle.njh_block.proofs.FirstLaws.{record_of_form-first}
use Rattle.njh_block.proofs.GrammarLaws.{items_in-first}
use Rattle.njh_block.proofs.BlockLaws.{where_good}

-- how long the spelling of a record is at most
pub ruleset spelling_bounds = (length-spelling_of, length-spelling_of-record)

-- ---- one more record

general-last : (items : List Item) (i : Item) → list_any is_general items ≡ false
    → is_general i ≡ list_any is_general (items ++ i ∷ [])
general-last [] i none = or-false (is_general i)
  where
    or-false : (t : Bool) → t ≡ (t || false)
    or-false true = refl
    or-false false = refl
general-last (j ∷ js) i none =
    let parts = or_parts (is_general j) (list_any is_general js) none in
    general-last js i parts.1 ∙ ap (λ (t : Bool). t || list_any is_general (js ++ i ∷ [])) (sym parts.0)

AreWritten-last : (items : List Item) (i : Item) → AreWritten items → list_any is_general items ≡ false → IsWritten i
    → AreWritten (items ++ i ∷ [])
AreWritten-last [] i are none is = (is, λ general. refl, tt)
AreWritten-last (j ∷ js) i are none is =
    let parts = or_parts (is_general j) (list_any is_general js) none in
    (are.0, λ general. absurd (both_ways (is_general j) parts.0 general), AreWritten-last js i are.2 parts.1 is)

-- the text of a block without its closing 00
abbrev pub front_of : Writing → List ℕ
front_of w = w.bcb ∷ w.fcs.0 ∷ w.fcs.1 ∷ flat_map written_bytes w.items

without_end-closed : (bytes : List ℕ) → without_end (bytes ++ 0 ∷ []) ≡ bytes
without_end-closed bytes = take_at bytes (0 ∷ []) (length (bytes ++ 0 ∷ []) - 1)
    (omega (arith, length-append bytes (0 ∷ [])))

front-last : (w : Writing) (i : Item) → front_of w ++ written_bytes i ≡ front_of (with_last i w)
front-last w i =
    ap (λ (bytes : List ℕ). w.bcb ∷ w.fcs.0 ∷ w.fcs.1 ∷ bytes)
    (sym (flat_map-append written_bytes w.items (i ∷ [])
    ∙ ap (λ (bytes : List ℕ). flat_map written_bytes w.items ++ bytes) (append-nil (written_bytes i))))

-- What one more item leaves.
pub record Adds (w : Writing) (i : Item) (text : List ℕ) : Type 0 where
  pub seen : writing_of w.limit text ≡ with_last i w
  pub whole : IsWriting (writing_of w.limit text) text (is_general i)

-- ---- one record

data-first : (rcb srcb : ℕ) (bytes after : List ℕ) → form_of rcb ≡ form.Spelled → length bytes ≤ 256
    → first_record (written_bytes (Data rcb srcb bytes) ++ after)
    ≡ Ok (Some (record { item = Data rcb srcb bytes; rest = after }))
data-first rcb srcb bytes after is short =
    record_of_form-first form.Spelled rcb srcb (spelling_of bytes ++ after) is
    ∙ (ap (record_of_spelling rcb srcb)
    (unspelled-spelling (spelling_of bytes) bytes Record after (Spelling-spelling_of bytes))
    ∙ ap (λ (i : Item). Ok (Some (record { item = i; rest = after })))
    (cond-true (leb (length bytes) 256) (Data rcb srcb bytes) (Long rcb srcb) (le-leb _ _ short)))

control-read : (rcb srcb : ℕ) (after : List ℕ) (c : ControlRcb) → rcb ≡ control_byte c
    → items_in (written_bytes (Control rcb srcb) ++ after) ≡ with_item (Control rcb srcb) (items_in after)
control-read rcb srcb [] c is =
    items_in-first (rcb ∷ srcb ∷ 0 ∷ []) (record { item = Control rcb srcb; rest = 0 ∷ [] })
    (record_of_form-first (form.Control c) rcb srcb (0 ∷ []) (ap form_of is ∙ form_of-control c))
control-read rcb srcb (b ∷ after) c is =
    items_in-first (rcb ∷ srcb ∷ 0 ∷ b ∷ after) (record { item = Control rcb srcb; rest = b ∷ after })
    (record_of_form-first (form.Control c) rcb srcb (0 ∷ b ∷ after) (ap form_of is ∙ form_of-control c))

-- a record that isn't a general one is read back, whatever follows it
written_bytes-read : (i : Item) (after : List ℕ) → IsWritten i → is_general i ≡ false
    → items_in (written_bytes i ++ after) ≡ with_item i (items_in after)
written_bytes-read (Data rcb srcb bytes) after (is, short) other =
    items_in-first (rcb ∷ srcb ∷ (spelling_of bytes ++ after)) (record { item = Data rcb srcb bytes; rest = after })
    (data-first rcb srcb bytes after is short)
written_bytes-read (Aborted rcb srcb) after is other =
    items_in-first (rcb ∷ srcb ∷ 0x40 ∷ after) (record { item = Aborted rcb srcb; rest = after })
    (record_of_form-first form.Spelled rcb srcb (0x40 ∷ after) is)
written_bytes-read (Long rcb srcb) after is other = absurd is
written_bytes-read (Control rcb srcb) after (c, is) other = control-read rcb srcb after c is
written_bytes-read (General srcb rest) after is other = absurd cc

-- ---- all of them

general-read : (srcb : ℕ) (rest : List ℕ) → items_in (0xf0 ∷ srcb ∷ rest) ≡ Ok (General srcb rest ∷ [])
general-read srcb rest = items_in-first (0xf0 ∷ srcb ∷ rest) (record { item = General srcb rest; rest = [] }) refl

pub all-read : (items : List Item) → AreWritten items → items_in (flat_map written_bytes items) ≡ Ok items
all-read [] are = refl
all-read (Data rcb srcb bytes ∷ is) are =
    written_bytes-read (Data rcb srcb bytes) (flat_map written_bytes is) are.0 refl
    ∙ ap (with_item (Data rcb srcb bytes)) (all-read is are.2)
all-read (Aborted rcb srcb ∷ is) are =
    written_bytes-read (Aborted rcb srcb) (flat_map written_bytes is) are.0 refl
    ∙ ap (with_item (Aborted rcb srcb)) (all-read is are.2)
all-read (Long rcb srcb ∷ is) are = absurd are.0
all-read (Control rcb srcb ∷ is) are =
    written_bytes-read (Control rcb srcb) (flat_map written_bytes is) are.0 refl
    ∙ ap (with_item (Control rcb srcb)) (all-read is are.2)
all-read (General srcb rest ∷ is) are =
    ap (λ (js : List Item). items_in (written_bytes (General srcb rest) ++ flat_map written_bytes js)) (are.1 refl)
    ∙ (ap items_in (append-nil (written_bytes (General srcb rest)))
    ∙ (general-read srcb rest
    ∙ ap (λ (js : List Item). Ok (General srcb rest ∷ js)) (sym (are.1 refl))))

closed-read : (items : List Item) → AreWritten items
    → items_in (flat_map written_bytes items ++ 0 ∷ []) ≡ Ok (read_back items)
closed-read [] are = refl
closed-read (Data rcb srcb bytes ∷ is) are =
    ap items_in (append_assoc (written_bytes (Data rcb srcb bytes)) (flat_map written_bytes is) (0 ∷ []))
    ∙ (written_bytes-read (Data rcb srcb bytes) (flat_map written_bytes is ++ 0 ∷ []) are.0 refl
    ∙ ap (with_item (Data rcb srcb bytes)) (closed-read is are.2))
closed-read (Aborted rcb srcb ∷ is) are =
    ap items_in (append_assoc (written_bytes (Aborted rcb srcb)) (flat_map written_bytes is) (0 ∷ []))
    ∙ (written_bytes-read (Aborted rcb srcb) (flat_map written_bytes is ++ 0 ∷ []) are.0 refl
    ∙ ap (with_item (Aborted rcb srcb)) (closed-read is are.2))
closed-read (Long rcb srcb ∷ is) are = absurd are.0
closed-read (Control rcb srcb ∷ is) are =
    ap items_in (append_assoc (written_bytes (Control rcb srcb)) (flat_map written_bytes is) (0 ∷ []))
    ∙ (written_bytes-read (Control rcb srcb) (flat_map written_bytes is ++ 0 ∷ []) are.0 refl
    ∙ ap (with_item (Control rcb srcb)) (closed-read is are.2))
closed-read (General srcb rest ∷ is) are =
    ap (λ (js : List Item). items_in ((written_bytes (General srcb rest) ++ flat_map written_bytes js) ++ 0 ∷ []))
    (are.1 refl)
    ∙ (ap (λ (bytes : List ℕ). items_in (bytes ++ 0 ∷ [])) (append-nil (written_bytes (General srcb rest)))
    ∙ (general-read srcb (rest ++ 0 ∷ [])
    ∙ ap (λ (js : List Item). Ok (General srcb (rest ++ 0 ∷ []) ∷ read_back js)) (sym (are.1 refl))))

pub text-read : (bcb : ℕ) (fcs : ℕ × ℕ) (items : List Item) → IsTrue (is_bcb bcb) → IsTrue (is_fcs fcs)
    → AreWritten items
    → read_block (text_of bcb fcs items) ≡ Ok (record { bcb = bcb; fcs = fcs; items = read_back items })
text-read bcb fcs items good_bcb good_fcs are =
    let bytes = flat_map written_bytes items ++ 0 ∷ [] in
    ap (λ (t : Bool). where_good t (is_fcs fcs) (block_with bcb fcs (items_in bytes))) good_bcb
    ∙ (ap (λ (t : Bool). where_good true t (block_with bcb fcs (items_in bytes))) good_fcs
    ∙ ap (block_with bcb fcs) (closed-read items are))

-- ---- with one more

-- the text of some items is seen as the writing of them
writing_of-closed : (w : Writing) → AreWritten w.items → writing_of w.limit (front_of w ++ 0 ∷ []) ≡ w
writing_of-closed w are =
    ap (λ (bytes : List ℕ). record {
      limit = w.limit;
      bcb = w.bcb;
      fcs = w.fcs;
      items = result_unwrap_or
          (items_in (drop 3 bytes)) [];
    })
    (without_end-closed (front_of w))
    ∙ ap (λ (read : Result (List Item) BlockFault). record
    { limit = w.limit; bcb = w.bcb; fcs = w.fcs; items = result_unwrap_or read [] }) (all-read w.items are)

pub written_on : (w : Writing) (text : List ℕ) (ended : Bool) (i : Item) → IsWriting w text ended → IsWritten i
    → IsTrue (has_room w i)
    → Adds w i ((without_end text ++ written_bytes i) ++ 0 ∷ [])
written_on w text ended i is is_written room =
    let parts = and_parts (not (list_any is_general w.items))
    (nat_le (length (text_of w.bcb w.fcs (w.items ++ i ∷ []))) w.limit) room in
    let none : list_any is_general w.items ≡ false = not-true (list_any is_general w.items) parts.0 in
    let are : AreWritten (w.items ++ i ∷ []) = AreWritten-last w.items i is.each none is_written in
    let front : without_end text ≡ front_of w = ap without_end is.bytes ∙ without_end-closed (front_of w) in
    let bytes : (without_end text ++ written_bytes i) ++ 0 ∷ [] ≡ front_of (with_last i w) ++ 0 ∷ [] =
    ap (λ (before : List ℕ). (before ++ written_bytes i) ++ 0 ∷ []) front
    ∙ ap (λ (before : List ℕ). before ++ 0 ∷ []) (front-last w i) in
    let seen : writing_of w.limit ((without_end text ++ written_bytes i) ++ 0 ∷ []) ≡ with_last i w =
    ap (writing_of w.limit) bytes ∙ writing_of-closed (with_last i w) are in
    let whole : IsWriting (with_last i w) ((without_end text ++ written_bytes i) ++ 0 ∷ []) (is_general i) = record {
      low = is.low;
      high = is.high;
      good_bcb = is.good_bcb;
      good_fcs = is.good_fcs;
      bytes = bytes;
      each = are;
      general = general-last w.items i none;
      within = omega (
        arith,
        ap length bytes,
        leb-true (length (text_of w.bcb w.fcs (w.items ++ i ∷ []))) w.limit
            parts.1,
      );
    } in
    record {
      seen = seen;
      whole = subst (λ (v : Writing). IsWriting v ((without_end text ++ written_bytes i) ++ 0 ∷ []) (is_general i))
          (sym seen) whole;
    }

-- what can be written is written so
pub IsWritten-outgoing : (o : Out) → IsWritable o → IsWritten (outgoing_item o)
IsWritten-outgoing (out.Data rcb srcb bytes) is = is
IsWritten-outgoing (out.Abort rcb srcb) is = is
IsWritten-outgoing (out.Control rcb srcb) is = (rcb, refl)
IsWritten-outgoing (out.General srcb bytes) is = is
