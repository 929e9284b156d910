-- The records of a text's lines, and the blocks of a file.
use Rattle.std.proofs.Common.{◌≡◌, ℕ, ◌<◌, Bool, false, eqb, List, [], ◌∷◌, ◌++◌, length, map, refl, sym, ap, ◌∙◌}
use Rattle.std.proofs.Common.{append_assoc, append-nil, arith, cond, subst, Result, Ok, Err}
use Rattle.std.specs.Prelude.{IfErr}
use Rattle.std.specs.Str.{IsUtf8, is_utf8}
use Rattle.std.proofs.lemmas.Bool.{eqb-true, false_from_ne_true}
use Rattle.std.proofs.lemmas.Grind.{flat_map-append}
use Rattle.std.proofs.lemmas.List.{map-append}
use Rattle.std.proofs.lemmas.Str.{IsUtf8-from_is_utf8, is_utf8-from_IsUtf8}
use Rattle.njh_block.specs.Blocks.{Block, Control, Item}
use Rattle.njh_encode.specs.declared.fault.Reason.{Reason}
use Rattle.njh_encode.specs.declared.fault.Reason.TheVariants.{NoText}
use Rattle.njh_encode.specs.declared.line_states.LineState.{LineState}
use Rattle.njh_encode.specs.declared.posting.Posting.{Posting}
use Rattle.njh_encode.specs.Characters.{bytes_of_text}
use Rattle.njh_encode.specs.Encoded.{bytes_line, bytes_of_frame, frame_of_block, next_block}
use Rattle.njh_encode.specs.LineStates.{counted}
use Rattle.njh_io.specs.Lines.{lines_of}
use Rattle.njh_encode.specs.Packing.{block_of, blocks_script, counted_by, data_set_record, file_blocks, file_items}
use Rattle.njh_encode.specs.Packing.{job_record}
use Rattle.njh_encode.specs.Packing.{onto_records, packed, record_of_line, records_of, sysout, then_records}
use Rattle.njh_encode.specs.Packing.{trailer_record}
use Rattle.njh_encode.specs.code.Puts.{OpenBlock, Puts}
use Rattle.njh_encode.proofs.PackingLaws.{counted_by-append, Puts-none, Puts-then}

-- ---- the record of a line

no_bytes : (line : List ℕ) → 0 < length line → length line ≡ 0 → ⊥
no_bytes line some none = omega (arith, some, none)

some_bytes : (line : List ℕ) → 0 < length line → eqb (length line) 0 ≡ false
some_bytes line some = false_from_ne_true (eqb (length line) 0) (λ e. no_bytes line some (eqb-true (length line) 0 e))

pub record_blank : (line : List ℕ) → length line ≡ 0 → record_of_line line ≡ Ok (0x40 ∷ [])
unfolding record_of_line
record_blank [] none = refl
record_blank (b ∷ bs) none = absurd (omega (arith, none))

pub record_text : (line text : List ℕ) → 0 < length line → text ≡ line → IsUtf8 line
    → record_of_line line ≡ bytes_of_text 256 text
unfolding record_of_line
record_text line text some same utf8 =
    ap (λ (t : Bool). cond t (Ok (0x40 ∷ [])) (cond (is_utf8 line) (bytes_of_text 256 line) (Err NoText)))
    (some_bytes line some)
    ∙ ap (λ (t : Bool). cond t (bytes_of_text 256 line) (Err NoText)) (is_utf8-from_IsUtf8 line utf8)
    ∙ ap (bytes_of_text 256) (sym same)

pub record_no_text : (line : List ℕ) → 0 < length line → (IsUtf8 line → ⊥) → record_of_line line ≡ Err NoText
unfolding record_of_line
record_no_text line some broken =
    ap (λ (t : Bool). cond t (Ok (0x40 ∷ [])) (cond (is_utf8 line) (bytes_of_text 256 line) (Err NoText)))
    (some_bytes line some)
    ∙ ap (λ (t : Bool). cond t (bytes_of_text 256 line) (Err NoText))
    (false_from_ne_true _ (λ text. broken (IsUtf8-from_is_utf8 line text)))

-- ---- the records of lines

-- records before others
abbrev pub front_records : List (List ℕ) → Result (List (List ℕ)) Reason → Result (List (List ℕ)) Reason
front_records [] r = r
front_records (x ∷ xs) r = onto_records x (front_records xs r)

front_records-snoc : (xs : List (List ℕ)) (x : List ℕ) (r : Result (List (List ℕ)) Reason)
    → front_records (xs ++ x ∷ []) r ≡ front_records xs (onto_records x r)
front_records-snoc [] x r = refl
front_records-snoc (y ∷ ys) x r = ap (onto_records y) (front_records-snoc ys x r)

front_records-err : (xs : List (List ℕ)) (e : Reason) → front_records xs (Err e) ≡ Err e
front_records-err [] e = refl
front_records-err (x ∷ xs) e = ap (onto_records x) (front_records-err xs e)

front_records-ok : (xs ys : List (List ℕ)) → front_records xs (Ok ys) ≡ Ok (xs ++ ys)
front_records-ok [] ys = refl
front_records-ok (x ∷ xs) ys = ap (onto_records x) (front_records-ok xs ys)

-- how far a text was put
abbrev pub IsPutUpTo : (name text : List ℕ) (first : OpenBlock) (script left : List ℕ) (at : OpenBlock) (grown : List ℕ)
    → Type 0
IsPutUpTo name text first script left at grown = (records : List (List ℕ))
    × (records_of (lines_of text) ≡ front_records records (records_of (lines_of left)))
    × Puts name first (map (sysout 0x80) records) at script grown

pub put-none : (name text : List ℕ) (first : OpenBlock) (script : List ℕ)
    → IsPutUpTo name text first script text first script
put-none name text first script = ([], refl, Puts-none name first script)

-- a line more
pub put-line : (name text : List ℕ) (first : OpenBlock) (script left : List ℕ) (b c : OpenBlock)
    (t u line behind : List ℕ)
    → IsPutUpTo name text first script left b t → lines_of left ≡ line ∷ lines_of behind
    → ((bytes : List ℕ) × (record_of_line line ≡ Ok bytes) × Puts name b (sysout 0x80 bytes ∷ []) c t u)
    → IsPutUpTo name text first script behind c u
put-line name text first script left b c t u line behind x parts r =
    let step : records_of (lines_of left) ≡ onto_records r.0 (records_of (lines_of behind)) =
    ap records_of parts
    ∙ ap (λ (v : Result (List ℕ) Reason). then_records v (records_of (lines_of behind))) r.1 in
    let items : map (sysout 0x80) (x.0 ++ r.0 ∷ []) ≡ map (sysout 0x80) x.0 ++ sysout 0x80 r.0 ∷ [] =
    map-append (sysout 0x80) x.0 (r.0 ∷ []) in
    let P : List Item → Type 0 = λ is. Puts name first is c script u in (
      x.0 ++ r.0 ∷ [],
      x.1 ∙ ap (front_records x.0) step ∙ sym (front_records-snoc x.0 r.0 (records_of (lines_of behind))),
      subst P (sym items) (Puts-then name first b c (map (sysout 0x80) x.0) (sysout 0x80 r.0 ∷ []) script t u x.2 r.2),
    )

-- a bad line
pub put-bad : (name text : List ℕ) (first : OpenBlock) (script left : List ℕ) (b : OpenBlock) (t line behind : List ℕ)
    (reason : Reason)
    → IsPutUpTo name text first script left b t → lines_of left ≡ line ∷ lines_of behind
    → record_of_line line ≡ Err reason → records_of (lines_of text) ≡ Err reason
put-bad name text first script left b t line behind reason x parts bad =
    let step : records_of (lines_of left) ≡ Err reason =
    ap records_of parts
    ∙ ap (λ (v : Result (List ℕ) Reason). then_records v (records_of (lines_of behind))) bad in
    x.1 ∙ ap (front_records x.0) step ∙ front_records-err x.0 reason

-- all of it
pub put-all : (name text : List ℕ) (first : OpenBlock) (script left : List ℕ) (b : OpenBlock) (t : List ℕ)
    → IsPutUpTo name text first script left b t → lines_of left ≡ []
    → (records : List (List ℕ)) × (records_of (lines_of text) ≡ Ok records)
    × Puts name first (map (sysout 0x80) records) b script t
put-all name text first script left b t x none = (
  x.0,
  x.1 ∙ ap (front_records x.0) (ap records_of none) ∙ front_records-ok x.0 [] ∙ ap Ok (append-nil x.0),
  x.2,
)

-- ---- a file

-- the blocks of a file, by what was put record by record
pub record IsPosted (name : List ℕ) (state : LineState) (p : Posting) (lines : List (List ℕ)) (after : LineState)
    (script grown : List ℕ) : Type 0 where
  pub text : grown ≡ script ++ blocks_script name (file_blocks state p lines)
  pub counts : after ≡ counted_by (file_blocks state p lines) state

pub posted-of : (name : List ℕ) (state : LineState) (p : Posting) (lines : List (List ℕ)) (last : OpenBlock)
    (a b c script : List ℕ)
    → a ≡ script ++ blocks_script name (next_block state (Control 0x90 0x99) ∷ [])
    → Puts name (record { state = counted state; items = [] }) (file_items p lines) last a b
    → c ≡ b ++ blocks_script name (block_of last.state last.items ∷ [])
    → IsPosted name state p lines (counted last.state) script c
posted-of name state p lines last a b c script begun put end =
    let request = next_block state (Control 0x90 0x99) in
    let blocks : packed (counted state) [] (file_items p lines) ≡ put.full ++ block_of last.state last.items ∷ [] =
    ap (packed (counted state) []) (sym (append-nil (file_items p lines))) ∙ put.blocks [] in
    let all : file_blocks state p lines ≡ request ∷ put.full ++ block_of last.state last.items ∷ [] =
    ap (λ (bs : List Block). request ∷ bs) blocks in
    let final = block_of last.state last.items ∷ [] in
    let lines_of_blocks = blocks_script name in record {
      text =
          end ∙ ap (λ (s : List ℕ). s ++ lines_of_blocks final)
          (put.lines ∙ ap (λ (s : List ℕ). s ++ lines_of_blocks put.full) begun)
          ∙ append_assoc (script ++ lines_of_blocks (request ∷ [])) (lines_of_blocks put.full) (lines_of_blocks final)
          ∙ append_assoc script (lines_of_blocks (request ∷ [])) (lines_of_blocks put.full ++ lines_of_blocks final)
          ∙ ap (λ (s : List ℕ). script ++ s)
          (ap (λ (s : List ℕ). lines_of_blocks (request ∷ []) ++ s)
          (sym (flat_map-append (λ (b : Block). bytes_line name (bytes_of_frame (frame_of_block b))) put.full final))
          ∙ sym (flat_map-append (λ (b : Block). bytes_line name (bytes_of_frame (frame_of_block b))) (request ∷ [])
          (put.full ++ final)) ∙ ap lines_of_blocks (sym all));
      counts =
          ap counted put.counts ∙ sym (counted_by-append put.full final (counted state))
          ∙ ap (λ (bs : List Block). counted_by bs state) (sym all);
    }

-- a file, record by record
pub posted-all : (name : List ℕ) (state : LineState) (p : Posting) (lines : List (List ℕ)) (job data_set : List ℕ)
    (a b c d e f g : OpenBlock) (after : LineState) (script s0 s1 s2 s3 s4 s5 s6 : List ℕ)
    → s0 ≡ script ++ blocks_script name (next_block state (Control 0x90 0x99) ∷ [])
    → a ≡ record { state = counted state; items = [] } → job ≡ job_record p → data_set ≡ data_set_record p
    → Puts name a (sysout 0xc0 job ∷ []) b s0 s1 → Puts name b (sysout 0xe0 data_set ∷ []) c s1 s2
    → Puts name c (map (sysout 0x80) lines) d s2 s3 → Puts name d (sysout 0xd0 trailer_record ∷ []) e s3 s4
    → Puts name e (sysout 0x80 [] ∷ []) f s4 s5 → s6 ≡ s5 ++ blocks_script name (block_of f.state f.items ∷ [])
    → g ≡ record { state = counted f.state; items = [] } → after ≡ g.state → IsPosted name state p lines after script s6
posted-all name state p lines job data_set a b c d e f g after script s0 s1 s2 s3 s4 s5 s6 begun first job_is set_is
    put_job put_set put_lines put_trailer put_end end last after_is =
    let ending = Puts-then name d e f (sysout 0xd0 trailer_record ∷ []) (sysout 0x80 [] ∷ []) s3 s4 s5 put_trailer
    put_end in
    let body = Puts-then name c d f (map (sysout 0x80) lines) (sysout 0xd0 trailer_record ∷ sysout 0x80 [] ∷ []) s2 s3
    s5 put_lines ending in
    let P : List ℕ → Type 0 = λ bytes. Puts name b (sysout 0xe0 bytes ∷ []) c s1 s2 in
    let Q : List ℕ → Type 0 = λ bytes. Puts name a (sysout 0xc0 bytes ∷ []) b s0 s1 in
    let with_set = Puts-then name b c f (sysout 0xe0 (data_set_record p) ∷ [])
    (map (sysout 0x80) lines ++ sysout 0xd0 trailer_record ∷ sysout 0x80 [] ∷ []) s1 s2 s5 (subst P set_is put_set) body
    in
    let whole = Puts-then name a b f (sysout 0xc0 (job_record p) ∷ [])
    (sysout 0xe0 (data_set_record p) ∷ map (sysout 0x80) lines ++ sysout 0xd0 trailer_record ∷ sysout 0x80 [] ∷ [])
    s0 s1 s5 (subst Q job_is put_job) with_set in
    let R : OpenBlock → Type 0 = λ at. Puts name at (file_items p lines) f s0 s5 in
    let S : LineState → Type 0 = λ st. IsPosted name state p lines st script s6 in
    subst S (sym (after_is ∙ ap (λ (k : OpenBlock). k.state) last))
    (posted-of name state p lines f s0 s5 s6 script begun (subst R first whole) end)

pub if_err_is : {T : Type 0} (r : Result T Reason) (e : Reason) (P : Reason → Type 0) → r ≡ Err e → P e → IfErr r P
if_err_is {T} r e P is holds = let Q : Result T Reason → Type 0 = λ x. IfErr x P in subst Q (sym is) holds
