-- The lines that are printed of frames which a hub sends, read as a trace.
use Rattle.std.proofs.Common.{◌≡◌, ℕ, zero, suc, ◌<◌, Bool, true, false, not, ◌&&◌, eqb, List, [], ◌∷◌, ◌++◌, length}
use Rattle.std.proofs.Common.{refl, sym, ap, ◌∙◌}
use Rattle.std.proofs.Common.{append_assoc, arith, Option, None, Some, Ok, inl, inr, subst}
use Rattle.std.specs.Prelude.{flat_map, if◌then◌else◌}
use Rattle.std.specs.List.{list_all, All, AllByRecursion}
use Rattle.std.proofs.lemmas.Bool.{cases_Bool, eqb-true}
use Rattle.std.proofs.lemmas.List.Elements.{All-append, All-from_recursion, All-push, All-set, All-take, All-weaker}
use Rattle.std.proofs.lemmas.List.Elements.{recursion_from_All}
use Rattle.std.proofs.lemmas.List.Splits.{slice_split_at, slice_split_none}
use Rattle.hex.specs.Hex.{encode_lower, is_hex_digit, IsBytes}
use Rattle.hex.proofs.HexLemmas.{decode_of-encode_lower, decode_of-ok}
use Rattle.njh_bisync.specs.Reading.{Rest, Nothing}
use Rattle.njh_bisync.specs.ByteSteps.{frames_after, rest_after}
use Rattle.njh_trace.specs.Pieces.{is_letter_or_digit, is_name, is_script_word, mark_out, piece_in, piece_of_digits}
use Rattle.njh_trace.specs.Pieces.{some_bytes, words_of}
use Rattle.njh_trace.specs.Pieces.{PieceView}
use Rattle.njh_trace.specs.Sources.{max_sources, place_of, rest_at, sources_at, sources_with, SourceView}
use Rattle.njh_trace.specs.Trace.{frames_told, line_as_it_is, line_told, lines_told, piece_told, sent_line, sent_text}
use Rattle.njh_trace.specs.Trace.{sent_told}
use Rattle.njh_trace.specs.Trace.{sources_behind, trace_told, IsSent}
use Rattle.njh_io.specs.Lines.{lines_from}
use Rattle.njh_io.proofs.LineLaws.{lines_from-end}

-- neither a blank nor a line's end is a digit or a letter
other_byte : (test : ℕ → Bool) (c d : ℕ) → test d ≡ false → test c ≡ true → eqb c d ≡ false
other_byte test c d at passes =
    elim (cases_Bool (eqb c d)) [
      | inl same ↦ let e : c ≡ d = eqb-true c d same in absurd
          (let no : true ≡ false = sym passes ∙ ap test e ∙ at in cc)
      | inr other ↦ other
    ]

pub without : (test : ℕ → Bool) (d : ℕ) (xs : List ℕ) → test d ≡ false → All (λ c. test c ≡ true) xs
    → All (λ c. eqb c d ≡ false) xs
without test d xs at passes = All-weaker (λ c. test c ≡ true) (λ c. eqb c d ≡ false) (λ c p. other_byte test c d at p)
    xs passes

both-first : (a b : Bool) → (a && b) ≡ true → a ≡ true
both-first true b p = refl
both-first false b p = cc p

both-second : (a b : Bool) → (a && b) ≡ true → b ≡ true
both-second true b p = p
both-second false b p = cc p

all_pass : (test : ℕ → Bool) (xs : List ℕ) → list_all test xs ≡ true → AllByRecursion (λ c. test c ≡ true) xs
all_pass test [] p = tt
all_pass test (x ∷ xs) p = (
  both-first (test x) (list_all test xs) p,
  all_pass test xs
      (both-second (test x) (list_all test xs) p),
)

name_bytes : (name : List ℕ) → is_name name ≡ true → All (λ c. is_letter_or_digit c ≡ true) name
name_bytes name p =
    All-from_recursion (λ c. is_letter_or_digit c ≡ true) name
    (all_pass is_letter_or_digit name (both-second (not (eqb (length name) 0)) (list_all is_letter_or_digit name) p))

digits_of : (frame : List ℕ) → IsBytes frame → All (λ c. is_hex_digit c ≡ true) (encode_lower frame)
digits_of frame bytes = (decode_of-ok (encode_lower frame) frame (decode_of-encode_lower frame bytes)).1

-- the words of such a line
words_of-sent : (name frame : List ℕ) → is_name name ≡ true → IsBytes frame
    → words_of (sent_line name frame) ≡ name ∷ encode_lower frame ∷ []
words_of-sent name frame named bytes =
    ap words_of (append_assoc name (32 ∷ []) (encode_lower frame))
    ∙ slice_split_at (λ b. eqb b 32) name 32 (encode_lower frame)
    (without is_letter_or_digit 32 name refl (name_bytes name named)) refl
    ∙ ap (λ (ws : List (List ℕ)). name ∷ ws)
    (slice_split_none (λ b. eqb b 32) (encode_lower frame)
    (without is_hex_digit 32 (encode_lower frame) refl (digits_of frame bytes)))

some_bytes-some : (bytes : List ℕ) → 0 < length bytes → some_bytes (Ok bytes) ≡ Some bytes
some_bytes-some [] some = absurd (omega arith)
some_bytes-some (b ∷ bs) some = refl

piece_of_digits-sent : (mark frame : List ℕ) → IsBytes frame → 0 < length frame
    → piece_of_digits mark (encode_lower frame) ≡ Some (record { mark = mark; bytes = frame })
unfolding piece_of_digits
piece_of_digits-sent mark frame bytes some = rw (decode_of-encode_lower frame bytes, some_bytes-some frame some) refl

named_out : (named word : Bool) (piece : Option PieceView) → named ≡ true → word ≡ false
    → (if named && not word then piece else None) ≡ piece
named_out named word piece p q = rw (p, q) refl

pub piece_in-sent : (name frame : List ℕ) → is_name name ≡ true → is_script_word name ≡ false → IsBytes frame
    → 0 < length frame
    → piece_in (sent_line name frame) ≡ Some (record { mark = mark_out name; bytes = frame })
unfolding piece_in
piece_in-sent name frame named no_word bytes some =
    rw (words_of-sent name frame named bytes)
    (named_out (is_name name) (is_script_word name) (piece_of_digits (mark_out name) (encode_lower frame)) named no_word
    ∙ piece_of_digits-sent (mark_out name) frame bytes some)

-- nothing of a frame that isn't whole has come of any source
abbrev pub IsClear : List SourceView → Type 0
IsClear sources = All (λ s. s.rest ≡ Nothing) sources

clear_at : (sources : List SourceView) (place : ℕ) → AllByRecursion (λ s. s.rest ≡ Nothing) sources
    → rest_at sources (Some place) ≡ Nothing
clear_at [] place clear = refl
clear_at (s ∷ sources) zero clear = clear.0
clear_at (s ∷ sources) (suc place) clear = clear_at sources place clear.1

rest_at-clear : (sources : List SourceView) (place : Option ℕ) → IsClear sources → rest_at sources place ≡ Nothing
rest_at-clear sources None clear = refl
rest_at-clear sources (Some place) clear = clear_at sources place (recursion_from_All _ sources clear)

sources_at-clear : (source : SourceView) (sources : List SourceView) (place : Option ℕ) → IsClear sources
    → source.rest ≡ Nothing → IsClear (sources_at source sources place)
sources_at-clear source sources None clear whole =
    All-take (λ s. s.rest ≡ Nothing) max_sources (sources ++ source ∷ [])
    (All-push (λ s. s.rest ≡ Nothing) sources source clear whole)
sources_at-clear source sources (Some place) clear whole =
    All-set (λ s. s.rest ≡ Nothing) sources place source whole clear

line_told-piece : (hex : Bool) (sources : List SourceView) (line : List ℕ) (piece : PieceView)
    → piece_in line ≡ Some piece
    → line_told hex sources line ≡ piece_told hex line sources piece
unfolding line_told
line_told-piece hex sources line piece is = rw (is, line_told) refl

sources_behind-piece : (sources : List SourceView) (line : List ℕ) (piece : PieceView) → piece_in line ≡ Some piece
    → sources_behind sources line ≡ sources_with piece sources
unfolding sources_behind
sources_behind-piece sources line piece is = rw (is, sources_behind) refl

-- such a line says what it says alone, and leaves nothing that isn't whole
line_told-sent : (hex : Bool) (sources : List SourceView) (name frame : List ℕ) → IsClear sources → IsSent name frame
    → line_told hex sources (sent_line name frame) ≡ sent_told hex name frame
line_told-sent hex sources name frame clear sent =
    line_told-piece hex sources (sent_line name frame) (record { mark = mark_out name; bytes = frame })
    (piece_in-sent name frame sent.named sent.no_word sent.bytes sent.some)
    ∙ ap (λ (rest : Rest). (if hex then line_as_it_is (sent_line name frame) else [])
    ++ frames_told hex (mark_out name) (frames_after rest frame))
    (rest_at-clear sources (place_of (mark_out name) sources) clear)

sources_with-sent : (sources : List SourceView) (mark frame : List ℕ) → IsClear sources
    → rest_after Nothing frame ≡ Nothing
    → IsClear (sources_with (record { mark = mark; bytes = frame }) sources)
unfolding sources_with
sources_with-sent sources mark frame clear whole =
    sources_at-clear _ sources (place_of mark sources) clear
    (ap (λ (r : Rest). rest_after r frame) (rest_at-clear sources (place_of mark sources) clear) ∙ whole)

sources_behind-sent : (sources : List SourceView) (name frame : List ℕ) → IsClear sources → IsSent name frame
    → IsClear (sources_behind sources (sent_line name frame))
sources_behind-sent sources name frame clear sent =
    subst IsClear
    (sym (sources_behind-piece sources (sent_line name frame) (record { mark = mark_out name; bytes = frame })
    (piece_in-sent name frame sent.named sent.no_word sent.bytes sent.some)))
    (sources_with-sent sources (mark_out name) frame clear sent.whole)

-- no end of a line is in such a line
line_whole : (name frame : List ℕ) → IsSent name frame → All (λ b. eqb b 10 ≡ false) (sent_line name frame)
line_whole name frame sent =
    All-append (λ b. eqb b 10 ≡ false) (name ++ 32 ∷ []) (encode_lower frame)
    (All-push (λ b. eqb b 10 ≡ false) name 32 (without is_letter_or_digit 10 name refl (name_bytes name sent.named))
    refl)
    (without is_hex_digit 10 (encode_lower frame) refl (digits_of frame sent.bytes))

lines_told-sent : (hex : Bool) (sources : List SourceView) (sent : List (List ℕ × List ℕ)) → IsClear sources
    → AllByRecursion (λ s. IsSent s.0 s.1) sent
    → lines_told hex sources (lines_from [] (sent_text sent)) ≡ flat_map (λ s. sent_told hex s.0 s.1) sent
lines_told-sent hex sources [] clear each = refl
lines_told-sent hex sources (s ∷ sent) clear each =
    let line = sent_line s.0 s.1 in
    let parts : lines_from [] (sent_text (s ∷ sent)) ≡ line ∷ lines_from [] (sent_text sent) =
    ap (lines_from []) (append_assoc line (10 ∷ []) (sent_text sent))
    ∙ lines_from-end [] line (sent_text sent) (line_whole s.0 s.1 each.0) in
    ap (lines_told hex sources) parts
    ∙ ap (λ (text : List ℕ). text ++ lines_told hex (sources_behind sources line) (lines_from [] (sent_text sent)))
    (line_told-sent hex sources s.0 s.1 clear each.0)
    ∙ ap (λ (text : List ℕ). sent_told hex s.0 s.1 ++ text)
    (lines_told-sent hex (sources_behind sources line) sent (sources_behind-sent sources s.0 s.1 clear each.0) each.1)

pub trace_told-sent : (hex : Bool) (sent : List (List ℕ × List ℕ)) → AllByRecursion (λ s. IsSent s.0 s.1) sent
    → trace_told hex (sent_text sent) ≡ flat_map (λ s. sent_told hex s.0 s.1) sent
trace_told-sent hex sent each = lines_told-sent hex [] sent (λ k d below. absurd (omega arith)) each
