-- The place of a source.
use Rattle.std.proofs.Common.{◌≡◌, ℕ, zero, suc, Ok, Err, ◌<◌, ◌≤◌, List, [], ◌∷◌, ◌++◌, length, length-append, Some}
use Rattle.std.proofs.Common.{Result, OnOk, sym, ap, ◌∙◌, Bool, arith, set, take, get_or}
use Rattle.std.specs.Prelude.{slice_get}
use Rattle.std.specs.Str.{bytes_eq}
use Rattle.std.proofs.Math.Seq.{take-append_seam}
use Rattle.std.proofs.lemmas.List.{take_all}
use Rattle.std.proofs.lemmas.List.Quantifiers.{position-Some}
use Rattle.std.proofs.lemmas.Option.{slice_get-get_or}
use Rattle.std.proofs.lemmas.Slice.Eq.{bytes_eq-Decides}
use Rattle.njh_bisync.specs.Reading.{Rest}
use Rattle.njh_bisync.specs.ByteSteps.{frames_after, rest_after}
use Rattle.njh_trace.specs.Pieces.{PieceView}
use Rattle.njh_trace.specs.Sources.{place_of, rest_of, rest_at, sources_at, sources_with, SourceView}
use Rattle.njh_trace.specs.Trace.{frames_told}

-- the source at the place of a mark
pub record IsFound (mark : List ℕ) (sources : List SourceView) (s : SourceView) : Type 0 where
  pub same : s.mark ≡ mark
  pub rest : rest_of mark sources ≡ s.rest

rest_at-some : (sources : List SourceView) (place : ℕ) (s : SourceView) → slice_get sources place ≡ Some s
    → rest_at sources (Some place) ≡ s.rest
rest_at-some [] place s at = cc at
rest_at-some (x ∷ sources) zero s at = let same : x ≡ s = cc at in ap (λ (y : SourceView). y.rest) same
rest_at-some (x ∷ sources) (suc place) s at = rest_at-some sources place s at

pub found : (mark : List ℕ) (sources : List SourceView) (place : ℕ) (d : SourceView)
    → place_of mark sources ≡ Some place
    → IsFound mark sources (get_or sources place d)
found mark sources place d is =
    let said = position-Some (λ (x : SourceView). bytes_eq x.mark mark) sources place d is in
    record {
      same = (bytes_eq-Decides (get_or sources place d).mark mark).0 said.1;
      rest =
          ap (rest_at sources) is
          ∙ rest_at-some sources place (get_or sources place d) (slice_get-get_or sources place d said.0);
    }

abbrev pub view : List ℕ → Rest → SourceView
view mark rest = record { mark = mark; rest = rest }

-- what it says of bytes
pub found-told : (mark : List ℕ) (sources : List SourceView) (s : SourceView) (hex : Bool) (bytes : List ℕ)
    → IsFound mark sources s
    → frames_told hex s.mark (frames_after s.rest bytes) ≡ frames_told hex mark
    (frames_after (rest_of mark sources) bytes)
found-told mark sources s hex bytes x =
    ap (λ (rest : Rest). frames_told hex s.mark (frames_after rest bytes)) (sym x.rest)
    ∙ ap (λ (m : List ℕ). frames_told hex m (frames_after (rest_of mark sources) bytes)) x.same

-- and what it then is
pub found-after : (piece : PieceView) (sources : List SourceView) (place : ℕ) (s : SourceView)
    → place_of piece.mark sources ≡ Some place
    → IsFound piece.mark sources s
    → set sources place (record s { rest = rest_after s.rest piece.bytes }) ≡ sources_with piece sources
unfolding sources_with
found-after piece sources place s is x =
    let after = rest_after (rest_of piece.mark sources) piece.bytes in
    ap (λ (m : List ℕ). set sources place (view m (rest_after s.rest piece.bytes))) x.same
    ∙ ap (λ (rest : Rest). set sources place (view piece.mark (rest_after rest piece.bytes))) (sym x.rest)
    ∙ sym (ap (sources_at (view piece.mark after) sources) is)

-- a source more, if there is room, and if there is none
pub taken-room : (max : ℕ) (xs : List SourceView) (x : SourceView) → length xs < max
    → xs ++ x ∷ [] ≡ take max (xs ++ x ∷ [])
taken-room max xs x room = sym (take_all max (xs ++ x ∷ []) (omega (arith, length-append xs (x ∷ []))))

pub taken-full : (max : ℕ) (xs : List SourceView) (x : SourceView) → length xs ≤ max → max ≤ length xs
    → xs ≡ take max (xs ++ x ∷ [])
taken-full max xs x within full =
    let all : length xs ≡ max = omega arith in
    sym (ap (λ (n : ℕ). take n (xs ++ x ∷ [])) (sym all) ∙ take-append_seam xs (x ∷ []))

-- on Ok alone
pub told_on : {T E : Type 0} (r : Result T E) (old new a b : List ℕ) → a ≡ b → OnOk r (new ≡ old ++ a)
    → OnOk r (new ≡ old ++ b)
told_on (Ok x) old new a b same told = told ∙ ap (λ (text : List ℕ). old ++ text) same
told_on (Err e) old new a b same told = tt

pub set_on : {T E : Type 0} (r : Result T E) (sources : List SourceView) (place : ℕ) (new a : SourceView)
    (whole : List SourceView)
    → set sources place a ≡ whole → OnOk r (new ≡ a) → OnOk r (set sources place new ≡ whole)
set_on (Ok x) sources place new a whole all is = ap (set sources place) is ∙ all
set_on (Err e) sources place new a whole all is = tt
