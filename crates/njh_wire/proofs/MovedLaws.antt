-- What two calls of a connection moved together.
use Rattle.std.proofs.Common.{◌≡◌, ℕ, ◌+◌, ◌<◌, List, [], ◌∷◌, ◌++◌, length, take, subst, sym, ◌∙◌}
use Rattle.std.specs.Prelude.{slice_set}
use Rattle.std.proofs.lemmas.List.{append-nil, take_more_set}
use Rattle.std.proofs.Math.Seq.{take-append_seam, take-append-add}

-- what moves after some bytes came and some went
abbrev pub More : {S : Type 0} → (S → S → List ℕ → List ℕ → Type 0) → Type 0
More {S = S} moved = (a b c : S) (came next_came went next_went : List ℕ) → moved a b came went →
    moved b c next_came next_went → moved a c (came ++ next_came) (went ++ next_went)

-- bytes that stood at the front, and then some of those behind
pub moved_more : {S : Type 0} (moved : S → S → List ℕ → List ℕ → Type 0) → More moved → (a b c : S)
    (old front rest : List ℕ) (count n : ℕ) → length front ≡ count → front ≡ take count old →
    moved a b (take count old) [] → moved b c (take n rest) [] → moved a c (take (count + n) (front ++ rest)) []
moved_more {S = S} moved more a b c old front rest count n many is first then =
    let Moved : List ℕ → Type 0 = λ bytes. moved a c bytes [] in
    let Front : List ℕ → Type 0 = λ bytes. moved a b bytes [] in
    let At : ℕ → Type 0 = λ k. moved a c (take (k + n) (front ++ rest)) [] in
    let whole : Moved (front ++ take n rest) =
    more a b c front (take n rest) [] [] (subst Front (sym is) first) then in
    subst At many (subst Moved (sym (take-append-add front rest n)) whole)

-- bytes that stood at the front, and then none
pub moved_none : {S : Type 0} (moved : S → S → List ℕ → List ℕ → Type 0) → More moved → (a b c : S)
    (old front rest : List ℕ) (count : ℕ) → length front ≡ count → front ≡ take count old →
    moved a b (take count old) [] → moved b c [] [] → moved a c (take count (front ++ rest)) []
moved_none {S = S} moved more a b c old front rest count many is first then =
    let Moved : List ℕ → Type 0 = λ bytes. moved a c bytes [] in
    let Front : List ℕ → Type 0 = λ bytes. moved a b bytes [] in
    let At : ℕ → Type 0 = λ k. moved a c (take k (front ++ rest)) [] in
    let whole : Moved (front ++ []) = more a b c front [] [] [] (subst Front (sym is) first) then in
    subst At many (subst Moved (append-nil front ∙ sym (take-append_seam front rest)) whole)

-- bytes that stand at the front, and then one behind them
pub moved_one : {S : Type 0} (moved : S → S → List ℕ → List ℕ → Type 0) → More moved → (a b c : S)
    (into : List ℕ) (count byte : ℕ) → count < length into → moved a b (take count into) []
    → moved b c (byte ∷ []) [] → moved a c (take (count + 1) (slice_set into count byte)) []
moved_one {S = S} moved more a b c into count byte within first then =
    let Moved : List ℕ → Type 0 = λ bytes. moved a c bytes [] in
    subst Moved (sym (take_more_set into count byte within))
    (more a b c (take count into) (byte ∷ []) [] [] first then)

-- and then none
pub moved_stop : {S : Type 0} (moved : S → S → List ℕ → List ℕ → Type 0) → More moved → (a b c : S)
    (bytes : List ℕ) → moved a b bytes [] → moved b c [] [] → moved a c bytes []
moved_stop {S = S} moved more a b c bytes first then =
    let Moved : List ℕ → Type 0 = λ came. moved a c came [] in
    subst Moved (append-nil bytes) (more a b c bytes [] [] [] first then)
